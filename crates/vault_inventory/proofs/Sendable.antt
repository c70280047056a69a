-- Sendable: each credential of an inventory can stand in the head of a message. One that is written was judged; else it is
-- the name, which the forest has judged.
use Rattle.std.proofs.Common.{◌≡◌, ℕ, ◌≤◌, Bool, true, false, cond, ◌||◌, ◌==◌, List, ◌∷◌, [], length, nat_le, nat_lt, Some, None, Option, Result, Ok, Err, IfSome, refl, sym, subst, arith, unwrap_or}
use Rattle.std.specs.{List.All, List.list_all, Int.is_in_range, Char.is_ascii_alphanumeric}
use Rattle.std.proofs.lemmas.{Bool.and_parts, Bool.Decides.nat_tests}
use Rattle.std.proofs.lemmas.List.Elements.{All-append, All-nil, All-push}
use Rattle.toml.specs.Data.{string, Data, Members, get_member}
use Rattle.plan_forest.specs.{declared.forest.TheConstants.NAME_MAX, Forest.Forest}
use Rattle.plan_forest.specs.Push.{entry_refusal, is_name, is_name_byte}
use Rattle.plan_forest.proofs.Placed.{taken_from_refusal}
use Rattle.vault_inventory.specs.{declared.fault.InvFault.InvFault, declared.fault.InvFault.TheVariants.BadValue, declared.key.Key.Key, declared.row.TableRow.TableRow, Languages.Language, Keys.key_text, Inventories.IsSendableText}
use Rattle.vault_inventory.specs.declared.key.Key.TheVariants.{Secret, LeaseId}
use Rattle.vault_inventory.specs.Values.{read_if, credential, is_credential}
use Rattle.vault_inventory.proofs.Parts.{TokenParts, LeaseParts}

-- ---- bytes

abbrev Fine : ℕ → Type 0
Fine b = (0x21 ≤ b) × (b ≤ 0x7E)

all_fine : (test : ℕ → Bool) → ((b : ℕ) → test b ≡ true → Fine b) → (bs : List ℕ) → list_all test bs ≡ true → All Fine bs
all_fine test fine [] e = All-nil Fine
all_fine test fine (b ∷ bs) e =
    let parts = and_parts (test b) (list_all test bs) e in
    All-append Fine (b ∷ []) bs (All-push Fine [] b (All-nil Fine) (fine b parts.0)) (all_fine test fine bs parts.1)

either : {P : Type 0} (a b : Bool) → a || b ≡ true → (a ≡ true → P) → (b ≡ true → P) → P
either true b e h k = h refl
either false b e h k = k e

within : (low high b : ℕ) → 0x21 ≤ low → high ≤ 0x7E → is_in_range low high b ≡ true → Fine b
within low high b l h e =
    let parts = and_parts (nat_le low b) (nat_le b high) e in
    let above : nat_le low b ≡ true = parts.0 in
    let below : nat_le b high ≡ true = parts.1 in
    let m : low ≤ b = grind (arith, nat_tests) in
    let n : b ≤ high = grind (arith, nat_tests) in
    (omega (arith, m, l), omega (arith, n, h))

visible : (b : ℕ) → is_in_range 0x21 0x7E b ≡ true → Fine b
visible b e = within 0x21 0x7E b (omega arith) (omega arith) e

credential_sendable : (bs : List ℕ) → is_credential bs ≡ true → IsSendableText bs
credential_sendable bs e =
    let one = and_parts (nat_lt 0 (length bs)) _ e in
    let two = and_parts (nat_le (length bs) 256) (list_all (is_in_range 0x21 0x7E) bs) one.1 in
    let low : nat_lt 0 (length bs) ≡ true = one.0 in
    let high : nat_le (length bs) 256 ≡ true = two.0 in
    (grind (arith, nat_tests), grind (arith, nat_tests), all_fine (is_in_range 0x21 0x7E) visible bs two.1)

is : (n b : ℕ) → 0x21 ≤ n → n ≤ 0x7E → (b == n) ≡ true → Fine b
is n b l h e = let same : b ≡ n = grind (arith, nat_tests) in (omega (arith, same, l), omega (arith, same, h))

name_byte : (b : ℕ) → is_name_byte b ≡ true → Fine b
name_byte b e =
    either (is_ascii_alphanumeric b) _ e
    (λ h. either (is_in_range 48 57 b || is_in_range 65 90 b) (is_in_range 97 122 b) h
    (λ k. either (is_in_range 48 57 b) (is_in_range 65 90 b) k
    (within 48 57 b (omega arith) (omega arith)) (within 65 90 b (omega arith) (omega arith)))
    (within 97 122 b (omega arith) (omega arith)))
    (λ h. either (b == 45) _ h (is 45 b (omega arith) (omega arith))
    (λ k. either (b == 95) _ k (is 95 b (omega arith) (omega arith))
    (λ l. either (b == 46) (b == 47) l (is 46 b (omega arith) (omega arith)) (is 47 b (omega arith) (omega arith)))))

name_sendable : (bs : List ℕ) → is_name bs ≡ true → IsSendableText bs
unfolding is_name
name_sendable bs e =
    let one = and_parts (nat_lt 0 (length bs)) _ e in
    let two = and_parts (nat_le (length bs) NAME_MAX) (list_all is_name_byte bs) one.1 in
    let low : nat_lt 0 (length bs) ≡ true = one.0 in
    let high : nat_le (length bs) 64 ≡ true = two.0 in
    (grind (arith, nat_tests), (let h : length bs ≤ 64 = grind (arith, nat_tests) in omega (arith, h)), all_fine is_name_byte name_byte bs two.1)

-- ---- the credential of a row

judged : (d : Data) → IfSome (credential d) IsSendableText
judged (string s) = judged_text s (is_credential s) (credential_sendable s)
  where
    judged_text : (s : List ℕ) (b : Bool) → (b ≡ true → IsSendableText s) → IfSome (cond b (Some s) None) IsSendableText
    judged_text s true h = h refl
    judged_text s false h = tt
judged _ = tt

abbrev taken : Option (List ℕ) → Option ℕ → Key → Result (Option (List ℕ)) InvFault
taken o place key = elim o [ Some x ↦ Ok (Some x) | None ↦ Err (BadValue place key) ]

found_sendable : (o : Option (List ℕ)) (place : Option ℕ) (key : Key) (written : Option (List ℕ)) → IfSome o IsSendableText → taken o place key ≡ Ok written → IfSome written IsSendableText
found_sendable None place key written h e = absurd cc
found_sendable (Some x) place key written h e = let same : Some x ≡ written = cc in subst (λ o. IfSome o IsSendableText) same h

read_sendable : (o : Option Data) (place : Option ℕ) (key : Key) (written : Option (List ℕ)) → read_if credential place key o ≡ Ok written → IfSome written IsSendableText
read_sendable None place key written e = let same : None ≡ written = cc in subst (λ o. IfSome o IsSendableText) same tt
read_sendable (Some d) place key written e = found_sendable (credential d) place key written (judged d) e

either_sendable : (written : Option (List ℕ)) (name : List ℕ) → IfSome written IsSendableText → IsSendableText name → IsSendableText (unwrap_or written name)
either_sendable None name h k = k
either_sendable (Some x) name h k = h

pub token_sendable : (l : Language) (system_max : ℕ) (g : Forest) (ms : Members) (row : TableRow) → TokenParts l system_max g ms row → entry_refusal g row.entry ≡ None → IsSendableText row.credential
token_sendable l system_max g ms row parts fits =
    let name : is_name row.entry.name ≡ true = (taken_from_refusal g row.entry fits).named in
    subst (λ (r : TableRow). IsSendableText r.credential) parts.made
    (either_sendable parts.secret parts.name (read_sendable (get_member (key_text Secret) ms) (Some (length g.entries)) Secret parts.secret parts.secret_read)
    (name_sendable parts.name (subst (λ (r : TableRow). is_name r.entry.name ≡ true) (sym parts.made) name)))

pub lease_sendable : (l : Language) (system_max : ℕ) (g : Forest) (ms : Members) (row : TableRow) → LeaseParts l system_max g ms row → entry_refusal g row.entry ≡ None → IsSendableText row.credential
lease_sendable l system_max g ms row parts fits =
    let name : is_name row.entry.name ≡ true = (taken_from_refusal g row.entry fits).named in
    subst (λ (r : TableRow). IsSendableText r.credential) parts.made
    (either_sendable parts.lease_id parts.name (read_sendable (get_member (key_text LeaseId) ms) (Some (length g.entries)) LeaseId parts.lease_id parts.lease_id_read)
    (name_sendable parts.name (subst (λ (r : TableRow). is_name r.entry.name ≡ true) (sym parts.made) name)))
