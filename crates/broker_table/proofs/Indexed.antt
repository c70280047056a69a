-- An index finds what a walk over the slots finds: when a slot more is entered, in the look-ups, and after a change that
-- leaves each slot its kind and its credential.
use Rattle.std.proofs.Common.{◌≡◌, ℕ, ◌+◌, ◌<◌, Bool, true, false, cond, not, ◌&&◌, List, ◌∷◌, [], Option, Some, None, Result, Ok, Err, OnOk, IfSome, Vec, Global, length, get_or, map, option_map, bytes_eq, refl, sym, ap, ◌∙◌, subst, arith, ⊎_elim}
use Rattle.std.proofs.lemmas.List.{get_or-map, length-map}
use Rattle.std.proofs.lemmas.Bool.{cases_lt, cond-true, cond-false, false_from_ne_true}
use Rattle.std.proofs.Math.Seq.{map-set_same}
use Rattle.std.specs.{BTreeMap.BTreeMap, BTreeMap.IsEmpty, Cmp.Lexicographic.slice_cmp, Cmp.Lexicographic.bytes_decides, List.find, Map.lookup, Ordering.nat_cmp, Ordering.is_eq}
use Rattle.plan_forest.specs.{declared.entry.Kind.Kind, Push.is_lease}
use Rattle.plan_forest.specs.declared.entry.Kind.TheVariants.{Token, Lease}
use Rattle.broker_rule.specs.{declared.row.BrokerRow.BrokerRow, Subject.is_lease_with, Subject.is_token_with, Sweep.lives}
use Rattle.broker_table.specs.{declared.slot.Slot.Slot, declared.index.Index.Index}
use Rattle.broker_table.specs.Index.{AreUnlike, EntersRow, FindsSlots, IsFresh, IsIndexOf, IsIndexOfNone, IsIndexed, credentials_of, if_listed, place_in}
use Rattle.broker_table.specs.Slots.{listed_rows, no_slot, relisted, slot_at, swept_slots}
use Rattle.broker_table.proofs.{Listed.found_listed, Listed.none_listed, Replaced.ended}

-- ---- a credential more in the map

none_in : (m : BTreeMap (Vec ℕ Global) ℕ) → IsEmpty m → (q : List ℕ) → place_in m q ≡ None
none_in m empty q = ap (lookup (λ k. is_eq (slice_cmp nat_cmp q k.items))) empty

-- ---- a slot more in the index

some_more : (b : Bool) (n : ℕ) (o : Option ℕ) (P Q : ℕ → Type 0) → (b ≡ true → Q n) → ((i : ℕ) → P i → Q i) → IfSome o P → IfSome (cond b (Some n) o) Q
some_more true n o P Q here more old = here refl
some_more false n None P Q here more old = tt
some_more false n (Some i) P Q here more old = more i old

last_or_before : (n i : ℕ) (P : Type 0) → i < n + 1 → (i ≡ n → P) → (i < n → P) → P
last_or_before n i P h last before = ⊎_elim (λ below. before below) (λ above. last (omega (arith, above, h))) (cases_lt i n)

found_more :
    (has : List ℕ → BrokerRow → Bool) (slots : List Slot) (n : ℕ) (m new : BTreeMap (Vec ℕ Global) ℕ) (credential : List ℕ) →
    ((q : List ℕ) → has q (slot_at slots n).row ≡ bytes_eq credential q) → place_in m credential ≡ None →
    ((q : List ℕ) → place_in new q ≡ cond (bytes_eq credential q) (Some n) (place_in m q)) → FindsSlots m has slots n →
    (q : List ℕ) (i : ℕ) → i < n + 1 → has q (slot_at slots i).row ≡ true → place_in new q ≡ Some i
found_more has slots n m new credential is none entered finds q i h pass =
    last_or_before n i (place_in new q ≡ Some i) h
    (λ here.
    let same : bytes_eq credential q ≡ true = sym (is q) ∙ subst (λ k. has q (slot_at slots k).row ≡ true) here pass in
    entered q ∙ cond-true (bytes_eq credential q) (Some n) (place_in m q) same ∙ ap Some (sym here))
    (λ before.
    let old : place_in m q ≡ Some i = finds.found q i before pass in
    let other : bytes_eq credential q ≡ false =
    false_from_ne_true (bytes_eq credential q) (λ same. absurd (let both : None ≡ Some i = sym none ∙ ap (place_in m) ((bytes_decides credential q).0 same) ∙ old in cc)) in
    entered q ∙ cond-false (bytes_eq credential q) (Some n) (place_in m q) other ∙ old)

-- a slot of the kind, with a credential that none before it has
finds_more :
    (has : List ℕ → BrokerRow → Bool) (slots : List Slot) (n : ℕ) (m new : BTreeMap (Vec ℕ Global) ℕ) (credential : List ℕ) →
    ((q : List ℕ) → has q (slot_at slots n).row ≡ bytes_eq credential q) → place_in m credential ≡ None →
    ((q : List ℕ) → place_in new q ≡ cond (bytes_eq credential q) (Some n) (place_in m q)) → FindsSlots m has slots n → FindsSlots new has slots (n + 1)
finds_more has slots n m new credential is none entered finds = record {
  found = found_more has slots n m new credential is none entered finds;
  within = λ q.
      subst (λ o. IfSome o (λ i. (i < n + 1) × (has q (slot_at slots i).row ≡ true))) (sym (entered q))
      (some_more (bytes_eq credential q) n (place_in m q) (λ i. (i < n) × (has q (slot_at slots i).row ≡ true)) (λ i. (i < n + 1) × (has q (slot_at slots i).row ≡ true))
      (λ same. (omega arith, is q ∙ same))
      (λ i w. let below : i < n = w.0 in (omega (arith, below), w.1))
      (finds.within q));
}

-- a slot of the other kind
finds_past : (has : List ℕ → BrokerRow → Bool) (slots : List Slot) (n : ℕ) (m : BTreeMap (Vec ℕ Global) ℕ) → ((q : List ℕ) → has q (slot_at slots n).row ≡ false) → FindsSlots m has slots n → FindsSlots m has slots (n + 1)
finds_past has slots n m fails finds = record {
  found = λ q i h pass.
      last_or_before n i (place_in m q ≡ Some i) h
      (λ here. absurd (let both : false ≡ true = sym (fails q) ∙ subst (λ k. has q (slot_at slots k).row ≡ true) here pass in cc))
      (λ before. finds.found q i before pass);
  within = λ q.
      some_more false n (place_in m q) (λ i. (i < n) × (has q (slot_at slots i).row ≡ true)) (λ i. (i < n + 1) × (has q (slot_at slots i).row ≡ true))
      (λ e. absurd cc)
      (λ i w. let below : i < n = w.0 in (omega (arith, below), w.1))
      (finds.within q);
}

token_by : (r : BrokerRow) (q : List ℕ) → r.kind ≡ Token → is_token_with q r ≡ bytes_eq r.credential q
unfolding is_token_with
token_by r q kind = ap (λ k. not (is_lease k) && bytes_eq r.credential q) kind

no_token : (r : BrokerRow) (q : List ℕ) → r.kind ≡ Lease → is_token_with q r ≡ false
unfolding is_token_with
no_token r q kind = ap (λ k. not (is_lease k) && bytes_eq r.credential q) kind

lease_by : (r : BrokerRow) (q : List ℕ) → r.kind ≡ Lease → is_lease_with q r ≡ bytes_eq r.credential q
unfolding is_lease_with
lease_by r q kind = ap (λ k. is_lease k && bytes_eq r.credential q) kind

no_lease : (r : BrokerRow) (q : List ℕ) → r.kind ≡ Token → is_lease_with q r ≡ false
unfolding is_lease_with
no_lease r q kind = ap (λ k. is_lease k && bytes_eq r.credential q) kind

token_passes : (k : Kind) (b : Bool) → (not (is_lease k) && b) ≡ true → (k ≡ Token) × (b ≡ true)
token_passes Token b e = (refl, e)
token_passes Lease b e = absurd cc

lease_passes : (k : Kind) (b : Bool) → (is_lease k && b) ≡ true → (k ≡ Lease) × (b ≡ true)
lease_passes Token b e = absurd cc
lease_passes Lease b e = (refl, e)

token_like : (r : BrokerRow) (q : List ℕ) → is_token_with q r ≡ true → (r.kind ≡ Token) × (r.credential ≡ q)
unfolding is_token_with
token_like r q e = let passed = token_passes r.kind (bytes_eq r.credential q) e in (passed.0, (bytes_decides r.credential q).0 passed.1)

lease_like : (r : BrokerRow) (q : List ℕ) → is_lease_with q r ≡ true → (r.kind ≡ Lease) × (r.credential ≡ q)
unfolding is_lease_with
lease_like r q e = let passed = lease_passes r.kind (bytes_eq r.credential q) e in (passed.0, (bytes_decides r.credential q).0 passed.1)

-- the map has no place for the credential of a row of which none before it has the kind and the credential
none_before :
    (has : List ℕ → BrokerRow → Bool) (kind : Kind) (slots : List Slot) (n : ℕ) (m : BTreeMap (Vec ℕ Global) ℕ) (r : BrokerRow) (credential : List ℕ) (o : Option ℕ) →
    ((row : BrokerRow) → has credential row ≡ true → (row.kind ≡ kind) × (row.credential ≡ credential)) → r.kind ≡ kind → credential ≡ r.credential →
    o ≡ place_in m credential → IsFresh r slots n → FindsSlots m has slots n → o ≡ None
none_before has kind slots n m r credential None like of is e fresh finds = refl
none_before has kind slots n m r credential (Some i) like of is e fresh finds =
    let there : (i < n) × (has credential (slot_at slots i).row ≡ true) = subst (λ o. IfSome o (λ i. (i < n) × (has credential (slot_at slots i).row ≡ true))) (sym e) (finds.within credential) in
    let same : ((slot_at slots i).row.kind ≡ kind) × ((slot_at slots i).row.credential ≡ credential) = like (slot_at slots i).row there.1 in
    absurd (fresh i there.0 (same.0 ∙ sym of) (same.1 ∙ is))

pub token_enters :
    {E : Type 0} (answer : Result (Unit {0}) E) (x : Index) (new : BTreeMap (Vec ℕ Global) ℕ) (r : BrokerRow) (n : ℕ) (credential : List ℕ) → r.kind ≡ Token → credential ≡ r.credential →
    OnOk answer ((q : List ℕ) → place_in new q ≡ cond (bytes_eq credential q) (Some n) (place_in x.tokens q)) →
    OnOk answer (EntersRow x (record x { tokens = new }) r n)
token_enters (Err e) x new r n credential kind is entered = tt
token_enters (Ok u) x new r n credential kind is entered = λ slots there fresh old. record {
  tokens = finds_more is_token_with slots n x.tokens new credential (λ q. ap (is_token_with q) there ∙ token_by r q kind ∙ ap (λ bs. bytes_eq bs q) (sym is))
      (none_before is_token_with Token slots n x.tokens r credential (place_in x.tokens credential) (λ row. token_like row credential) kind is refl fresh old.tokens) entered old.tokens;
  leases = finds_past is_lease_with slots n x.leases (λ q. ap (is_lease_with q) there ∙ no_lease r q kind) old.leases;
}

pub lease_enters :
    {E : Type 0} (answer : Result (Unit {0}) E) (x : Index) (new : BTreeMap (Vec ℕ Global) ℕ) (r : BrokerRow) (n : ℕ) (credential : List ℕ) → r.kind ≡ Lease → credential ≡ r.credential →
    OnOk answer ((q : List ℕ) → place_in new q ≡ cond (bytes_eq credential q) (Some n) (place_in x.leases q)) →
    OnOk answer (EntersRow x (record x { leases = new }) r n)
lease_enters (Err e) x new r n credential kind is entered = tt
lease_enters (Ok u) x new r n credential kind is entered = λ slots there fresh old. record {
  tokens = finds_past is_token_with slots n x.tokens (λ q. ap (is_token_with q) there ∙ no_token r q kind) old.tokens;
  leases = finds_more is_lease_with slots n x.leases new credential (λ q. ap (is_lease_with q) there ∙ lease_by r q kind ∙ ap (λ bs. bytes_eq bs q) (sym is))
      (none_before is_lease_with Lease slots n x.leases r credential (place_in x.leases credential) (λ row. lease_like row credential) kind is refl fresh old.leases) entered old.leases;
}

-- the next of slots that are unlike is fresh
pub fresh_next : (slots : List Slot) (n : ℕ) → AreUnlike slots → n < length slots → IsFresh (slot_at slots n).row slots n
fresh_next slots n unlike h = λ i below kind same.
    let here : i ≡ n = unlike i n (omega (arith, below, h)) h kind same in
    omega (arith, here, below)

finds_none : (has : List ℕ → BrokerRow → Bool) (slots : List Slot) (m : BTreeMap (Vec ℕ Global) ℕ) → IsEmpty m → FindsSlots m has slots 0
finds_none has slots m empty = record {
  found = λ q i h pass. absurd (omega (arith, h));
  within = λ q. subst (λ o. IfSome o (λ i. (i < 0) × (has q (slot_at slots i).row ≡ true))) (sym (none_in m empty q)) tt;
}

pub index_of_none : (x : Index) → IsEmpty x.tokens → IsEmpty x.leases → IsIndexOfNone x
index_of_none x tokens leases = λ slots. record { tokens = finds_none is_token_with slots x.tokens tokens; leases = finds_none is_lease_with slots x.leases leases }

-- ---- the look-ups

pub place_is_within : (has : List ℕ → BrokerRow → Bool) (slots : List Slot) (m : BTreeMap (Vec ℕ Global) ℕ) (q : List ℕ) (o : Option ℕ) → o ≡ place_in m q → FindsSlots m has slots (length slots) → IfSome o (λ p. p < length slots)
place_is_within has slots m q None e finds = tt
place_is_within has slots m q (Some p) e finds =
    (subst (λ o. IfSome o (λ i. (i < length slots) × (has q (slot_at slots i).row ≡ true))) (sym e) (finds.within q)).0

row_if : (slots : List Slot) (p : ℕ) (b : Bool) → option_map (λ i. (slot_at slots i).row) (cond b (Some p) None) ≡ cond b (Some (slot_at slots p).row) None
row_if slots p true = refl
row_if slots p false = refl

-- the slot in the place has the row that the look-up among the listed rows finds
pub row_by_index :
    (has : List ℕ → BrokerRow → Bool) (slots : List Slot) (m : BTreeMap (Vec ℕ Global) ℕ) (q : List ℕ) (o : Option ℕ) → o ≡ place_in m q → FindsSlots m has slots (length slots) →
    option_map (λ i. (slot_at slots i).row) (if_listed slots o) ≡ find (λ r. has q r) (listed_rows slots)
row_by_index has slots m q None e finds =
    sym (none_listed (λ r. has q r) slots (λ i h. false_from_ne_true (has q (slot_at slots i).row) (λ pass. absurd (let both : None ≡ Some i = e ∙ finds.found q i h pass in cc))))
row_by_index has slots m q (Some p) e finds =
    let there : (p < length slots) × (has q (slot_at slots p).row ≡ true) = subst (λ o. IfSome o (λ i. (i < length slots) × (has q (slot_at slots i).row ≡ true))) (sym e) (finds.within q) in
    row_if slots p (slot_at slots p).listed
    ∙ sym (found_listed (λ r. has q r) slots p there.0 there.1 (λ i h pass. let both : Some p ≡ Some i = e ∙ finds.found q i h pass in cc))

listed_if : (slots : List Slot) (p : ℕ) (b : Bool) → b ≡ (slot_at slots p).listed → p < length slots → IfSome (cond b (Some p) None) (λ i. (i < length slots) × ((slot_at slots i).listed ≡ true))
listed_if slots p true e h = (h, sym e)
listed_if slots p false e h = tt

pub listed_by_index : (slots : List Slot) (o : Option ℕ) → IfSome o (λ p. p < length slots) → IfSome (if_listed slots o) (λ i. (i < length slots) × ((slot_at slots i).listed ≡ true))
listed_by_index slots None h = tt
listed_by_index slots (Some p) h = listed_if slots p (slot_at slots p).listed refl h

-- ---- after a change

finds_like :
    (has : List ℕ → BrokerRow → Bool) (slots now : List Slot) (n : ℕ) (m : BTreeMap (Vec ℕ Global) ℕ) →
    ((i : ℕ) → i < n → (q : List ℕ) → has q (slot_at now i).row ≡ has q (slot_at slots i).row) → FindsSlots m has slots n → FindsSlots m has now n
finds_like has slots now n m like finds = record {
  found = λ q i h pass. finds.found q i h (sym (like i h q) ∙ pass);
  within = λ q.
      some_more false n (place_in m q) (λ i. (i < n) × (has q (slot_at slots i).row ≡ true)) (λ i. (i < n) × (has q (slot_at now i).row ≡ true))
      (λ e. absurd cc)
      (λ i w. (w.0, like i w.0 q ∙ w.1))
      (finds.within q);
}

abbrev pair : BrokerRow → Kind × List ℕ
pair r = (r.kind, r.credential)

like_token : (a b : BrokerRow) (q : List ℕ) → pair a ≡ pair b → is_token_with q a ≡ is_token_with q b
unfolding is_token_with
like_token a b q e = ap (λ (p : Kind × List ℕ). not (is_lease p.0) && bytes_eq p.1 q) e

like_lease : (a b : BrokerRow) (q : List ℕ) → pair a ≡ pair b → is_lease_with q a ≡ is_lease_with q b
unfolding is_lease_with
like_lease a b q e = ap (λ (p : Kind × List ℕ). is_lease p.0 && bytes_eq p.1 q) e

pub same_length : (slots now : List Slot) → credentials_of now ≡ credentials_of slots → length now ≡ length slots
unfolding credentials_of
same_length slots now e = sym (length-map now (λ (s : Slot). pair s.row)) ∙ ap length e ∙ length-map slots (λ (s : Slot). pair s.row)

same_pair : (slots now : List Slot) → credentials_of now ≡ credentials_of slots → (i : ℕ) → i < length slots → pair (slot_at now i).row ≡ pair (slot_at slots i).row
unfolding credentials_of slot_at
same_pair slots now e i h =
    let count = same_length slots now e in
    let none : Kind × List ℕ = pair no_slot.row in
    sym (get_or-map (λ (s : Slot). pair s.row) now i no_slot none (omega arith))
    ∙ ap (λ us. get_or us i none) e
    ∙ get_or-map (λ (s : Slot). pair s.row) slots i no_slot none h

pub indexed_like : (x : Index) (slots now : List Slot) → credentials_of now ≡ credentials_of slots → IsIndexed x slots → IsIndexed x now
indexed_like x slots now e is =
    let like = same_pair slots now e in
    subst (λ n. IsIndexOf x now n) (sym (same_length slots now e)) (record {
      tokens = finds_like is_token_with slots now (length slots) x.tokens (λ i h q. like_token (slot_at now i).row (slot_at slots i).row q (like i h)) is.tokens;
      leases = finds_like is_lease_with slots now (length slots) x.leases (λ i h q. like_lease (slot_at now i).row (slot_at slots i).row q (like i h)) is.leases;
    })

relisted_credentials : (test : BrokerRow → Bool) (slots : List Slot) → credentials_of (map (relisted test) slots) ≡ credentials_of slots
unfolding credentials_of relisted
relisted_credentials test [] = refl
relisted_credentials test (s ∷ slots) = ap (λ us. pair s.row ∷ us) (relisted_credentials test slots)

pub swept_credentials : (t : ℕ) (slots : List Slot) → credentials_of (swept_slots t slots) ≡ credentials_of slots
unfolding swept_slots
swept_credentials t slots = relisted_credentials (lives (listed_rows slots) t) slots

pub ended_credentials : (slots : List Slot) (p end : ℕ) → credentials_of (ended slots p end) ≡ credentials_of slots
unfolding credentials_of slot_at
ended_credentials slots p end = map-set_same (λ (s : Slot). pair s.row) slots p (record (slot_at slots p) { row = record (slot_at slots p).row { end = end } }) no_slot refl
