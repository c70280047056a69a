-- Taken: what an inventory is once it has taken the row of one table more.
use Rattle.std.proofs.Common.{◌≡◌, ℕ, Bool, true, false, cond, List, ◌∷◌, [], ◌++◌, length, Some, None, Option, Result, Ok, Err, refl, ap, ◌∙◌, subst}
use Rattle.plan_forest.specs.{declared.entry.Entry.Entry, declared.fault.TreeFault.TreeFault, Forest.Forest, Push.entry_refusal}
use Rattle.toml.specs.Data.{table, Items, no_items, item, Members}
use Rattle.vault_inventory.specs.{declared.fault.InvFault.InvFault, declared.fault.InvFault.TheVariants.BadValue, declared.key.Key.Key, declared.row.TableRow.TableRow, Languages.Language, Rows.token_row, Rows.lease_row}
use Rattle.vault_inventory.specs.declared.key.Key.TheVariants.{Secret, SecretFile, LeaseId, LeaseIdFile}
use Rattle.vault_inventory.specs.Intake.{Intake, appended, pushed, has_text, distinct, key_written, with_token, with_lease}
use Rattle.vault_inventory.specs.Inventory.{token_entered, lease_entered, entered_by}
use Rattle.vault_inventory.proofs.Chains.{bind_ok}

-- a forest with one entry more
abbrev pub grown : Forest → Entry → Forest
grown g e = record { entries = g.entries ++ e ∷ []; margin = g.margin }

-- with the row of one token more
abbrev pub took_token : Intake → TableRow → Intake
took_token s row = record { forest = grown s.forest row.entry; secrets = s.secrets ++ row.credential ∷ []; lease_ids = s.lease_ids; terms = s.terms ++ row.terms ∷ []; notes = s.notes ++ row.note ∷ [] }

-- with the row of one lease more
abbrev pub took_lease : Intake → TableRow → Intake
took_lease s row = record { forest = grown s.forest row.entry; secrets = s.secrets; lease_ids = s.lease_ids ++ row.credential ∷ []; terms = s.terms ++ row.terms ∷ []; notes = s.notes ++ row.note ∷ [] }

-- the forest takes the entry of a row, and none of these texts is its credential
pub record Fits (g : Forest) (texts : List (List ℕ)) (row : TableRow) : Type 0 where
  pub entry : entry_refusal g row.entry ≡ None
  pub fresh : has_text texts row.credential ≡ false

appended_ok : (g h : Forest) (e : Entry) (o : Option TreeFault) → appended g e o ≡ Ok h → (o ≡ None) × (grown g e ≡ h)
appended_ok g h e (Some fault) k = absurd (cc)
appended_ok g h e None k = (refl, cc)

pushed_ok : (g h : Forest) (e : Entry) → pushed g e ≡ Ok h → (entry_refusal g e ≡ None) × (grown g e ≡ h)
unfolding pushed
pushed_ok g h e k = appended_ok g h e (entry_refusal g e) k

cond_ok : (b : Bool) (f : InvFault) (xs ys : List (List ℕ)) → cond b (Err f) (Ok xs) ≡ Ok ys → (b ≡ false) × (xs ≡ ys)
cond_ok true f xs ys e = absurd (cc)
cond_ok false f xs ys e = (refl, cc)

distinct_ok : (key : Key) (index : ℕ) (texts news : List (List ℕ)) (text : List ℕ) → distinct key index texts text ≡ Ok news → (has_text texts text ≡ false) × (texts ++ text ∷ [] ≡ news)
unfolding distinct
distinct_ok key index texts news text e = cond_ok (has_text texts text) (BadValue (Some index) key) (texts ++ text ∷ []) news e

pub token_taken : (s t : Intake) (row : TableRow) → with_token s row ≡ Ok t → Fits s.forest s.secrets row × (took_token s row ≡ t)
unfolding with_token
token_taken s t row e =
    bind_ok (pushed s.forest row.entry) _ t e (λ g p e1.
    bind_ok (distinct (key_written Secret SecretFile row.note.file) (length s.forest.entries) s.secrets row.credential) _ t e1 (λ secrets d e2.
    let grows = pushed_ok s.forest g row.entry p in
    let adds = distinct_ok (key_written Secret SecretFile row.note.file) (length s.forest.entries) s.secrets secrets row.credential d in
    let made : record { forest = g; secrets = secrets; lease_ids = s.lease_ids; terms = s.terms ++ row.terms ∷ []; notes = s.notes ++ row.note ∷ [] } ≡ t = cc in
    let one : took_token s row ≡ record { forest = g; secrets = s.secrets ++ row.credential ∷ []; lease_ids = s.lease_ids; terms = s.terms ++ row.terms ∷ []; notes = s.notes ++ row.note ∷ [] } =
    ap (λ (h : Forest). record { forest = h; secrets = s.secrets ++ row.credential ∷ []; lease_ids = s.lease_ids; terms = s.terms ++ row.terms ∷ []; notes = s.notes ++ row.note ∷ [] }) grows.1 in
    let two : record { forest = g; secrets = s.secrets ++ row.credential ∷ []; lease_ids = s.lease_ids; terms = s.terms ++ row.terms ∷ []; notes = s.notes ++ row.note ∷ [] } ≡ record { forest = g; secrets = secrets; lease_ids = s.lease_ids; terms = s.terms ++ row.terms ∷ []; notes = s.notes ++ row.note ∷ [] } =
    ap (λ (xs : List (List ℕ)). record { forest = g; secrets = xs; lease_ids = s.lease_ids; terms = s.terms ++ row.terms ∷ []; notes = s.notes ++ row.note ∷ [] }) adds.1 in
    (record { entry = grows.0; fresh = adds.0 }, one ∙ two ∙ made)))

pub lease_taken : (s t : Intake) (row : TableRow) → with_lease s row ≡ Ok t → Fits s.forest s.lease_ids row × (took_lease s row ≡ t)
unfolding with_lease
lease_taken s t row e =
    bind_ok (pushed s.forest row.entry) _ t e (λ g p e1.
    bind_ok (distinct (key_written LeaseId LeaseIdFile row.note.file) (length s.forest.entries) s.lease_ids row.credential) _ t e1 (λ lease_ids d e2.
    let grows = pushed_ok s.forest g row.entry p in
    let adds = distinct_ok (key_written LeaseId LeaseIdFile row.note.file) (length s.forest.entries) s.lease_ids lease_ids row.credential d in
    let made : record { forest = g; secrets = s.secrets; lease_ids = lease_ids; terms = s.terms ++ row.terms ∷ []; notes = s.notes ++ row.note ∷ [] } ≡ t = cc in
    let one : took_lease s row ≡ record { forest = g; secrets = s.secrets; lease_ids = s.lease_ids ++ row.credential ∷ []; terms = s.terms ++ row.terms ∷ []; notes = s.notes ++ row.note ∷ [] } =
    ap (λ (h : Forest). record { forest = h; secrets = s.secrets; lease_ids = s.lease_ids ++ row.credential ∷ []; terms = s.terms ++ row.terms ∷ []; notes = s.notes ++ row.note ∷ [] }) grows.1 in
    let two : record { forest = g; secrets = s.secrets; lease_ids = s.lease_ids ++ row.credential ∷ []; terms = s.terms ++ row.terms ∷ []; notes = s.notes ++ row.note ∷ [] } ≡ record { forest = g; secrets = s.secrets; lease_ids = lease_ids; terms = s.terms ++ row.terms ∷ []; notes = s.notes ++ row.note ∷ [] } =
    ap (λ (xs : List (List ℕ)). record { forest = g; secrets = s.secrets; lease_ids = xs; terms = s.terms ++ row.terms ∷ []; notes = s.notes ++ row.note ∷ [] }) adds.1 in
    (record { entry = grows.0; fresh = adds.0 }, one ∙ two ∙ made)))

-- ---- the tables of one kind, one after another

-- a step keeps what holds of an inventory
abbrev pub KeepsIt : (Intake → Type 0) → (Intake → Members → Result Intake InvFault) → Type 0
KeepsIt P step = (s t : Intake) (ms : Members) → P s → step s ms ≡ Ok t → P t

pub all_keep : (P : Intake → Type 0) (step : Intake → Members → Result Intake InvFault) → KeepsIt P step → (key : Key) (s t : Intake) (ds : Items) → P s → entered_by step key s ds ≡ Ok t → P t
all_keep P step keeps key s t no_items m e = let same : s ≡ t = cc in subst P same m
all_keep P step keeps key s t (item (table ms) ds) m e =
    bind_ok (step s ms) _ t e (λ u r e1. all_keep P step keeps key u t ds (keeps s u ms m r) e1)
all_keep P step keeps key s t (item _ ds) m e = absurd (cc)

-- an entered token is that of its row
pub token_entered_ok : (l : Language) (system_max : ℕ) (s t : Intake) (ms : Members) → token_entered l system_max s ms ≡ Ok t → (row : TableRow) × (token_row l system_max s.forest ms ≡ Ok row) × Fits s.forest s.secrets row × (took_token s row ≡ t)
unfolding token_entered
token_entered_ok l system_max s t ms e = bind_ok (token_row l system_max s.forest ms) _ t e (λ row r e1. let taken = token_taken s t row e1 in (row, r, taken.0, taken.1))

-- and an entered lease
pub lease_entered_ok : (l : Language) (system_max : ℕ) (s t : Intake) (ms : Members) → lease_entered l system_max s ms ≡ Ok t → (row : TableRow) × (lease_row l system_max s.forest ms ≡ Ok row) × Fits s.forest s.lease_ids row × (took_lease s row ≡ t)
unfolding lease_entered
lease_entered_ok l system_max s t ms e = bind_ok (lease_row l system_max s.forest ms) _ t e (λ row r e1. let taken = lease_taken s t row e1 in (row, r, taken.0, taken.1))
