-- Grown: an inventory that took the tables of a document one after another is what they write: what holds of an entry when its table is
-- taken holds of it after all later ones.
use Rattle.std.proofs.Common.{◌≡◌, ℕ, false, zero, suc, ◌+◌, ◌<◌, ◌≤◌, List, [], ◌∷◌, ◌++◌, Some, None, Option, Result, Ok, length, refl, sym, ap, ◌∙◌, subst, arith}
use Rattle.std.proofs.lemmas.List.{length_push}
use Rattle.toml.specs.Data.{table, Items, no_items, item, Members, get_item}
use Rattle.plan_forest.specs.{declared.entry.Entry.Entry, Forest.entry_at}
use Rattle.plan_forest.proofs.Entries.{entry_at_push_new, entry_at_push_old}
use Rattle.vault_inventory.specs.{declared.fault.InvFault.InvFault, declared.key.Key.Key, declared.note.EntryNote.EntryNote, declared.row.TableRow.TableRow, declared.terms.Terms.Terms, Inventories.credential_at, Inventories.terms_at}
use Rattle.vault_inventory.specs.{Served.Served, Served.note_at, Intake.Intake, Intake.inventory_of_intake, Inventory.entered_by}
use Rattle.vault_inventory.specs.Written.{IsLease, IsParent, IsToken, ParentIsNamed, count_of}
use Rattle.vault_inventory.proofs.{Chains.bind_ok, Taken.KeepsIt}
use Rattle.vault_inventory.proofs.Inventories.{credential_new, credential_old, note_new, note_old, terms_new, terms_old}

-- what is served by the tables that were taken, whether or not a margin is written
abbrev pub read_so_far : Intake → Served
read_so_far s = record { inventory = inventory_of_intake s; notes = s.notes; has_margin = false; system_max = None }

-- ---- more entries, and the others as they were

pub record Grown (s t : Served) : Type 0 where
  pub count : length s.inventory.forest.entries ≤ length t.inventory.forest.entries
  pub entry : (i : ℕ) → i < length s.inventory.forest.entries → entry_at t.inventory.forest.entries i ≡ entry_at s.inventory.forest.entries i
  pub credential : (i : ℕ) → i < length s.inventory.forest.entries → credential_at t.inventory.credentials i ≡ credential_at s.inventory.credentials i
  pub terms : (i : ℕ) → i < length s.inventory.forest.entries → terms_at t.inventory.terms i ≡ terms_at s.inventory.terms i
  pub note : (i : ℕ) → i < length s.inventory.forest.entries → note_at t.notes i ≡ note_at s.notes i
  pub margin : t.inventory.forest.margin ≡ s.inventory.forest.margin

grown_not : (s : Served) → Grown s s
grown_not s = record { count = omega arith; entry = λ i h. refl; credential = λ i h. refl; terms = λ i h. refl; note = λ i h. refl; margin = refl }

pub grown_again : (s t u : Served) → Grown s t → Grown t u → Grown s u
grown_again s t u a b = record {
  count = let x = a.count in let y = b.count in omega arith;
  entry = λ i h. b.entry i (let x = a.count in omega arith) ∙ a.entry i h;
  credential = λ i h. b.credential i (let x = a.count in omega arith) ∙ a.credential i h;
  terms = λ i h. b.terms i (let x = a.count in omega arith) ∙ a.terms i h;
  note = λ i h. b.note i (let x = a.count in omega arith) ∙ a.note i h;
  margin = b.margin ∙ a.margin;
}

-- an inventory with the row of one table more
pub record Pushed (s t : Served) (row : TableRow) : Type 0 where
  pub entries : t.inventory.forest.entries ≡ s.inventory.forest.entries ++ row.entry ∷ []
  pub margin : t.inventory.forest.margin ≡ s.inventory.forest.margin
  pub credentials : t.inventory.credentials ≡ s.inventory.credentials ++ row.credential ∷ []
  pub terms : t.inventory.terms ≡ s.inventory.terms ++ row.terms ∷ []
  pub notes : t.notes ≡ s.notes ++ row.note ∷ []
  pub credited : length s.inventory.credentials ≡ length s.inventory.forest.entries
  pub termed : length s.inventory.terms ≡ length s.inventory.forest.entries
  pub noted : length s.notes ≡ length s.inventory.forest.entries

pub pushed_count : (s t : Served) (row : TableRow) → Pushed s t row → length t.inventory.forest.entries ≡ length s.inventory.forest.entries + 1
pushed_count s t row p = ap length p.entries ∙ length_push s.inventory.forest.entries row.entry

pub pushed_grown : (s t : Served) (row : TableRow) → Pushed s t row → Grown s t
pushed_grown s t row p = record {
  count = let n = pushed_count s t row p in omega arith;
  entry = λ i h. ap (λ es. entry_at es i) p.entries ∙ entry_at_push_old s.inventory.forest.entries row.entry i h;
  credential = λ i h. ap (λ cs. credential_at cs i) p.credentials ∙ credential_old s.inventory.credentials row.credential i (let c = p.credited in omega arith);
  terms = λ i h. ap (λ ts. terms_at ts i) p.terms ∙ terms_old s.inventory.terms row.terms i (let c = p.termed in omega arith);
  note = λ i h. ap (λ ns. note_at ns i) p.notes ∙ note_old s.notes row.note i (let c = p.noted in omega arith);
  margin = p.margin;
}

pub record IsNew (s t : Served) (row : TableRow) : Type 0 where
  pub entry : entry_at t.inventory.forest.entries (length s.inventory.forest.entries) ≡ row.entry
  pub credential : credential_at t.inventory.credentials (length s.inventory.forest.entries) ≡ row.credential
  pub terms : terms_at t.inventory.terms (length s.inventory.forest.entries) ≡ row.terms
  pub note : note_at t.notes (length s.inventory.forest.entries) ≡ row.note

pub pushed_new : (s t : Served) (row : TableRow) → Pushed s t row → IsNew s t row
pushed_new s t row p = record {
  entry = ap (λ es. entry_at es (length s.inventory.forest.entries)) p.entries ∙ entry_at_push_new s.inventory.forest.entries row.entry;
  credential = ap (λ cs. credential_at cs (length s.inventory.forest.entries)) p.credentials ∙ credential_new s.inventory.credentials row.credential _ p.credited;
  terms = ap (λ ts. terms_at ts (length s.inventory.forest.entries)) p.terms ∙ terms_new s.inventory.terms row.terms _ p.termed;
  note = ap (λ ns. note_at ns (length s.inventory.forest.entries)) p.notes ∙ note_new s.notes row.note _ p.noted;
}

-- ---- what a table writes stays so

abbrev pub SameNames : List Entry → List Entry → ℕ → Type 0
SameNames es fs i = (p : ℕ) → p < i → (entry_at fs p).name ≡ (entry_at es p).name

named_stays : (es fs : List Entry) (i : ℕ) (name : List ℕ) (parent : Option ℕ) → SameNames es fs i → ParentIsNamed es i name parent → ParentIsNamed fs i name parent
named_stays es fs i name None same is = is
named_stays es fs i name (Some p) same is = (is.0, same p is.0 ∙ is.1)

parent_stays : (es fs : List Entry) (i : ℕ) (name : Option (List ℕ)) (parent : Option ℕ) → SameNames es fs i → IsParent es i name parent → IsParent fs i name parent
parent_stays es fs i None parent same is = is
parent_stays es fs i (Some name) parent same is = named_stays es fs i name parent same is

pub token_over : (system_max : ℕ) (es fs : List Entry) (i : ℕ) (ms : Members) (e : Entry) (sent : List ℕ) (t : Terms) (note : EntryNote) → SameNames es fs i → IsToken system_max es i ms e sent t note → IsToken system_max fs i ms e sent t note
token_over system_max es fs i ms e sent t note same is = record {
  keys = is.keys;
  kind = is.kind;
  life = is.life;
  name = is.name;
  parent = is.parent;
  parent_is = parent_stays es fs i is.name e.parent same is.parent_is;
  increment = is.increment;
  increment_written = is.increment_written;
  increment_is = is.increment_is;
  period = is.period;
  max_ttl = is.max_ttl;
  explicit_max = is.explicit_max;
  reissued = is.reissued;
  secret = is.secret;
}

pub lease_over : (system_max : ℕ) (es fs : List Entry) (i : ℕ) (ms : Members) (e : Entry) (sent : List ℕ) (t : Terms) (note : EntryNote) → SameNames es fs i → IsLease system_max es i ms e sent t note → IsLease system_max fs i ms e sent t note
lease_over system_max es fs i ms e sent t note same is = record {
  keys = is.keys;
  kind = is.kind;
  life = is.life;
  token = is.token;
  token_written = is.token_written;
  token_is = named_stays es fs i is.token e.parent same is.token_is;
  increment = is.increment;
  increment_written = is.increment_written;
  increment_is = is.increment_is;
  period = is.period;
  max_ttl = is.max_ttl;
  explicit_max = is.explicit_max;
  reissued = is.reissued;
  lease_id = is.lease_id;
}

-- a relation between a table and the entry at an index, its credential, its terms and its note
abbrev pub Relation : Type 1
Relation = List Entry → ℕ → Members → Entry → List ℕ → Terms → EntryNote → Type 0

abbrev pub At : Relation → Served → ℕ → Members → Type 0
At R s i ms = R s.inventory.forest.entries i ms (entry_at s.inventory.forest.entries i) (credential_at s.inventory.credentials i) (terms_at s.inventory.terms i) (note_at s.notes i)

abbrev pub IsLocal : Relation → Type 0
IsLocal R = (es fs : List Entry) (i : ℕ) (ms : Members) (e : Entry) (sent : List ℕ) (t : Terms) (note : EntryNote) → SameNames es fs i → R es i ms e sent t note → R fs i ms e sent t note

stays : (R : Relation) → IsLocal R → (s t : Served) (i : ℕ) (ms : Members) → Grown s t → i < length s.inventory.forest.entries → At R s i ms → At R t i ms
stays R local s t i ms grown h is =
    let es = t.inventory.forest.entries in
    let a = local s.inventory.forest.entries es i ms _ _ _ _ (λ p below. ap (λ (x : Entry). x.name) (grown.entry p (omega (arith, below, h)))) is in
    let b = subst (λ e. R es i ms e (credential_at s.inventory.credentials i) (terms_at s.inventory.terms i) (note_at s.notes i)) (sym (grown.entry i h)) a in
    let c = subst (λ sent. R es i ms (entry_at es i) sent (terms_at s.inventory.terms i) (note_at s.notes i)) (sym (grown.credential i h)) b in
    let d = subst (λ x. R es i ms (entry_at es i) (credential_at t.inventory.credentials i) x (note_at s.notes i)) (sym (grown.terms i h)) c in
    subst (λ x. R es i ms (entry_at es i) (credential_at t.inventory.credentials i) (terms_at t.inventory.terms i) x) (sym (grown.note i h)) d

-- and of the entry of the table that is taken
comes : (R : Relation) → IsLocal R → (s t : Served) (ms : Members) (row : TableRow) → Pushed s t row → R s.inventory.forest.entries (length s.inventory.forest.entries) ms row.entry row.credential row.terms row.note → At R t (length s.inventory.forest.entries) ms
comes R local s t ms row pushed is =
    let n = length s.inventory.forest.entries in
    let es = t.inventory.forest.entries in
    let grown = pushed_grown s t row pushed in
    let new = pushed_new s t row pushed in
    let a = local s.inventory.forest.entries es n ms _ _ _ _ (λ p below. ap (λ (x : Entry). x.name) (grown.entry p below)) is in
    let b = subst (λ e. R es n ms e row.credential row.terms row.note) (sym new.entry) a in
    let c = subst (λ sent. R es n ms (entry_at es n) sent row.terms row.note) (sym new.credential) b in
    let d = subst (λ x. R es n ms (entry_at es n) (credential_at t.inventory.credentials n) x row.note) (sym new.terms) c in
    subst (λ x. R es n ms (entry_at es n) (credential_at t.inventory.credentials n) (terms_at t.inventory.terms n) x) (sym new.note) d

-- ---- all tables of one kind

-- a step takes the row of a table, which is what the table writes
abbrev pub Takes : Relation → (Intake → Type 0) → (Intake → Members → Result Intake InvFault) → Type 0
Takes R P step = (s t : Intake) (ms : Members) → P s → step s ms ≡ Ok t →
    (row : TableRow) × Pushed (read_so_far s) (read_so_far t) row × R s.forest.entries (length s.forest.entries) ms row.entry row.credential row.terms row.note

pub record Took (R : Relation) (s t : Served) (ds : Items) : Type 0 where
  pub grown : Grown s t
  pub count : length t.inventory.forest.entries ≡ length s.inventory.forest.entries + count_of ds
  pub each : (i : ℕ) (ms : Members) → get_item i ds ≡ Some (table ms) → At R t (length s.inventory.forest.entries + i) ms

took_none : (R : Relation) (s : Served) → Took R s s no_items
took_none R s = record { grown = grown_not s; count = omega arith; each = λ i ms there. absurd cc }

-- the table in front, and those after it
each_more : (R : Relation) (t : Served) (n : ℕ) (ms : Members) (ds : Items) → At R t n ms → ((i : ℕ) (ns : Members) → get_item i ds ≡ Some (table ns) → At R t ((n + 1) + i) ns) →
    (i : ℕ) (ns : Members) → get_item i (item (table ms) ds) ≡ Some (table ns) → At R t (n + i) ns
each_more R t n ms ds here later zero ns there =
    let same : ms ≡ ns = cc in
    let place : n ≡ n + 0 = omega arith in
    subst (λ k. At R t k ns) place (subst (λ x. At R t n x) same here)
each_more R t n ms ds here later (suc i) ns there =
    let place : (n + 1) + i ≡ n + suc i = omega arith in
    subst (λ k. At R t k ns) place (later i ns there)

took_more : (R : Relation) → IsLocal R → (s u t : Served) (ms : Members) (ds : Items) (row : TableRow) → Pushed s u row → R s.inventory.forest.entries (length s.inventory.forest.entries) ms row.entry row.credential row.terms row.note →
    Took R u t ds → Took R s t (item (table ms) ds)
took_more R local s u t ms ds row pushed is took =
    let n = pushed_count s u row pushed in
    let here : At R u (length s.inventory.forest.entries) ms = comes R local s u ms row pushed is in
    record {
      grown = grown_again s u t (pushed_grown s u row pushed) took.grown;
      count = let c = took.count in omega (arith, c, n);
      each = each_more R t (length s.inventory.forest.entries) ms ds (stays R local u t (length s.inventory.forest.entries) ms took.grown (omega (arith, n)) here)
          (λ i ns there. subst (λ k. At R t (k + i) ns) n (took.each i ns there));
    }

pub all_taken : (R : Relation) → IsLocal R → (P : Intake → Type 0) (step : Intake → Members → Result Intake InvFault) → KeepsIt P step → Takes R P step → (key : Key) (s t : Intake) (ds : Items) → P s →
    entered_by step key s ds ≡ Ok t → Took R (read_so_far s) (read_so_far t) ds
all_taken R local P step keeps takes key s t no_items m e = let same : s ≡ t = cc in subst (λ u. Took R (read_so_far s) (read_so_far u) no_items) same (took_none R (read_so_far s))
all_taken R local P step keeps takes key s t (item (table ms) ds) m e =
    bind_ok (step s ms) _ t e (λ u r e1.
    let row = takes s u ms m r in
    took_more R local (read_so_far s) (read_so_far u) (read_so_far t) ms ds row.0 row.1 row.2 (all_taken R local P step keeps takes key u t ds (keeps s u ms m r) e1))
all_taken R local P step keeps takes key s t (item _ ds) m e = absurd (cc)

-- ---- what is written, after all later tables

pub stays_written : (R : Relation) → IsLocal R → (s t u : Served) (ds : Items) → length s.inventory.forest.entries ≡ 0 → Took R s t ds → Grown t u → (i : ℕ) (ms : Members) → get_item i ds ≡ Some (table ms) → At R u i ms
stays_written R local s t u ds none took grown i ms there =
    let within = item_within i ds ms there in
    let place : length s.inventory.forest.entries + i ≡ i = omega (arith, none) in
    stays R local t u i ms grown (let c = took.count in omega (arith, c, none, within)) (subst (λ k. At R t k ms) place (took.each i ms there))
  where
    item_within : (i : ℕ) (ds : Items) (ms : Members) → get_item i ds ≡ Some (table ms) → i < count_of ds
    item_within i no_items ms there = absurd cc
    item_within zero (item d ds) ms there = omega arith
    item_within (suc i) (item d ds) ms there = let h = item_within i ds ms there in omega arith
