-- Faulty: the fault that reading tells is the first in the order of all faults.
use Rattle.std.proofs.Common.{◌≡◌, ◌⊎◌, ℕ, suc, ◌+◌, Bool, true, false, cond, ◌&&◌, not, List, [], ◌∷◌, ◌++◌, length, Some, None, Option, Result, Ok, Err, refl, sym, ap, ◌∙◌, subst, arith, option_map, unwrap_or, inl, inr}
use Rattle.std.specs.{Option.is_some, Str.is_utf8}
use Rattle.std.proofs.lemmas.List.{length_push}
use Rattle.toml.specs.{Parse.parse_document, Text.are_tables}
use Rattle.toml.specs.Data.{array, table, Data, Items, no_items, item, Members, get_member}
use Rattle.plan_forest.specs.{declared.entry.Entry.Entry, declared.fault.TreeFault.TreeFault, declared.forest.TheConstants.MARGIN_MAX, Forest.Forest, Push.entry_refusal}
use Rattle.vault_inventory.specs.{declared.fault.InvFault.InvFault, declared.key.Key.Key, declared.limits.TheConstants.SPAN_MAX, declared.limits.TheConstants.SYSTEM_MAX, declared.row.TableRow.TableRow, Languages.full}
use Rattle.vault_inventory.specs.declared.fault.InvFault.TheVariants.{NotToml, MissingKey, UnknownKey, BadValue, Tree}
use Rattle.vault_inventory.specs.declared.key.Key.TheVariants.{SystemMax, Margin, Token, Lease, Name, Parent, Issued, End, Renewable, Increment, Period, MaxTtl, ExplicitMaxTtl, Reissued, Need, Secret, SecretFile, LeaseId, LeaseIdFile}
use Rattle.vault_inventory.specs.FirstFault.{FirstFaultLaw, IsFirstFault, IsFirstIn, LeaseFails, TokenFails, bad, bad_if, excluded_beside, fault_if, first_fault_of, lease_faults, missing_key, row_faults, token_faults, unknown}
use Rattle.vault_inventory.specs.Intake.{Intake, appended, distinct, empty_intake, has_text, key_written, pushed, with_lease, with_token}
use Rattle.vault_inventory.specs.Inventory.{document_tree, entered_by, intake_of, lease_entered, or_not_toml, read_served, served_of, token_entered}
use Rattle.vault_inventory.specs.Keys.{all_keys, is_one_of, key_text, lease_keys, token_keys, top_keys}
use Rattle.vault_inventory.specs.Rows.{file_at, lease_row, lease_terms, life_of_table, token_row, token_terms}
use Rattle.vault_inventory.specs.Values.{alone_if, credential, end_value, flag_value, has_if, is_key_there, moment_value, need, needed_value, only, path, read_if, span, tables, text, value_at}
use Rattle.vault_inventory.specs.Answers.{◌>>=◌}
use Rattle.vault_inventory.proofs.{Chains.follow, Rowed.writes_is, Taken.lease_entered_ok, Taken.token_entered_ok}

-- ---- the fault of an answer, and of a chain of answers

abbrev fault_of : {A : Type 0} → Result A InvFault → Option InvFault
fault_of (Ok x) = None
fault_of (Err e) = Some e

-- one fault, and then those of the rest
chain : {A B : Type 0} (r : Result A InvFault) (k : A → Result B InvFault) (here : Option InvFault) (rest : List (Option InvFault)) → fault_of r ≡ here → ((x : A) → r ≡ Ok x → fault_of (k x) ≡ first_fault_of rest) → fault_of (r >>= k) ≡ first_fault_of (here ∷ rest)
chain (Ok x) k here rest is more = more x refl ∙ ap (λ o. first_fault_of (o ∷ rest)) is
chain (Err e) k here rest is more = ap (λ o. first_fault_of (o ∷ rest)) is

first_append : (here rest : List (Option InvFault)) → first_fault_of here ≡ None → first_fault_of (here ++ rest) ≡ first_fault_of rest
first_append [] rest none = refl
first_append (Some e ∷ here) rest none = absurd cc
first_append (None ∷ here) rest none = first_append here rest none

first_found : (here rest : List (Option InvFault)) (e : InvFault) → first_fault_of here ≡ Some e → first_fault_of (here ++ rest) ≡ Some e
first_found [] rest e some = absurd cc
first_found (Some x ∷ here) rest e some = some
first_found (None ∷ here) rest e some = first_found here rest e some

-- several faults, and then those of the rest
chain_all : {A B : Type 0} (r : Result A InvFault) (k : A → Result B InvFault) (here rest : List (Option InvFault)) → fault_of r ≡ first_fault_of here → ((x : A) → r ≡ Ok x → fault_of (k x) ≡ first_fault_of rest) → fault_of (r >>= k) ≡ first_fault_of (here ++ rest)
chain_all (Ok x) k here rest is more = more x refl ∙ sym (first_append here rest (sym is))
chain_all (Err e) k here rest is more = sym (first_found here rest e (sym is))

last : {A B : Type 0} (r : Result A InvFault) (k : A → Result B InvFault) (here : Option InvFault) → fault_of r ≡ here → ((x : A) → r ≡ Ok x → fault_of (k x) ≡ None) → fault_of (r >>= k) ≡ first_fault_of (here ∷ [])
last r k here is more = chain r k here [] is more

cond_fault : {A : Type 0} (b : Bool) (e : InvFault) (x : A) → fault_of (cond b (Err e) (Ok x)) ≡ fault_if b e
cond_fault true e x = refl
cond_fault false e x = refl

-- ---- one value

abbrev taken : {A : Type 0} → Option ℕ → Key → Option A → Result (Option A) InvFault
taken place key o = elim o [ Some x ↦ Ok (Some x) | None ↦ Err (BadValue place key) ]

taken_fault : {A : Type 0} (place : Option ℕ) (key : Key) (o : Option A) → fault_of (taken place key o) ≡ fault_if (not (is_some o)) (BadValue place key)
taken_fault place key None = refl
taken_fault place key (Some x) = refl

read_fault : {A : Type 0} (f : Data → Option A) (place : Option ℕ) (key : Key) (o : Option Data) → fault_of (read_if f place key o) ≡ bad_if f place key o
read_fault f place key None = refl
read_fault f place key (Some d) = taken_fault place key (f d)

value_fault : {A : Type 0} (f : Data → Option A) (place : Option ℕ) (key : Key) (ms : Members) → fault_of (value_at f place key ms) ≡ bad f place key ms
value_fault f place key ms = read_fault f place key (get_member (key_text key) ms)

taken_there : {A : Type 0} (place : Option ℕ) (key : Key) (o found : Option A) → taken place key o ≡ Ok found → is_some found ≡ true
taken_there place key None found e = absurd cc
taken_there {A = A} place key (Some x) found e = let same : Some x ≡ found = cc in ap (λ (o : Option A). is_some o) (sym same)

read_there : {A : Type 0} (f : Data → Option A) (place : Option ℕ) (key : Key) (o : Option Data) (found : Option A) → read_if f place key o ≡ Ok found → is_some found ≡ is_some o
read_there {A = A} f place key None found e = let same : ◌≡◌ {A = Option A} None found = cc in ap (λ (x : Option A). is_some x) (sym same)
read_there f place key (Some d) found e = taken_there place key (f d) found e

value_there : {A : Type 0} (f : Data → Option A) (place : Option ℕ) (key : Key) (ms : Members) (found : Option A) → value_at f place key ms ≡ Ok found → is_some found ≡ is_key_there key ms
value_there f place key ms found e = read_there f place key (get_member (key_text key) ms) found e

only_fault : (keys : List Key) (place : Option ℕ) (ms : Members) → fault_of (only keys place ms) ≡ unknown keys place ms
only_fault keys place ms = by_test (all_keys (is_one_of keys) ms)
  where
    by_test : (b : Bool) → fault_of {A = Unit {0}} (cond b (Ok tt) (Err (UnknownKey place))) ≡ fault_if (not b) (UnknownKey place)
    by_test true = refl
    by_test false = refl

needed_fault : {A : Type 0} (i : ℕ) (key : Key) (o : Option A) (here : Bool) → is_some o ≡ here → fault_of (needed_value i key o) ≡ fault_if (true && not here) (MissingKey i key)
needed_fault i key None here is = ap (λ b. fault_if (not b) (MissingKey i key)) is
needed_fault i key (Some x) here is = ap (λ b. fault_if (not b) (MissingKey i key)) is

has_fault : (must must' : Bool) (i : ℕ) (key : Key) (here here' : Bool) → must ≡ must' → here ≡ here' → fault_of (has_if must i key here) ≡ fault_if (must' && not here') (MissingKey i key)
has_fault must must' i key here here' one two =
    cond_fault (must && not here) (MissingKey i key) tt ∙ ap (λ b. fault_if (b && not here) (MissingKey i key)) one ∙ ap (λ b. fault_if (must' && not b) (MissingKey i key)) two

alone_fault : (first first' : Bool) (i : ℕ) (key : Key) (here here' : Bool) → first ≡ first' → here ≡ here' → fault_of (alone_if first i key here) ≡ fault_if (first' && here') (BadValue (Some i) key)
alone_fault first first' i key here here' one two =
    cond_fault (first && here) (BadValue (Some i) key) tt ∙ ap (λ b. fault_if (b && here) (BadValue (Some i) key)) one ∙ ap (λ b. fault_if (first' && b) (BadValue (Some i) key)) two

-- ---- the parts of a table

life_faults : ℕ → Members → List (Option InvFault)
life_faults i ms = bad moment_value (Some i) Issued ms ∷ missing_key (is_key_there End ms) i Issued ms ∷ bad end_value (Some i) End ms ∷ missing_key (is_key_there Issued ms) i End ms ∷ bad flag_value (Some i) Renewable ms ∷ []

life_fault : (i : ℕ) (ms : Members) → fault_of (life_of_table full i ms) ≡ first_fault_of (life_faults i ms)
unfolding life_of_table life_faults
life_fault i ms =
    chain (value_at moment_value (Some i) Issued ms) _ _ _ (value_fault moment_value (Some i) Issued ms) (λ issued a.
    chain (has_if (is_key_there End ms) i Issued (is_some issued)) _ _ _ (has_fault _ _ i Issued _ _ refl (value_there moment_value (Some i) Issued ms issued a)) (λ issue_there b.
    chain (value_at end_value (Some i) End ms) _ _ _ (value_fault end_value (Some i) End ms) (λ ends c.
    chain (has_if (is_some issued) i End (is_some ends)) _ _ _ (has_fault _ _ i End _ _ (value_there moment_value (Some i) Issued ms issued a) (value_there end_value (Some i) End ms ends c)) (λ end_there d.
    last (value_at flag_value (Some i) Renewable ms) _ _ (value_fault flag_value (Some i) Renewable ms) (λ renewable f. refl)))))

token_terms_faults : ℕ → Members → List (Option InvFault)
token_terms_faults i ms = bad (span full 0 SPAN_MAX) (Some i) Increment ms ∷ bad (span full 0 SPAN_MAX) (Some i) Period ms ∷ bad (span full 0 SPAN_MAX) (Some i) MaxTtl ms ∷ bad (span full 0 SPAN_MAX) (Some i) ExplicitMaxTtl ms ∷ bad flag_value (Some i) Reissued ms ∷ []

token_terms_fault : (system_max i issued : ℕ) (ms : Members) → fault_of (token_terms full system_max i issued ms) ≡ first_fault_of (token_terms_faults i ms)
unfolding token_terms token_terms_faults
token_terms_fault system_max i issued ms =
    chain (value_at (span full 0 SPAN_MAX) (Some i) Increment ms) _ _ _ (value_fault (span full 0 SPAN_MAX) (Some i) Increment ms) (λ increment a.
    chain (value_at (span full 0 SPAN_MAX) (Some i) Period ms) _ _ _ (value_fault (span full 0 SPAN_MAX) (Some i) Period ms) (λ period b.
    chain (value_at (span full 0 SPAN_MAX) (Some i) MaxTtl ms) _ _ _ (value_fault (span full 0 SPAN_MAX) (Some i) MaxTtl ms) (λ max_ttl c.
    chain (value_at (span full 0 SPAN_MAX) (Some i) ExplicitMaxTtl ms) _ _ _ (value_fault (span full 0 SPAN_MAX) (Some i) ExplicitMaxTtl ms) (λ explicit_max d.
    last (value_at flag_value (Some i) Reissued ms) _ _ (value_fault flag_value (Some i) Reissued ms) (λ reissued f. refl)))))

lease_terms_faults : ℕ → Members → List (Option InvFault)
lease_terms_faults i ms = bad (span full 0 SPAN_MAX) (Some i) Increment ms ∷ bad (span full 0 SPAN_MAX) (Some i) MaxTtl ms ∷ bad flag_value (Some i) Reissued ms ∷ []

lease_terms_fault : (system_max i issued : ℕ) (ms : Members) → fault_of (lease_terms full system_max i issued ms) ≡ first_fault_of (lease_terms_faults i ms)
unfolding lease_terms lease_terms_faults
lease_terms_fault system_max i issued ms =
    chain (value_at (span full 0 SPAN_MAX) (Some i) Increment ms) _ _ _ (value_fault (span full 0 SPAN_MAX) (Some i) Increment ms) (λ increment a.
    chain (value_at (span full 0 SPAN_MAX) (Some i) MaxTtl ms) _ _ _ (value_fault (span full 0 SPAN_MAX) (Some i) MaxTtl ms) (λ max_ttl b.
    last (value_at flag_value (Some i) Reissued ms) _ _ (value_fault flag_value (Some i) Reissued ms) (λ reissued c. refl)))

file_fault : (i : ℕ) (other key : Key) (has_credential : Bool) (ms : Members) → has_credential ≡ is_key_there other ms → fault_of (file_at i key has_credential ms) ≡ first_fault_of (bad path (Some i) key ms ∷ excluded_beside other i key ms ∷ [])
file_fault i other key has_credential ms is =
    chain (value_at path (Some i) key ms) _ _ _ (value_fault path (Some i) key ms) (λ file a.
    last (alone_if has_credential i key (is_some file)) _ _ (alone_fault _ _ i key _ _ is (value_there path (Some i) key ms file a)) (λ alone b. refl))

-- ---- a table

token_fault : (system_max : ℕ) (g : Forest) (ms : Members) → fault_of (token_row full system_max g ms) ≡ first_fault_of (token_faults (length g.entries) ms)
unfolding token_row life_faults token_terms_faults
token_fault system_max g ms =
    let i = length g.entries in
    chain (only (token_keys full) (Some i) ms) _ _ _ (only_fault (token_keys full) (Some i) ms) (λ known a.
    chain (value_at text (Some i) Name ms) _ _ _ (value_fault text (Some i) Name ms) (λ name_if b.
    chain (needed_value i Name name_if) _ _ _ (needed_fault i Name name_if _ (value_there text (Some i) Name ms name_if b)) (λ name c.
    chain (value_at text (Some i) Parent ms) _ _ _ (value_fault text (Some i) Parent ms) (λ parent d.
    chain_all (life_of_table full i ms) _ (life_faults i ms) _ (life_fault i ms) (λ life f.
    chain_all (token_terms full system_max i life.issued ms) _ (token_terms_faults i ms) _ (token_terms_fault system_max i life.issued ms) (λ terms h.
    chain (value_at (need full) (Some i) Need ms) _ _ _ (value_fault (need full) (Some i) Need ms) (λ need_if j.
    chain (value_at credential (Some i) Secret ms) _ _ _ (value_fault credential (Some i) Secret ms) (λ secret k.
    chain_all (file_at i SecretFile (is_some secret) ms) _ (bad path (Some i) SecretFile ms ∷ excluded_beside Secret i SecretFile ms ∷ []) [] (file_fault i Secret SecretFile (is_some secret) ms (value_there credential (Some i) Secret ms secret k)) (λ file l. refl)))))))))

lease_fault : (system_max : ℕ) (g : Forest) (ms : Members) → fault_of (lease_row full system_max g ms) ≡ first_fault_of (lease_faults (length g.entries) ms)
unfolding lease_row life_faults lease_terms_faults
lease_fault system_max g ms =
    let i = length g.entries in
    chain (only (lease_keys full) (Some i) ms) _ _ _ (only_fault (lease_keys full) (Some i) ms) (λ known a.
    chain (value_at text (Some i) Name ms) _ _ _ (value_fault text (Some i) Name ms) (λ name_if b.
    chain (needed_value i Name name_if) _ _ _ (needed_fault i Name name_if _ (value_there text (Some i) Name ms name_if b)) (λ name c.
    chain (value_at text (Some i) Token ms) _ _ _ (value_fault text (Some i) Token ms) (λ token_if d.
    chain (needed_value i Token token_if) _ _ _ (needed_fault i Token token_if _ (value_there text (Some i) Token ms token_if d)) (λ token e.
    chain_all (life_of_table full i ms) _ (life_faults i ms) _ (life_fault i ms) (λ life f.
    chain_all (lease_terms full system_max i life.issued ms) _ (lease_terms_faults i ms) _ (lease_terms_fault system_max i life.issued ms) (λ terms h.
    chain (value_at (need full) (Some i) Need ms) _ _ _ (value_fault (need full) (Some i) Need ms) (λ need_if j.
    chain (value_at credential (Some i) LeaseId ms) _ _ _ (value_fault credential (Some i) LeaseId ms) (λ lease_id k.
    chain_all (file_at i LeaseIdFile (is_some lease_id) ms) _ (bad path (Some i) LeaseIdFile ms ∷ excluded_beside LeaseId i LeaseIdFile ms ∷ []) [] (file_fault i LeaseId LeaseIdFile (is_some lease_id) ms (value_there credential (Some i) LeaseId ms lease_id k)) (λ file l. refl))))))))))

-- ---- its row

appended_fault : (g : Forest) (e : Entry) (o : Option TreeFault) → fault_of (appended g e o) ≡ option_map (Tree (length g.entries)) o
appended_fault g e None = refl
appended_fault g e (Some fault) = refl

pushed_fault : (g : Forest) (e : Entry) → fault_of (pushed g e) ≡ option_map (Tree (length g.entries)) (entry_refusal g e)
unfolding pushed
pushed_fault g e = appended_fault g e (entry_refusal g e)

distinct_fault : (key : Key) (i : ℕ) (texts : List (List ℕ)) (text : List ℕ) → fault_of (distinct key i texts text) ≡ fault_if (has_text texts text) (BadValue (Some i) key)
unfolding distinct
distinct_fault key i texts text = cond_fault (has_text texts text) (BadValue (Some i) key) (texts ++ text ∷ [])

token_row_fault : (s : Intake) (row : TableRow) → fault_of (with_token s row) ≡ first_fault_of (row_faults (key_written Secret SecretFile row.note.file) s.forest s.secrets row)
unfolding with_token
token_row_fault s row =
    chain (pushed s.forest row.entry) _ _ _ (pushed_fault s.forest row.entry) (λ forest a.
    last (distinct (key_written Secret SecretFile row.note.file) (length s.forest.entries) s.secrets row.credential) _ _ (distinct_fault (key_written Secret SecretFile row.note.file) (length s.forest.entries) s.secrets row.credential) (λ secrets b. refl))

lease_row_fault : (s : Intake) (row : TableRow) → fault_of (with_lease s row) ≡ first_fault_of (row_faults (key_written LeaseId LeaseIdFile row.note.file) s.forest s.lease_ids row)
unfolding with_lease
lease_row_fault s row =
    chain (pushed s.forest row.entry) _ _ _ (pushed_fault s.forest row.entry) (λ forest a.
    last (distinct (key_written LeaseId LeaseIdFile row.note.file) (length s.forest.entries) s.lease_ids row.credential) _ _ (distinct_fault (key_written LeaseId LeaseIdFile row.note.file) (length s.forest.entries) s.lease_ids row.credential) (λ lease_ids b. refl))

-- a chain that fails: its first step does, or the rest
bind_err : {A B P : Type 0} (r : Result A InvFault) (k : A → Result B InvFault) (e : InvFault) → (r >>= k) ≡ Err e → (r ≡ Err e → P) → ((x : A) → r ≡ Ok x → k x ≡ Err e → P) → P
bind_err (Ok x) k e is first rest = rest x refl is
bind_err {B = B} (Err d) k e is first rest = first (let same : d ≡ e = cc in ap (λ (f : InvFault). Err f) same)

token_fails : (system_max : ℕ) (s : Intake) (ms : Members) (fault : InvFault) → token_entered full system_max s ms ≡ Err fault → TokenFails system_max s ms fault
unfolding token_entered
token_fails system_max s ms fault e =
    bind_err (token_row full system_max s.forest ms) _ fault e
    (λ fails. inl (sym (token_fault system_max s.forest ms) ∙ ap (λ (r : Result TableRow InvFault). fault_of r) fails))
    (λ row read fails. inr (row, read, sym (token_row_fault s row) ∙ ap (λ (r : Result Intake InvFault). fault_of r) fails))

lease_fails : (system_max : ℕ) (s : Intake) (ms : Members) (fault : InvFault) → lease_entered full system_max s ms ≡ Err fault → LeaseFails system_max s ms fault
unfolding lease_entered
lease_fails system_max s ms fault e =
    bind_err (lease_row full system_max s.forest ms) _ fault e
    (λ fails. inl (sym (lease_fault system_max s.forest ms) ∙ ap (λ (r : Result TableRow InvFault). fault_of r) fails))
    (λ row read fails. inr (row, read, sym (lease_row_fault s row) ∙ ap (λ (r : Result Intake InvFault). fault_of r) fails))

-- ---- the tables of one kind

abbrev Counts : (Intake → Members → Result Intake InvFault) → Type 0
Counts step = (s t : Intake) (ms : Members) → step s ms ≡ Ok t → length t.forest.entries ≡ length s.forest.entries + 1

tokens_count : (system_max : ℕ) → Counts (token_entered full system_max)
tokens_count system_max s t ms e =
    let taken = token_entered_ok full system_max s t ms e in
    ap (λ (u : Intake). length u.forest.entries) (sym taken.3) ∙ length_push s.forest.entries taken.0.entry

leases_count : (system_max : ℕ) → Counts (lease_entered full system_max)
leases_count system_max s t ms e =
    let taken = lease_entered_ok full system_max s t ms e in
    ap (λ (u : Intake). length u.forest.entries) (sym taken.3) ∙ length_push s.forest.entries taken.0.entry

module _ (step : Intake → Members → Result Intake InvFault) (Fails : Intake → Members → InvFault → Type 0) (fails : (s : Intake) (ms : Members) (fault : InvFault) → step s ms ≡ Err fault → Fails s ms fault) (counts : Counts step) (key : Key) (fault : InvFault) where
  first_in : (s : Intake) (ds : Items) → are_tables ds ≡ true → entered_by step key s ds ≡ Err fault → IsFirstIn step Fails key s ds fault
  first_in s no_items are e = absurd cc
  first_in s (item (table ms) ds) are e =
      bind_err (step s ms) _ fault e
      (λ bad. record { place = 0; members = ms; stands = refl; taken = s; before = refl; index = omega arith; fails = fails s ms fault bad })
      (λ t read later.
      let more = first_in t ds are later in
      let count = counts s t ms read in
      let place = more.index in
      record {
        place = suc more.place;
        members = more.members;
        stands = more.stands;
        taken = more.taken;
        before = follow (step s ms) t _ _ read more.before;
        index = omega (arith, count, place);
        fails = more.fails;
      })
  first_in s (item _ ds) are e = absurd cc

-- ---- the tables that the top level has

found_tables : (place : Option ℕ) (key : Key) (o found : Option Items) → ((ds : Items) → o ≡ Some ds → are_tables ds ≡ true) → taken place key o ≡ Ok found → are_tables (unwrap_or found no_items) ≡ true
found_tables place key None found are e = absurd cc
found_tables place key (Some ds) found are e = let same : Some ds ≡ found = cc in subst (λ (o : Option Items). are_tables (unwrap_or o no_items) ≡ true) same (are ds refl)

some_tables : (b : Bool) (xs ds : Items) → are_tables xs ≡ b → cond b (Some xs) None ≡ Some ds → are_tables ds ≡ true
some_tables true xs ds are e = let same : xs ≡ ds = cc in subst (λ x. are_tables x ≡ true) same are
some_tables false xs ds are e = absurd cc

tables_are : (d : Data) (ds : Items) → tables d ≡ Some ds → are_tables ds ≡ true
tables_are (array xs) ds e = some_tables (are_tables xs) xs ds refl e
tables_are _ ds e = absurd cc

read_tables : (place : Option ℕ) (key : Key) (o : Option Data) (found : Option Items) → read_if tables place key o ≡ Ok found → are_tables (unwrap_or found no_items) ≡ true
read_tables place key None found e = let same : ◌≡◌ {A = Option Items} None found = cc in subst (λ (o : Option Items). are_tables (unwrap_or o no_items) ≡ true) same refl
read_tables place key (Some d) found e = found_tables place key (tables d) found (tables_are d) e

-- ---- a document

-- one fault, or those of the rest, or none of these and then another
chain_or : {A B Q : Type 0} (r : Result A InvFault) (k : A → Result B InvFault) (fault : InvFault) (here : Option InvFault) (rest : List (Option InvFault)) → fault_of r ≡ here → (r >>= k) ≡ Err fault →
    ((x : A) → r ≡ Ok x → k x ≡ Err fault → (first_fault_of rest ≡ Some fault) ⊎ ((first_fault_of rest ≡ None) × Q)) → (first_fault_of (here ∷ rest) ≡ Some fault) ⊎ ((first_fault_of (here ∷ rest) ≡ None) × Q)
chain_or {Q = Q} (Ok x) k fault here rest is e more = subst (λ o. (first_fault_of (o ∷ rest) ≡ Some fault) ⊎ ((first_fault_of (o ∷ rest) ≡ None) × Q)) is (more x refl e)
chain_or {Q = Q} (Err d) k fault here rest is e more = subst (λ o. (first_fault_of (o ∷ rest) ≡ Some fault) ⊎ ((first_fault_of (o ∷ rest) ≡ None) × Q)) is (inl (let same : d ≡ fault = cc in ap (λ (f : InvFault). Some f) same))

intake_first : (ms : Members) (fault : InvFault) → intake_of full ms ≡ Err fault → IsFirstFault ms fault
unfolding intake_of
intake_first ms fault e =
    chain_or (only top_keys None ms) _ fault _ _ (only_fault top_keys None ms) e (λ known k e1.
    chain_or (value_at (span full 1 SPAN_MAX) None SystemMax ms) _ fault _ _ (value_fault (span full 1 SPAN_MAX) None SystemMax ms) e1 (λ system_max a e2.
    chain_or (value_at (span full 1 MARGIN_MAX) None Margin ms) _ fault _ _ (value_fault (span full 1 MARGIN_MAX) None Margin ms) e2 (λ margin b e3.
    chain_or (value_at tables None Token ms) _ fault _ _ (value_fault tables None Token ms) e3 (λ tokens c e4.
    chain_or (value_at tables None Lease ms) _ fault _ _ (value_fault tables None Lease ms) e4 (λ leases d e5.
    let most = unwrap_or system_max SYSTEM_MAX in
    let begin = empty_intake (unwrap_or margin 1) in
    inr (
      refl,
      record {
        system_max = most;
        system_max_written = (system_max, writes_is (span full 1 SPAN_MAX) None SystemMax ms system_max a, refl);
        margin = unwrap_or margin 1;
        margin_written = (margin, writes_is (span full 1 MARGIN_MAX) None Margin ms margin b, refl);
        tokens = unwrap_or tokens no_items;
        tokens_written = (tokens, writes_is tables None Token ms tokens c, refl);
        leases = unwrap_or leases no_items;
        leases_written = (leases, writes_is tables None Lease ms leases d, refl);
        first =
            bind_err (entered_by (token_entered full most) Token begin (unwrap_or tokens no_items)) _ fault e5
            (λ fails. inl (first_in (token_entered full most) (TokenFails most) (token_fails most) (tokens_count most) Token fault begin (unwrap_or tokens no_items) (read_tables None Token (get_member (key_text Token) ms) tokens c) fails))
            (λ u read fails. inr (u, read, first_in (lease_entered full most) (LeaseFails most) (lease_fails most) (leases_count most) Lease fault u (unwrap_or leases no_items) (read_tables None Lease (get_member (key_text Lease) ms) leases d) fails));
      },
    ))))))

no_tree : (b : Bool) (o : Option Members) (fault : InvFault) → cond b (or_not_toml o) (Err NotToml) ≡ Err fault → fault ≡ NotToml
no_tree true None fault e = cc
no_tree true (Some ms) fault e = absurd cc
no_tree false o fault e = cc

tree_fails : (bytes : List ℕ) (fault : InvFault) → document_tree bytes ≡ Err fault → fault ≡ NotToml
unfolding document_tree
tree_fails bytes fault e = no_tree (is_utf8 bytes) (parse_document bytes) fault e

pub first_fault_law : FirstFaultLaw
unfolding read_served served_of
first_fault_law bytes fault e =
    bind_err (document_tree bytes) _ fault e (λ fails. inl (fails, tree_fails bytes fault fails)) (λ ms read later.
    bind_err (intake_of full ms) _ fault later (λ fails. inr (ms, read, intake_first ms fault fails)) (λ t is ok. absurd cc))
