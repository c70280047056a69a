-- Barely: what is read of a tree, but for credentials, is read of the tree without the keys of credentials.
use Rattle.std.proofs.Common.{◌≡◌, ℕ, Bool, true, false, cond, List, ◌∷◌, [], ◌++◌, length, Some, None, Option, Result, Ok, Err, option_map, refl, sym, ap, ◌∙◌, unwrap_or, Ordering, Less, Equal, Greater}
use Rattle.std.proofs.lemmas.Map.Text.{is_eq-slice_cmp}
use Rattle.std.specs.{Option.is_some, Cmp.Lexicographic.slice_cmp, Cmp.Lexicographic.bytes_decides}
use Rattle.std.specs.Ordering.{nat_cmp, is_eq, match_ordering}
use Rattle.toml.specs.Text.{are_tables}
use Rattle.toml.specs.Data.{string, array, table, Data, Items, no_items, item, Members, no_members, member, get_member}
use Rattle.plan_forest.specs.{declared.forest.TheConstants.MARGIN_MAX, Forest.Forest}
use Rattle.vault_inventory.specs.{declared.fault.InvFault.InvFault, declared.fault.InvFault.TheVariants.BadValue, declared.key.Key.Key, declared.row.Life.Life, declared.row.TableRow.TableRow, declared.terms.Terms.Terms}
use Rattle.vault_inventory.specs.{Keys.top_keys, Keys.key_text, Terms.max_ttl_of, Inventories.Inventory, Languages.full, Served.Served, Laws.ReadSecrecyLaw, Laws.ServedSecrecyLaw}
use Rattle.vault_inventory.specs.declared.limits.TheConstants.{SPAN_MAX, STEP_ABSENT, SYSTEM_MAX}
use Rattle.vault_inventory.specs.declared.key.Key.TheVariants.{SystemMax, Margin, Token, Lease, Name, Parent, Issued, End, Renewable, Increment, Period, MaxTtl, ExplicitMaxTtl, Reissued, Need, SecretFile, LeaseIdFile}
use Rattle.vault_inventory.specs.Values.{alone_if, end_value, flag_value, has_if, is_key_there, moment_value, need, needed_value, only, path, read_if, span, tables, text, value_at}
use Rattle.vault_inventory.specs.Intake.{Intake, empty_intake, inventory_of_intake}
use Rattle.vault_inventory.specs.Rows.{file_at, life_of_table, lease_terms, step_or, token_terms}
use Rattle.vault_inventory.specs.Inventory.{token_entered, lease_entered, entered_by, intake_of, read_served, served_of, system_max_in, document_tree}
use Rattle.vault_inventory.specs.Bare.{bare_items, bare_members, bare_value, is_secret_key}
use Rattle.vault_inventory.specs.Answers.{◌>>=◌}
use Rattle.vault_inventory.proofs.{Chains.bind_ok, Chains.follow, Inventoried.whole_is}
use Rattle.vault_inventory.proofs.Parts.{LeaseParts, TokenParts, lease_parts, made_lease, made_token, token_parts}
use Rattle.vault_inventory.proofs.Taken.{grown, lease_entered_ok, token_entered_ok}

-- ---- the value at another key

-- a key is not that of a member that goes
other_key : (k l : List ℕ) → is_secret_key k ≡ false → is_secret_key l ≡ true → is_eq (slice_cmp nat_cmp k l) ≡ true → ⊥
other_key k l stays goes same =
    let one : k ≡ l = (bytes_decides k l).0 (sym (is_eq-slice_cmp k l) ∙ same) in
    let both : false ≡ true = sym stays ∙ ap is_secret_key one ∙ goes in cc

-- the member goes
found_past : (o : Ordering) (d : Data) (x : Option Data) (y : Option Data) → (is_eq o ≡ true → ⊥) → x ≡ option_map bare_value y → x ≡ option_map bare_value (match_ordering o y (Some d) y)
found_past Less d x y other e = e
found_past Equal d x y other e = absurd (other refl)
found_past Greater d x y other e = e

-- the member stays
found_here : (o : Ordering) (d : Data) (x : Option Data) (y : Option Data) → x ≡ option_map bare_value y → match_ordering o x (Some (bare_value d)) x ≡ option_map bare_value (match_ordering o y (Some d) y)
found_here Less d x y e = e
found_here Equal d x y e = refl
found_here Greater d x y e = e

found_in : (k l : List ℕ) (d : Data) (ms : Members) (b : Bool) → (b ≡ true → is_eq (slice_cmp nat_cmp k l) ≡ true → ⊥) → get_member k (bare_members ms) ≡ option_map bare_value (get_member k ms) →
    get_member k (cond b (bare_members ms) (member l (bare_value d) (bare_members ms))) ≡ option_map bare_value (get_member k (member l d ms))
found_in k l d ms true other e = found_past (slice_cmp nat_cmp k l) d _ _ (other refl) e
found_in k l d ms false other e = found_here (slice_cmp nat_cmp k l) d _ _ e

pub bare_found : (k : List ℕ) → is_secret_key k ≡ false → (ms : Members) → get_member k (bare_members ms) ≡ option_map bare_value (get_member k ms)
bare_found k stays no_members = refl
bare_found k stays (member l d ms) = found_in k l d ms (is_secret_key l) (λ goes. other_key k l stays goes) (bare_found k stays ms)

-- ---- the readers of values see no difference

abbrev Blind : {A : Type 0} → (Data → Option A) → Type 0
Blind f = (d : Data) → f (bare_value d) ≡ f d

blind_span : (low high : ℕ) → Blind (span full low high)
blind_span low high (string s) = refl
blind_span low high _ = refl

blind_need : Blind (need full)
blind_need (string s) = refl
blind_need _ = refl

blind_path : Blind path
blind_path (string s) = refl
blind_path _ = refl

blind_moment : Blind moment_value
blind_moment (string s) = refl
blind_moment _ = refl

blind_ending : Blind end_value
blind_ending (string s) = refl
blind_ending _ = refl

blind_flag : Blind flag_value
blind_flag (string s) = refl
blind_flag _ = refl

blind_text : Blind text
blind_text (string s) = refl
blind_text _ = refl

read_bare : {A : Type 0} (f : Data → Option A) → Blind f → (place : Option ℕ) (key : Key) (o : Option Data) → read_if f place key (option_map bare_value o) ≡ read_if f place key o
read_bare {A = A} f blind place key None = refl
read_bare {A = A} f blind place key (Some d) = ap (λ (o : Option A). ◌taken◌ o place key) (blind d)
  where
    ◌taken◌ : Option A → Option ℕ → Key → Result (Option A) InvFault
    ◌taken◌ o place key = elim o [ Some x ↦ Ok (Some x) | None ↦ Err (BadValue place key) ]

kept : {A : Type 0} (f : Data → Option A) → Blind f → (place : Option ℕ) (key : Key) → is_secret_key (key_text key) ≡ false → (ms : Members) → value_at f place key (bare_members ms) ≡ value_at f place key ms
kept f blind place key stays ms = ap (read_if f place key) (bare_found (key_text key) stays ms) ∙ read_bare f blind place key (get_member (key_text key) ms)

kept_span : (low high : ℕ) (place : Option ℕ) (key : Key) → is_secret_key (key_text key) ≡ false → (ms : Members) → value_at (span full low high) place key (bare_members ms) ≡ value_at (span full low high) place key ms
kept_span low high place key stays ms = kept (span full low high) (blind_span low high) place key stays ms

-- whether a key is there
there_bare : (key : Key) → is_secret_key (key_text key) ≡ false → (ms : Members) → is_key_there key (bare_members ms) ≡ is_key_there key ms
there_bare key stays ms = ap is_some (bare_found (key_text key) stays ms) ∙ mapped (get_member (key_text key) ms)
  where
    mapped : (o : Option Data) → is_some (option_map bare_value o) ≡ is_some o
    mapped None = refl
    mapped (Some d) = refl

-- ---- the tables of an array

bare_tables : (ds : Items) → are_tables (bare_items ds) ≡ are_tables ds
bare_tables no_items = refl
bare_tables (item (table ms) ds) = bare_tables ds
bare_tables (item _ ds) = refl

if_tables : (b : Bool) (ds : Items) → cond b (Some (bare_items ds)) None ≡ option_map bare_items (cond b (Some ds) None)
if_tables true ds = refl
if_tables false ds = refl

tables_bare : (d : Data) → tables (bare_value d) ≡ option_map bare_items (tables d)
tables_bare (array ds) = ap (λ b. cond b (Some (bare_items ds)) None) (bare_tables ds) ∙ if_tables (are_tables ds) ds
tables_bare _ = refl

abbrev taken : Option Items → Key → Result (Option Items) InvFault
taken o key = elim o [ Some x ↦ Ok (Some x) | None ↦ Err (BadValue None key) ]

taken_bare : (o found : Option Items) (key : Key) → taken o key ≡ Ok found → taken (option_map bare_items o) key ≡ Ok (option_map bare_items found)
taken_bare None found key e = absurd cc
taken_bare (Some ds) found key e = let same : Some ds ≡ found = cc in ap (λ (o : Option Items). Ok (option_map bare_items o)) same

read_tables : (o : Option Data) (found : Option Items) (key : Key) → read_if tables None key o ≡ Ok found → read_if tables None key (option_map bare_value o) ≡ Ok (option_map bare_items found)
read_tables None found key e = let same : None ≡ found = cc in ap (λ (o : Option Items). Ok (option_map bare_items o)) same
read_tables (Some d) found key e = ap (λ (o : Option Items). taken o key) (tables_bare d) ∙ taken_bare (tables d) found key e

kept_tables : (key : Key) → is_secret_key (key_text key) ≡ false → (ms : Members) (found : Option Items) → value_at tables None key ms ≡ Ok found → value_at tables None key (bare_members ms) ≡ Ok (option_map bare_items found)
kept_tables key stays ms found e = ap (read_if tables None key) (bare_found (key_text key) stays ms) ∙ read_tables (get_member (key_text key) ms) found key e

or_none : (found : Option Items) → unwrap_or (option_map bare_items found) no_items ≡ bare_items (unwrap_or found no_items)
or_none None = refl
or_none (Some ds) = refl

-- ---- the parts of a row

abbrev life_by : ℕ → Bool → Result (Option ℕ) InvFault → Result (Option ℕ) InvFault → Result (Option Bool) InvFault → Result Life InvFault
life_by index here a b c = do
  issued ← a
  issue_there ← has_if here index Issued (is_some issued)
  ends ← b
  end_there ← has_if (is_some issued) index End (is_some ends)
  renewable ← c
  Ok (record { issued = unwrap_or issued 0; end = unwrap_or ends 0; renewable = unwrap_or renewable true; is_told = is_some issued })

life_bare : (index : ℕ) (ms : Members) → life_of_table full index (bare_members ms) ≡ life_of_table full index ms
unfolding life_of_table is_secret_key
life_bare index ms =
    let here = there_bare End refl ms in
    let a = kept moment_value blind_moment (Some index) Issued refl ms in
    let b = kept end_value blind_ending (Some index) End refl ms in
    let c = kept flag_value blind_flag (Some index) Renewable refl ms in
    ap (λ x. life_by index x (value_at moment_value (Some index) Issued (bare_members ms)) (value_at end_value (Some index) End (bare_members ms)) (value_at flag_value (Some index) Renewable (bare_members ms))) here
    ∙ ap (λ x. life_by index (is_key_there End ms) x (value_at end_value (Some index) End (bare_members ms)) (value_at flag_value (Some index) Renewable (bare_members ms))) a
    ∙ ap (λ y. life_by index (is_key_there End ms) (value_at moment_value (Some index) Issued ms) y (value_at flag_value (Some index) Renewable (bare_members ms))) b
    ∙ ap (life_by index (is_key_there End ms) (value_at moment_value (Some index) Issued ms) (value_at end_value (Some index) End ms)) c

abbrev token_terms_by : ℕ → ℕ → Result (Option ℕ) InvFault → Result (Option ℕ) InvFault → Result (Option ℕ) InvFault → Result (Option ℕ) InvFault → Result (Option Bool) InvFault → Result Terms InvFault
token_terms_by system_max issued a b c d f = do
  increment ← a
  period ← b
  max_ttl ← c
  explicit_max ← d
  reissued ← f
  Ok (record { issued = issued; increment = step_or increment (unwrap_or period 0); period = unwrap_or period 0; max_ttl = max_ttl_of system_max max_ttl; explicit_max = unwrap_or explicit_max 0; reissued = unwrap_or reissued false })

abbrev Span : ℕ → Key → Members → Result (Option ℕ) InvFault
Span index key ms = value_at (span full 0 SPAN_MAX) (Some index) key ms

abbrev Flag : ℕ → Members → Result (Option Bool) InvFault
Flag index ms = value_at flag_value (Some index) Reissued ms

token_terms_bare : (system_max index issued : ℕ) (ms : Members) → token_terms full system_max index issued (bare_members ms) ≡ token_terms full system_max index issued ms
unfolding token_terms is_secret_key
token_terms_bare system_max index issued ms =
    let by = token_terms_by system_max issued in
    let a = kept_span 0 SPAN_MAX (Some index) Increment refl ms in
    let b = kept_span 0 SPAN_MAX (Some index) Period refl ms in
    let c = kept_span 0 SPAN_MAX (Some index) MaxTtl refl ms in
    let d = kept_span 0 SPAN_MAX (Some index) ExplicitMaxTtl refl ms in
    let f = kept flag_value blind_flag (Some index) Reissued refl ms in
    ap (λ x. by x (Span index Period (bare_members ms)) (Span index MaxTtl (bare_members ms)) (Span index ExplicitMaxTtl (bare_members ms)) (Flag index (bare_members ms))) a
    ∙ ap (λ x. by (Span index Increment ms) x (Span index MaxTtl (bare_members ms)) (Span index ExplicitMaxTtl (bare_members ms)) (Flag index (bare_members ms))) b
    ∙ ap (λ x. by (Span index Increment ms) (Span index Period ms) x (Span index ExplicitMaxTtl (bare_members ms)) (Flag index (bare_members ms))) c
    ∙ ap (λ x. by (Span index Increment ms) (Span index Period ms) (Span index MaxTtl ms) x (Flag index (bare_members ms))) d
    ∙ ap (by (Span index Increment ms) (Span index Period ms) (Span index MaxTtl ms) (Span index ExplicitMaxTtl ms)) f

abbrev lease_terms_by : ℕ → ℕ → Result (Option ℕ) InvFault → Result (Option ℕ) InvFault → Result (Option Bool) InvFault → Result Terms InvFault
lease_terms_by system_max issued a b c = do
  increment ← a
  max_ttl ← b
  reissued ← c
  Ok (record { issued = issued; increment = Some (unwrap_or increment STEP_ABSENT); period = 0; max_ttl = max_ttl_of system_max max_ttl; explicit_max = 0; reissued = unwrap_or reissued false })

lease_terms_bare : (system_max index issued : ℕ) (ms : Members) → lease_terms full system_max index issued (bare_members ms) ≡ lease_terms full system_max index issued ms
unfolding lease_terms is_secret_key
lease_terms_bare system_max index issued ms =
    let a = kept_span 0 SPAN_MAX (Some index) Increment refl ms in
    let b = kept_span 0 SPAN_MAX (Some index) MaxTtl refl ms in
    let c = kept flag_value blind_flag (Some index) Reissued refl ms in
    ap (λ x. lease_terms_by system_max issued x (Span index MaxTtl (bare_members ms)) (Flag index (bare_members ms))) a
    ∙ ap (λ x. lease_terms_by system_max issued (Span index Increment ms) x (Flag index (bare_members ms))) b
    ∙ ap (lease_terms_by system_max issued (Span index Increment ms) (Span index MaxTtl ms)) c

-- ---- a row, but for its credential

-- the row of the next token, with no credential of its own
abbrev plain_token : ℕ → Forest → Members → Result TableRow InvFault
plain_token system_max g ms = do
  name_if ← value_at text (Some (length g.entries)) Name ms
  name ← needed_value (length g.entries) Name name_if
  parent ← value_at text (Some (length g.entries)) Parent ms
  life ← life_of_table full (length g.entries) ms
  terms ← token_terms full system_max (length g.entries) life.issued ms
  need_if ← value_at (need full) (Some (length g.entries)) Need ms
  file ← value_at path (Some (length g.entries)) SecretFile ms
  Ok (made_token g name parent life terms need_if None file)

abbrev plain_lease : ℕ → Forest → Members → Result TableRow InvFault
plain_lease system_max g ms = do
  name_if ← value_at text (Some (length g.entries)) Name ms
  name ← needed_value (length g.entries) Name name_if
  token_if ← value_at text (Some (length g.entries)) Token ms
  token ← needed_value (length g.entries) Token token_if
  life ← life_of_table full (length g.entries) ms
  terms ← lease_terms full system_max (length g.entries) life.issued ms
  need_if ← value_at (need full) (Some (length g.entries)) Need ms
  file ← value_at path (Some (length g.entries)) LeaseIdFile ms
  Ok (made_lease g name token life terms need_if None file)

file_read : (index : ℕ) (key : Key) (beside : Bool) (ms : Members) (file : Option (List ℕ)) → file_at index key beside ms ≡ Ok file → value_at path (Some index) key ms ≡ Ok file
file_read index key beside ms file e =
    bind_ok (value_at path (Some index) key ms) _ file e (λ o a e1.
    bind_ok (alone_if beside index key (is_some o)) _ file e1 (λ u b e2.
    let same : o ≡ file = cc in a ∙ ap (λ (x : Option (List ℕ)). Ok x) same))

token_read : (system_max : ℕ) (g : Forest) (ms : Members) (row : TableRow) → (p : TokenParts full system_max g ms row) →
    plain_token system_max g (bare_members ms) ≡ Ok (made_token g p.name p.parent p.life p.terms p.need_if None p.file)
unfolding is_secret_key
token_read system_max g ms row p =
    let n = length g.entries in
    follow _ p.name_if _ _ (kept text blind_text (Some n) Name refl ms ∙ p.name_read)
    (follow _ p.name _ _ p.name_there
    (follow _ p.parent _ _ (kept text blind_text (Some n) Parent refl ms ∙ p.parent_read)
    (follow _ p.life _ _ (life_bare n ms ∙ p.life_read)
    (follow _ p.terms _ _ (token_terms_bare system_max n p.life.issued ms ∙ p.terms_read)
    (follow _ p.need_if _ _ (kept (need full) blind_need (Some n) Need refl ms ∙ p.need_read)
    (follow _ p.file _ _ (kept path blind_path (Some n) SecretFile refl ms ∙ file_read n SecretFile (is_some p.secret) ms p.file p.file_read) refl))))))

lease_read : (system_max : ℕ) (g : Forest) (ms : Members) (row : TableRow) → (p : LeaseParts full system_max g ms row) →
    plain_lease system_max g (bare_members ms) ≡ Ok (made_lease g p.name p.token p.life p.terms p.need_if None p.file)
unfolding is_secret_key
lease_read system_max g ms row p =
    let n = length g.entries in
    follow _ p.name_if _ _ (kept text blind_text (Some n) Name refl ms ∙ p.name_read)
    (follow _ p.name _ _ p.name_there
    (follow _ p.token_if _ _ (kept text blind_text (Some n) Token refl ms ∙ p.token_read)
    (follow _ p.token _ _ p.token_there
    (follow _ p.life _ _ (life_bare n ms ∙ p.life_read)
    (follow _ p.terms _ _ (lease_terms_bare system_max n p.life.issued ms ∙ p.terms_read)
    (follow _ p.need_if _ _ (kept (need full) blind_need (Some n) Need refl ms ∙ p.need_read)
    (follow _ p.file _ _ (kept path blind_path (Some n) LeaseIdFile refl ms ∙ file_read n LeaseIdFile (is_some p.lease_id) ms p.file p.file_read) refl)))))))

-- ---- an inventory, but for its credentials

abbrev shorn : Intake → Intake
shorn s = record { forest = s.forest; secrets = []; lease_ids = []; terms = s.terms; notes = s.notes }

abbrev with_row : Intake → TableRow → Intake
with_row s row = record { forest = grown s.forest row.entry; secrets = []; lease_ids = []; terms = s.terms ++ row.terms ∷ []; notes = s.notes ++ row.note ∷ [] }

abbrev plain_token_entered : ℕ → Intake → Members → Result Intake InvFault
plain_token_entered system_max s ms = plain_token system_max s.forest ms >>= λ row. Ok (with_row s row)

abbrev plain_lease_entered : ℕ → Intake → Members → Result Intake InvFault
plain_lease_entered system_max s ms = plain_lease system_max s.forest ms >>= λ row. Ok (with_row s row)

abbrev Shears : (Intake → Members → Result Intake InvFault) → (Intake → Members → Result Intake InvFault) → Type 0
Shears step plain = (s t : Intake) (ms : Members) → step s ms ≡ Ok t → plain (shorn s) (bare_members ms) ≡ Ok (shorn t)

token_shorn : (system_max : ℕ) → Shears (token_entered full system_max) (plain_token_entered system_max)
token_shorn system_max s t ms e =
    let taken = token_entered_ok full system_max s t ms e in
    let p = token_parts full system_max s.forest ms taken.0 taken.1 in
    follow _ (made_token s.forest p.name p.parent p.life p.terms p.need_if None p.file) _ _ (token_read system_max s.forest ms taken.0 p)
    (ap (λ (row : TableRow). Ok (with_row s row)) p.made ∙ ap (λ (i : Intake). Ok (shorn i)) taken.3)

lease_shorn : (system_max : ℕ) → Shears (lease_entered full system_max) (plain_lease_entered system_max)
lease_shorn system_max s t ms e =
    let taken = lease_entered_ok full system_max s t ms e in
    let p = lease_parts full system_max s.forest ms taken.0 taken.1 in
    follow _ (made_lease s.forest p.name p.token p.life p.terms p.need_if None p.file) _ _ (lease_read system_max s.forest ms taken.0 p)
    (ap (λ (row : TableRow). Ok (with_row s row)) p.made ∙ ap (λ (i : Intake). Ok (shorn i)) taken.3)

all_shorn : (step plain : Intake → Members → Result Intake InvFault) → Shears step plain → (key : Key) (s t : Intake) (ds : Items) → entered_by step key s ds ≡ Ok t → entered_by plain key (shorn s) (bare_items ds) ≡ Ok (shorn t)
all_shorn step plain shears key s t no_items e = let same : s ≡ t = cc in ap (λ (i : Intake). Ok (shorn i)) same
all_shorn step plain shears key s t (item (table ms) ds) e =
    bind_ok (step s ms) _ t e (λ u r e1. follow _ (shorn u) _ _ (shears s u ms r) (all_shorn step plain shears key u t ds e1))
all_shorn step plain shears key s t (item _ ds) e = absurd (cc)

abbrev plain_intake : Members → Result Intake InvFault
plain_intake ms = do
  system_max ← value_at (span full 1 SPAN_MAX) None SystemMax ms
  margin ← value_at (span full 1 MARGIN_MAX) None Margin ms
  tokens ← value_at tables None Token ms
  leases ← value_at tables None Lease ms
  with_tokens ← entered_by (plain_token_entered (unwrap_or system_max SYSTEM_MAX)) Token (empty_intake (unwrap_or margin 1)) (unwrap_or tokens no_items)
  entered_by (plain_lease_entered (unwrap_or system_max SYSTEM_MAX)) Lease with_tokens (unwrap_or leases no_items)

bare_intake : (ms : Members) (t : Intake) → intake_of full ms ≡ Ok t → plain_intake (bare_members ms) ≡ Ok (shorn t)
unfolding intake_of is_secret_key
bare_intake ms t e =
    bind_ok (only top_keys None ms) _ t e (λ known k e1.
    bind_ok (value_at (span full 1 SPAN_MAX) None SystemMax ms) _ t e1 (λ system_max a e2.
    bind_ok (value_at (span full 1 MARGIN_MAX) None Margin ms) _ t e2 (λ margin b e3.
    bind_ok (value_at tables None Token ms) _ t e3 (λ tokens c e4.
    bind_ok (value_at tables None Lease ms) _ t e4 (λ leases d e5.
    bind_ok (entered_by (token_entered full (unwrap_or system_max SYSTEM_MAX)) Token (empty_intake (unwrap_or margin 1)) (unwrap_or tokens no_items)) _ t e5 (λ u f e6.
    let max = unwrap_or system_max SYSTEM_MAX in
    let first = all_shorn (token_entered full max) (plain_token_entered max) (token_shorn max) Token (empty_intake (unwrap_or margin 1)) u (unwrap_or tokens no_items) f in
    let second = all_shorn (lease_entered full max) (plain_lease_entered max) (lease_shorn max) Lease u t (unwrap_or leases no_items) e6 in
    follow _ system_max _ _ (kept_span 1 SPAN_MAX None SystemMax refl ms ∙ a)
    (follow _ margin _ _ (kept_span 1 MARGIN_MAX None Margin refl ms ∙ b)
    (follow _ (option_map bare_items tokens) _ _ (kept_tables Token refl ms tokens c)
    (follow _ (option_map bare_items leases) _ _ (kept_tables Lease refl ms leases d)
    (follow _ (shorn u) _ _ (ap (entered_by (plain_token_entered max) Token (empty_intake (unwrap_or margin 1))) (or_none tokens) ∙ first)
    (ap (entered_by (plain_lease_entered max) Lease (shorn u)) (or_none leases) ∙ second)))))))))))

-- ---- two documents

served_is_read : (bytes : List ℕ) (ms : Members) (v : Served) → document_tree bytes ≡ Ok ms → read_served bytes ≡ Ok v →
    plain_intake (bare_members ms) ≡ Ok (record { forest = v.inventory.forest; secrets = []; lease_ids = []; terms = v.inventory.terms; notes = v.notes })
unfolding read_served served_of
served_is_read bytes ms v reads e =
    bind_ok (document_tree bytes) _ v e (λ ns read e1.
    bind_ok (intake_of full ns) _ v e1 (λ t is e2.
    let tree : ns ≡ ms = cc in
    let same : ◌≡◌ {A = Served} (record { inventory = inventory_of_intake t; notes = t.notes; has_margin = is_key_there Margin ns; system_max = system_max_in ns }) v = cc in
    ap (λ (i : Members). plain_intake (bare_members i)) (sym tree) ∙ bare_intake ns t is
    ∙ ap (λ (x : Served). Ok (record { forest = x.inventory.forest; secrets = []; lease_ids = []; terms = x.inventory.terms; notes = x.notes })) same))

pub served_secrecy_law : ServedSecrecyLaw
served_secrecy_law bytes other v w alike e f =
    let one = served_is_read bytes alike.tree v alike.reads e in
    let two = served_is_read other alike.other_tree w alike.other_reads f in
    let both = sym one ∙ ap plain_intake alike.same ∙ two in
    let same : ◌≡◌ {A = Intake} (record { forest = v.inventory.forest; secrets = []; lease_ids = []; terms = v.inventory.terms; notes = v.notes }) (record { forest = w.inventory.forest; secrets = []; lease_ids = []; terms = w.inventory.terms; notes = w.notes }) = cc in
    ((ap (λ (i : Intake). i.forest) same, ap (λ (i : Intake). i.terms) same), ap (λ (i : Intake). i.notes) same)

pub secrecy_law : ReadSecrecyLaw
secrecy_law bytes other inventory other_inventory alike e f =
    let one = whole_is bytes inventory e in
    let two = whole_is other other_inventory f in
    let same = served_secrecy_law bytes other one.0 two.0 alike one.1 two.1 in
    (sym (ap (λ (i : Inventory). i.forest) one.2) ∙ same.0.0 ∙ ap (λ (i : Inventory). i.forest) two.2, sym (ap (λ (i : Inventory). i.terms) one.2) ∙ same.0.1 ∙ ap (λ (i : Inventory). i.terms) two.2)
