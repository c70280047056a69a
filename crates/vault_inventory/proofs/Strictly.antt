-- Strictly: what the strict language reads of a text, the full one reads of it too, and it leaves nothing open.
use Rattle.std.proofs.Common.{◌≡◌, ◌==◌, ℕ, ◌+◌, Bool, true, false, cond, ◌&&◌, ◌||◌, List, [], ◌∷◌, ◌++◌, length, Some, None, Option, Result, Ok, Err, refl, sym, ap, ◌∙◌, subst, unwrap_or, bytes_eq, codes, Ordering, Less, Equal, Greater, inl, inr}
use Rattle.std.specs.{Option.is_some, Result.result_ok, List.All, List.list_any, Cmp.Lexicographic.slice_cmp, Cmp.Lexicographic.bytes_decides}
use Rattle.std.specs.Ordering.{nat_cmp, is_eq, match_ordering}
use Rattle.std.proofs.lemmas.Map.Text.{is_eq-slice_cmp}
use Rattle.std.proofs.lemmas.Bool.{and_parts, cases_Bool, cond-false}
use Rattle.std.proofs.lemmas.List.Elements.{All-head, All-nil, All-push, All-tail}
use Rattle.toml.specs.Data.{string, integer, table, Data, Items, no_items, item, Members, no_members, member, get_member}
use Rattle.base_moment.specs.MomentOf as dates
use Rattle.base_moment.specs.{MomentOf.moment_of, declared.moment.TheConstants.LAST}
use Rattle.plan_forest.specs.{declared.forest.TheConstants.MARGIN_MAX, Forest.Forest}
use Rattle.vault_inventory.specs.{declared.limits.TheConstants.SPAN_MAX, declared.limits.TheConstants.SYSTEM_MAX, declared.fault.InvFault.InvFault, declared.key.Key.Key, declared.need.Need.TheVariants.Always}
use Rattle.vault_inventory.specs.{declared.note.EntryNote.EntryNote, declared.row.Life.Life, declared.row.TableRow.TableRow, declared.terms.Terms.Terms, Languages.strict, Languages.full, Needs.is_for_good, Laws.IsClosed, Laws.StrictLaw}
use Rattle.vault_inventory.specs.declared.fault.InvFault.TheVariants.{BadValue, UnknownKey}
use Rattle.vault_inventory.specs.declared.key.Key.TheVariants.{SystemMax, Margin, Token, Lease, Issued, End, Renewable, Increment, Period, MaxTtl, ExplicitMaxTtl, Reissued, Need, SecretFile, LeaseIdFile}
use Rattle.vault_inventory.specs.Keys.{all_keys, is_one_of, key_text, lease_keys, token_keys, top_keys}
use Rattle.vault_inventory.specs.Values.{alone_if, end_value, flag_value, has_if, is_always, is_key_there, moment_value, need, only, path, read_if, span, tables, until_if, value_at, whole}
use Rattle.vault_inventory.specs.Intake.{Intake, empty_intake, inventory_of_intake}
use Rattle.vault_inventory.specs.Rows.{file_at, lease_row, lease_terms, life_of_table, token_row, token_terms}
use Rattle.vault_inventory.specs.Inventory.{document_tree, entered_by, intake_of, lease_entered, read_inventory, read_served, read_strict, served_of, system_max_in, token_entered}
use Rattle.vault_inventory.specs.Served.{Served, first_open, inventory_if_whole, open_fault, unless}
use Rattle.vault_inventory.specs.declared.need.Need as needs
use Rattle.vault_inventory.proofs.{Chains.bind_ok, Chains.follow, Entered.intake_keeps, Parts.lease_parts, Parts.token_parts, Rowed.only_is}
use Rattle.vault_inventory.proofs.Taken.{KeepsIt, lease_entered_ok, token_entered_ok}

-- ---- a value that one reader reads, another reads alike

abbrev Lifts : {A : Type 0} → (Data → Option A) → (Data → Option A) → Type 0
Lifts {A = A} f g = (d : Data) (x : A) → f d ≡ Some x → g d ≡ Some x

abbrev taken : {A : Type 0} → Option ℕ → Key → Option A → Result (Option A) InvFault
taken place key o = elim o [ Some x ↦ Ok (Some x) | None ↦ Err (BadValue place key) ]

taken_lifts : {A : Type 0} (place : Option ℕ) (key : Key) (a b found : Option A) → ((x : A) → a ≡ Some x → b ≡ Some x) → taken place key a ≡ Ok found → taken place key b ≡ Ok found
taken_lifts place key None b found lifts e = absurd cc
taken_lifts {A = A} place key (Some x) b found lifts e = ap (taken place key) (lifts x refl) ∙ e

read_lifts : {A : Type 0} (f g : Data → Option A) → Lifts f g → (place : Option ℕ) (key : Key) (o : Option Data) (found : Option A) → read_if f place key o ≡ Ok found → read_if g place key o ≡ Ok found
read_lifts f g lifts place key None found e = e
read_lifts f g lifts place key (Some d) found e = taken_lifts place key (f d) (g d) found (lifts d) e

value_lifts : {A : Type 0} (f g : Data → Option A) → Lifts f g → (place : Option ℕ) (key : Key) (ms : Members) (found : Option A) → value_at f place key ms ≡ Ok found → value_at g place key ms ≡ Ok found
value_lifts f g lifts place key ms found e = read_lifts f g lifts place key (get_member (key_text key) ms) found e

span_lifts : (low high : ℕ) → Lifts (span strict low high) (span full low high)
span_lifts low high (string s) x e = absurd cc
span_lifts low high _ x e = e

-- `always` is no date
no_date : result_ok (moment_of (codes "always")) ≡ None
unfolding moment_of dates.stamp_of dates.two_of
no_date = refl

no_dates : (s : List ℕ) (x : needs.Need) → is_always s ≡ true → until_if (result_ok (moment_of s)) ≡ Some x → ⊥
unfolding is_always
no_dates s x word e =
    let same : s ≡ codes "always" = (bytes_decides s (codes "always")).0 word in
    let none : until_if (result_ok (moment_of s)) ≡ None = ap (λ (t : List ℕ). until_if (result_ok (moment_of t))) same ∙ ap until_if no_date in cc

need_lifts : Lifts (need strict) (need full)
need_lifts (string s) x e =
    elim (cases_Bool (is_always s)) [
      | inl word ↦ absurd (no_dates s x word e)
      | inr other ↦ cond-false (is_always s) (Some Always) (until_if (result_ok (moment_of s))) other ∙ e
    ]
need_lifts _ x e = e

span_read : (low high : ℕ) (place : Option ℕ) (key : Key) (ms : Members) (found : Option ℕ) → value_at (span strict low high) place key ms ≡ Ok found → value_at (span full low high) place key ms ≡ Ok found
span_read low high place key ms found e = value_lifts (span strict low high) (span full low high) (span_lifts low high) place key ms found e

-- ---- keys

any_more : (test : Key → Bool) (keys : List Key) (key : Key) → list_any test keys ≡ true → list_any test (keys ++ key ∷ []) ≡ true
any_more test [] key e = absurd cc
any_more test (k ∷ keys) key e = either (test k) (list_any test keys) e (any_more test keys key)
  where
    either : (a b : Bool) {c : Bool} → a || b ≡ true → (b ≡ true → c ≡ true) → a || c ≡ true
    either true b e more = refl
    either false b e more = more e

keys_lift : (test other : List ℕ → Bool) → ((k : List ℕ) → test k ≡ true → other k ≡ true) → (ms : Members) → all_keys test ms ≡ true → all_keys other ms ≡ true
keys_lift test other lifts no_members e = refl
keys_lift test other lifts (member k d ms) e =
    let parts = and_parts (test k) (all_keys test ms) e in
    ap (λ b. b && all_keys other ms) (lifts k parts.0) ∙ keys_lift test other lifts ms parts.1

only_lifts : (keys : List Key) (key : Key) (place : Option ℕ) (ms : Members) (u : Unit {0}) → only keys place ms ≡ Ok u → only (keys ++ key ∷ []) place ms ≡ Ok u
only_lifts keys key place ms u e =
    let all = keys_lift (is_one_of keys) (is_one_of (keys ++ key ∷ [])) (λ text. any_more (λ k. bytes_eq (key_text k) text) keys key) ms (only_is keys place ms u e) in
    ap (λ b. cond b (Ok tt) (Err (UnknownKey place))) all

-- the two keys that the full language has besides
file_lifts : (keys : List Key) (key : Key) (place : Option ℕ) (ms : Members) (u : Unit {0}) → only keys place ms ≡ Ok u → only ((keys ++ key ∷ []) ++ Reissued ∷ []) place ms ≡ Ok u
file_lifts keys key place ms u e = only_lifts (keys ++ key ∷ []) Reissued place ms u (only_lifts keys key place ms u e)

-- a key that no key of the table may be is not there
absent_past : (o : Ordering) (d : Data) (x : Option Data) → (is_eq o ≡ true → ⊥) → x ≡ None → match_ordering o x (Some d) x ≡ None
absent_past Less d x other e = e
absent_past Equal d x other e = absurd (other refl)
absent_past Greater d x other e = e

absent : (test : List ℕ → Bool) (k : List ℕ) → test k ≡ false → (ms : Members) → all_keys test ms ≡ true → get_member k ms ≡ None
absent test k unknown no_members e = refl
absent test k unknown (member l d ms) e =
    let parts = and_parts (test l) (all_keys test ms) e in
    absent_past (slice_cmp nat_cmp k l) d (get_member k ms)
    (λ same. let one : k ≡ l = (bytes_decides k l).0 (sym (is_eq-slice_cmp k l) ∙ same) in let both : false ≡ true = sym unknown ∙ ap test one ∙ parts.0 in cc)
    (absent test k unknown ms parts.1)

absent_file : (index : ℕ) (key : Key) (beside : Bool) (ms : Members) (file : Option (List ℕ)) → get_member (key_text key) ms ≡ None → file_at index key beside ms ≡ Ok file → file ≡ None
absent_file index key beside ms file none e =
    bind_ok (value_at path (Some index) key ms) _ file e (λ o a e1.
    bind_ok (alone_if beside index key (is_some o)) _ file e1 (λ u b e2.
    let same : o ≡ file = cc in
    let there : read_if path (Some index) key None ≡ Ok o = ap (read_if path (Some index) key) (sym none) ∙ a in
    let nothing : None ≡ o = cc in
    sym (nothing ∙ same)))

-- ---- what has to be there in the strict language

must_here : (index : ℕ) (key : Key) (here : Bool) (u : Unit {0}) → has_if true index key here ≡ Ok u → here ≡ true
must_here index key true u e = refl
must_here index key false u e = absurd cc

must_lifts : (must : Bool) (index : ℕ) (key : Key) (here : Bool) → here ≡ true → has_if must index key here ≡ Ok tt
must_lifts true index key here is = ap (has_if true index key) is
must_lifts false index key here is = refl

-- ---- the parts of a row

life_strict : (index : ℕ) (ms : Members) (life : Life) → life_of_table strict index ms ≡ Ok life → (life_of_table full index ms ≡ Ok life) × (life.is_told ≡ true)
unfolding life_of_table
life_strict index ms life e =
    bind_ok (value_at moment_value (Some index) Issued ms) _ life e (λ issued a e1.
    bind_ok (has_if true index Issued (is_some issued)) _ life e1 (λ u b e2.
    bind_ok (value_at end_value (Some index) End ms) _ life e2 (λ ends c e3.
    bind_ok (has_if true index End (is_some ends)) _ life e3 (λ w d e4.
    bind_ok (value_at flag_value (Some index) Renewable ms) _ life e4 (λ renewable f e5.
    let made : Life = record { issued = unwrap_or issued 0; end = unwrap_or ends 0; renewable = unwrap_or renewable true; is_told = is_some issued } in
    let same : made ≡ life = cc in
    let issue = must_here index Issued (is_some issued) u b in
    let ending = must_here index End (is_some ends) w d in (
      follow _ issued _ _ a
          (follow _ tt _ _ (must_lifts (is_key_there End ms) index Issued (is_some issued) issue)
          (follow _ ends _ _ c
          (follow _ tt _ _ (must_lifts (is_some issued) index End (is_some ends) ending)
          (follow _ renewable _ _ f e5)))),
      ap (λ (x : Life). x.is_told) (sym same) ∙ issue,
    ))))))

token_terms_strict : (system_max index issued : ℕ) (ms : Members) (t : Terms) → token_terms strict system_max index issued ms ≡ Ok t → token_terms full system_max index issued ms ≡ Ok t
unfolding token_terms
token_terms_strict system_max index issued ms t e =
    bind_ok (value_at (span strict 0 SPAN_MAX) (Some index) Increment ms) _ t e (λ increment a e1.
    bind_ok (value_at (span strict 0 SPAN_MAX) (Some index) Period ms) _ t e1 (λ period b e2.
    bind_ok (has_if (unwrap_or period 0 == 0) index Increment (is_some increment)) _ t e2 (λ u c e3.
    bind_ok (value_at (span strict 0 SPAN_MAX) (Some index) MaxTtl ms) _ t e3 (λ max_ttl d e4.
    bind_ok (value_at (span strict 0 SPAN_MAX) (Some index) ExplicitMaxTtl ms) _ t e4 (λ explicit_max f e5.
    bind_ok (value_at flag_value (Some index) Reissued ms) _ t e5 (λ reissued g e6.
    follow _ increment _ _ (span_read 0 SPAN_MAX (Some index) Increment ms increment a)
    (follow _ period _ _ (span_read 0 SPAN_MAX (Some index) Period ms period b)
    (follow _ max_ttl _ _ (span_read 0 SPAN_MAX (Some index) MaxTtl ms max_ttl d)
    (follow _ explicit_max _ _ (span_read 0 SPAN_MAX (Some index) ExplicitMaxTtl ms explicit_max f)
    (follow _ reissued _ _ g e6))))))))))

lease_terms_strict : (system_max index issued : ℕ) (ms : Members) (t : Terms) → lease_terms strict system_max index issued ms ≡ Ok t → lease_terms full system_max index issued ms ≡ Ok t
unfolding lease_terms
lease_terms_strict system_max index issued ms t e =
    bind_ok (value_at (span strict 0 SPAN_MAX) (Some index) Increment ms) _ t e (λ increment a e1.
    bind_ok (has_if true index Increment (is_some increment)) _ t e1 (λ u b e2.
    bind_ok (value_at (span strict 0 SPAN_MAX) (Some index) MaxTtl ms) _ t e2 (λ max_ttl d e3.
    bind_ok (value_at flag_value (Some index) Reissued ms) _ t e3 (λ reissued g e4.
    follow _ increment _ _ (span_read 0 SPAN_MAX (Some index) Increment ms increment a)
    (follow _ max_ttl _ _ (span_read 0 SPAN_MAX (Some index) MaxTtl ms max_ttl d)
    (follow _ reissued _ _ g e4))))))

-- a need of the strict language is a moment
until_good : (o : Option ℕ) → is_for_good (until_if o) ≡ false
until_good None = refl
until_good (Some n) = refl

need_good : (d : Data) → is_for_good (need strict d) ≡ false
need_good (string s) = until_good (result_ok (moment_of s))
need_good (integer z) = until_good (whole 0 LAST (integer z))
need_good _ = refl

taken_good : (place : Option ℕ) (key : Key) (o found : Option needs.Need) → is_for_good o ≡ false → taken place key o ≡ Ok found → is_for_good found ≡ false
taken_good place key None found good e = absurd cc
taken_good place key (Some x) found good e = let same : Some x ≡ found = cc in ap is_for_good (sym same) ∙ good

read_good : (place : Option ℕ) (key : Key) (o : Option Data) (found : Option needs.Need) → read_if (need strict) place key o ≡ Ok found → is_for_good found ≡ false
read_good place key None found e = let same : None ≡ found = cc in ap is_for_good (sym same)
read_good place key (Some d) found e = taken_good place key (need strict d) found (need_good d) e

-- ---- a row

token_strict : (system_max : ℕ) (g : Forest) (ms : Members) (row : TableRow) → token_row strict system_max g ms ≡ Ok row → (token_row full system_max g ms ≡ Ok row) × IsClosed row.note
unfolding token_row
token_strict system_max g ms row e =
    let p = token_parts strict system_max g ms row e in
    let n = length g.entries in
    let life = life_strict n ms p.life p.life_read in
    let none = absent (is_one_of (token_keys strict)) (key_text SecretFile) refl ms (only_is (token_keys strict) (Some n) ms p.known p.known_read) in (
      follow _ p.known _ _ (file_lifts (token_keys strict) SecretFile (Some n) ms p.known p.known_read)
          (follow _ p.name_if _ _ p.name_read
          (follow _ p.name _ _ p.name_there
          (follow _ p.parent _ _ p.parent_read
          (follow _ p.life _ _ life.0
          (follow _ p.terms _ _ (token_terms_strict system_max n p.life.issued ms p.terms p.terms_read)
          (follow _ p.need_if _ _ (value_lifts (need strict) (need full) need_lifts (Some n) Need ms p.need_if p.need_read)
          (follow _ p.secret _ _ p.secret_read
          (follow _ p.file _ _ p.file_read (ap (λ (r : TableRow). Ok r) p.made))))))))),
      subst (λ (r : TableRow). IsClosed r.note) p.made (record {
        told = life.1;
        until = read_good (Some n) Need (get_member (key_text Need) ms) p.need_if p.need_read;
        file = absent_file n SecretFile (is_some p.secret) ms p.file none p.file_read;
      }),
    )

lease_strict : (system_max : ℕ) (g : Forest) (ms : Members) (row : TableRow) → lease_row strict system_max g ms ≡ Ok row → (lease_row full system_max g ms ≡ Ok row) × IsClosed row.note
unfolding lease_row
lease_strict system_max g ms row e =
    let p = lease_parts strict system_max g ms row e in
    let n = length g.entries in
    let life = life_strict n ms p.life p.life_read in
    let none = absent (is_one_of (lease_keys strict)) (key_text LeaseIdFile) refl ms (only_is (lease_keys strict) (Some n) ms p.known p.known_read) in (
      follow _ p.known _ _ (file_lifts (lease_keys strict) LeaseIdFile (Some n) ms p.known p.known_read)
          (follow _ p.name_if _ _ p.name_read
          (follow _ p.name _ _ p.name_there
          (follow _ p.token_if _ _ p.token_read
          (follow _ p.token _ _ p.token_there
          (follow _ p.life _ _ life.0
          (follow _ p.terms _ _ (lease_terms_strict system_max n p.life.issued ms p.terms p.terms_read)
          (follow _ p.need_if _ _ (value_lifts (need strict) (need full) need_lifts (Some n) Need ms p.need_if p.need_read)
          (follow _ p.lease_id _ _ p.lease_id_read
          (follow _ p.file _ _ p.file_read (ap (λ (r : TableRow). Ok r) p.made)))))))))),
      subst (λ (r : TableRow). IsClosed r.note) p.made (record {
        told = life.1;
        until = read_good (Some n) Need (get_member (key_text Need) ms) p.need_if p.need_read;
        file = absent_file n LeaseIdFile (is_some p.lease_id) ms p.file none p.file_read;
      }),
    )

-- ---- a document

abbrev StepLifts : (Intake → Members → Result Intake InvFault) → (Intake → Members → Result Intake InvFault) → Type 0
StepLifts step other = (s t : Intake) (ms : Members) → step s ms ≡ Ok t → other s ms ≡ Ok t

tokens_lift : (system_max : ℕ) → StepLifts (token_entered strict system_max) (token_entered full system_max)
unfolding token_entered
tokens_lift system_max s t ms e = bind_ok (token_row strict system_max s.forest ms) _ t e (λ row a e1. follow _ row _ _ (token_strict system_max s.forest ms row a).0 e1)

leases_lift : (system_max : ℕ) → StepLifts (lease_entered strict system_max) (lease_entered full system_max)
unfolding lease_entered
leases_lift system_max s t ms e = bind_ok (lease_row strict system_max s.forest ms) _ t e (λ row a e1. follow _ row _ _ (lease_strict system_max s.forest ms row a).0 e1)

all_lift : (step other : Intake → Members → Result Intake InvFault) → StepLifts step other → (key : Key) (s t : Intake) (ds : Items) → entered_by step key s ds ≡ Ok t → entered_by other key s ds ≡ Ok t
all_lift step other lifts key s t no_items e = e
all_lift step other lifts key s t (item (table ms) ds) e = bind_ok (step s ms) _ t e (λ u a e1. follow _ u _ _ (lifts s u ms a) (all_lift step other lifts key u t ds e1))
all_lift step other lifts key s t (item _ ds) e = absurd cc

intake_strict : (ms : Members) (t : Intake) → intake_of strict ms ≡ Ok t → intake_of full ms ≡ Ok t
unfolding intake_of
intake_strict ms t e =
    bind_ok (only top_keys None ms) _ t e (λ known k e1.
    bind_ok (value_at (span strict 1 SPAN_MAX) None SystemMax ms) _ t e1 (λ system_max a e2.
    bind_ok (value_at (span strict 1 MARGIN_MAX) None Margin ms) _ t e2 (λ margin b e3.
    bind_ok (value_at tables None Token ms) _ t e3 (λ tokens c e4.
    bind_ok (value_at tables None Lease ms) _ t e4 (λ leases d e5.
    bind_ok (entered_by (token_entered strict (unwrap_or system_max SYSTEM_MAX)) Token (empty_intake (unwrap_or margin 1)) (unwrap_or tokens no_items)) _ t e5 (λ u f e6.
    let most = unwrap_or system_max SYSTEM_MAX in
    follow _ known _ _ k
    (follow _ system_max _ _ (span_read 1 SPAN_MAX None SystemMax ms system_max a)
    (follow _ margin _ _ (span_read 1 MARGIN_MAX None Margin ms margin b)
    (follow _ tokens _ _ c
    (follow _ leases _ _ d
    (follow _ u _ _ (all_lift (token_entered strict most) (token_entered full most) (tokens_lift most) Token (empty_intake (unwrap_or margin 1)) u (unwrap_or tokens no_items) f)
    (all_lift (lease_entered strict most) (lease_entered full most) (leases_lift most) Lease u t (unwrap_or leases no_items) e6))))))))))))

abbrev AreClosed : Intake → Type 0
AreClosed s = All IsClosed s.notes

tokens_closed : (system_max : ℕ) → KeepsIt AreClosed (token_entered strict system_max)
tokens_closed system_max s t ms closed e =
    let taken = token_entered_ok strict system_max s t ms e in
    subst AreClosed taken.3 (All-push IsClosed s.notes taken.0.note closed (token_strict system_max s.forest ms taken.0 taken.1).1)

leases_closed : (system_max : ℕ) → KeepsIt AreClosed (lease_entered strict system_max)
leases_closed system_max s t ms closed e =
    let taken = lease_entered_ok strict system_max s t ms e in
    subst AreClosed taken.3 (All-push IsClosed s.notes taken.0.note closed (lease_strict system_max s.forest ms taken.0 taken.1).1)

intake_closed : (ms : Members) (t : Intake) → intake_of strict ms ≡ Ok t → AreClosed t
intake_closed ms t e = intake_keeps AreClosed AreClosed (λ margin within. All-nil IsClosed) (λ s closed. closed) strict tokens_closed leases_closed ms t e

-- ---- a text

never_open : (index : ℕ) (notes : List EntryNote) → All IsClosed notes → first_open index notes ≡ None
never_open index [] closed = refl
never_open index (note ∷ notes) closed =
    let here = All-head IsClosed note notes closed in
    ap (λ (o : Option InvFault). or_later o (first_open (index + 1) notes)) (ap (λ b. told_fault b note.is_always) here.told ∙ ap (told_fault true) here.until) ∙ never_open (index + 1) notes (All-tail IsClosed note notes closed)
  where
    or_later : Option InvFault → Option InvFault → Option InvFault
    or_later o later = elim o [ Some fault ↦ Some fault | None ↦ later ]

    told_fault : Bool → Bool → Option InvFault
    told_fault told always = open_fault index (record note { is_told = told; is_always = always })

pub strict_law : StrictLaw
unfolding read_strict read_served read_inventory inventory_if_whole served_of
strict_law bytes v e =
    bind_ok (document_tree bytes) _ v e (λ ms read e1.
    bind_ok (intake_of strict ms) _ v e1 (λ t a e2.
    let same : ◌≡◌ {A = Served} (record { inventory = inventory_of_intake t; notes = t.notes; has_margin = is_key_there Margin ms; system_max = system_max_in ms }) v = cc in
    let served : read_served bytes ≡ Ok v = follow _ ms _ _ read (follow _ t _ _ (intake_strict ms t a) e2) in
    let closed : All IsClosed v.notes = subst (λ (x : Served). All IsClosed x.notes) same (intake_closed ms t a) in
    (served, follow _ v _ _ served (ap (unless v.inventory) (never_open 0 v.notes closed)), closed)))
