-- Sharing: the credentials of the rows from a place on, by kind, and whether two of a kind have one. For `is_any_shared`.
use Rattle.std.proofs.Common.{◌≡◌, ◌∙◌, ℕ, suc, ◌+◌, ◌<◌, Bool, true, false, not, cond, ◌&&◌, ◌||◌, List, [], ◌∷◌, bytes_eq, drop, get_or, length, arith, refl, sym, ap, subst}
use Rattle.std.proofs.{Math.ListN.drop_of_length-le, Math.Seq.drop-cons}
use Rattle.std.proofs.lemmas.Map.Text.{is_eq-slice_cmp}
use Rattle.std.specs.{Bool.beq, Cmp.Lexicographic.slice_cmp, List.list_any, declared.cmp.Ordering.Ordering}
use Rattle.std.specs.BTreeSet.{BTreeSet, Updates, contains}
use Rattle.std.specs.Ordering.{bool_cmp, is_eq, nat_cmp, ordering_then}
use Rattle.std.specs.declared.cmp.Ordering.TheVariants.{Less, Equal, Greater}
use Rattle.plan_forest.specs.Push.{is_lease}
use Rattle.state_changes.specs.declared.row.Row.{Row}
use Rattle.agent_ledger.specs.{Shared.has_of_kind, Shared.is_any_shared, code.OfKinds.AreCredentialsOf, code.OfKinds.of_kind_cmp, declared.shared.OfKind.OfKind}

-- ---- of one row

both_equal : (o p : Ordering) → is_eq (ordering_then o p) ≡ (is_eq o && is_eq p)
both_equal Less p = refl
both_equal Equal p = refl
both_equal Greater p = refl

kinds_equal : (a b : Bool) → is_eq (bool_cmp a b) ≡ beq a b
kinds_equal true true = refl
kinds_equal true false = refl
kinds_equal false true = refl
kinds_equal false false = refl

or_cond : (b c : Bool) → cond b true c ≡ (b || c)
or_cond true c = refl
or_cond false c = refl

not_not : (b : Bool) → not (not b) ≡ b
not_not true = refl
not_not false = refl

-- a key is that of a row that has this credential, of this kind
is_its_key : (row : Row) (key : OfKind) → key.is_lease ≡ is_lease row.kind → key.credential ≡ row.credential → (kind : Bool) (credential : List ℕ)
    → is_eq (of_kind_cmp key (record { is_lease = kind; credential = credential })) ≡ has_of_kind kind credential row
is_its_key row key kinds held kind credential =
    both_equal (bool_cmp key.is_lease kind) (slice_cmp nat_cmp key.credential credential)
    ∙ ap (λ b. b && is_eq (slice_cmp nat_cmp key.credential credential)) (kinds_equal key.is_lease kind ∙ ap (λ k. beq k kind) kinds)
    ∙ ap (λ b. beq (is_lease row.kind) kind && b) (is_eq-slice_cmp key.credential credential ∙ ap (λ c. bytes_eq c credential) held)

held_more : (set new : BTreeSet OfKind) (row : Row) (key : OfKind) (rows : List Row) → key.is_lease ≡ is_lease row.kind → key.credential ≡ row.credential
    → Updates of_kind_cmp set new key true → AreCredentialsOf set rows → AreCredentialsOf new (row ∷ rows)
held_more set new row key rows kinds held updates are = λ kind credential.
    let q : OfKind = record { is_lease = kind; credential = credential } in
    updates.0 q ∙ or_cond (is_eq (of_kind_cmp key q)) (contains of_kind_cmp set q)
    ∙ ap (λ b. b || contains of_kind_cmp set q) (is_its_key row key kinds held kind credential)
    ∙ ap (λ b. has_of_kind kind credential row || b) (are kind credential)

shared_so : (set : BTreeSet OfKind) (row : Row) (key : OfKind) (rows : List Row) (shared fresh : Bool) → key.is_lease ≡ is_lease row.kind → key.credential ≡ row.credential
    → fresh ≡ not (contains of_kind_cmp set key) → shared ≡ not fresh → AreCredentialsOf set rows → shared ≡ list_any (has_of_kind (is_lease row.kind) row.credential) rows
shared_so set row key rows shared fresh kinds held new out are =
    out ∙ ap not new ∙ not_not (contains of_kind_cmp set key)
    ∙ ap (λ k. contains of_kind_cmp set (record { is_lease = k; credential = key.credential })) kinds
    ∙ ap (λ c. contains of_kind_cmp set (record { is_lease = is_lease row.kind; credential = c })) held
    ∙ are (is_lease row.kind) row.credential

-- whether a later one has it, and the credentials with it
pub one_more : (set new : BTreeSet OfKind) (row : Row) (key : OfKind) (rows : List Row) (shared fresh : Bool) → key.is_lease ≡ is_lease row.kind → key.credential ≡ row.credential
    → fresh ≡ not (contains of_kind_cmp set key) → shared ≡ not fresh → Updates of_kind_cmp set new key true → AreCredentialsOf set rows
    → (shared ≡ list_any (has_of_kind (is_lease row.kind) row.credential) rows) × AreCredentialsOf new (row ∷ rows)
one_more set new row key rows shared fresh kinds held is_new out updates are =
    (shared_so set row key rows shared fresh kinds held is_new out are, held_more set new row key rows kinds held updates are)

-- ---- from a place on

pub none_shared : (rows : List Row) → false ≡ is_any_shared (drop (length rows) rows)
unfolding is_any_shared
none_shared rows = sym (ap is_any_shared (drop_of_length-le rows {i = length rows} (omega arith)))

pub none_held : (set : BTreeSet OfKind) (rows : List Row) → set.keys ≡ [] → AreCredentialsOf set (drop (length rows) rows)
none_held set rows none =
    subst (AreCredentialsOf set) (sym (drop_of_length-le rows {i = length rows} (omega arith)))
    (λ kind credential. ap (list_any (λ k. is_eq (of_kind_cmp (record { is_lease = kind; credential = credential }) k))) none)

-- one row more in front
in_front : (rows : List Row) (k i : ℕ) (x : Row) → k ≡ i + 1 → i < length rows → x ≡ get_or rows i x → drop i rows ≡ x ∷ drop k rows
in_front rows k i x one h read =
    let more : suc i ≡ k = omega (arith, one) in
    drop-cons rows i x h ∙ ap (λ (r : Row). r ∷ drop (suc i) rows) (sym read) ∙ ap (λ n. x ∷ drop n rows) more

pub any_next : (rows : List Row) (k i : ℕ) (x : Row) (is_any shared : Bool) → k ≡ i + 1 → i < length rows → x ≡ get_or rows i x
    → shared ≡ list_any (has_of_kind (is_lease x.kind) x.credential) (drop k rows) → is_any ≡ is_any_shared (drop k rows) → (is_any || shared) ≡ is_any_shared (drop i rows)
unfolding is_any_shared
any_next rows k i x is_any shared one h read here so =
    ap (λ b. b || shared) so ∙ ap (λ b. is_any_shared (drop k rows) || b) here ∙ ap is_any_shared (sym (in_front rows k i x one h read))

pub held_next : (set : BTreeSet OfKind) (rows : List Row) (k i : ℕ) (x : Row) → k ≡ i + 1 → i < length rows → x ≡ get_or rows i x → AreCredentialsOf set (x ∷ drop k rows) → AreCredentialsOf set (drop i rows)
held_next set rows k i x one h read are = subst (AreCredentialsOf set) (sym (in_front rows k i x one h read)) are

pub all_shared : (rows : List Row) (i : ℕ) (is_any : Bool) → i ≡ 0 → is_any ≡ is_any_shared (drop i rows) → is_any ≡ is_any_shared rows
all_shared rows i is_any none so = so ∙ ap (λ n. is_any_shared (drop n rows)) none
