-- What a sweep has kept, at the same moment and at a later one: for the laws of `swept_rows_live` and `swept_later`.
use Rattle.std.proofs.Common.{◌≡◌, ℕ, zero, suc, ◌+◌, ◌-◌, ◌≤◌, Bool, true, false, cond, ◌&&◌, List, [], ◌∷◌, Option, Some, None, bytes_eq, nat_lt, refl, sym, ap, ◌∙◌, subst, arith, ⊎_elim}
use Rattle.std.proofs.lemmas.Bool.Decides.{nat_tests}
use Rattle.std.proofs.lemmas.Bool.{and_from, cases_Bool, cond-true, cond-false}
use Rattle.std.specs.List.{filter, find, list_all}
use Rattle.plan_forest.specs.declared.forest.TheConstants.{MAX_ENTRIES}
use Rattle.broker_rule.specs.{declared.row.BrokerRow.BrokerRow, Rows.row_named}
use Rattle.broker_rule.specs.Sweep.{lives, lives_of, parent_passes, passes, swept}
use Rattle.broker_table.specs.Laws.{SweptLater, SweptRowsLive}

first : (a b : Bool) → a && b ≡ true → a ≡ true
first true b e = refl
first false b e = e

second : (a b : Bool) → a && b ≡ true → b ≡ true
second true b e = e
second false b e = absurd cc

-- a parent that passes one test passes another, where each row that passes the one passes the other and is found there
passes_too : (f g : BrokerRow → Bool) (o p : Option BrokerRow) → ((q : BrokerRow) → o ≡ Some q → f q ≡ true → (p ≡ Some q) × (g q ≡ true)) → passes f o ≡ true → passes g p ≡ true
passes_too f g None p kept pass = absurd cc
passes_too f g (Some q) p kept pass = let there = kept q refl pass in ap (passes g) there.0 ∙ there.1

parent_too :
    (f g : BrokerRow → Bool) (rows some : List BrokerRow) (parent : Option (List ℕ)) →
    ((name : List ℕ) (q : BrokerRow) → row_named rows name ≡ Some q → f q ≡ true → (row_named some name ≡ Some q) × (g q ≡ true)) →
    parent_passes f rows parent ≡ true → parent_passes g some parent ≡ true
parent_too f g rows some None kept pass = refl
parent_too f g rows some (Some name) kept pass = passes_too f g (row_named rows name) (row_named some name) (kept name) pass

-- one row more in the chain is no harm
longer : (n : ℕ) (rows : List BrokerRow) (t : ℕ) (r : BrokerRow) → lives_of n rows t r ≡ true → lives_of (suc n) rows t r ≡ true
unfolding lives_of
longer zero rows t r e = absurd cc
longer (suc n) rows t r e =
    let test = nat_lt t r.end in
    and_from test (parent_passes (lives_of (suc n) rows t) rows r.parent)
    (first test (parent_passes (lives_of n rows t) rows r.parent) e)
    (parent_too (lives_of n rows t) (lives_of (suc n) rows t) rows rows r.parent (λ name q found pass. (found, longer n rows t q pass)) (second test (parent_passes (lives_of n rows t) rows r.parent) e))

long_enough : (k n m : ℕ) (rows : List BrokerRow) (t : ℕ) (r : BrokerRow) → k + n ≡ m → lives_of n rows t r ≡ true → lives_of m rows t r ≡ true
long_enough zero n m rows t r is e = subst (λ j. lives_of j rows t r ≡ true) (let same : n ≡ m = omega arith in same) e
long_enough (suc k) n m rows t r is e = long_enough k (suc n) m rows t r (omega arith) (longer n rows t r e)

-- a row that a look-up finds is found among those that pass a test, if it passes
found_kept : (g f : BrokerRow → Bool) (rows : List BrokerRow) (q : BrokerRow) → find g rows ≡ Some q → f q ≡ true → find g (filter f rows) ≡ Some q
found_kept g f [] q e fq = e
found_kept g f (r ∷ rows) q e fq =
    ⊎_elim
    (λ here.
    let same : Some r ≡ Some q = sym (cond-true (g r) (Some r) (find g rows) here) ∙ e in
    let is : r ≡ q = cc in
    let stays : f r ≡ true = ap f is ∙ fq in
    ap (find g) (cond-true (f r) (r ∷ filter f rows) (filter f rows) stays) ∙ cond-true (g r) (Some r) (find g (filter f rows)) here ∙ same)
    (λ there.
    let more : find g rows ≡ Some q = sym (cond-false (g r) (Some r) (find g rows) there) ∙ e in
    let later = found_kept g f rows q more fq in
    ⊎_elim
    (λ stays. ap (find g) (cond-true (f r) (r ∷ filter f rows) (filter f rows) stays) ∙ cond-false (g r) (Some r) (find g (filter f rows)) there ∙ later)
    (λ goes. ap (find g) (cond-false (f r) (r ∷ filter f rows) (filter f rows) goes) ∙ later)
    (cases_Bool (f r)))
    (cases_Bool (g r))

named_kept : (f : BrokerRow → Bool) (rows : List BrokerRow) (name : List ℕ) (q : BrokerRow) → row_named rows name ≡ Some q → f q ≡ true → row_named (filter f rows) name ≡ Some q
unfolding row_named
named_kept f rows name q e fq = found_kept (λ r. bytes_eq r.name name) f rows q e fq

at_most : (n : ℕ) (rows : List BrokerRow) (t : ℕ) (r : BrokerRow) → n ≤ MAX_ENTRIES → lives_of n rows t r ≡ true → lives rows t r ≡ true
unfolding lives
at_most n rows t r h e = long_enough (MAX_ENTRIES - n) n MAX_ENTRIES rows t r (omega arith) e

kept_by_sweep : (n : ℕ) (rows : List BrokerRow) (t : ℕ) (name : List ℕ) (q : BrokerRow) → n ≤ MAX_ENTRIES → row_named rows name ≡ Some q → lives_of n rows t q ≡ true → row_named (swept t rows) name ≡ Some q
unfolding swept
kept_by_sweep n rows t name q h found pass = named_kept (lives rows t) rows name q found (at_most n rows t q h pass)

-- ---- a later sweep of what an earlier one has kept

ends_later : (t m e : ℕ) → t ≤ m → nat_lt m e ≡ true → nat_lt t e ≡ true
ends_later t m e le h = grind (arith, nat_tests)

-- what lives later lives now
sooner : (n : ℕ) (rows : List BrokerRow) (t m : ℕ) (r : BrokerRow) → t ≤ m → lives_of n rows m r ≡ true → lives_of n rows t r ≡ true
unfolding lives_of
sooner zero rows t m r le e = absurd cc
sooner (suc n) rows t m r le e =
    let test = nat_lt m r.end in
    and_from (nat_lt t r.end) (parent_passes (lives_of n rows t) rows r.parent)
    (ends_later t m r.end le (first test (parent_passes (lives_of n rows m) rows r.parent) e))
    (parent_too (lives_of n rows m) (lives_of n rows t) rows rows r.parent (λ name q found pass. (found, sooner n rows t m q le pass)) (second test (parent_passes (lives_of n rows m) rows r.parent) e))

-- a row that lives later among all rows lives later among those that live now
still : (n : ℕ) (rows : List BrokerRow) (t m : ℕ) (r : BrokerRow) → t ≤ m → n ≤ MAX_ENTRIES → lives_of n rows m r ≡ true → lives_of n (swept t rows) m r ≡ true
unfolding lives_of
still zero rows t m r le h e = absurd cc
still (suc n) rows t m r le h e =
    let test = nat_lt m r.end in
    and_from test (parent_passes (lives_of n (swept t rows) m) (swept t rows) r.parent)
    (first test (parent_passes (lives_of n rows m) rows r.parent) e)
    (parent_too (lives_of n rows m) (lives_of n (swept t rows) m) rows (swept t rows) r.parent
    (λ name q found pass. (kept_by_sweep n rows t name q (omega arith) found (sooner n rows t m q le pass), still n rows t m q le (omega arith) pass))
    (second test (parent_passes (lives_of n rows m) rows r.parent) e))

lives_still : (rows : List BrokerRow) (t m : ℕ) (r : BrokerRow) → t ≤ m → lives rows m r ≡ true → lives (swept t rows) m r ≡ true
unfolding lives
lives_still rows t m r le e = still MAX_ENTRIES rows t m r le (omega arith) e

-- a parent that passes among some rows passes among all, where each parent that passes another test is the same in both
passes_back : (f g h : BrokerRow → Bool) (o p : Option BrokerRow) → ((q : BrokerRow) → o ≡ Some q → f q ≡ true → (p ≡ Some q) × (g q ≡ true → h q ≡ true)) → passes f o ≡ true → passes g p ≡ true → passes h o ≡ true
passes_back f g h None p same pass e = absurd cc
passes_back f g h (Some q) p same pass e = let there = same q refl pass in there.1 (sym (ap (passes g) there.0) ∙ e)

parent_back :
    (f g h : BrokerRow → Bool) (rows some : List BrokerRow) (parent : Option (List ℕ)) →
    ((name : List ℕ) (q : BrokerRow) → row_named rows name ≡ Some q → f q ≡ true → (row_named some name ≡ Some q) × (g q ≡ true → h q ≡ true)) →
    parent_passes f rows parent ≡ true → parent_passes g some parent ≡ true → parent_passes h rows parent ≡ true
parent_back f g h rows some None same pass e = refl
parent_back f g h rows some (Some name) same pass e = passes_back f g h (row_named rows name) (row_named some name) (same name) pass e

-- a row that lives now, and later among those that live now, lives later among all
back : (n j : ℕ) (rows : List BrokerRow) (t m : ℕ) (r : BrokerRow) → j ≤ MAX_ENTRIES → lives_of j rows t r ≡ true → lives_of n (swept t rows) m r ≡ true → lives_of n rows m r ≡ true
unfolding lives_of
back zero j rows t m r h now e = absurd cc
back (suc n) zero rows t m r h now e = absurd cc
back (suc n) (suc j) rows t m r h now e =
    let test = nat_lt m r.end in
    and_from test (parent_passes (lives_of n rows m) rows r.parent)
    (first test (parent_passes (lives_of n (swept t rows) m) (swept t rows) r.parent) e)
    (parent_back (lives_of j rows t) (lives_of n (swept t rows) m) (lives_of n rows m) rows (swept t rows) r.parent
    (λ name q found pass. (kept_by_sweep j rows t name q (omega arith) found pass, λ later. back n j rows t m q (omega arith) pass later))
    (second (nat_lt t r.end) (parent_passes (lives_of j rows t) rows r.parent) now)
    (second test (parent_passes (lives_of n (swept t rows) m) (swept t rows) r.parent) e))

lives_back : (rows : List BrokerRow) (t m : ℕ) (r : BrokerRow) → lives rows t r ≡ true → lives (swept t rows) m r ≡ true → lives rows m r ≡ true
unfolding lives
lives_back rows t m r now e = back MAX_ENTRIES MAX_ENTRIES rows t m r (omega arith) now e

lives_sooner : (rows : List BrokerRow) (t m : ℕ) (r : BrokerRow) → t ≤ m → lives rows m r ≡ true → lives rows t r ≡ true
unfolding lives
lives_sooner rows t m r le e = sooner MAX_ENTRIES rows t m r le e

one_truth : (a b : Bool) → (a ≡ true → b ≡ true) → (b ≡ true → a ≡ true) → a ≡ b
one_truth true b f g = sym (f refl)
one_truth false true f g = g refl
one_truth false false f g = refl

not_true : (a b : Bool) → (b ≡ true → a ≡ true) → a ≡ false → b ≡ false
not_true a true f e = sym (f refl) ∙ e
not_true a false f e = refl

-- a test of what another has let through, where the third test asks for both
filter_both : (p q r : BrokerRow → Bool) → ((x : BrokerRow) → q x ≡ true → p x ≡ r x) → ((x : BrokerRow) → q x ≡ false → r x ≡ false) → (xs : List BrokerRow) → filter p (filter q xs) ≡ filter r xs
filter_both p q r same none [] = refl
filter_both p q r same none (x ∷ xs) =
    let more = filter_both p q r same none xs in
    ⊎_elim
    (λ through.
    ap (filter p) (cond-true (q x) (x ∷ filter q xs) (filter q xs) through)
    ∙ ap (λ b. cond b (x ∷ filter p (filter q xs)) (filter p (filter q xs))) (same x through)
    ∙ ap (λ ys. cond (r x) (x ∷ ys) ys) more)
    (λ not'.
    ap (filter p) (cond-false (q x) (x ∷ filter q xs) (filter q xs) not')
    ∙ more
    ∙ sym (cond-false (r x) (x ∷ filter r xs) (filter r xs) (none x not')))
    (cases_Bool (q x))

later_of : (t m : ℕ) (rows some : List BrokerRow) → t ≤ m → some ≡ swept t rows → filter (lives some m) (filter (lives rows t) rows) ≡ filter (lives rows m) rows
later_of t m rows some le is =
    filter_both (lives some m) (lives rows t) (lives rows m)
    (λ r now. one_truth (lives some m r) (lives rows m r)
    (λ e. lives_back rows t m r now (subst (λ us. lives us m r ≡ true) is e))
    (λ e. subst (λ us. lives us m r ≡ true) (sym is) (lives_still rows t m r le e)))
    (λ r gone. not_true (lives rows t r) (lives rows m r) (lives_sooner rows t m r le) gone)
    rows

pub swept_later : SweptLater
unfolding swept
swept_later rows t m le = later_of t m rows (filter (lives rows t) rows) le refl

-- ---- at the same moment

-- what a filter keeps passes any test that follows from its own
all_follow : (f g : BrokerRow → Bool) → ((r : BrokerRow) → f r ≡ true → g r ≡ true) → (rows : List BrokerRow) → list_all g (filter f rows) ≡ true
all_follow f g follows [] = refl
all_follow f g follows (r ∷ rows) =
    ⊎_elim
    (λ stays. ap (list_all g) (cond-true (f r) (r ∷ filter f rows) (filter f rows) stays) ∙ and_from (g r) (list_all g (filter f rows)) (follows r stays) (all_follow f g follows rows))
    (λ goes. ap (list_all g) (cond-false (f r) (r ∷ filter f rows) (filter f rows) goes) ∙ all_follow f g follows rows)
    (cases_Bool (f r))

all_live : (t : ℕ) (rows : List BrokerRow) (some : List BrokerRow) → some ≡ swept t rows → list_all (lives some t) (swept t rows) ≡ true
unfolding swept
all_live t rows some is = all_follow (lives rows t) (lives some t) (λ r e. subst (λ us. lives us t r ≡ true) (sym is) (lives_still rows t t r (omega arith) e)) rows

pub swept_rows_live : SweptRowsLive
swept_rows_live rows t = all_live t rows (swept t rows) refl
