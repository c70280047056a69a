-- The chain of an entry: its two laws, and that it stays where the parents stay.
use Rattle.std.proofs.Common.{◌≡◌, ◌==◌, ◌||◌, ◌&&◌, nat_le, ℕ, suc, zero, ◌<◌, true, false, List, [], ◌∷◌, Option, Some, None, length, ◌≤◌, refl, sym, ap, ◌∙◌, arith}
use Rattle.std.proofs.lemmas.{Bool.and_left, Bool.or_left, Bool.Decides.nat_tests}
use Rattle.std.proofs.Math.Bool.{and-true, or-false}
use Rattle.std.specs.List.{list_all, list_any}
use Rattle.plan_forest.specs.{declared.entry.Entry.Entry, Forest.entry_at, Over.chain_of, Over.chain, Over.is_over, Renewal.all_last}

-- each parent stands before its child
abbrev pub ParentsFirst : List Entry → Type 0
ParentsFirst es = (i p : ℕ) → (entry_at es i).parent ≡ Some p → p < i

chain_of_root : (n : ℕ) (es : List Entry) (i : ℕ) → (entry_at es i).parent ≡ None → chain_of (suc n) es i ≡ i ∷ []
unfolding chain_of
chain_of_root n es i e = ap (λ (o : Option ℕ). i ∷ elim o [ None ↦ [] | Some p ↦ chain_of n es p ]) e

chain_of_child : (n : ℕ) (es : List Entry) (i p : ℕ) → (entry_at es i).parent ≡ Some p → chain_of (suc n) es i ≡ i ∷ chain_of n es p
unfolding chain_of
chain_of_child n es i p e = ap (λ (o : Option ℕ). i ∷ elim o [ None ↦ [] | Some q ↦ chain_of n es q ]) e

-- an option is None or holds something
pub cases_Option : (o : Option ℕ) → (P : Type 0) → (o ≡ None → P) → ((x : ℕ) → o ≡ Some x → P) → P
cases_Option None P none some = none refl
cases_Option (Some x) P none some = some x refl

-- more steps than the index has below it change nothing
chain_of_enough : (es : List Entry) → ParentsFirst es → (n m i : ℕ) → i < n → i < m → chain_of n es i ≡ chain_of m es i
chain_of_enough es first zero m i h k = absurd (omega arith)
chain_of_enough es first (suc n) zero i h k = absurd (omega arith)
chain_of_enough es first (suc n) (suc m) i h k =
    cases_Option (entry_at es i).parent (chain_of (suc n) es i ≡ chain_of (suc m) es i)
    (λ root. chain_of_root n es i root ∙ sym (chain_of_root m es i root))
    (λ p child. let below : p < i = first i p child in
    chain_of_child n es i p child ∙ ap (λ ps. i ∷ ps) (chain_of_enough es first n m p (omega arith) (omega arith)) ∙ sym (chain_of_child m es i p child))

pub chain_root : (es : List Entry) (i : ℕ) → (entry_at es i).parent ≡ None → chain es i ≡ i ∷ []
unfolding chain
chain_root es i root = chain_of_root i es i root

pub chain_child : (es : List Entry) (i p : ℕ) → ParentsFirst es → (entry_at es i).parent ≡ Some p → chain es i ≡ i ∷ chain es p
unfolding chain
chain_child es i p first child =
    let below : p < i = first i p child in
    chain_of_child i es i p child ∙ ap (λ ps. i ∷ ps) (chain_of_enough es first i (suc p) p below (omega arith))

-- two lists in which the first k entries have the same parents
abbrev pub SameParents : ℕ → List Entry → List Entry → Type 0
SameParents k es fs = (i : ℕ) → i < k → (entry_at fs i).parent ≡ (entry_at es i).parent

chain_of_nothing : (es : List Entry) (i : ℕ) → chain_of zero es i ≡ []
unfolding chain_of
chain_of_nothing es i = refl

chain_of_same : (k : ℕ) (es fs : List Entry) → ParentsFirst es → SameParents k es fs → (n i : ℕ) → i < k → chain_of n fs i ≡ chain_of n es i
chain_of_same k es fs first same zero i h = chain_of_nothing fs i ∙ sym (chain_of_nothing es i)
chain_of_same k es fs first same (suc n) i h =
    cases_Option (entry_at es i).parent (chain_of (suc n) fs i ≡ chain_of (suc n) es i)
    (λ root. chain_of_root n fs i (same i h ∙ root) ∙ sym (chain_of_root n es i root))
    (λ p child. let below : p < i = first i p child in
    chain_of_child n fs i p (same i h ∙ child) ∙ ap (λ ps. i ∷ ps) (chain_of_same k es fs first same n p (omega arith)) ∙ sym (chain_of_child n es i p child))

pub chain_same : (k : ℕ) (es fs : List Entry) → ParentsFirst es → SameParents k es fs → (i : ℕ) → i < k → chain fs i ≡ chain es i
unfolding chain
chain_same k es fs first same i h = chain_of_same k es fs first same (suc i) i h

-- each parent in fs is one in es
abbrev pub FewerParents : List Entry → List Entry → Type 0
FewerParents es fs = (i p : ℕ) → (entry_at fs i).parent ≡ Some p → (entry_at es i).parent ≡ Some p

chain_of_some : (n : ℕ) (es : List Entry) (i : ℕ) → 1 ≤ length (chain_of (suc n) es i)
chain_of_some n es i =
    cases_Option (entry_at es i).parent (1 ≤ length (chain_of (suc n) es i))
    (λ root. let here : length (chain_of (suc n) es i) ≡ 1 = ap length (chain_of_root n es i root) in omega arith)
    (λ p child. let here : length (chain_of (suc n) es i) ≡ suc (length (chain_of n es p)) = ap length (chain_of_child n es i p child) in omega arith)

chain_of_fewer : (es fs : List Entry) → FewerParents es fs → (n i : ℕ) → length (chain_of n fs i) ≤ length (chain_of n es i)
chain_of_fewer es fs fewer zero i = let here : length (chain_of zero fs i) ≡ 0 = ap length (chain_of_nothing fs i) in omega arith
chain_of_fewer es fs fewer (suc n) i =
    cases_Option (entry_at fs i).parent (length (chain_of (suc n) fs i) ≤ length (chain_of (suc n) es i))
    (λ root. let here : length (chain_of (suc n) fs i) ≡ 1 = ap length (chain_of_root n fs i root) in let some = chain_of_some n es i in omega arith)
    (λ p child.
    let here : length (chain_of (suc n) fs i) ≡ suc (length (chain_of n fs p)) = ap length (chain_of_child n fs i p child) in
    let there : length (chain_of (suc n) es i) ≡ suc (length (chain_of n es p)) = ap length (chain_of_child n es i p (fewer i p child)) in
    let rest = chain_of_fewer es fs fewer n p in
    omega arith)

-- where parents are taken away, no chain is longer
pub chain_fewer : (es fs : List Entry) → FewerParents es fs → (i : ℕ) → length (chain fs i) ≤ length (chain es i)
unfolding chain
chain_fewer es fs fewer i = chain_of_fewer es fs fewer (suc i) i

eqb_same : (n : ℕ) → (n == n) ≡ true
eqb_same n = grind (arith, nat_tests)

-- an entry is over itself; over it and nothing else where it has no parent; over it is what is over its parent
pub over_root : (es : List Entry) (a i : ℕ) → (entry_at es i).parent ≡ None → is_over es a i ≡ (i == a)
unfolding is_over
over_root es a i root = ap (list_any (λ b. b == a)) (chain_root es i root) ∙ or-false (i == a)

pub over_child : (es : List Entry) (a i p : ℕ) → ParentsFirst es → (entry_at es i).parent ≡ Some p → is_over es a i ≡ (i == a) || is_over es a p
unfolding is_over
over_child es a i p first child = ap (list_any (λ b. b == a)) (chain_child es i p first child)

pub over_self : (es : List Entry) (i : ℕ) → is_over es i i ≡ true
unfolding is_over chain chain_of
over_self es i = or_left (i == i) _ (eqb_same i)

-- what lasts up the chain of an entry
pub all_last_root : (es : List Entry) (ends : ℕ → ℕ) (m i : ℕ) → (entry_at es i).parent ≡ None → all_last es ends m i ≡ nat_le m (ends i)
unfolding all_last
all_last_root es ends m i root = ap (list_all (λ a. nat_le m (ends a))) (chain_root es i root) ∙ and-true (nat_le m (ends i))

pub all_last_child : (es : List Entry) (ends : ℕ → ℕ) (m i p : ℕ) → ParentsFirst es → (entry_at es i).parent ≡ Some p → all_last es ends m i ≡ nat_le m (ends i) && all_last es ends m p
unfolding all_last
all_last_child es ends m i p first child = ap (list_all (λ a. nat_le m (ends a))) (chain_child es i p first child)

-- an entry that does not last ends its chain
pub all_last_head : (es : List Entry) (ends : ℕ → ℕ) (m i : ℕ) → nat_le m (ends i) ≡ false → all_last es ends m i ≡ false
unfolding all_last chain chain_of
all_last_head es ends m i short = and_left (nat_le m (ends i)) _ short
