-- The tree of gaps: its marks bound what is below them, and what its sides find is what it finds.
use Rattle.std.proofs.Common.{◌≡◌, ℕ, suc, zero, ◌+◌, ◌-◌, ◌<◌, ◌≤◌, ◌++◌, List, Option, Some, None, get_or, length, length-append, refl, sym, ap, ◌∙◌, subst, arith, inl, inr}
use Rattle.std.specs.Option.{unwrap_or}
use Rattle.std.proofs.lemmas.Bool.{cases_lt}
use Rattle.std.proofs.lemmas.List.{get_or-append-add, get_or-append_right, get_or_append_left}
use Rattle.plan_check.specs.declared.gap_tree.GapTree.{GapTree}
use Rattle.plan_check.specs.declared.gap_tree.GapTree.TheVariants.{Empty, Leaf, Fork'}
use Rattle.plan_check.specs.code.Gaps.{AllNarrow, HasMarks, IsFirstFrom, gaps_in, mark}

pub mark_bounds : (t : GapTree) → HasMarks t → (k : ℕ) → get_or (gaps_in t) k 0 ≤ mark t
mark_bounds Empty marks k = omega arith
mark_bounds (Leaf gap) marks zero = omega arith
mark_bounds (Leaf gap) marks (suc k) = omega arith
mark_bounds (Fork' greatest half p left q right) marks k =
    let is = marks.1.0 in
    elim (cases_lt k (length (gaps_in left))) [
      | inl here ↦
          let same = get_or_append_left (gaps_in left) (gaps_in right) 0 k here in
          let below = mark_bounds left marks.1.1.0 k in
          omega (arith, is, same, below)
      | inr there ↦
          let same = get_or-append_right (gaps_in left) (gaps_in right) (length (gaps_in left)) k 0 refl there in
          let below = mark_bounds right marks.1.1.1 (k - length (gaps_in left)) in
          omega (arith, is, same, below)
    ]

narrow_both :
    (ls rs : List ℕ) (from to least half : ℕ) → half ≡ length ls → AllNarrow ls from half least → AllNarrow rs (from - half) to least → AllNarrow (ls ++ rs) from (half + to) least
narrow_both ls rs from to least half is left right k low high =
    elim (cases_lt k half) [
      | inl here ↦ let same = get_or_append_left ls rs 0 k (omega (arith, is)) in let l = left k low here in omega (arith, same, l)
      | inr there ↦ let same = get_or-append_right ls rs half k 0 (sym is) there in let l = right (k - half) (omega arith) (omega arith) in omega (arith, same, l)
    ]

pub found_right :
    (ls rs : List ℕ) (from least half at : ℕ) → half ≡ length ls → AllNarrow ls from half least → IsFirstFrom rs (from - half) least (Some at) → IsFirstFrom (ls ++ rs) from least (Some (half + at))
found_right ls rs from least half at is left right =
    let low = right.0 in
    let within = right.1.0 in
    let wide = right.1.1.0 in
    let same : get_or (ls ++ rs) (half + at) 0 ≡ get_or rs at 0 = ap (λ n. get_or (ls ++ rs) (n + at) 0) is ∙ get_or-append-add ls rs at 0 in
    (omega (arith, low), (omega (arith, within, is, length-append ls rs), (omega (arith, wide, same), narrow_both ls rs from at least half is left right.1.1.1)))

pub found_nowhere :
    (ls rs : List ℕ) (from least half : ℕ) → half ≡ length ls → AllNarrow ls from half least → IsFirstFrom rs (from - half) least None → IsFirstFrom (ls ++ rs) from least None
found_nowhere ls rs from least half is left right =
    let all : half + length rs ≡ length (ls ++ rs) = omega (arith, is, length-append ls rs) in
    subst (λ n. AllNarrow (ls ++ rs) from n least) all (narrow_both ls rs from (length rs) least half is left right)

-- the place that is found, or the end: no gap before it is as wide

pub until_within : (gaps : List ℕ) (from least n : ℕ) (found : Option ℕ) → length gaps ≡ n → IsFirstFrom gaps from least found → unwrap_or found n ≤ n
until_within gaps from least n None count first = omega arith
until_within gaps from least n (Some at) count first = let within = first.1.0 in omega (arith, count, within)

pub until_narrow : (gaps : List ℕ) (from least n : ℕ) (found : Option ℕ) → length gaps ≡ n → IsFirstFrom gaps from least found → AllNarrow gaps from (unwrap_or found n) least
until_narrow gaps from least n None count first = subst (λ k. AllNarrow gaps from k least) count first
until_narrow gaps from least n (Some at) count first = first.1.1.1

pub until_wide : (gaps : List ℕ) (from least n : ℕ) (found : Option ℕ) → IsFirstFrom gaps from least found → unwrap_or found n < n → (from ≤ unwrap_or found n) × (least ≤ get_or gaps (unwrap_or found n) 0)
until_wide gaps from least n None first before = absurd (omega arith)
until_wide gaps from least n (Some at) first before = (first.0, first.1.1.0)
