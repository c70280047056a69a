-- No gap is wider than its tree's mark, and the first that is wide enough is that of the left side, else of the right.
use Rattle.std.proofs.Common.{◌≡◌, ◌+◌, ◌-◌, ◌++◌, Some, None, ap, arith, length, subst, sym}
use Rattle.plan_check.specs.code.Gaps.{AllNarrow, HasMarks, IsFirstFrom, gaps_in, mark}
use Rattle.plan_check.proofs.GapTrees.{found_nowhere, found_right, mark_bounds}
use Rattle.plan_check.proofs.gap_tree.GapTree.+first_from.Goals as goal
use Rattle.plan_check.proofs.gap_tree.GapTree.+first_from.Goals.{then-from-half+in-None, else-from-half}

pub returns-then-greatest-least : goal.returns-then-greatest-least
returns-then-greatest-least t c = λ k low high.
    let below = mark_bounds c.args.self.now c.requires.marks k in
    let is : mark c.args.self.now ≡ c.in-Fork.greatest = ap mark c.in-Fork.is in
    omega (arith, below, is, c.if-greatest-least.true)

pub returns-in-Some-first_from : goal.returns-in-Some-first_from
returns-in-Some-first_from t c =
    let ls = gaps_in c.in-Fork.left.value in
    let rs = gaps_in c.in-Fork.right.value in
    let from = c.args.from in
    let least = c.args.least in
    let split : gaps_in c.args.self.now ≡ ls ++ rs = ap gaps_in c.in-Fork.is in
    let half : c.in-Fork.half ≡ length ls = (subst HasMarks c.in-Fork.is c.requires.marks).0 in
    let narrow : AllNarrow ls from c.in-Fork.half least = elim c.if-from-half.branch [
      | then-from-half+in-None w ↦
          let none : IsFirstFrom ls from least None = subst (IsFirstFrom ls from least) w.in-None.is (subst (λ x. IsFirstFrom (gaps_in x) from least w.first_from.result) w.deref.ensures w.first_from.ensures) in
          subst (λ n. AllNarrow ls from n least) (sym half) none
      | else-from-half w ↦ λ k low high. absurd (omega (arith, w.if-from-half.false))
    ] in
    let there = subst (λ x. IsFirstFrom (gaps_in x) c.saturating_sub.result least c.first_from-in-Fork.result) c.deref-in-Fork.ensures c.first_from-in-Fork.ensures in
    let found = subst (IsFirstFrom rs (from - c.in-Fork.half) least) c.in-Some-first_from.is (subst (λ n. IsFirstFrom rs n least c.first_from-in-Fork.result) c.saturating_sub.ensures there) in
    subst (λ gs. IsFirstFrom gs from least (Some (c.in-Fork.half + c.in-Some-first_from.at))) (sym split) (found_right ls rs from least c.in-Fork.half c.in-Some-first_from.at half narrow found)

pub returns-in-None-first_from : goal.returns-in-None-first_from
returns-in-None-first_from t c =
    let ls = gaps_in c.in-Fork.left.value in
    let rs = gaps_in c.in-Fork.right.value in
    let from = c.args.from in
    let least = c.args.least in
    let split : gaps_in c.args.self.now ≡ ls ++ rs = ap gaps_in c.in-Fork.is in
    let half : c.in-Fork.half ≡ length ls = (subst HasMarks c.in-Fork.is c.requires.marks).0 in
    let narrow : AllNarrow ls from c.in-Fork.half least = elim c.if-from-half.branch [
      | then-from-half+in-None w ↦
          let none : IsFirstFrom ls from least None = subst (IsFirstFrom ls from least) w.in-None.is (subst (λ x. IsFirstFrom (gaps_in x) from least w.first_from.result) w.deref.ensures w.first_from.ensures) in
          subst (λ n. AllNarrow ls from n least) (sym half) none
      | else-from-half w ↦ λ k low high. absurd (omega (arith, w.if-from-half.false))
    ] in
    let there = subst (λ x. IsFirstFrom (gaps_in x) c.saturating_sub.result least c.first_from-in-Fork.result) c.deref-in-Fork.ensures c.first_from-in-Fork.ensures in
    let none = subst (IsFirstFrom rs (from - c.in-Fork.half) least) c.in-None-first_from.is (subst (λ n. IsFirstFrom rs n least c.first_from-in-Fork.result) c.saturating_sub.ensures there) in
    subst (λ gs. IsFirstFrom gs from least None) (sym split) (found_nowhere ls rs from least c.in-Fork.half half narrow none)
