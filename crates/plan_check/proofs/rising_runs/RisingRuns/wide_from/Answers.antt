-- The gaps before the place that is found are narrow, and the one there is too wide.
use Rattle.std.proofs.Common.{◌≡◌, ◌∙◌, ◌<◌, ◌≤◌, ap, arith, get_or, length, subst, sym}
use Rattle.plan_check.specs.code.Rising.{Rising}
use Rattle.plan_check.specs.code.Gaps.{AllNarrow, IsFirstFrom, gaps_of}
use Rattle.plan_check.proofs.Jumps.{length-gaps}
use Rattle.plan_check.proofs.GapTrees.{until_narrow, until_wide, until_within}
use Rattle.plan_check.proofs.rising_runs.RisingRuns.wide_from.Goals as goal

pub first_from-requires-clause-few : goal.first_from-requires-clause-few
first_from-requires-clause-few c = let count = ap length c.self.invariant.gaps ∙ length-gaps c.self.inside.runs.now in omega (arith, count)

pub returns-clause-within : goal.returns-clause-within
returns-clause-within c =
    let runs = c.self.inside.runs.now in
    let first = subst (λ gs. IsFirstFrom gs c.args.at c.args.too_wide c.first_from.result) c.self.invariant.gaps c.first_from.ensures in
    let within = until_within (gaps_of runs) c.args.at c.args.too_wide (length runs) c.first_from.result (length-gaps runs) first in
    let count : length runs ≡ length c.args.self.now.runs = ap (λ (r : Rising). length r.runs) c.self.view_is in
    omega (arith, within, count, c.unwrap_or.ensures)

pub returns-clause-narrow : goal.returns-clause-narrow
returns-clause-narrow c =
    let runs = c.self.inside.runs.now in
    let first = subst (λ gs. IsFirstFrom gs c.args.at c.args.too_wide c.first_from.result) c.self.invariant.gaps c.first_from.ensures in
    subst (λ (r : Rising). AllNarrow (gaps_of r.runs) c.args.at c.unwrap_or.result c.args.too_wide) c.self.view_is
    (subst (λ n. AllNarrow (gaps_of runs) c.args.at n c.args.too_wide) (sym c.unwrap_or.ensures) (until_narrow (gaps_of runs) c.args.at c.args.too_wide (length runs) c.first_from.result (length-gaps runs) first))

pub returns-clause-wide : goal.returns-clause-wide
returns-clause-wide c =
    let runs = c.self.inside.runs.now in
    let at = c.args.at in
    let too_wide = c.args.too_wide in
    let first = subst (λ gs. IsFirstFrom gs at too_wide c.first_from.result) c.self.invariant.gaps c.first_from.ensures in
    subst (λ (r : Rising). c.unwrap_or.result < length r.runs → (at ≤ c.unwrap_or.result) × (too_wide ≤ get_or (gaps_of r.runs) c.unwrap_or.result 0)) c.self.view_is
    (subst (λ n. n < length runs → (at ≤ n) × (too_wide ≤ get_or (gaps_of runs) n 0)) (sym c.unwrap_or.ensures) (until_wide (gaps_of runs) at too_wide (length runs) c.first_from.result first))
