-- Each turn of the loop leaves the entries that were asked before it with the ends that the wake-up gives them.
use Rattle.std.proofs.Common.{◌≡◌, ◌==◌, ℕ, cond, get_or, take}
use Rattle.std.specs.List.{list_any}
use Rattle.plan_forest.specs.Renewal.{renewed}
use Rattle.plan_rule.specs.code.Replay.{shown_ends}
use Rattle.plan_rule.proofs.replay.renew.Given as goal

-- those asked so far have their new ends, by the ends before the wake-up, and the others have theirs as they were
abbrev pub invariant-loop-index : goal.invariant-loop-index
invariant-loop-index l =
    (k : ℕ) → get_or l.ends k 0
    ≡ cond (list_any (λ j. j == k) (take l.index-index l.wake.asked)) (renewed l.forest.entries l.forest.margin (shown_ends l.fn.ends) l.wake.at k) (shown_ends l.fn.ends k)
