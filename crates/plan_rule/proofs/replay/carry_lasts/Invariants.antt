-- The entries before the index have the least end among their own and those of all over them.
use Rattle.std.proofs.Common.{◌≡◌, ℕ, ◌<◌, get_or, nat_le}
use Rattle.plan_forest.specs.Renewal.{all_last}
use Rattle.plan_rule.specs.code.Replay.{shown_ends}
use Rattle.plan_rule.proofs.replay.carry_lasts.Given as goal

abbrev pub invariant-loop-index : goal.invariant-loop-index
invariant-loop-index l = (k m : ℕ) → k < l.index → nat_le m (get_or l.lasts k 0) ≡ all_last l.forest.entries (shown_ends l.ends) m k
