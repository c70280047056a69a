-- The list so far has the ends of the entries before the index, in their order.
use Rattle.std.proofs.Common.{◌≡◌, ℕ, ◌<◌, get_or, vec_len}
use Rattle.plan_forest.specs.Forest.{end_of}
use Rattle.plan_rule.proofs.replay.present_ends.Given as goal

abbrev pub invariant-loop-index : goal.invariant-loop-index
invariant-loop-index l = record {
  count : vec_len l.ends ≡ l.index;
  each : (k : ℕ) → k < l.index → get_or l.ends.items k 0 ≡ end_of l.forest.entries k;
}
