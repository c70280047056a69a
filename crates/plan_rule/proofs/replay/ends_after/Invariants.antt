-- The wake-ups that are left lead from the ends so far to those that all of them lead to.
use Rattle.std.proofs.Common.{◌≡◌, ℕ, drop, length, vec_len}
use Rattle.plan_forest.specs.Forest.{end_of}
use Rattle.plan_rule.specs.{Ends.ends_after, code.Replay.shown_ends}
use Rattle.plan_rule.proofs.Walk.{Rises}
use Rattle.plan_rule.proofs.replay.ends_after.Given as goal

abbrev pub invariant-loop-wake : goal.invariant-loop-wake
invariant-loop-wake l = record {
  ends : vec_len l.ends ≡ length l.forest.entries;
  lasts : vec_len l.lasts ≡ length l.forest.entries;
  rises : (s : ℕ) × Rises (length l.forest.entries) s (drop l.wake-index l.wakes);
  rest : ends_after l.forest.entries l.forest.margin (shown_ends l.ends.items) (drop l.wake-index l.wakes) ≡ ends_after l.forest.entries l.forest.margin (end_of l.forest.entries) l.wakes;
}
