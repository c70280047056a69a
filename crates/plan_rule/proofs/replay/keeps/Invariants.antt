-- All is kept exactly where it was kept so far, and those that are left keep it from the ends so far.
use Rattle.std.proofs.Common.{◌≡◌, ◌↔◌, IsTrue, drop, length, vec_len}
use Rattle.plan_forest.specs.Forest.{end_of}
use Rattle.plan_rule.specs.{Keeps.Keeps, code.Replay.shown_ends}
use Rattle.plan_rule.proofs.Walk.{Rises}
use Rattle.plan_rule.proofs.replay.keeps.Given as goal

abbrev pub invariant-loop-wake : goal.invariant-loop-wake
invariant-loop-wake l = record {
  ends : vec_len l.ends ≡ length l.forest.entries;
  lasts : vec_len l.lasts ≡ length l.forest.entries;
  rises : Rises (length l.forest.entries) l.from (drop l.wake-index l.wakes);
  rest : (IsTrue l.kept × Keeps l.forest.entries l.forest.margin l.from (shown_ends l.ends.items) (drop l.wake-index l.wakes))
      ↔ Keeps l.forest.entries l.forest.margin l.fn.start (end_of l.forest.entries) l.wakes;
}
