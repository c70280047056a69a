-- The entries from the index on have handed up their loads, and there is a load for each entry.
use Rattle.std.proofs.Common.{◌≡◌, ℕ, length}
use Rattle.plan_needs.specs.code.Loads.{AllOwn, IsHandedUp}
use Rattle.plan_needs.proofs.carried.hand_up.Given as goal

abbrev pub invariant-loop-index : goal.invariant-loop-index
invariant-loop-index l = record {
  count : length l.loads ≡ length l.forest.entries;
  handed : (s : ℕ) → AllOwn l.forest.entries s l.fn.loads → IsHandedUp l.forest.entries s l.index l.loads;
}
