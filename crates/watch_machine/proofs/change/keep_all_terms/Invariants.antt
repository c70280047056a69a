-- The entries before the index are written as lookups have told them; the others are as they were.
use Rattle.std.proofs.Common.{◌≡◌, ◌<◌, ◌≤◌, ℕ, length}
use Rattle.plan_forest.specs.Forest.{entry_at}
use Rattle.watch_machine.specs.Change.{entry_by, was_at}
use Rattle.watch_machine.proofs.change.keep_all_terms.Given as goal

abbrev pub invariant-loop-index : goal.invariant-loop-index
invariant-loop-index l = record {
  count : length l.forest.entries ≡ length l.initial.forest.entries;
  margin : l.forest.margin ≡ l.initial.forest.margin;
  written : (k : ℕ) → k < l.index → entry_at l.forest.entries k ≡ entry_by l.initial.forest.margin l.before.entries (entry_at l.initial.forest.entries k) (was_at l.was k);
  rest : (k : ℕ) → l.index ≤ k → entry_at l.forest.entries k ≡ entry_at l.initial.forest.entries k;
}
