-- The entries before the index are written as they are seen.
use Rattle.std.proofs.Common.{◌≡◌, ◌<◌, ℕ}
use Rattle.plan_forest.specs.Forest.{entry_at}
use Rattle.watch_machine.specs.{Wanted.seen_entry, code.View.IsView}
use Rattle.watch_machine.proofs.wanted.write_view.Given as goal

-- those so far are written as they are seen
abbrev pub invariant-loop-index : goal.invariant-loop-index
invariant-loop-index l = record {
  view : IsView l.view l.forest;
  written : (k : ℕ) → k < l.index → entry_at l.view.entries k ≡ seen_entry l.forest.entries l.tracks l.clocks k;
}
