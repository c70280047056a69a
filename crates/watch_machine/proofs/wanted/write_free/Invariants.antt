-- The needs of the entries before the index are written as they are on this clock.
use Rattle.std.proofs.Common.{◌≡◌, ◌<◌, ℕ}
use Rattle.plan_forest.specs.Forest.{entry_at}
use Rattle.watch_machine.specs.{Wanted.need_here, code.View.IsView}
use Rattle.watch_machine.proofs.wanted.write_free.Given as goal

abbrev pub invariant-loop-index : goal.invariant-loop-index
invariant-loop-index l = record {
  view : IsView l.view l.forest;
  written : (k : ℕ) → k < l.index → (entry_at l.view.entries k).need ≡ need_here l.clocks (entry_at l.forest.entries k).need;
}
