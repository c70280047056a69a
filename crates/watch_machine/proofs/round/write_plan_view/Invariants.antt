-- The entries before the index are written as they are planned.
use Rattle.std.proofs.Common.{◌≡◌, ◌<◌, ℕ, length}
use Rattle.plan_forest.specs.Forest.{entry_at}
use Rattle.watch_machine.specs.Wanted as wanted
use Rattle.watch_machine.specs.code.View.{HasNeeds, IsView}
use Rattle.watch_machine.proofs.Opening.{halfway}
use Rattle.watch_machine.proofs.round.write_plan_view.Given as goal

-- those so far are written for the Asks
abbrev pub invariant-loop-index : goal.invariant-loop-index
invariant-loop-index l = record {
  view : IsView l.view l.forest;
  planned : l.fn.view.entries ≡ wanted.view l.forest.entries l.tracks l.fn.clocks → HasNeeds l.forest.entries l.tracks l.fn.clocks l.needs → (k : ℕ) → k < length l.forest.entries →
      entry_at l.view.entries k ≡ halfway l.forest l.tracks l.fn.clocks l.index k;
}
