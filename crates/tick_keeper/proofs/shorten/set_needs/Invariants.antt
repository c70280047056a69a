-- The entries before the index have their new needs, and the others those that they had.
use Rattle.std.proofs.Common.{◌≡◌}
use Rattle.tick_keeper.specs.code.Passes.{needing, so_far}
use Rattle.tick_keeper.proofs.shorten.set_needs.Given as goal

abbrev pub invariant-loop-index : goal.invariant-loop-index
invariant-loop-index l = l.forest ≡ record { entries = needing l.initial.forest.entries (so_far l.initial.forest.entries l.needs l.index); margin = l.initial.forest.margin }
