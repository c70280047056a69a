-- The first bound that falls short of the entries before the index is found.
use Rattle.watch_machine.specs.code.Rounds.{IsFirstShort}
use Rattle.watch_machine.proofs.Shorting.{bounds, loads_of}
use Rattle.watch_machine.proofs.round.first_short.Given as goal

-- the first so far
abbrev pub invariant-loop-index : goal.invariant-loop-index
invariant-loop-index l = IsFirstShort (bounds l.view.entries l.now) (loads_of l.needs) l.index l.first
