-- Where the entry is, if it is among those from the index on.
use Rattle.std.proofs.Common.{◌≡◌, ◌+◌, drop, option_map}
use Rattle.watch_machine.specs.Change.{place_now}
use Rattle.watch_machine.proofs.change.place_now.Given as goal

-- it is none of those before
abbrev pub invariant-loop-index : goal.invariant-loop-index
invariant-loop-index l = place_now l.was l.entry ≡ option_map (λ j. l.index + j) (place_now (drop l.index l.was) l.entry)
