-- Outlook: what the neighbours are told of the next time of an entry.
-- Source: this project's own.
use Rattle.std.specs.Prelude.{◌≡◌, [], Option, IfSome}
use Rattle.watch_machine.specs.{Outlook.IsNextTime, State.WatchState, declared.outlook.Next.Next}
use Rattle.agent_turns.specs.declared.neighbours.Happened.{Happened}
use Rattle.agent_turns.specs.declared.neighbours.Happened.TheVariants as happened

-- nothing is out, and the next time is that of the Watch
abbrev pub IsOutlook : WatchState → Option Next → Type 0
IsOutlook s next = (s.out ≡ []) × IsNextTime s next

-- whatever next time is told is so; of what happens besides, none is told
abbrev pub IsToldNext : WatchState → Happened → Type 0
IsToldNext s (happened.Clocked notes requests next) = IfSome next (IsOutlook s)
IsToldNext s (happened.Shorts shorts) = Unit {0}
IsToldNext s (happened.Answered handed) = Unit {0}
IsToldNext s (happened.Ahead entry end) = Unit {0}
IsToldNext s (happened.StepsIn lead requests) = Unit {0}
IsToldNext s happened.Refused = Unit {0}
IsToldNext s happened.Wanting = Unit {0}
