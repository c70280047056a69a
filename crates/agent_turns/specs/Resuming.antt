-- Resuming: an agent that takes over in the boot in which ends were told.
-- Source: this project's own.
use Rattle.std.specs.Prelude.{◌≡◌, List, [], ◌∷◌, Result}
use Rattle.agent_standing.specs.{Agent.Agent, Turns.AgentTurn}
use Rattle.watch_machine.specs.{declared.command.WatchOutput.WatchOutput, declared.event.WatchEvent.WatchEvent, declared.fault.WatchFault.WatchFault}
use Rattle.watch_machine.specs.declared.event.WatchEvent.TheVariants.{Clock, Looked, Renewed, Need, Begin, Known}

-- an end that was told before is handed in, and nothing else is
abbrev pub IsResumed : WatchEvent → Agent → Agent → Type 0
IsResumed (Clock wall elapsed) old new = new ≡ old
IsResumed (Looked i reply terms) old new = new ≡ old
IsResumed (Renewed i reply) old new = new ≡ old
IsResumed (Need i until) old new = new ≡ old
IsResumed Begin old new = new ≡ old
IsResumed (Known i end renewable) old new = (result : Result WatchOutput WatchFault) × AgentTurn old (Known i end renewable) result new

-- those of a list are, one after another
abbrev pub AreResumed : List WatchEvent → Agent → Agent → Type 0
AreResumed [] old new = new ≡ old
AreResumed (e ∷ rest) old new = (mid : Agent) × (IsResumed e old mid × AreResumed rest mid new)
