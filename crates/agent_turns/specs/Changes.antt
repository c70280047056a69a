-- Changes: what is taken from clients and files while the agent runs, and what it makes of the agent.
-- Source: this project's own.
use Rattle.std.specs.Prelude.{◌≡◌, ◌≢◌, ◌⊎◌, ◌++◌, Bool, true, false, List, [], ◌∷◌, Option, Some, None, IfSome, Result}
use Rattle.agent_standing.specs.{Changed.AgentIsChanged, Turns.AgentTurn}
use Rattle.vault_asking.specs.InStep.{entries_out}
use Rattle.vault_inventory.specs.Inventories.{Inventory}
use Rattle.vault_lanes.specs.Out.{renamed}
use Rattle.watch_machine.specs.{declared.command.WatchOutput.WatchOutput, declared.event.WatchEvent.WatchEvent, declared.fault.WatchFault.WatchFault}
use Rattle.watch_machine.specs.declared.event.WatchEvent.TheVariants as events
use Rattle.agent_turns.specs.{Held.ServingSide, declared.change.AgentChange.AgentChange}
use Rattle.agent_turns.specs.declared.change.AgentChange.TheVariants.{Need, Begin, Known, Serve, Kept}

-- the agent takes an event of its own; one of no entry leaves it as it was
pub record AgentIsTurned (event : WatchEvent) (old new : ServingSide) : Type 0 where
  pub result : Result WatchOutput WatchFault
  pub turn : AgentTurn old.held.agent event result new.held.agent
  pub rest : new ≡ record old { held = record old.held { agent = new.held.agent } }

-- another inventory is served from now on, where no answer waits to be handed in and no request to be sent. What is out stays out, each on its
-- lane under the index that the Watch has it under now
pub record InventoryIsServed (s : Inventory) (old new : ServingSide) : Type 0 where
  pub pending : old.held.pending ≡ []
  pub unsent : old.held.unsent ≡ []
  pub agent : AgentIsChanged old.held.agent s new.held.agent
  pub held : new.held ≡ record old.held { agent = new.held.agent }
  pub lanes : new.lanes ≡ record old.lanes { out = renamed (entries_out old.held.agent.machine) (entries_out new.held.agent.machine) old.lanes.out }

-- an inventory that is served already, with the needs as they were given last, is no change: all stays as it is
abbrev pub ServesInventory : Inventory → ServingSide → ServingSide → Type 0
ServesInventory s old new = ((s ≡ old.held.agent.inventory) × (new ≡ old)) ⊎ ((s ≢ old.held.agent.inventory) × InventoryIsServed s old new)

-- what a change makes
abbrev pub MakesChange : AgentChange → ServingSide → ServingSide → Type 0
MakesChange (Need i until) old new = AgentIsTurned (events.Need i until) old new
MakesChange Begin old new = AgentIsTurned events.Begin old new
MakesChange (Known i end renewable) old new = AgentIsTurned (events.Known i end renewable) old new
MakesChange (Serve s) old new = ServesInventory s old new
MakesChange Kept old new = new ≡ old

-- a change that was taken, and whether memory sufficed to make it; where it did not, all is as it was, and it is to be given again
pub record MadeChange : Type 0 where
  pub change : AgentChange
  pub is_made : Bool

-- none but another inventory wants memory
abbrev pub WantsMemory : AgentChange → ServingSide → Type 0
WantsMemory (Need i until) old = ⊥
WantsMemory Begin old = ⊥
WantsMemory (Known i end renewable) old = ⊥
WantsMemory (Serve s) old = s ≢ old.held.agent.inventory
WantsMemory Kept old = ⊥

abbrev pub ChangeIsMade : AgentChange → Bool → ServingSide → ServingSide → Type 0
ChangeIsMade change true old new = MakesChange change old new
ChangeIsMade change false old new = WantsMemory change old × (new ≡ old)

-- that of a turn or of a pause, where one was given
abbrev pub OneIsMade : Option MadeChange → ServingSide → ServingSide → Type 0
OneIsMade None old new = new ≡ old
OneIsMade (Some m) old new = ChangeIsMade m.change m.is_made old new

abbrev pub is_one_made : Option MadeChange → Bool
is_one_made None = false
is_one_made (Some m) = m.is_made

abbrev pub given_by : Option MadeChange → List AgentChange
given_by None = []
given_by (Some m) = m.change ∷ []

-- ---- what the neighbours that give changes have given

-- these were given and no others, in this order: what was given by now was given before, and these are more
abbrev pub AllGiven : List AgentChange → Option (List AgentChange) → Option (List AgentChange) → Type 0
AllGiven more old new = IfSome new (λ given. (before : List AgentChange) × ((old ≡ Some before) × (given ≡ before ++ more)))
