-- Turns: what an event gives, and what becomes of the agent.
-- Source: this project's own.
use Rattle.std.specs.Prelude.{◌≡◌, ℕ, Option, Some, None, Result, Ok, Err, min}
use Rattle.vault_inventory.specs.Inventories.{Inventory, inventory_with_need}
use Rattle.base_moment.specs.declared.moment.TheConstants.{LAST}
use Rattle.watch_machine.specs.{declared.command.WatchOutput.WatchOutput, declared.event.WatchEvent.WatchEvent, declared.fault.WatchFault.WatchFault, declared.notes.BeginReason.BeginReason, History.Turn}
use Rattle.watch_machine.specs.declared.event.WatchEvent.TheVariants.{Clock, Looked, Renewed, Need, Begin, Known}
use Rattle.agent_standing.specs.{Agent.Agent, Standings.more, Standings.standings_after}

-- what is served after an event: with the new need of an entry
abbrev pub inventory_after : WatchEvent → Inventory → Inventory
inventory_after (Clock wall elapsed) s = s
inventory_after (Looked i reply terms) s = s
inventory_after (Renewed i reply) s = s
inventory_after (Need i until) s = inventory_with_need s i (min LAST until)
inventory_after Begin s = s
inventory_after (Known i end renewable) s = s

-- how often everything was looked up anew
abbrev pub beginnings_after : Option BeginReason → ℕ → ℕ
beginnings_after None n = n
beginnings_after (Some why) n = more n

-- the machine takes the event in a turn of its own, and everything else follows it
pub record EventIsTaken (old : Agent) (event : WatchEvent) (output : WatchOutput) (new : Agent) : Type 0 where
  pub machine : Turn old.machine event (Ok output) new.machine
  pub inventory : new.inventory ≡ inventory_after event old.inventory
  pub standings : new.standings ≡ standings_after new.machine event old.standings
  pub beginnings : new.beginnings ≡ beginnings_after output.notes.began old.beginnings

-- what an event gives: that; or what the machine refuses or has no memory for, which leaves all as it was
abbrev pub AgentTurn : Agent → WatchEvent → Result WatchOutput WatchFault → Agent → Type 0
AgentTurn old event (Ok output) new = EventIsTaken old event output new
AgentTurn old event (Err fault) new = Turn old.machine event (Err fault) old.machine × (new ≡ old)
