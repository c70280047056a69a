-- Laws of the agent. Each is the contract of a public function without a body.
-- Source: this project's own.
use Rattle.std.specs.Prelude.{◌≡◌, ℕ, ◌<◌, true, None, Some, length}
use Rattle.vault_inventory.specs.Inventories.{Inventory}
use Rattle.plan_forest.specs.Forest.{entry_at}
use Rattle.watch_machine.specs.{Beginning.owing_lookup, State.fresh_track, State.track_at}
use Rattle.agent_standing.specs.{Agent.Agent, Agent.standing_at, Standings.fresh_standing}
use Rattle.agent_standing.specs.Changed.{AgentIsChanged, former, is_said_again}

-- where another inventory is served, what was said of an entry that was served before with the same credential is said of it, and the
-- Watch believes the end and the word on renewal that it believed. Where the inventory says of it what it said, but for its need, all that
-- the Watch knew of it stays
abbrev pub RememberedLaw : Type 0
RememberedLaw =
    (old new : Agent) (s : Inventory) → AgentIsChanged old s new → (i j : ℕ) → j < length s.forest.entries → former old.inventory s j ≡ Some i →
    (standing_at new j ≡ standing_at old i)
    × (((track_at new.machine j).end ≡ (track_at old.machine i).end)
    × (((track_at new.machine j).renewable ≡ (track_at old.machine i).renewable) × (is_said_again old.inventory s i j ≡ true → track_at new.machine j ≡ track_at old.machine i)))

-- and of any other entry nothing is said, and nothing is believed that a lookup has not told: one is owed at once
abbrev pub FreshLaw : Type 0
FreshLaw =
    (old new : Agent) (s : Inventory) → AgentIsChanged old s new → (j : ℕ) → j < length s.forest.entries → former old.inventory s j ≡ None →
    (standing_at new j ≡ fresh_standing) × (track_at new.machine j ≡ owing_lookup old.machine.clocks.at (fresh_track (entry_at s.forest.entries j)))
