-- Agent: what an agent holds between two events.
-- Source: this project's own.
use Rattle.std.specs.Prelude.{◌≡◌, ℕ, ◌+◌, ◌<◌, ◌≤◌, Bool, List, Option, Some, None, IfSome, length, replicate}
use Rattle.std.specs.List.{All}
use Rattle.vault_inventory.specs.Inventories.{Inventory}
use Rattle.plan_forest.specs.declared.forest.TheConstants.{END_MAX}
use Rattle.watch_machine.specs.declared.track.End.{End}
use Rattle.watch_machine.specs.declared.track.End.TheVariants.{Unknown, At, Never}
use Rattle.watch_machine.specs.State.{WatchState, opened, track_at}
use Rattle.agent_standing.specs.{declared.standing.EntryStanding.EntryStanding, declared.standing.Told.Told, Standings.fresh_standing, Standings.standing_in}

-- the Watch over what is served; what is served, with its credentials and its needs as they were given last; what is said of each
-- entry; and how often everything was looked up anew
pub record Agent : Type 0 where
  pub machine : WatchState
  pub inventory : Inventory
  pub standings : List EntryStanding
  pub beginnings : ℕ

abbrev pub standing_at : Agent → ℕ → EntryStanding
standing_at a i = standing_in a.standings i

-- the end that a track believes is the one that was told, by a clock that is ahead by less than a second; none was told where it
-- believes in none. And so is its word on renewal
abbrev pub Believes : End → Bool → Option Told → Type 0
Believes Unknown renewable told = told ≡ None
Believes (At end) renewable None = ⊥
Believes (At end) renewable (Some t) = (t.end ≤ end) × ((end ≤ t.end + 1) × (renewable ≡ t.renewable))
Believes Never renewable told = told ≡ None

-- no end is past the greatest
abbrev pub IsStanding : EntryStanding → Type 0
IsStanding x = IfSome x.told (λ t. t.end ≤ END_MAX)

-- the machine and the standings are of as many entries as are served, and agree on what was told
pub record IsAgent (a : Agent) : Type 0 where
  pub entries : length a.machine.forest.entries ≡ length a.inventory.forest.entries
  pub tracks : length a.machine.tracks ≡ length a.machine.forest.entries
  pub standings : length a.standings ≡ length a.inventory.forest.entries
  pub phase : a.machine.clocks.phase < 1000
  pub bounded : All IsStanding a.standings
  pub believed : (i : ℕ) → Believes (track_at a.machine i).end (track_at a.machine i).renewable (standing_at a i).told

-- an agent that serves an inventory from now on
abbrev pub fresh : Inventory → ℕ → Agent
fresh s width = record { machine = opened s.forest width; inventory = s; standings = replicate (length s.forest.entries) fresh_standing; beginnings = 0 }
