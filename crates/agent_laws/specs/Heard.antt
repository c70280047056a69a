-- Heard: what a house does beside two agents that differ in credentials alone. Each law is the contract of a public function without a body.
-- Source: this project's own; which call of the loop does what is specs/Doing of agent_house.
use Rattle.std.specs.Prelude.{◌≡◌, ℕ, Bool, List, [], ◌∷◌, Option, None, Result, map}
use Rattle.std.specs.declared.alloc.AllocError.{AllocError}
use Rattle.agent_standing.specs.Agent.{Agent}
use Rattle.state_changes.specs.declared.row.Row.{Row}
use Rattle.base_clients.specs.{Doors.DoorLog, declared.talk.TalkCall.TalkCall}
use Rattle.base_clock.specs.declared.reading.Reading.{Reading}
use Rattle.base_device.specs.declared.tried.Tried.{Tried}
use Rattle.base_disk.specs.State.{DiskState}
use Rattle.vault_inventory.specs.Inventories.{Inventory}
use Rattle.agent_turns.specs.Neighbours.{AllCalled, Give, GoOn, Hear, NeighbourCall, Rest, Settle, Thing}
use Rattle.agent_house.specs.{Doing.DoesToHouse, Houses.Attends, declared.house.House.House}
use Rattle.agent_ledger.specs.Keeping.{KeepCall}
use Rattle.agent_words.specs.Outcomes.{Why}
use Rattle.agent_laws.specs.Alike.{AgentsAreAlike}

-- ---- calls beside two agents

-- the same call beside the one and the other, but for one at which a change is given
pub data Both : Type 0 where
  BothHear : Agent → Agent → Thing → Both
  BothGoOn : Agent → Agent → Reading → Bool → Both
  NeitherGives : Agent → Agent → Reading → Both
  BothSettle : Agent → Agent → Bool → Both
  BothRest : ℕ → Option ℕ → Both

abbrev pub of_one : Both → NeighbourCall
of_one (BothHear a b thing) = Hear a thing
of_one (BothGoOn a b now is_busy) = GoOn a now is_busy
of_one (NeitherGives a b now) = Give a now None
of_one (BothSettle a b is_made) = Settle a is_made
of_one (BothRest now rest) = Rest now rest

abbrev pub of_other : Both → NeighbourCall
of_other (BothHear a b thing) = Hear b thing
of_other (BothGoOn a b now is_busy) = GoOn b now is_busy
of_other (NeitherGives a b now) = Give b now None
of_other (BothSettle a b is_made) = Settle b is_made
of_other (BothRest now rest) = Rest now rest

-- they differ in credentials alone, and have begun as often
abbrev pub IsBothAlike : Both → Type 0
IsBothAlike (BothHear a b thing) = AgentsAreAlike a b
IsBothAlike (BothGoOn a b now is_busy) = AgentsAreAlike a b × (b.beginnings ≡ a.beginnings)
IsBothAlike (NeitherGives a b now) = AgentsAreAlike a b
IsBothAlike (BothSettle a b is_made) = AgentsAreAlike a b
IsBothAlike (BothRest now rest) = Unit {0}

abbrev pub AreBothAlike : List Both → Type 0
AreBothAlike [] = Unit {0}
AreBothAlike (call ∷ calls) = IsBothAlike call × AreBothAlike calls

module _ {S T D K E : Type 0} (given : S → Option (List ℕ)) (failures tries : S → ℕ) (tried : S → Option (List Tried)) (remaining written : T → Option (List ℕ)) (calls : T → Option (List TalkCall)) (log : D → Option (DoorLog T))
    (does : KeepCall → K → K → Type 0) (rows : K → List Row) (keeps : K → Bool) (path : K → List ℕ) (reads : K → List ℕ → Result Row Why → Type 0) (gives : ℕ → Result (Option Inventory) AllocError → K → Type 0)
    (known : Bool) (state : E → DiskState) where
  abbrev pub Does : NeighbourCall → House S T D K E → House S T D K E → Type 0
  Does call old new = DoesToHouse given failures tries tried remaining written calls log does rows keeps path reads gives known state call old new

  -- whatever is heard of the one, the other leaves the same
  abbrev pub HeardAlike : Type 0
  HeardAlike = (a b : Agent) → AgentsAreAlike a b → (thing : Thing) (old new : House S T D K E) → Does (Hear a thing) old new → Does (Hear b thing) old new

  -- the log's reader, who follows the log, the onlookers and the clients are given the same
  abbrev pub AttendedAlike : Type 0
  AttendedAlike =
      (a b : Agent) → AgentsAreAlike a b → b.beginnings ≡ a.beginnings → (now : Reading) (goes_on : Bool) (old new : House S T D K E) → Attends given failures tries tried remaining written calls log rows keeps a now goes_on old new →
      Attends given failures tries tried remaining written calls log rows keeps b now goes_on old new

  -- so it is in all that goes on, but for the file of the ends, which has a fingerprint of each credential
  abbrev pub GoesOnAlike : Type 0
  GoesOnAlike =
      (a b : Agent) → AgentsAreAlike a b → b.beginnings ≡ a.beginnings → (now : Reading) (is_busy : Bool) (old new : House S T D K E) → old.ends ≡ None → Does (GoOn a now is_busy) old new → Does (GoOn b now is_busy) old new

  -- and whose change was made, or not, is told the same
  abbrev pub SettledAlike : Type 0
  SettledAlike = (a b : Agent) → AgentsAreAlike a b → (is_made : Bool) (old new : House S T D K E) → Does (Settle a is_made) old new → Does (Settle b is_made) old new

  -- where neither gives a change, the clients are taken up the same
  abbrev pub NoneGivenAlike : Type 0
  NoneGivenAlike = (a b : Agent) → AgentsAreAlike a b → (now : Reading) (old new : House S T D K E) → Does (Give a now None) old new → Does (Give b now None) old new

  -- so it is in each stretch in which no change is given
  abbrev pub StretchAlike : Type 0
  StretchAlike = (calls_made : List Both) → AreBothAlike calls_made → (old new : House S T D K E) → old.ends ≡ None → AllCalled Does (map of_one calls_made) old new → AllCalled Does (map of_other calls_made) old new
