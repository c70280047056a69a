-- Doing: what each call of the loop does to a house.
-- Source: this project's own; what each neighbour is given of it is specs/Houses, specs/Commands, specs/SecretLines and specs/Ends.
use Rattle.std.specs.Prelude.{◌≡◌, ℕ, Bool, true, false, ◌&&◌, ◌||◌, List, Option, Some, None, Result, option_map}
use Rattle.std.specs.declared.alloc.AllocError.{AllocError}
use Rattle.agent_standing.specs.Agent.{Agent}
use Rattle.state_changes.specs.declared.row.Row.{Row}
use Rattle.base_clients.specs.{Doors.DoorLog, declared.talk.TalkCall.TalkCall}
use Rattle.base_clock.specs.declared.reading.Reading.{Reading}
use Rattle.base_device.specs.declared.tried.Tried.{Tried}
use Rattle.base_disk.specs.State.{DiskState}
use Rattle.vault_inventory.specs.Inventories.{Inventory}
use Rattle.agent_turns.specs.Neighbours.{Answer, End, Give, GoOn, Hear, NeighbourCall, Needs, Rest, Settle, Step, Thing, Time, Want}
use Rattle.watch_machine.specs.{declared.command.WatchRequest.WatchRequest, declared.notes.Notes.Notes, declared.outlook.Next.Next}
use Rattle.agent_house.specs.{Behind.looked, Behind.stepped, Houses.Attends, Nexts.HearsNext, Looks.LooksAround, Rests.Rests, declared.house.House.House}
use Rattle.agent_house.specs.Commands.{AsksFor, SettlesGiven, is_served}
use Rattle.agent_house.specs.Ends.{HearsServed, KeepsEnds, after_answer, to_be_kept}
use Rattle.agent_log.specs.LinesBehind.{steps_in_count}
use Rattle.agent_log.specs.LogDesk.{Desk, HearsAhead, HearsAnswer, HearsClock, HearsShorts, HearsSteps}
use Rattle.agent_log.specs.Wants.{HearsTime, HearsUnmade, HearsWanting}
use Rattle.agent_ledger.specs.Keeping.{KeepCall}
use Rattle.agent_words.specs.Outcomes.{Why}

-- ---- what is heard of

-- the time is handed in, by which a lack of memory passes; then what is noted of it is said, and then the next time of an entry, where
-- it is told
pub record HearsOfTime {S T D K E : Type 0} (agent : Agent) (notes : Notes) (requests : List WatchRequest) (next : Option (Option Next)) (old new : House S T D K E) : Type 0 where
  pub timed : Desk
  pub desk : Desk
  pub time : HearsTime agent old.desk timed
  pub clock : HearsClock agent notes requests timed desk
  pub then : HearsNext agent next (record old { desk = desk }) new

-- an answer is said, and the ends are to be kept anew where it tells of one, as where one is looked up ahead; what is done behind another is
-- said and counted. Nothing else changes
abbrev pub HearsOf : {S T D K E : Type 0} → Agent → Thing → House S T D K E → House S T D K E → Type 0
HearsOf agent (Time notes requests next) old new = HearsOfTime agent notes requests next old new
HearsOf agent (Needs (Some shorts)) old new = HearsShorts agent shorts old.desk new.desk × (new ≡ record old { desk = new.desk })
HearsOf agent (Needs None) old new = HearsWanting agent old.desk new.desk × (new ≡ record old { desk = new.desk })
HearsOf agent (Answer entry operation said notes) old new =
    HearsAnswer agent entry operation said notes old.desk new.desk × (new ≡ record old { desk = new.desk; ends = option_map (after_answer said.reply) old.ends })
HearsOf agent (End entry end) old new =
    HearsAhead agent entry end old.desk new.desk × (new ≡ record old { desk = new.desk; standby = looked old.standby; ends = option_map to_be_kept old.ends })
HearsOf agent (Step lead requests) old new =
    HearsSteps agent lead requests old.desk new.desk × (new ≡ record old { desk = new.desk; standby = stepped (steps_in_count agent.machine lead old.desk.marks requests) old.standby })
HearsOf agent Want old new = HearsWanting agent old.desk new.desk × (new ≡ record old { desk = new.desk })

-- ---- a change is settled

-- where an inventory is served from now on
abbrev pub HearsServedIf : {S T D K E : Type 0} → Bool → House S T D K E → House S T D K E → Type 0
HearsServedIf true old new = HearsServed old new
HearsServedIf false old new = new ≡ old

pub record SettlesChange {S T D K E : Type 0} (does : KeepCall → K → K → Type 0) (keeps : K → Bool) (agent : Agent) (is_made : Bool) (old new : House S T D K E) : Type 0 where
  pub heard : House S T D K E
  pub settled : House S T D K E
  pub served : HearsServedIf (is_made && is_served old.given) old heard
  pub settles : SettlesGiven does keeps agent is_made heard settled
  pub unmade : HearsUnmade is_made agent settled.desk new.desk
  pub rest : new ≡ record settled { desk = new.desk }

-- ---- each call

module _ {S T D K E : Type 0} (given : S → Option (List ℕ)) (failures tries : S → ℕ) (tried : S → Option (List Tried)) (remaining written : T → Option (List ℕ)) (calls : T → Option (List TalkCall)) (log : D → Option (DoorLog T))
    (does : KeepCall → K → K → Type 0) (rows : K → List Row) (keeps : K → Bool) (path : K → List ℕ) (reads : K → List ℕ → Result Row Why → Type 0) (gives : ℕ → Result (Option Inventory) AllocError → K → Type 0)
    (known : Bool) (state : E → DiskState) where
  -- the ends are kept, then files of credentials are looked at, and then the log's reader, the onlookers and the clients are attended to
  pub record HouseGoesOn (agent : Agent) (now : Reading) (is_busy : Bool) (old new : House S T D K E) : Type 0 where
    pub kept : House S T D K E
    pub looked : House S T D K E
    pub goes_on : Bool
    pub is_more : Bool
    pub ends : KeepsEnds known state agent now.elapsed old kept
    pub look : LooksAround does agent now goes_on kept looked
    pub attend : Attends given failures tries tried remaining written calls log rows keeps agent now is_more looked new
    pub busy : is_busy ≡ (goes_on || is_more)

  abbrev pub DoesToHouse : NeighbourCall → House S T D K E → House S T D K E → Type 0
  DoesToHouse (Hear agent thing) old new = HearsOf agent thing old new
  DoesToHouse (GoOn agent now is_busy) old new = HouseGoesOn agent now is_busy old new
  DoesToHouse (Give agent now change) old new = AsksFor does rows keeps path reads gives agent now change old new
  DoesToHouse (Settle agent is_made) old new = SettlesChange does keeps agent is_made old new
  DoesToHouse (Rest now rest) old new = (new ≡ old) × Rests does now rest old
