-- Apart: a start that waits, so that agents that start together do not all ask at once. Nothing is asked meanwhile, and whoever looks is
-- answered.
-- Source: this project's own.
use Rattle.std.specs.Prelude.{◌≡◌, ℕ, ◌-◌, ◌*◌, ◌<◌, ◌≤◌, Bool, true, false, not, ◌&&◌, ◌||◌, if◌then◌else◌, List, [], ◌∷◌, ◌++◌, Option, Some, None, Result, length, min, nat_lt}
use Rattle.std.specs.List.{All, flat_map}
use Rattle.agent_standing.specs.{Agent.Agent, Agent.standing_at, Turns.AgentTurn, declared.standing.Told.Told}
use Rattle.base_clock.specs.{Seen.read_call, declared.call.ClockCall.ClockCall, declared.call.ClockCall.TheVariants.Wait, declared.reading.Reading.Reading}
use Rattle.plan_forest.specs.Carried.{carried}
use Rattle.watch_machine.specs.{declared.command.WatchOutput.WatchOutput, declared.fault.WatchFault.WatchFault}
use Rattle.watch_machine.specs.declared.event.WatchEvent.TheVariants as events
use Rattle.agent_turns.specs.{Held.ServingSide, declared.change.AgentChange.AgentChange}
use Rattle.agent_turns.specs.Changes.{MadeChange, MakesChange, given_by, is_one_made}
use Rattle.agent_turns.specs.Neighbours.{GoOn, NeighbourCall, calls_for_change}
use Rattle.agent_turns.specs.declared.change.AgentChange.TheVariants.{Need, Begin, Known, Serve, Kept}

-- ---- whether it may

-- the time of an end that was told in this boot, a margin before it, comes after a moment in milliseconds
abbrev pub is_far : ℕ → ℕ → Option Told → Bool
is_far margin until None = false
is_far margin until (Some t) = nat_lt until ((t.end - margin) * 1000)

-- with that need, and unless its time is known to come later, an entry may have to be asked by then
abbrev pub may_be_due : ℕ → ℕ → ℕ → Option Told → Bool
may_be_due need margin until told = nat_lt 0 need && not (is_far margin until told)

-- the need is that of any entry under it, too, after a second by the wall's clock
abbrev pub may_be_due_at : Agent → ℕ → ℕ → ℕ → Bool
may_be_due_at a wall until i = may_be_due (carried a.inventory.forest.entries wall i) a.inventory.forest.margin until (standing_at a i).told

-- no entry may have to be asked by then; or one may
abbrev pub MayWait : Agent → ℕ → ℕ → Bool → Type 0
MayWait a wall until true = (i : ℕ) → i < length a.inventory.forest.entries → may_be_due_at a wall until i ≡ false
MayWait a wall until false = (i : ℕ) × ((i < length a.inventory.forest.entries) × (may_be_due_at a wall until i ≡ true))

-- ---- how it waits

-- what a pause read; the agent that the neighbours then saw; whether one of them could go on at once; the change that was given, and whether
-- it was made; and for how long it then waited, in milliseconds
pub record Pause : Type 0 where
  pub reading : Reading
  pub shown : Agent
  pub is_busy : Bool
  pub made : Option MadeChange
  pub millis : ℕ

abbrev pub is_change_kept : AgentChange → Bool
is_change_kept (Need i until) = false
is_change_kept Begin = false
is_change_kept (Known i end renewable) = false
is_change_kept (Serve s) = false
is_change_kept Kept = true

-- no change was given, or none that is made now
abbrev pub goes_on : Option MadeChange → Bool
goes_on None = true
goes_on (Some m) = is_change_kept m.change || not m.is_made

-- no wait where a change was made, or a neighbour can go on; else until the moment, a second at most
abbrev pub pause_by : Bool → ℕ → Reading → ℕ
pause_by is_more until r = if is_more then 0 else min 1000 (until - r.elapsed)

pub record IsPause (until : ℕ) (p : Pause) : Type 0 where
  pub before : p.reading.elapsed < until
  pub on : goes_on p.made ≡ true
  pub waits : p.millis ≡ pause_by (is_one_made p.made || p.is_busy) until p.reading

-- what ends it: there are no more pauses; the clocks could not be read; the moment has come; or a change is made
pub data Ending : Type 0 where
  Spent : Ending
  Unread : Ending
  Over : Reading → Ending
  Changed : Reading → Agent → Bool → AgentChange → Ending

-- nothing is sent, and nothing is another, but for that change
abbrev pub EndsBy : ℕ → Ending → ServingSide → ServingSide → Type 0
EndsBy until Spent old new = new ≡ old
EndsBy until Unread old new = new ≡ old
EndsBy until (Over r) old new = (until ≤ r.elapsed) × (new ≡ old)
EndsBy until (Changed r shown is_busy change) old new = (r.elapsed < until) × ((is_change_kept change ≡ false) × MakesChange change old new)

-- after so many pauses of so many at most
abbrev pub EndsAfter : ℕ → ℕ → Ending → Type 0
EndsAfter pauses most Spent = pauses ≡ most
EndsAfter pauses most ending = pauses < most

-- the neighbours see an agent of their own, to which the time of each pause is handed in; where memory is wanting for that, it is as it was
abbrev pub IsShown : Reading → Agent → Agent → Type 0
IsShown r old new = (result : Result WatchOutput WatchFault) × AgentTurn old (events.Clock r.wall r.elapsed) result new

abbrev pub AreShown : List Pause → Agent → Agent → Type 0
AreShown [] old new = new ≡ old
AreShown (p ∷ rest) old new = IsShown p.reading old p.shown × AreShown rest p.shown new

abbrev pub IsShownAt : Ending → Agent → Type 0
IsShownAt (Changed r shown is_busy change) old = IsShown r old shown
IsShownAt ending old = Unit {0}

pub record Waited : Type 0 where
  pub pauses : List Pause
  pub ending : Ending

-- from the agent on that they see first
pub record IsWaitedApart (until most : ℕ) (shown : Agent) (old : ServingSide) (w : Waited) (new : ServingSide) : Type 0 where
  pub pauses : All (IsPause until) w.pauses
  pub last : Agent
  pub shows : AreShown w.pauses shown last
  pub shows_at : IsShownAt w.ending last
  pub after : EndsAfter (length w.pauses) most w.ending
  pub ends : EndsBy until w.ending old new

-- ---- what is asked of the clock meanwhile: one reading a pause, and one wait

abbrev pub clocked_in : Pause → List ClockCall
clocked_in p = read_call (Some p.reading) ∷ Wait p.millis ∷ []

abbrev pub clocked_at : Ending → List ClockCall
clocked_at Spent = []
clocked_at Unread = read_call None ∷ []
clocked_at (Over r) = read_call (Some r) ∷ []
clocked_at (Changed r shown is_busy change) = read_call (Some r) ∷ []

abbrev pub all_clocked : Waited → List ClockCall
all_clocked w = flat_map clocked_in w.pauses ++ clocked_at w.ending

-- ---- what the neighbours are called for: they go on once a pause, and are asked for one change

-- where another inventory is served, or was to be, they are told so by the agent itself
abbrev pub is_change_served : AgentChange → Bool
is_change_served (Need i until) = false
is_change_served Begin = false
is_change_served (Known i end renewable) = false
is_change_served (Serve s) = true
is_change_served Kept = false

abbrev pub told_by : Agent → Agent → AgentChange → Agent
told_by shown own change = if is_change_served change then own else shown

abbrev pub called_by : Agent → Agent → Reading → Bool → Option MadeChange → List NeighbourCall
called_by shown own r is_busy made = GoOn shown r is_busy ∷ calls_for_change shown r (told_by shown own) made

abbrev pub called_in : Agent → Pause → List NeighbourCall
called_in own p = called_by p.shown own p.reading p.is_busy p.made

abbrev pub called_at : Agent → Ending → List NeighbourCall
called_at own (Changed r shown is_busy change) = called_by shown own r is_busy (Some (record { change = change; is_made = true }))
called_at own ending = []

-- by the agent as it was, and as it is after the wait
abbrev pub all_called : Agent → Agent → Waited → List NeighbourCall
all_called old new w = flat_map (called_in old) w.pauses ++ called_at new w.ending

-- ---- the changes that they give

abbrev pub given_at : Ending → List AgentChange
given_at (Changed r shown is_busy change) = change ∷ []
given_at ending = []

abbrev pub all_given : Waited → List AgentChange
all_given w = flat_map (λ (p : Pause). given_by p.made) w.pauses ++ given_at w.ending
