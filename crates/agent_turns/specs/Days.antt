-- Days: neighbours, and one more, who asks that everything is looked up anew before a day is over.
-- Source: this project's own; docs/running.md, "A fleet".
use Rattle.std.specs.Prelude.{◌≡◌, ◌⊎◌, ℕ, ◌+◌, ◌-◌, Bool, true, false, ◌&&◌, if◌then◌else◌, IfOk, Option, Some, None, is_some, min, nat_le, nat_lt, Result, Ok, Err}
use Rattle.std.specs.declared.alloc.AllocError.{AllocError}
use Rattle.agent_standing.specs.Agent.{Agent}
use Rattle.base_clock.specs.{Rests.rest_until, Rests.shorter, declared.reading.Reading.Reading}
use Rattle.watch_machine.specs.{State.WatchState, Clocks.second_of_wall}
use Rattle.agent_turns.specs.{Apart.MayWait, declared.change.AgentChange.AgentChange, declared.change.AgentChange.TheVariants.Begin, declared.day.EarlyDay.EarlyDay, declared.day.TheConstants.DAY}
use Rattle.agent_turns.specs.Neighbours.{Answer, End, Give, GoOn, Hear, NeighbourCall, Needs, Rest, Settle, Step, Thing, Time, Want}

-- ---- when

-- what is heard of is that everything is looked up anew from now on
abbrev pub has_begun : Thing → Bool
has_begun (Time notes requests next) = is_some notes.began
has_begun (Answer entry operation said notes) = false
has_begun (Needs shorts) = false
has_begun (End entry end) = false
has_begun (Step lead requests) = false
has_begun Want = false

-- the moment of the last beginning that was heard of, as the clock that never steps was handed in
abbrev pub beginning_by : Thing → WatchState → Option ℕ → Option ℕ
beginning_by thing m begun = if has_begun thing then Some (m.clocks.at - m.clocks.phase) else begun

-- a day less so many milliseconds has passed since; with none it never has
abbrev pub day_has_passed : ℕ → Option ℕ → ℕ → Bool
day_has_passed earlier None now = false
day_has_passed earlier (Some begun) now = nat_lt 0 earlier && nat_le (DAY - earlier) (now - begun)

-- from this moment on it has
abbrev pub day_due : ℕ → Option ℕ → Option ℕ
day_due earlier None = None
day_due earlier (Some begun) = if nat_lt 0 earlier then Some (min (begun + (DAY - earlier)) 18446744073709551615) else None

-- and no entry may have to be asked by now
abbrev pub BeginningIsDueBy : Bool → Agent → Reading → Bool → Type 0
BeginningIsDueBy false agent now due = due ≡ false
BeginningIsDueBy true agent now due = MayWait agent (second_of_wall now.wall) now.elapsed due

abbrev pub BeginningIsDue : {N : Type 0} → Agent → Reading → EarlyDay N → Bool → Type 0
BeginningIsDue agent now day due = BeginningIsDueBy (day_has_passed day.earlier day.begun now.elapsed) agent now due

-- ---- what is asked

-- it is asked once for each beginning
abbrev pub AsksBy : {N E : Type 0} → Result Bool E → EarlyDay N → Option AgentChange → EarlyDay N → Type 0
AsksBy (Ok true) old change new = (change ≡ Some Begin) × (new ≡ record old { begun = None; is_own = true })
AsksBy (Ok false) old change new = (change ≡ None) × (new ≡ old)
AsksBy (Err e) old change new = (change ≡ None) × (new ≡ old)

-- ---- what a call does

-- they give the change; or they give none, and everything is to be looked up anew, if it is time to
abbrev pub GivesOthers : {N : Type 0} → (NeighbourCall → N → N → Type 0) → Agent → Reading → Option AgentChange → EarlyDay N → EarlyDay N → Type 0
GivesOthers does a now None old new = ⊥
GivesOthers does a now (Some change) old new = does (Give a now (Some change)) old.others new.others × (new ≡ record old { others = new.others; is_own = false })

pub record AsksAnew {N : Type 0} (does : NeighbourCall → N → N → Type 0) (a : Agent) (now : Reading) (change : Option AgentChange) (old new : EarlyDay N) : Type 0 where
  pub due : Result Bool AllocError
  pub is_due : IfOk due (λ is. BeginningIsDue a now old is)
  pub none : does (Give a now None) old.others new.others
  pub asks : AsksBy due (record old { others = new.others }) change new

-- they hear only of their own changes whether they were made
abbrev pub SettlesOthers : {N : Type 0} → (NeighbourCall → N → N → Type 0) → Bool → Agent → Bool → N → N → Type 0
SettlesOthers does true a is_made old new = new ≡ old
SettlesOthers does false a is_made old new = does (Settle a is_made) old new

-- they may be left alone as long as they say, and no longer than until it is time to ask
abbrev pub RestsWith : {N : Type 0} → (NeighbourCall → N → N → Type 0) → ℕ → Option ℕ → EarlyDay N → Type 0
RestsWith does now rest day = (theirs : Option ℕ) × (does (Rest now theirs) day.others day.others × (rest ≡ shorter theirs (rest_until (day_due day.earlier day.begun) now)))

-- nothing else of it changes
abbrev pub PassesToOthers : {N : Type 0} → (NeighbourCall → N → N → Type 0) → NeighbourCall → EarlyDay N → EarlyDay N → Type 0
PassesToOthers does (Hear a thing) old new = does (Hear a thing) old.others new.others × (new ≡ record old { others = new.others; begun = beginning_by thing a.machine old.begun })
PassesToOthers does (GoOn a now is_busy) old new = does (GoOn a now is_busy) old.others new.others × (new ≡ record old { others = new.others })
PassesToOthers does (Give a now change) old new = GivesOthers does a now change old new ⊎ AsksAnew does a now change old new
PassesToOthers does (Settle a is_made) old new = SettlesOthers does old.is_own a is_made old.others new.others × (new ≡ record old { others = new.others })
PassesToOthers does (Rest now rest) old new = (new ≡ old) × RestsWith does now rest old
