-- Clocks: what this clock, the wall's and the broker's show after each reading and each date. The laws are the contract of a public
-- function without a body. (`sec` is the second of a moment in milliseconds.)
-- Source: this project's own; a reply's date is RFC 9110, 5.6.7 and 6.6.1.
use Rattle.std.specs.Prelude.{◌≡◌, ◌≢◌, ℕ, ◌+◌, ◌<◌, ◌≤◌, Bool, true, false, ◌&&◌, List, [], ◌∷◌, ◌++◌, Option, Some, None, All, is_some, max, min}
use Rattle.std.specs.List.{list_any}
use Rattle.base_moment.specs.declared.moment.TheConstants.{LAST}
use Rattle.watch_machine.specs.{declared.clocks.Clocks.Clocks, declared.event.WatchEvent.WatchEvent, declared.event.WatchReply.WatchReply, declared.lanes.Out.Out, declared.reading.TheConstants.READING_MAX, Clocks.sec, State.WatchState}
use Rattle.watch_machine.specs.declared.event.WatchEvent.TheVariants.{Clock, Looked, Renewed, Need, Begin, Known}
use Rattle.watch_machine.specs.declared.event.WatchReply.TheVariants.{Told, Refused, Busy, Lost}
use Rattle.watch_machine.specs.History.{History, IsReached, Turned}
use Rattle.watch_laws.specs.{Absence.is_event_taken, Beginnings.HasParted, Presence.is_asked_at_turn}

-- the date of a reply
abbrev pub date_told : WatchReply → Option ℕ
date_told (Told seconds renewable date) = date
date_told (Refused status date) = date
date_told Busy = None
date_told Lost = None

-- a turn at which two readings are handed in, and taken
abbrev pub IsClock : ℕ → ℕ → Turned → Type 0
IsClock wall elapsed turn = (turn.event ≡ Clock wall elapsed) × (is_event_taken turn.result ≡ true)

-- a turn at which the reply to a request of i is taken that has this date
abbrev pub IsDateOf : ℕ → ℕ → WatchEvent → Type 0
IsDateOf i date (Looked j reply terms) = (j ≡ i) × (date_told reply ≡ Some date)
IsDateOf i date (Renewed j reply) = (j ≡ i) × (date_told reply ≡ Some date)
IsDateOf i date event = ⊥

abbrev pub IsDate : ℕ → ℕ → Turned → Type 0
IsDate i date turn = IsDateOf i date turn.event × (is_event_taken turn.result ≡ true)

-- a turn at which readings or a date are taken
abbrev pub sets : WatchEvent → Bool
sets (Clock wall elapsed) = true
sets (Looked i reply terms) = is_some (date_told reply)
sets (Renewed i reply) = is_some (date_told reply)
sets (Need i until) = false
sets Begin = false
sets (Known i end renewable) = false

abbrev pub is_set : Turned → Bool
is_set turn = is_event_taken turn.result && sets turn.event

-- clocks after a clock that found them as c: this one shows the reading, later by the less than a second that brings it in phase with the
-- wall's seconds, but never less than before; and the wall's, as it is set, shows the reading but for two seconds
pub record ShowsReadings (c new : Clocks) (wall elapsed : ℕ) : Type 0 where
  pub in_phase : new.phase < 1000
  pub this : new.at ≡ max c.at (min (elapsed + new.phase) READING_MAX)
  pub of_wall : HasParted new.wall new.at (min wall READING_MAX) → ⊥

-- so after each clock
abbrev pub ReadingLaw : Type 0
ReadingLaw =
    (old : WatchState) (turn : Turned) (wall elapsed : ℕ) → IsReached old → History old (turn ∷ []) → IsClock wall elapsed turn → ShowsReadings old.clocks turn.state.clocks wall elapsed

-- clocks after a date of the reply to a request that went out at `since`: the broker's, as it is set, shows the date less two seconds or
-- more; and as the request went out it showed the date and three seconds more at most
pub record ShowsDate (c : Clocks) (since date : ℕ) : Type 0 where
  pub no_less : date + sec c.broker.here ≤ c.broker.there + sec c.at + 2
  pub no_more : c.broker.there + sec since ≤ date + 3 + sec c.broker.here
  pub told : c.dated ≡ true

-- so after each clock by the last date that was taken before it: a request of i goes out at `asking`, the reply with that date is taken at
-- `answer`, and from then on nothing sets a clock
abbrev pub DateLaw : Type 0
DateLaw =
    (old : WatchState) (between later : List Turned) (asking answer turn : Turned) (i date wall elapsed : ℕ) → IsReached old →
    History old (asking ∷ (between ++ answer ∷ (later ++ turn ∷ []))) → All (λ (q : Out). q.entry ≢ i) old.out →
    list_any (is_asked_at_turn i) between ≡ false → IsDate i date answer → list_any is_set later ≡ false → IsClock wall elapsed turn →
    ShowsDate turn.state.clocks asking.state.clocks.at (min LAST date)

-- until a date is taken the broker's clock is the wall's, in whole seconds
pub record IsOfWall (c : Clocks) : Type 0 where
  pub here : c.broker.here ≡ c.wall.here
  pub there : c.broker.there ≡ sec c.wall.there

abbrev pub UndatedLaw : Type 0
UndatedLaw = (s : WatchState) → IsReached s → s.clocks.dated ≡ false → IsOfWall s.clocks

-- from one clock to the next, if nothing sets a clock between them, the broker's that a date has set stays as it is, and so does the phase
pub record ClocksStay (old new : Clocks) : Type 0 where
  pub phase : new.phase ≡ old.phase
  pub dated : new.dated ≡ old.dated
  pub broker : old.dated ≡ true → new.broker ≡ old.broker

abbrev pub StaysLaw : Type 0
StaysLaw =
    (old : WatchState) (between : List Turned) (first turn : Turned) (wall elapsed wall' elapsed' : ℕ) → History old (first ∷ (between ++ turn ∷ [])) →
    IsClock wall elapsed first → list_any is_set between ≡ false → IsClock wall' elapsed' turn → ClocksStay first.state.clocks turn.state.clocks
