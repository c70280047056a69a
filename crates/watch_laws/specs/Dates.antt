-- Dates: what the date of one reply makes of the broker's clock. The law is the contract of a public function without a body.
-- Source: this project's own; a reply's date is RFC 9110, 5.6.7 and 6.6.1.
use Rattle.std.specs.Prelude.{◌≡◌, ◌⊎◌, ℕ, ◌+◌, ◌<◌, true, false, [], ◌∷◌, Some, None, is_none, min}
use Rattle.base_moment.specs.declared.moment.TheConstants.{LAST}
use Rattle.watch_machine.specs.{declared.clocks.BrokerOffset.BrokerOffset, declared.lanes.LaneAnswer.LaneAnswer, Clocks.sec, State.WatchState, State.second}
use Rattle.watch_machine.specs.History.{History, IsReached, Turned}
use Rattle.watch_laws.specs.{Beginnings.why_begun, Clocks.IsClock, Clocks.date_told}

-- a date is more than two seconds ahead of what the broker's clock, as it was set, shows in a second of this one; or more than three behind what
-- it showed in that of the request
abbrev pub IsAheadOf : BrokerOffset → ℕ → ℕ → Type 0
IsAheadOf o now date = o.there + now + 2 < date + sec o.here

abbrev pub IsBehindOf : BrokerOffset → ℕ → ℕ → Type 0
IsBehindOf o asked date = date + 3 + sec o.here < o.there + asked

-- a date of a reply to a request that went out at `since` sets the broker's clock to itself where it is one of these, and leaves it where it is
-- neither. Whether it has shown that clock set on is remembered until the next beginning: where it is ahead it has
pub record IsDatedBy (old new : WatchState) (since date : ℕ) : Type 0 where
  pub set : IsAheadOf old.clocks.broker (second new) date ⊎ IsBehindOf old.clocks.broker (sec since) date → new.clocks.broker ≡ record { here = new.clocks.at; there = date }
  pub kept : (IsAheadOf old.clocks.broker (second new) date → ⊥) → (IsBehindOf old.clocks.broker (sec since) date → ⊥) → new.clocks.broker ≡ old.clocks.broker

-- at a clock that begins nothing anew
pub record IsSteppedBy (old new : WatchState) (date : ℕ) : Type 0 where
  pub on : IsAheadOf old.clocks.broker (second new) date → new.stepped ≡ true
  pub not_on : (IsAheadOf old.clocks.broker (second new) date → ⊥) → new.stepped ≡ old.stepped

-- so at a clock after one reply with a date, where a date had set the broker's clock before
abbrev pub WindowLaw : Type 0
WindowLaw =
    (old : WatchState) (turn : Turned) (wall elapsed : ℕ) (a : LaneAnswer) (date : ℕ) → IsReached old → History old (turn ∷ []) → IsClock wall elapsed turn →
    is_none old.begun ≡ false → old.clocks.dated ≡ true → old.answers ≡ a ∷ [] → date_told a.reply ≡ Some date →
    IsDatedBy old turn.state a.since (min LAST date) × (why_begun turn.result ≡ None → IsSteppedBy old turn.state (min LAST date))
