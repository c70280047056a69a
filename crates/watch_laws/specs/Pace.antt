-- Pace: how long answers take, as the watch keeps it. The laws are the contract of a public function without a body.
-- Source: this project's own.
use Rattle.std.specs.Prelude.{◌≡◌, ◌≢◌, ℕ, ◌-◌, ◌/◌, Bool, true, false, ◌&&◌, if◌then◌else◌, List, [], ◌∷◌, ◌++◌, All, max, min}
use Rattle.std.specs.List.{list_any}
use Rattle.watch_machine.specs.{declared.event.WatchEvent.WatchEvent, declared.event.WatchReply.WatchReply, declared.lanes.LaneAnswer.LaneAnswer, declared.lanes.Out.Out, State.WatchState}
use Rattle.watch_machine.specs.declared.event.WatchEvent.TheVariants.{Clock, Looked, Renewed, Need, Begin, Known}
use Rattle.watch_machine.specs.History.{History, Turned, after_all}
use Rattle.watch_laws.specs.{Absence.is_clock, Absence.is_event_taken, Clocks.IsClock, Presence.is_answered, Presence.is_asked_at_turn}

-- how long an answer took: from the clock at which its request went out to the one after it, a day at most
abbrev pub time_taken : ℕ → LaneAnswer → ℕ
time_taken at a = min 86400000 (at - a.since)

-- the pace after some more answers: with each that the broker gave it is the time which that took, or an eighth less than before if that
-- is more
abbrev pub pace_by : ℕ → ℕ → List LaneAnswer → ℕ
pace_by at pace [] = pace
pace_by at pace (a ∷ answers) = pace_by at (if is_answered a.reply then max (time_taken at a) (pace - pace / 8) else pace) answers

-- each clock sets the pace so, by the answers since the last one, and nothing else does
pub record PaceLaw : Type 0 where
  pub clocks :
      (old : WatchState) (turn : Turned) (wall elapsed : ℕ) → History old (turn ∷ []) → IsClock wall elapsed turn →
      turn.state.presence.pace ≡ pace_by turn.state.clocks.at old.presence.pace old.answers
  pub others : (old : WatchState) (turn : Turned) → History old (turn ∷ []) → is_event_taken turn.result && is_clock turn.event ≡ false → turn.state.presence.pace ≡ old.presence.pace

-- a turn at which this reply to a request of i is taken
abbrev pub IsReplyOf : ℕ → WatchReply → WatchEvent → Type 0
IsReplyOf i reply (Looked j told terms) = (j ≡ i) × (told ≡ reply)
IsReplyOf i reply (Renewed j told) = (j ≡ i) × (told ≡ reply)
IsReplyOf i reply event = ⊥

abbrev pub IsReply : ℕ → WatchReply → Turned → Type 0
IsReply i reply turn = IsReplyOf i reply turn.event × (is_event_taken turn.result ≡ true)

-- a clock, or a reply
abbrev pub counts : WatchEvent → Bool
counts (Clock wall elapsed) = true
counts (Looked i reply terms) = true
counts (Renewed i reply) = true
counts (Need i until) = false
counts Begin = false
counts (Known i end renewable) = false

-- one answer more is kept, to a request that went out at that clock
pub record IsKept (old new : WatchState) (since : ℕ) (reply : WatchReply) : Type 0 where
  pub answer : LaneAnswer
  pub last : new.answers ≡ old.answers ++ answer ∷ []
  pub asked : answer.since ≡ since
  pub told : answer.reply ≡ reply

-- the answers since the last clock: each reply is kept with the clock at which its request went out, until the next clock
pub record KeptLaw : Type 0 where
  pub replies :
      (old : WatchState) (between : List Turned) (asking answer : Turned) (i : ℕ) (reply : WatchReply) → History old (asking ∷ (between ++ answer ∷ [])) → All (λ (q : Out). q.entry ≢ i) old.out →
      list_any (is_asked_at_turn i) between ≡ false → IsReply i reply answer → IsKept (after_all asking.state between) answer.state asking.state.clocks.at reply
  pub clocks : (old : WatchState) (turn : Turned) (wall elapsed : ℕ) → History old (turn ∷ []) → IsClock wall elapsed turn → turn.state.answers ≡ []
  pub others : (old : WatchState) (turn : Turned) → History old (turn ∷ []) → is_event_taken turn.result && counts turn.event ≡ false → turn.state.answers ≡ old.answers
