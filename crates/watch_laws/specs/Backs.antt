-- Backs: what a reply leaves of the entries that it is not for, and what the first answer after an absence makes of them. The law is the contract of
-- a public function without a body.
-- Source: this project's own.
use Rattle.std.specs.Prelude.{◌≡◌, ◌≢◌, ◌==◌, ℕ, Bool, true, false, ◌&&◌, if◌then◌else◌, [], ◌∷◌, Option, Some, min}
use Rattle.watch_machine.specs.{declared.event.WatchEvent.WatchEvent, declared.track.Try.Try, History.History, History.Turned}
use Rattle.watch_machine.specs.declared.event.WatchEvent.TheVariants.{Clock, Looked, Renewed, Need, Begin, Known}
use Rattle.watch_machine.specs.State.{WatchState, attempt_at, track_at}
use Rattle.watch_laws.specs.{Absence.is_event_taken, Presence.is_answer_taken, Presses.asked_again_at}

-- a reply to a request of i is taken
abbrev pub replies_to : ℕ → WatchEvent → Bool
replies_to i (Clock wall elapsed) = false
replies_to i (Looked j reply terms) = j == i
replies_to i (Renewed j reply) = j == i
replies_to i (Need j until) = false
replies_to i Begin = false
replies_to i (Known j end renewable) = false

abbrev pub is_reply_to : ℕ → Turned → Bool
is_reply_to i turn = is_event_taken turn.result && replies_to i turn.event

-- a try that was lost, due at once, or a second after its entry was last asked: it pauses no longer, and one that failed since the last clock
-- does not begin to
abbrev pub due_after_absence : Try → Option ℕ → Try
due_after_absence t last = record t { at = if t.failed then asked_again_at last else min t.at (asked_again_at last); failed = false }

-- what a reply to i leaves of the try t of another entry. If it is an answer and the broker was away: one that was lost is due at once, or a
-- second after the entry was last asked; and of one that is out no failure counts, since it was asked in the absence. Else it stays
pub record BackLaw : Type 0 where
  pub out :
      (old : WatchState) (turn : Turned) (i j : ℕ) (t : Try) → History old (turn ∷ []) → is_reply_to i turn ≡ true → is_answer_taken turn ≡ true → old.presence.away ≡ true → j ≢ i → attempt_at old j ≡ Some t →
      (track_at old j).out ≡ true → attempt_at turn.state j ≡ Some (record t { fails = 0 })
  pub lost :
      (old : WatchState) (turn : Turned) (i j : ℕ) (t : Try) → History old (turn ∷ []) → is_reply_to i turn ≡ true → is_answer_taken turn ≡ true → old.presence.away ≡ true → j ≢ i → attempt_at old j ≡ Some t →
      (track_at old j).out ≡ false → t.lost ≡ true → attempt_at turn.state j ≡ Some (due_after_absence t (track_at old j).last)
  pub other :
      (old : WatchState) (turn : Turned) (i j : ℕ) (t : Try) → History old (turn ∷ []) → is_reply_to i turn ≡ true → is_answer_taken turn ≡ true → old.presence.away ≡ true → j ≢ i → attempt_at old j ≡ Some t →
      (track_at old j).out ≡ false → t.lost ≡ false → attempt_at turn.state j ≡ Some t
  pub stays :
      (old : WatchState) (turn : Turned) (i j : ℕ) → History old (turn ∷ []) → is_reply_to i turn ≡ true → is_answer_taken turn && old.presence.away ≡ false → j ≢ i → track_at turn.state j ≡ track_at old j
