-- Failures: which answers count as failures of their entry. The laws are the contract of a public function without a body.
-- Source: this project's own.
use Rattle.std.specs.Prelude.{◌≡◌, ◌⊎◌, ℕ, ◌+◌, ◌≤◌, Bool, true, false, not, ◌&&◌, ◌||◌, if◌then◌else◌, List, [], ◌∷◌, Option, Some, None, Result, Ok, Err, IfSome, min}
use Rattle.watch_machine.specs.{declared.command.WatchOutput.WatchOutput, declared.event.WatchEvent.WatchEvent, declared.event.Operation.Operation, declared.event.WatchReply.WatchReply, declared.event.WatchTerms.WatchTerms}
use Rattle.watch_machine.specs.{declared.fault.WatchFault.WatchFault, declared.lanes.Out.Out, declared.track.Track.Track, declared.track.Try.Try, Refusal.request_out, Wanted.is_alive, Wanted.is_open}
use Rattle.watch_machine.specs.declared.event.WatchEvent.TheVariants.{Clock, Looked, Renewed, Need, Begin, Known}
use Rattle.watch_machine.specs.declared.event.Operation.TheVariants.{Look, Renew}
use Rattle.watch_machine.specs.declared.event.WatchReply.TheVariants.{Told, Refused, Busy, Lost}
use Rattle.watch_machine.specs.History.{History, IsReached, Turned}
use Rattle.watch_machine.specs.State.{WatchState, attempt_at, second, track_at}
use Rattle.watch_laws.specs.{Absence.is_event_taken, Presence.is_told, Presses.asked_again_at, Waiting.TryFails}

-- the try of an entry, if it has one, has failed, by a loss or by a refusal
abbrev pub TryHasFailed : Bool → Option Try → Type 0
TryHasFailed lost attempt = IfSome attempt (λ t. (t.failed ≡ true) × (t.lost ≡ lost))

-- or it is no loss, and may go out at once
abbrev pub MayGoNow : ℕ → Option Try → Type 0
MayGoNow at attempt = IfSome attempt (λ t. (t.at ≤ at) × (t.lost ≡ false))

-- the try of an entry to which the broker was too busy, if it has one, is lost. It has failed; or, if the broker was away before that answer,
-- it is due at once, or a second after the entry was last asked
abbrev pub IsLostToBusy : Bool → Track → Type 0
IsLostToBusy away x = IfSome x.attempt (λ t. (t.lost ≡ true) × ((t.failed ≡ not away) × (away ≡ true → t.at ≡ asked_again_at x.last)))

-- what the answer to a renewal leaves of its entry, by whether the broker was away before it: where it is refused, where the broker is busy, and
-- where none came
abbrev pub RenewalFails : Bool → WatchReply → Track → Type 0
RenewalFails away (Told seconds renewable date) x = Unit {0}
RenewalFails away (Refused status date) x = TryHasFailed false x.attempt
RenewalFails away Busy x = IsLostToBusy away x
RenewalFails away Lost x = TryHasFailed true x.attempt

-- and that to a lookup, after whose refusal a renewal may go out at once
abbrev pub LookupFails : Bool → ℕ → WatchReply → Track → Type 0
LookupFails away at (Told seconds renewable date) x = Unit {0}
LookupFails away at (Refused status date) x = TryHasFailed false x.attempt ⊎ MayGoNow at x.attempt
LookupFails away at Busy x = IsLostToBusy away x
LookupFails away at Lost x = TryHasFailed true x.attempt

abbrev pub FailsTaken : WatchState → WatchEvent → WatchState → Type 0
FailsTaken old (Clock wall elapsed) new = Unit {0}
FailsTaken old (Looked i reply terms) new = LookupFails old.presence.away new.clocks.at reply (track_at new i)
FailsTaken old (Renewed i reply) new = RenewalFails old.presence.away reply (track_at new i)
FailsTaken old (Need i until) new = Unit {0}
FailsTaken old Begin new = Unit {0}
FailsTaken old (Known i end renewable) new = Unit {0}

abbrev pub FailsRight : WatchState → WatchEvent → Result WatchOutput WatchFault → WatchState → Type 0
FailsRight old event (Ok output) new = FailsTaken old event new
FailsRight old event (Err fault) new = Unit {0}

abbrev pub AllFailRight : WatchState → List Turned → Type 0
AllFailRight old [] = Unit {0}
AllFailRight old (turn ∷ turns) = FailsRight old turn.event turn.result turn.state × AllFailRight turn.state turns

-- an answer that tells nothing of its entry leaves its try as one that failed: as lost where none came or the broker was busy. After a
-- lookup that is refused a renewal may go out at once instead; and so may the try to which the broker was busy, when it is back with that
abbrev pub FailedLaw : Type 0
FailedLaw = (old : WatchState) (turns : List Turned) → History old turns → AllFailRight old turns

-- the clock after a failure leaves the try of its entry as lost as it was, where it is pressed and not out; or that may go out within a
-- second
abbrev pub KeepsLoss : WatchState → Turned → Type 0
KeepsLoss old turn = (i : ℕ) (t u : Try) → TryFails old turn i t u → (u.lost ≡ t.lost) ⊎ (u.at ≤ turn.state.clocks.at + 1000)

abbrev pub AllKeepLoss : WatchState → List Turned → Type 0
AllKeepLoss old [] = Unit {0}
AllKeepLoss old (turn ∷ turns) = KeepsLoss old turn × AllKeepLoss turn.state turns

-- a loss stays one until the entry is asked again
abbrev pub StaysLostLaw : Type 0
StaysLostLaw = (old : WatchState) (turns : List Turned) → IsReached old → History old turns → AllKeepLoss old turns

-- what came of a request that told nothing
abbrev pub is_refused : WatchReply → Bool
is_refused (Told seconds renewable date) = false
is_refused (Refused status date) = true
is_refused Busy = false
is_refused Lost = false

abbrev pub is_lost : WatchReply → Bool
is_lost (Told seconds renewable date) = false
is_lost (Refused status date) = false
is_lost Busy = false
is_lost Lost = true

-- the try u that a reply which tells nothing leaves of t, to a request that had heard of an answer to another or not: it has failed once
-- more, 20 times at most; nothing counts from when it began; and it is alone where no reply came though others were answered. It asks this
-- next
pub record IsFailure (t u : Try) (reply : WatchReply) (heard : Bool) (next : Operation) : Type 0 where
  pub fails : u.fails ≡ min 20 (t.fails + 1)
  pub base : u.base ≡ None
  pub alone : u.alone ≡ is_lost reply && heard
  pub pressed : u.pressed ≡ t.pressed
  pub operation : u.operation ≡ next

-- after a renewal: the renewal again while the end is ahead, also where a lookup is owed; but a lookup where it was refused
abbrev pub asked_after_renewal : WatchReply → Bool → Operation
asked_after_renewal reply ahead = if not (is_refused reply) && ahead then Renew else Look

-- after a lookup: a renewal where the end is ahead or unknown and the lookup was refused, or the entry is to be kept alive; else the lookup again
abbrev pub asked_after_lookup : WatchReply → Bool → Bool → Operation
asked_after_lookup reply pressed lives = if (is_refused reply || pressed) && lives then Renew else Look

-- so after each reply that tells nothing. And a lookup that is owed stays so, until it is told or refused
pub record FailureLaw : Type 0 where
  pub renewal :
      (old : WatchState) (turn : Turned) (i : ℕ) (reply : WatchReply) (t u : Try) (q : Out) → History old (turn ∷ []) → turn.event ≡ Renewed i reply → is_event_taken turn.result ≡ true → is_told reply ≡ false →
      request_out old.out i Renew ≡ Some q → attempt_at old i ≡ Some t → attempt_at turn.state i ≡ Some u →
      IsFailure t u reply q.heard (asked_after_renewal reply (is_alive (second old) (track_at old i))) × ((track_at turn.state i).owes ≡ (track_at old i).owes)
  pub lookup :
      (old : WatchState) (turn : Turned) (i : ℕ) (reply : WatchReply) (terms : WatchTerms) (t u : Try) (q : Out) → History old (turn ∷ []) → turn.event ≡ Looked i reply terms → is_event_taken turn.result ≡ true →
      is_told reply ≡ false → request_out old.out i Look ≡ Some q → attempt_at old i ≡ Some t → attempt_at turn.state i ≡ Some u →
      IsFailure t u reply q.heard (asked_after_lookup reply t.pressed (is_open (second old) (track_at old i))) × ((track_at turn.state i).owes ≡ (track_at old i).owes && not (is_refused reply))
