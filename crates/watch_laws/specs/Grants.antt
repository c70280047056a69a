-- Grants: what is believed of an entry when it is granted. The laws are the contract of public functions without a body.
-- Source: this project's own, over Vault, "Lease, renew, and revoke".
use Rattle.std.specs.Prelude.{◌≡◌, ℕ, ◌+◌, ◌-◌, ◌*◌, ◌/◌, ◌<◌, ◌≤◌, Bool, true, [], ◌∷◌, Option, Some, None, IfSome, length, min}
use Rattle.watch_machine.specs.{declared.event.WatchEvent.TheVariants.Renewed, declared.event.Operation.TheVariants.Renew, declared.event.WatchReply.TheVariants.Told, declared.lanes.Out.Out, declared.track.End.TheVariants.At}
use Rattle.watch_machine.specs.{declared.track.Grant.Grant, declared.track.Track.Track, declared.track.Try.Try, Clocks.sec, History.History, History.Turned, Refusal.request_out}
use Rattle.watch_machine.specs.State.{WatchState, attempt_at, entry_of, second, track_at}
use Rattle.watch_laws.specs.Absence.{is_event_taken}

-- the last grant of an entry was of so many seconds; it ends so long after the second from which that counts, and is as renewable as told
pub record IsGranted (x : Track) (seconds : ℕ) (renewable : Bool) : Type 0 where
  pub grant : Grant
  pub last : x.grant ≡ Some grant
  pub told : grant.seconds ≡ seconds
  pub ends : x.end ≡ At (sec grant.from + seconds)
  pub goes_on : x.renewable ≡ renewable

-- a grant is believed as it is told
abbrev pub GrantedLaw : Type 0
GrantedLaw =
    (old : WatchState) (turn : Turned) (i seconds : ℕ) (renewable : Bool) (date : Option ℕ) → History old (turn ∷ []) → i < length old.tracks →
    turn.event ≡ Renewed i (Told seconds renewable date) → is_event_taken turn.result ≡ true → IsGranted (track_at turn.state i) seconds renewable

-- the time that a grant of so many seconds leaves to an entry of that step, if it counts from that second: so long before its end as the
-- margin, or as three quarters of what it is granted where they are less
abbrev pub time_left : ℕ → ℕ → ℕ → ℕ → ℕ
time_left margin step seconds from = (from + seconds) - min margin (3 * min step seconds / 4)

-- the end to which a grant of i leads that answers the request q: it counts from the second in which the try began, if that leaves a time
-- which is more than a second ahead; else, and where the try has failed, from the second in which its request went out
pub record IsCountedFrom (old new : WatchState) (i seconds : ℕ) (q : Out) : Type 0 where
  pub first :
      (t : Try) (base : ℕ) → attempt_at old i ≡ Some t → t.base ≡ Some base → second old + 1 < time_left old.forest.margin (entry_of old i).step seconds (sec base) →
      (track_at new i).end ≡ At (sec base + seconds)
  pub late :
      (t : Try) (base : ℕ) → attempt_at old i ≡ Some t → t.base ≡ Some base → time_left old.forest.margin (entry_of old i).step seconds (sec base) ≤ second old + 1 →
      (track_at new i).end ≡ At (sec q.since + seconds)
  pub again : (t : Try) → attempt_at old i ≡ Some t → t.base ≡ None → (track_at new i).end ≡ At (sec q.since + seconds)

abbrev pub CountedLaw : Type 0
CountedLaw =
    (old : WatchState) (turn : Turned) (i seconds : ℕ) (renewable : Bool) (date : Option ℕ) → History old (turn ∷ []) → i < length old.tracks →
    turn.event ≡ Renewed i (Told seconds renewable date) → is_event_taken turn.result ≡ true → IfSome (request_out old.out i Renew) (IsCountedFrom old turn.state i seconds)
