-- AtTop: by which grants an entry comes to be called topped. The law is the contract of a public function without a body.
-- Source: this project's own, over Vault, "Lease, renew, and revoke" (a renewal counts from its own moment; maximum TTL).
use Rattle.std.specs.Prelude.{◌≡◌, ◌↔◌, ℕ, ◌+◌, ◌-◌, ◌<◌, ◌≤◌, Bool, true, [], ◌∷◌, Option, Some, length}
use Rattle.watch_machine.specs.{declared.event.WatchEvent.TheVariants.Renewed, declared.event.WatchReply.TheVariants.Told, declared.track.End.TheVariants.At, declared.track.Grant.Grant, Clocks.sec, History.History, History.Turned}
use Rattle.watch_machine.specs.{Wanted.believed}
use Rattle.watch_machine.specs.State.{WatchState, entry_of, track_at}
use Rattle.watch_laws.specs.Absence.{is_event_taken}

-- a grant of i that counts from that second is at the top: it and the one before count from seconds two apart or more, both are less than the
-- step, and it leads more than a second further neither than that one nor than the end that was believed
pub record IsAtTop (old : WatchState) (i seconds from : ℕ) : Type 0 where
  pub before : Grant
  pub last : (track_at old i).grant ≡ Some before
  pub known : ℕ
  pub ends : (track_at old i).end ≡ At known
  pub apart : sec before.from + 2 ≤ from
  pub earlier_is_short : before.seconds < (entry_of old i).step
  pub later_is_short : seconds < (entry_of old i).step
  pub than_grant : from + seconds ≤ sec before.from + before.seconds + 1
  pub than_end : from + seconds ≤ known + 1

-- after a grant its entry is called topped just where it is so
abbrev pub TopLaw : Type 0
TopLaw =
    (old : WatchState) (turn : Turned) (i seconds : ℕ) (renewable : Bool) (date : Option ℕ) → History old (turn ∷ []) → i < length old.tracks →
    turn.event ≡ Renewed i (Told seconds renewable date) → is_event_taken turn.result ≡ true →
    ((track_at turn.state i).top ≡ true) ↔ IsAtTop old i seconds (believed (track_at turn.state i).end - seconds)
