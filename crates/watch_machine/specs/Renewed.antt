-- Renewed: what the answer to a renewal makes of its entry.
-- Source: Vault, HTTP API: `auth/token`, "Renew a token (self)"; `sys/leases`, "Renew lease". Vault, "Lease, renew, and revoke" (the
-- TTL counts from the renewal; maximum TTL).
use Rattle.std.specs.Prelude.{ℕ, ◌+◌, ◌-◌, Bool, true, false, not, ◌&&◌, ◌||◌, if◌then◌else◌, Option, Some, None, min, nat_le, nat_lt}
use Rattle.watch_machine.specs.{declared.event.Operation.Operation, declared.event.WatchReply.WatchReply, declared.lanes.Out.Out, declared.track.End.End, declared.track.Grant.Grant, declared.track.Track.Track, declared.track.Try.Try}
use Rattle.watch_machine.specs.{Answers.failing, Answers.with_track, Beginning.owed, Clocks.sec, Margins.own_by, Wanted.is_alive}
use Rattle.watch_machine.specs.declared.event.Operation.TheVariants.{Look, Renew}
use Rattle.watch_machine.specs.declared.event.WatchReply.TheVariants.{Told, Refused, Busy, Lost}
use Rattle.watch_machine.specs.declared.track.End.TheVariants.{Unknown, At, Never}
use Rattle.watch_machine.specs.State.{WatchState, entry_of, keeps_last_try, track_at}

-- the time of an entry with that step, after a grant of so many seconds that counts from a second
abbrev pub time_from : ℕ → ℕ → ℕ → ℕ → ℕ
time_from margin step seconds from = (from + seconds) - own_by margin (min step seconds)

-- the clock from whose second a grant counts: that at which the try began, where it has not failed, and that leaves a time which
-- is more than a second ahead; else that of the request
abbrev pub from_base : ℕ → ℕ → ℕ → ℕ → ℕ → Option ℕ → ℕ
from_base margin step seconds at since None = since
from_base margin step seconds at since (Some base) = if nat_lt (sec at + 1) (time_from margin step seconds (sec base)) then base else since

abbrev pub from_try : ℕ → ℕ → ℕ → ℕ → ℕ → Option Try → ℕ
from_try margin step seconds at since None = since
from_try margin step seconds at since (Some t) = from_base margin step seconds at since t.base

-- this grant and the one before it, which count from seconds 2 apart or more, are both less than the step, and it leads more than
-- a second further neither than the one before nor than the believed end
abbrev pub is_no_further : ℕ → ℕ → ℕ → Option Grant → End → Bool
is_no_further step seconds from (Some before) (At end) =
    nat_le (sec before.from + 2) (sec from)
    && (nat_lt before.seconds step && (nat_lt seconds step && nat_le (sec from + seconds) (min end (sec before.from + before.seconds) + 1)))
is_no_further step seconds from before end = false

-- the try after it: a grant whose end is not ahead is a failure; a lookup that is owed follows after half a minute
abbrev pub granted_try : ℕ → Bool → ℕ → Option Try → Option Try
granted_try at owes end None = None
granted_try at owes end (Some t) = if nat_lt (sec at) end then (if owes then Some (owed (at + 30000)) else None) else Some (failing t Look false false)

-- an entry after a grant that counts from that clock. The first that leads it no further, since one that did, gives it its last try; the
-- next one takes that away
unfoldable pub granted_from : ℕ → ℕ → ℕ → Bool → ℕ → Track → Track
granted_from step at seconds renewable from x = record x {
  end = At (sec from + seconds);
  renewable = renewable;
  top = is_no_further step seconds from x.grant x.end;
  last_try = not (is_no_further step seconds from x.grant x.end) || keeps_last_try x;
  grant = Some (record { seconds = seconds; from = from });
  attempt = granted_try at x.owes (sec from + seconds) x.attempt;
  out = false;
}

abbrev pub granted : ℕ → ℕ → ℕ → ℕ → ℕ → Bool → Track → Track
granted margin step at since seconds renewable x = granted_from step at seconds renewable (from_try margin step seconds at since x.attempt) x

-- what is asked after a renewal that had no answer: a renewal again while the end is ahead, also where a lookup is owed, which follows
-- the grant; else a lookup
abbrev pub after_renewal : ℕ → Track → Operation
after_renewal now x = if is_alive now x then Renew else Look

abbrev pub ungranted_try : ℕ → Bool → WatchReply → Track → Try → Try
ungranted_try at heard (Told seconds renewable date) x t = t
ungranted_try at heard (Refused status date) x t = failing t Look false false
ungranted_try at heard Busy x t = failing t (after_renewal (sec at) x) true false
ungranted_try at heard Lost x t = failing t (after_renewal (sec at) x) true heard

abbrev pub ungranted : ℕ → Bool → WatchReply → Track → Option Try → Option Try
ungranted at heard reply x None = None
ungranted at heard reply x (Some t) = Some (ungranted_try at heard reply x t)

unfoldable pub ungranted_track : ℕ → Bool → WatchReply → Track → Track
ungranted_track at heard reply x = record x { out = false; attempt = ungranted at heard reply x x.attempt }

-- an entry after the answer to this request
unfoldable pub renewed_track : ℕ → ℕ → ℕ → Out → WatchReply → Track → Track
renewed_track margin step at r (Told seconds renewable date) x = granted margin step at r.since seconds renewable x
renewed_track margin step at r (Refused status date) x = ungranted_track at r.heard (Refused status date) x
renewed_track margin step at r Busy x = ungranted_track at r.heard Busy x
renewed_track margin step at r Lost x = ungranted_track at r.heard Lost x

abbrev pub track_renewed : WatchState → Out → WatchReply → Track
track_renewed s r reply = renewed_track s.forest.margin (entry_of s r.entry).step s.clocks.at r reply (track_at s r.entry)

-- the state after it, but for what it says of the broker
abbrev pub state_renewed : WatchState → Out → WatchReply → WatchState
state_renewed s r reply = with_track s r.entry (track_renewed s r reply)

-- the end to which a grant led, where that is the top
abbrev pub end_at : End → Option ℕ
end_at Unknown = None
end_at (At end) = Some end
end_at Never = None

abbrev pub top_by : WatchReply → Track → Option ℕ
top_by (Told seconds renewable date) x = if x.top then end_at x.end else None
top_by (Refused status date) x = None
top_by Busy x = None
top_by Lost x = None
