-- Hearing: what the watch is told of an answer to a lookup.
-- Source: this project's own, over Vault, HTTP API: `auth/token`, "Lookup a token (self)"; `sys/leases`, "Read lease".
use Rattle.std.specs.Prelude.{ℕ, ◌+◌, ◌-◌, Bool, false, not, ◌&&◌, if◌then◌else◌, Option, Some, None, nat_lt}
use Rattle.watch_machine.specs.{declared.event.WatchEvent.WatchEvent, declared.event.WatchEvent.TheVariants.Known, declared.event.WatchReply.WatchReply, declared.track.End.End, Clocks.sec}
use Rattle.watch_machine.specs.declared.event.WatchReply.TheVariants.{Told, Refused, Busy, Lost}
use Rattle.watch_machine.specs.declared.track.End.TheVariants.{Unknown, At, Never}
use Rattle.watch_machine.specs.State.{WatchState, second, track_at}
use Rattle.watch_scout.specs.{Looking.with_seen, State.ScoutState, State.seen_at}

-- an end is later than the believed one, where that is known
abbrev pub is_later : End → ℕ → Bool
is_later Unknown end = false
is_later (At believed) end = nat_lt believed end
is_later Never end = false

-- an end that was told of i is to be handed to the watch: i is not out, and the end is later than the believed one, and ahead
unfoldable pub is_news : WatchState → ℕ → ℕ → Bool
is_news w i end = not (track_at w i).out && (is_later (track_at w i).end end && nat_lt (second w) end)

-- the end that so many seconds tell, which count from the clock at which the lookup went out
abbrev pub end_told : ℕ → ℕ → ℕ
end_told since seconds = sec since + seconds

-- what becomes known by a reply to a lookup of i that went out at that clock
abbrev pub event_by : WatchState → ℕ → ℕ → WatchReply → Option WatchEvent
event_by w i since (Told seconds renewable date) = if is_news w i (end_told since seconds) then Some (Known i (end_told since seconds) renewable) else None
event_by w i since (Refused status date) = None
event_by w i since Busy = None
event_by w i since Lost = None

abbrev pub event_where : WatchState → ℕ → Option ℕ → WatchReply → Option WatchEvent
event_where w i None reply = None
event_where w i (Some since) reply = event_by w i since reply

unfoldable pub event_of : ScoutState → WatchState → ℕ → WatchReply → Option WatchEvent
event_of s w i reply = event_where w i (seen_at s i).since reply

-- its lookup is out no more
abbrev pub freed_where : ScoutState → ℕ → Option ℕ → ScoutState
freed_where s i None = s
freed_where s i (Some since) = record (with_seen s i (record (seen_at s i) { since = None })) { out = s.out - 1 }

unfoldable pub freed : ScoutState → ℕ → ScoutState
freed s i = freed_where s i (seen_at s i).since
