-- Standings: what is said of an entry to whoever looks, and what an event makes of it.
-- Source: this project's own, over Vault, HTTP API: `auth/token`, "Lookup a token (self)", "Renew a token (self)"; `sys/leases`, "Read
-- lease", "Renew lease".
use Rattle.std.specs.Prelude.{ℕ, ◌+◌, ◌-◌, ◌*◌, ◌/◌, Bool, List, Option, Some, None, min, slice_index_or, slice_set}
use Rattle.watch_machine.specs.{declared.clocks.Clocks.Clocks, declared.event.WatchEvent.WatchEvent, declared.event.WatchReply.WatchReply, declared.track.End.End, State.WatchState, State.track_at}
use Rattle.watch_machine.specs.declared.event.WatchEvent.TheVariants.{Clock, Looked, Renewed, Need, Begin, Known}
use Rattle.watch_machine.specs.declared.track.End.TheVariants.{Unknown, At, Never}
use Rattle.watch_machine.specs.declared.event.WatchReply.TheVariants as replies
use Rattle.agent_standing.specs.{declared.standing.EntryStanding.EntryStanding, declared.standing.Told.Told, declared.standing.Trouble.Trouble}
use Rattle.agent_standing.specs.declared.standing.Trouble.TheVariants.{Lost, Refused, Gone}

-- nothing was told of an entry yet
abbrev pub fresh_standing : EntryStanding
fresh_standing = record { told = None; trouble = None; short = None; granted_at = None; granted = 0; refused = 0; lost = 0 }

-- the standing at an index of a list, a fresh one past its end
abbrev pub standing_in : List EntryStanding → ℕ → EntryStanding
standing_in xs i = slice_index_or xs i fresh_standing

-- one more, as far as is counted
abbrev pub more : ℕ → ℕ
more n = min (n + 1) 18446744073709551615

-- a second of the machine's clock in whole seconds of the clock that is handed in, never later
abbrev pub handed_second : Clocks → ℕ → ℕ
handed_second c second = (second * 1000 - c.phase) / 1000

-- the end that a machine believes, where it is a moment, and its word on renewal
abbrev pub told_end : Clocks → Bool → End → Option Told
told_end c renewable Unknown = None
told_end c renewable (At end) = Some (record { end = handed_second c end; renewable = renewable })
told_end c renewable Never = None

abbrev pub told_of : WatchState → ℕ → Option Told
told_of m i = told_end m.clocks (track_at m i).renewable (track_at m i).end

-- a trouble more: what is gone stays gone until it is told of
abbrev pub troubled : Option Trouble → Trouble → Option Trouble
troubled None t = Some t
troubled (Some Lost) t = Some t
troubled (Some Refused) t = Some t
troubled (Some Gone) t = Some Gone

-- the standing of an entry after the answer to its lookup, in the machine after it
abbrev pub looked_standing : WatchState → ℕ → WatchReply → EntryStanding → EntryStanding
looked_standing m i (replies.Told seconds renewable date) x = record x { told = told_of m i; trouble = None }
looked_standing m i (replies.Refused status date) x = record x { trouble = Some Gone }
looked_standing m i replies.Busy x = record x { trouble = troubled x.trouble Lost }
looked_standing m i replies.Lost x = record x { trouble = troubled x.trouble Lost }

-- and after the answer to its renewal
abbrev pub renewed_standing : WatchState → ℕ → WatchReply → EntryStanding → EntryStanding
renewed_standing m i (replies.Told seconds renewable date) x =
    record x { told = told_of m i; trouble = None; granted_at = Some (m.clocks.at - m.clocks.phase); granted = more x.granted }
renewed_standing m i (replies.Refused status date) x = record x { trouble = troubled x.trouble Refused; refused = more x.refused }
renewed_standing m i replies.Busy x = record x { trouble = troubled x.trouble Lost; lost = more x.lost }
renewed_standing m i replies.Lost x = record x { trouble = troubled x.trouble Lost; lost = more x.lost }

-- and once an end is handed in that is known, in the machine after it
abbrev pub known_standing : WatchState → ℕ → EntryStanding → EntryStanding
known_standing m i x = record x { told = told_of m i }

-- the standings after an event, in the machine after it: only that of its own entry is another
abbrev pub standings_after : WatchState → WatchEvent → List EntryStanding → List EntryStanding
standings_after m (Clock wall elapsed) xs = xs
standings_after m (Looked i reply terms) xs = slice_set xs i (looked_standing m i reply (standing_in xs i))
standings_after m (Renewed i reply) xs = slice_set xs i (renewed_standing m i reply (standing_in xs i))
standings_after m (Need i until) xs = xs
standings_after m Begin xs = xs
standings_after m (Known i end renewable) xs = slice_set xs i (known_standing m i (standing_in xs i))
