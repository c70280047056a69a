-- Shortness: which needs are past what their entries can reach.
-- Source: Vault, "Tokens" (explicit max TTL; a token's end ends its children and its leases); Vault, "Lease, renew, and revoke"
-- (maximum TTL).
use Rattle.std.specs.Prelude.{ℕ, ◌==◌, Bool, not, ◌&&◌, ◌||◌, if◌then◌else◌, Option, Some, None, map, nat_lt, ◌+◌, true, nat_le}
use Rattle.std.specs.{List.list_any, Option.unwrap_or}
use Rattle.plan_rule.specs.Reach.{reach_of}
use Rattle.plan_forest.specs.{declared.forest.TheConstants.END_MAX, Over.chain}
use Rattle.watch_machine.specs.{declared.track.End.End, Outlook.broker_moment, Outlook.broker_now}
use Rattle.watch_machine.specs.declared.track.End.TheVariants.{Unknown, At, Never}
use Rattle.watch_machine.specs.State.{WatchState, entry_of, second, track_at}
use Rattle.watch_machine.specs.Wanted.{is_alive, is_fixed, is_never, is_unknown, least}

-- an end by the broker's clock, 0 where it is unknown, past every need where there is none
abbrev pub there : WatchState → End → ℕ
there s Unknown = 0
there s (At end) = broker_moment s end
there s Never = END_MAX

-- renewals still lead i: its end is unknown, or ahead and not the last
unfoldable pub is_led : WatchState → ℕ → Bool
is_led s i = is_unknown (track_at s i).end || (is_alive (second s) (track_at s i) && not (is_fixed (track_at s i)))

-- nothing is known of i: nobody has told its end, and the inventory does not say it, nor when it was issued
unfoldable pub is_untold : WatchState → ℕ → Bool
is_untold s i = is_unknown (track_at s i).end && (entry_of s i).end == 0

-- how far they can lead it by itself, by the broker's clock: its end, where they lead it no more, else the greater of its end and
-- its ceiling; past every need where there is no limit, or where nothing is known of it
unfoldable pub own_reach : WatchState → ℕ → ℕ
own_reach s i =
    if is_never (track_at s i).end || is_untold s i then END_MAX
    else unwrap_or (reach_of (record (entry_of s i) { renewable = is_led s i }) 0 0 (there s (track_at s i).end)) END_MAX

-- the least of these over an entry, its own among them
unfoldable pub least_own_reach : WatchState → ℕ → ℕ
least_own_reach s i = least END_MAX (map (own_reach s) (chain s.forest.entries i))

-- a lookup is owed of i, or of an entry over it: it may tell another reach
unfoldable pub is_owed_over : WatchState → ℕ → Bool
is_owed_over s i = list_any (λ a. (track_at s a).owes) (chain s.forest.entries i)

-- the reach of an entry, where it is before the need, the need is ahead, and no lookup may tell another
unfoldable pub short_of : WatchState → ℕ → Option ℕ
short_of s i =
    if not (is_owed_over s i) && (nat_lt (broker_now s) (entry_of s i).need && nat_lt (least_own_reach s i) (entry_of s i).need)
    then Some (least_own_reach s i)
    else None

-- a reach is said where none was, or where it differs by the margin or more from what was said last
abbrev pub is_news : ℕ → Option ℕ → ℕ → Bool
is_news margin None reach = true
is_news margin (Some last) reach = nat_le (last + margin) reach || nat_le (reach + margin) last
