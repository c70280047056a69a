-- Status: how an entry stands, for `status`, `health` and the metrics.
-- Source: this project's own.
use Rattle.std.specs.Prelude.{ℕ, ◌+◌, Bool, true, false, ◌&&◌, ◌||◌, if◌then◌else◌, Option, Some, None, is_some, nat_le, nat_lt}
use Rattle.watch_machine.specs.{declared.track.End.End, Outlook.broker_moment, Wanted.is_unknown}
use Rattle.watch_machine.specs.declared.track.End.TheVariants.{Unknown, At, Never}
use Rattle.watch_machine.specs.State.{WatchState, entry_of, second, track_at}
use Rattle.agent_standing.specs.{declared.standing.Trouble.Trouble, declared.status.Status.Status, Agent.Agent, Agent.standing_at}
use Rattle.agent_standing.specs.declared.status.Condition.TheVariants.{Gone, Ended, Short, Trying, Kept}
use Rattle.agent_standing.specs.declared.standing.Trouble.TheVariants as troubles

-- the moment of an end by the broker's clock, where it is known
abbrev pub end_there : WatchState → End → Option ℕ
end_there m Unknown = None
end_there m (At end) = Some (broker_moment m end)
end_there m Never = None

-- it is past
abbrev pub has_ended : WatchState → End → Bool
has_ended m Unknown = false
has_ended m (At end) = nat_le end (second m)
has_ended m Never = false

abbrev pub is_gone : Option Trouble → Bool
is_gone None = false
is_gone (Some troubles.Lost) = false
is_gone (Some troubles.Refused) = false
is_gone (Some troubles.Gone) = true

-- an end that is more than a second after the reach shows that the entry reaches further
abbrev pub is_up_to : ℕ → Option ℕ → Bool
is_up_to reach None = true
is_up_to reach (Some end) = nat_le end (reach + 1)

-- the reach that was said last, where it is before the need and no end has shown another
abbrev pub reach_in_force : ℕ → Option ℕ → Option ℕ → Option ℕ
reach_in_force need end None = None
reach_in_force need end (Some reach) = if nat_lt reach need && is_up_to reach end then Some reach else None

abbrev pub alive_status : ℕ → Option ℕ → Bool → Option ℕ → Status
alive_status need end trying None = record { condition = if trying then Trying else Kept; end = end; in_force = need }
alive_status need end trying (Some reach) = record { condition = Short; end = end; in_force = reach }

-- the gravest that applies: the broker does not know the entry; its end is past; it is not kept as long as it is needed; a request of it
-- failed, or nothing is known of it yet. And until when its need can be kept, 0 where it is gone or has ended
unfoldable pub status_by : WatchState → ℕ → End → Option Trouble → Option ℕ → Status
status_by m need end trouble short =
    if is_gone trouble then record { condition = Gone; end = end_there m end; in_force = 0 }
    else (if has_ended m end then record { condition = Ended; end = end_there m end; in_force = 0 }
    else alive_status need (end_there m end) (is_some trouble || is_unknown end) (reach_in_force need (end_there m end) short))

abbrev pub status_of_entry : Agent → ℕ → Status
status_of_entry a i = status_by a.machine (entry_of a.machine i).need (track_at a.machine i).end (standing_at a i).trouble (standing_at a i).short
