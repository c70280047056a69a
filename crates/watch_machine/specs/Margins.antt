-- Margins: how long before its end an entry is asked.
-- Source: this project's own, over Vault, "Lease, renew, and revoke" (a grant may be shorter than the increment).
use Rattle.std.specs.Prelude.{ℕ, ◌-◌, ◌*◌, ◌/◌, Bool, ◌==◌, if◌then◌else◌, Option, Some, None, min, nat_le}
use Rattle.plan_forest.specs.{declared.entry.Entry.Entry, declared.forest.TheConstants.END_MAX}
use Rattle.watch_machine.specs.{declared.track.End.End, declared.track.Grant.Grant, declared.track.Track.Track, State.has_last_try}
use Rattle.watch_machine.specs.declared.track.End.TheVariants.{Unknown, At, Never}

-- how far a renewal is taken to lead: the lesser of the step and the last grant
abbrev pub lead : ℕ → Option Grant → ℕ
lead step None = step
lead step (Some grant) = min step grant.seconds

-- the lesser of the margin and three quarters of that
abbrev pub own_by : ℕ → ℕ → ℕ
own_by margin lead = min margin (3 * lead / 4)

unfoldable pub own_margin : ℕ → Entry → Track → ℕ
own_margin margin e x = own_by margin (lead e.step x.grant)

unfoldable pub is_in_plan : ℕ → Entry → Track → Bool
is_in_plan margin e x = own_margin margin e x == margin

-- so long before an end: an unknown end's time has come, that of none never does
abbrev pub time_before : End → ℕ → ℕ
time_before Unknown margin = 0
time_before (At end) margin = end - margin
time_before Never margin = END_MAX

-- how long before its end an entry is asked: its own margin, for its last try half of that
unfoldable pub asking_margin : ℕ → Entry → Track → ℕ
asking_margin margin e x = if has_last_try x then own_margin margin e x / 2 else own_margin margin e x

-- the second from which on it is
unfoldable pub time : ℕ → Entry → Track → ℕ
time margin e x = time_before x.end (asking_margin margin e x)

unfoldable pub has_come : ℕ → Entry → Track → ℕ → Bool
has_come margin e x now = nat_le (time margin e x) now
