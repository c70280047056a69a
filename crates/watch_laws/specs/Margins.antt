-- Margins: when the time of an entry comes, and which entries are in the plan. The laws are the contract of public functions without a
-- body, and are said by what is known of an entry.
-- Source: this project's own.
use Rattle.std.specs.Prelude.{◌≡◌, ◌↔◌, ℕ, ◌-◌, ◌*◌, ◌/◌, ◌<◌, ◌≤◌, true, if◌then◌else◌, Option, Some, None, IfSome, min}
use Rattle.base_moment.specs.declared.moment.TheConstants.{LAST}
use Rattle.watch_machine.specs.{declared.track.End.End, declared.track.Grant.Grant, Outlook.time_of}
use Rattle.watch_machine.specs.declared.track.End.TheVariants.{Unknown, At, Never}
use Rattle.watch_machine.specs.Margins.{has_come, is_in_plan, own_margin}
use Rattle.watch_machine.specs.State.{WatchState, entry_of, has_last_try, second, track_at}

-- the least that an entry is granted, as far as is known: its step, or its last grant where that is less
abbrev pub least_granted : ℕ → Option Grant → ℕ
least_granted step None = step
least_granted step (Some last) = min step last.seconds

-- an entry's own margin: the margin, or three quarters of that where they are less
abbrev pub own_before : WatchState → ℕ → ℕ
own_before s i = min s.forest.margin (3 * least_granted (entry_of s i).step (track_at s i).grant / 4)

-- how long before its end an entry is asked: its own margin; for its last try, which one at its top may have, half of that
abbrev pub asked_before : WatchState → ℕ → ℕ
asked_before s i = if has_last_try (track_at s i) then own_before s i / 2 else own_before s i

-- a second is the time of an entry with this end that is asked so long before: 0, which is never ahead, where its end is unknown; and
-- later than any second that this clock shows where it never ends
abbrev pub IsTimeBefore : ℕ → End → ℕ → Type 0
IsTimeBefore long Unknown time = time ≡ 0
IsTimeBefore long (At end) time = time ≡ end - long
IsTimeBefore long Never time = LAST < time

-- what the machine takes for an entry's own margin and for its time, and where that has come, of an entry in the plan or not
pub record TimeLaw : Type 0 where
  pub own : (s : WatchState) (i : ℕ) → own_margin s.forest.margin (entry_of s i) (track_at s i) ≡ own_before s i
  pub time : (s : WatchState) (i : ℕ) → IsTimeBefore (asked_before s i) (track_at s i).end (time_of s i)
  pub come : (s : WatchState) (i : ℕ) → (has_come s.forest.margin (entry_of s i) (track_at s i) (second s) ≡ true) ↔ (time_of s i ≤ second s)

-- the step of an entry, and its last grant if it had any, are four thirds of the margin or more
pub record HasRoom (s : WatchState) (i : ℕ) : Type 0 where
  pub step : 4 * s.forest.margin ≤ 3 * (entry_of s i).step
  pub granted : IfSome (track_at s i).grant (λ last. 4 * s.forest.margin ≤ 3 * last.seconds)

-- an entry is in the plan just where they are
abbrev pub InPlanLaw : Type 0
InPlanLaw = (s : WatchState) (i : ℕ) → (is_in_plan s.forest.margin (entry_of s i) (track_at s i) ≡ true) ↔ HasRoom s i
