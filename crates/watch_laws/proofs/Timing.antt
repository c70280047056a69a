-- Timing: when the time of an entry comes, and which entries are in the plan. For the laws of margins.
use Rattle.std.proofs.Common.{◌≡◌, ◌↔◌, ℕ, ◌-◌, ◌*◌, ◌≤◌, true, Option, Some, None, IfSome, nat_le, refl, ap, arith, ◌/◌, if◌then◌else◌}
use Rattle.std.proofs.lemmas.{Bool.eqb-true, Bool.Decides.nat_tests}
use Rattle.watch_machine.specs.{declared.track.End.End, declared.track.Grant.Grant, Outlook.time_of}
use Rattle.watch_machine.specs.declared.track.End.TheVariants.{Unknown, At, Never}
use Rattle.watch_machine.specs.Margins.{asking_margin, has_come, is_in_plan, lead, own_by, own_margin, time, time_before}
use Rattle.watch_machine.specs.State.{WatchState, entry_of, has_last_try, second, track_at}
use Rattle.watch_laws.specs.Margins.{InPlanLaw, IsTimeBefore, TimeLaw, asked_before, least_granted, own_before}

least_is : (step : ℕ) (o : Option Grant) → lead step o ≡ least_granted step o
least_is step None = refl
least_is step (Some last) = refl

own_is : (s : WatchState) (i : ℕ) → own_margin s.forest.margin (entry_of s i) (track_at s i) ≡ own_before s i
unfolding own_margin
own_is s i = ap (own_by s.forest.margin) (least_is (entry_of s i).step (track_at s i).grant)

asked_is : (s : WatchState) (i : ℕ) → asking_margin s.forest.margin (entry_of s i) (track_at s i) ≡ asked_before s i
unfolding asking_margin
asked_is s i = ap (λ n. if has_last_try (track_at s i) then n / 2 else n) (own_is s i)

before_is : (own long : ℕ) → own ≡ long → (it : End) → IsTimeBefore long it (time_before it own)
before_is own long same Unknown = refl
before_is own long same (At end) = ap (λ n. end - n) same
before_is own long same Never = omega arith

time_is : (s : WatchState) (i : ℕ) → IsTimeBefore (asked_before s i) (track_at s i).end (time_of s i)
unfolding time
time_is s i = before_is (asking_margin s.forest.margin (entry_of s i) (track_at s i)) (asked_before s i) (asked_is s i) (track_at s i).end

le_is : (m n : ℕ) → (nat_le m n ≡ true) ↔ (m ≤ n)
le_is m n = (λ test. grind (arith, nat_tests, test), λ low. grind (arith, nat_tests, low))

come_is : (s : WatchState) (i : ℕ) → (has_come s.forest.margin (entry_of s i) (track_at s i) (second s) ≡ true) ↔ (time_of s i ≤ second s)
unfolding has_come
come_is s i = le_is (time_of s i) (second s)

pub timed_so : TimeLaw
timed_so = record { own = own_is; time = time_is; come = come_is }

-- the lesser of a margin and three quarters of what is granted is the margin where both are four thirds of it
step_room : (margin step : ℕ) (o : Option Grant) → own_by margin (lead step o) ≡ margin → 4 * margin ≤ 3 * step
step_room margin step None is = omega (arith, is)
step_room margin step (Some last) is = omega (arith, is)

grant_room : (margin step : ℕ) (o : Option Grant) → own_by margin (lead step o) ≡ margin → IfSome o (λ last. 4 * margin ≤ 3 * last.seconds)
grant_room margin step None is = tt
grant_room margin step (Some last) is = omega (arith, is)

room_is : (margin step : ℕ) (o : Option Grant) → 4 * margin ≤ 3 * step → IfSome o (λ last. 4 * margin ≤ 3 * last.seconds) → own_by margin (lead step o) ≡ margin
room_is margin step None long granted = omega (arith, long)
room_is margin step (Some last) long granted = omega (arith, long, granted)

pub planned_so : InPlanLaw
unfolding is_in_plan own_margin
planned_so s i =
    let margin = s.forest.margin in
    let step = (entry_of s i).step in
    let grant = (track_at s i).grant in (
      λ test. let is : own_by margin (lead step grant) ≡ margin = eqb-true (own_by margin (lead step grant)) margin test in
          record { step = step_room margin step grant is; granted = grant_room margin step grant is },
      λ room. let is : own_by margin (lead step grant) ≡ margin = room_is margin step grant room.step room.granted in
          grind (arith, nat_tests, is),
    )
