-- Doubling: how long an entry pauses after a failure. For the law of pauses that double.
use Rattle.std.proofs.Common.{◌≡◌, ◌∙◌, ℕ, ◌+◌, ◌<◌, ◌≤◌, Bool, true, false, ◌&&◌, Option, Some, None, Result, Ok, Err, nat_le, refl, sym, ap, subst, arith}
use Rattle.std.proofs.lemmas.{Bool.cond-false, Bool.cond-true, Bool.Decides.nat_tests}
use Rattle.watch_machine.specs.{declared.command.WatchOutput.WatchOutput, declared.event.WatchEvent.WatchEvent, declared.event.WatchEvent.TheVariants.Clock, declared.fault.WatchFault.WatchFault, declared.notes.Notes.Notes}
use Rattle.watch_machine.specs.{declared.track.Track.Track, declared.track.Try.Try, Beginning.begun, Beginning.hastened, Lines.rested, History.Turn, Pauses.pause, Press.pressed, Round.asked_by_round as round_of}
use Rattle.watch_machine.specs.Settling.{settled, settled_track, settled_try, timed}
use Rattle.watch_machine.specs.State.{WatchState, attempt_at, track_at}
use Rattle.watch_machine.specs.Step.{StepClock, readied, why}
use Rattle.watch_machine.proofs.{Cases.value_is, Seeing.each_read}
use Rattle.watch_laws.specs.Waiting.{TryFails}
use Rattle.watch_laws.specs.Pauses.{DoubledLaw, IsPaused, IsUnpaused, TryWaits, UnpausedLaw, pause_of, was_out_long}
use Rattle.watch_laws.proofs.{Clocking.readied_clocks, Clocking.sent_by, Minding.some_within}
use Rattle.watch_laws.proofs.Tries.{Passes, begun_passes, sent_passes}

pause_is : (s : WatchState) (i at : ℕ) (t : Try) → pause s.forest.margin at (track_at s i) t ≡ pause_of s i at t
unfolding pause
pause_is s i at t = refl

long_is : (last : Option ℕ) (at : ℕ) → nat_le (rested last) at ≡ was_out_long last at
long_is None at = grind (arith, nat_tests)
long_is (Some last) at = refl

-- a try after its pause
abbrev After : ℕ → ℕ → Bool → Try → Try → Type 0
After at n alone t u = (u.at ≤ at + n) × ((u.fails ≡ t.fails) × (u.alone ≡ alone))

-- what the clock makes of a try stays, where it is pressed and has failed
settled_is :
    (P : Try → Type 0) (margin at : ℕ) (x : Track) (t v : Try) → x.attempt ≡ Some t → settled_try margin at x (Some t) ≡ Some v → P v → Passes P (settled_track margin at x)
unfolding settled_track
settled_is P margin at x t v is there h u some pressed' fails = subst P (value_is v u (sym (ap (settled_try margin at x) is ∙ there) ∙ some)) h

module _ (old new : WatchState) (wall elapsed : ℕ) (output : WatchOutput) (step : StepClock old wall elapsed output new) (i : ℕ) (t : Try) (is : attempt_at old i ≡ Some t) where
  abbrev at : ℕ
  at = (timed old wall elapsed).clocks.at

  abbrev paused : Try
  paused = record t { at = at + pause old.forest.margin at (track_at old i) t; alone = t.alone && nat_le (rested (track_at old i).last) at; failed = false }

  clock_is : new.clocks.at ≡ at
  clock_is = ap (λ (x : WatchState). x.clocks.at) (sent_by (pressed (readied old wall elapsed) (round_of step.round)) new output.command step.command).1 ∙ ap (λ c. c.at) (readied_clocks old wall elapsed)

  none_begins : output.notes.began ≡ None → why old wall elapsed ≡ None
  none_begins none = sym (ap (λ (x : Notes). x.began) step.notes) ∙ none

  first : (P : Try → Type 0) (v : Try) → settled_try old.forest.margin at (track_at old i) (Some t) ≡ Some v → P v → Passes P (track_at (settled (timed old wall elapsed)) i)
  first P v there h =
      subst (Passes P) (sym (each_read (λ j. settled_track old.forest.margin at) old.tracks i (some_within old.tracks i t is)))
      (settled_is P old.forest.margin at (track_at old i) t v is there h)

  last : (P : Try → Type 0) → Passes P (track_at (readied old wall elapsed) i) → Passes P (track_at new i)
  last P h =
      let go = sent_by (pressed (readied old wall elapsed) (round_of step.round)) new output.command step.command in
      subst (λ (x : WatchState). Passes P (track_at x i)) (sym go.1) (sent_passes P (readied old wall elapsed) (round_of step.round) go.0 i h)

  -- with a beginning, and without one
  hastened_passes : (P : Try → Type 0) (v : Try) → ((w : Try) (from : ℕ) → P w → P (hastened w from)) → settled_try old.forest.margin at (track_at old i) (Some t) ≡ Some v → P v → Passes P (track_at new i)
  unfolding readied
  hastened_passes P v hasten there h = last P (begun_passes P hasten (settled (timed old wall elapsed)) (why old wall elapsed) i (first P v there h))

  kept_passes : (P : Try → Type 0) (v : Try) → why old wall elapsed ≡ None → settled_try old.forest.margin at (track_at old i) (Some t) ≡ Some v → P v → Passes P (track_at new i)
  unfolding readied
  kept_passes P v none there h = last P (subst (λ w. Passes P (track_at (begun (settled (timed old wall elapsed)) w) i)) (sym none) (first P v there h))

  clock_paused : t.failed ≡ true → (u : Try) → attempt_at new i ≡ Some u → u.pressed ≡ true → 0 < u.fails → IsPaused old (record { event = Clock wall elapsed; result = Ok output; state = new }) i t u
  clock_paused failed u after pressed' fails =
      let n = pause old.forest.margin at (track_at old i) t in
      let there = cond-true t.failed (Some paused) (Some t) failed in
      let h = hastened_passes (After at n paused.alone t) paused (λ v from h. (let l = h.0 in omega (arith, l), h.1)) there (omega arith, (refl, refl)) u after pressed' fails in
      let l = h.0 in
      let same = clock_is in
      let pause' = pause_is old i at t in
      let most : pause_of old i new.clocks.at t ≡ n = ap (λ m. pause_of old i m t) same ∙ sym pause' in
      record {
        soon = omega (arith, l, same, most);
        paused = λ none. let e : u.at ≡ at + n = kept_passes (λ v. v.at ≡ at + n) paused (none_begins none) there refl u after pressed' fails in omega (arith, e, same, most);
        fails = h.1.0;
        alone = h.1.1 ∙ ap (λ b. t.alone && b) (long_is (track_at old i).last at) ∙ ap (λ m. t.alone && was_out_long (track_at old i).last m) (sym same);
      }

  clock_unpaused : t.failed ≡ false → (u : Try) → attempt_at new i ≡ Some u → u.pressed ≡ true → 0 < u.fails → IsUnpaused (record { event = Clock wall elapsed; result = Ok output; state = new }) t u
  clock_unpaused waits u after pressed' fails =
      let there = cond-false t.failed (Some paused) (Some t) waits in
      let h = hastened_passes (After t.at 0 t.alone t) t (λ v from h. (let l = h.0 in omega (arith, l), h.1)) there (omega arith, (refl, refl)) u after pressed' fails in
      let l = h.0 in
      record {
        soon = omega (arith, l);
        same = λ none. kept_passes (λ v. v.at ≡ t.at) t (none_begins none) there refl u after pressed' fails;
        fails = h.1.0;
        alone = h.1.1;
      }

turn_paused :
    (old new : WatchState) (event : WatchEvent) (result : Result WatchOutput WatchFault) (i : ℕ) (t u : Try) → Turn old event result new →
    TryFails old (record { event = event; result = result; state = new }) i t u → 0 < u.fails → IsPaused old (record { event = event; result = result; state = new }) i t u
turn_paused old new (Clock wall elapsed) (Ok output) i t u turn h fails = clock_paused old new wall elapsed output turn.1 i t h.before h.failed u h.after h.pressed fails
turn_paused old new event (Err fault) i t u turn h fails = absurd (let e = h.taken in cc)
turn_paused old new _ (Ok output) i t u turn h fails = absurd (let e = h.clock in cc)

turn_unpaused :
    (old new : WatchState) (event : WatchEvent) (result : Result WatchOutput WatchFault) (i : ℕ) (t u : Try) → Turn old event result new →
    TryWaits old (record { event = event; result = result; state = new }) i t u → 0 < u.fails → IsUnpaused (record { event = event; result = result; state = new }) t u
turn_unpaused old new (Clock wall elapsed) (Ok output) i t u turn h fails = clock_unpaused old new wall elapsed output turn.1 i t h.before h.waits u h.after h.pressed fails
turn_unpaused old new event (Err fault) i t u turn h fails = absurd (let e = h.taken in cc)
turn_unpaused old new _ (Ok output) i t u turn h fails = absurd (let e = h.clock in cc)

pub pauses_double : DoubledLaw
pauses_double old turn i t u history fails again = turn_paused old turn.state turn.event turn.result i t u history.0 fails again

pub others_go_on : UnpausedLaw
others_go_on old turn i t u history waits again = turn_unpaused old turn.state turn.event turn.result i t u history.0 waits again
