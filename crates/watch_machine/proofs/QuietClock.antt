-- QuietClock: a clock at which nothing is to be done is a step of the definitions. For `clock`.
use Rattle.std.proofs.Common.{◌≡◌, ◌∙◌, ℕ, zero, suc, ◌-◌, Bool, List, [], None, IsPermutation, length, take, refl, sym, ap, subst, arith}
use Rattle.std.proofs.lemmas.{List.append-nil, List.Sorted.IsPermutation-refl}
use Rattle.plan_forest.specs.Forest.{Forest}
use Rattle.watch_machine.specs.{declared.clocks.Clocks.Clocks, declared.command.WatchCommand.TheVariants.Go, declared.lanes.Out.Out, declared.lanes.Presence.Presence, declared.track.Track.Track, Press.pressed_tracks}
use Rattle.watch_machine.specs.{State.WatchState, State.each, Step.StepClock, Step.nothing_noted, Wanted.need_of}
use Rattle.watch_machine.specs.Sending.{IsGoing, Place, due, sent_in}
use Rattle.watch_machine.specs.Settling.{clocks_after, has_jumped, has_stepped, pace_after}
use Rattle.watch_machine.specs.code.Lull.{IsQuiet, paced_by, quieted, wait_by}
use Rattle.watch_machine.proofs.{ClockParts.clock_step, Owing.none_asked, Seeing.each_id}

-- where none is due nothing goes out
none_taken : (n : ℕ) → take {A = Place} n [] ≡ []
none_taken zero = refl
none_taken (suc n) = refl

none_goes : (g : Forest) (p : Presence) (at : ℕ) (xs : List Track) (lanes : ℕ) → due g p at xs ≡ [] → IsGoing g p at xs lanes []
none_goes g p at xs lanes none = record {
  picked = [];
  is_picked = ([], (record { all = subst (λ ds. IsPermutation ds []) (sym none) (IsPermutation-refl []); in_order = λ k d from within. absurd (omega (arith, within)) }, sym (none_taken lanes)));
  requests_are = refl;
}

pub quiet_step :
    (old : WatchState) (wall elapsed : ℕ) (k : Clocks) (stepped jumped : Bool) (until : ℕ) → k ≡ clocks_after old wall elapsed → stepped ≡ has_stepped old wall elapsed → jumped ≡ has_jumped old wall elapsed →
    IsQuiet old k stepped jumped until → StepClock old wall elapsed (record { command = Go [] until; notes = nothing_noted }) (quieted old k stepped)
quiet_step old wall elapsed k stepped jumped until clocks_are stepped_is jumped_is quiet =
    let g = old.forest in
    let xs = old.tracks in
    let pace = pace_after k.at old.presence.pace old.answers in
    let p = paced_by pace old in
    let pressed : pressed_tracks g k [] xs ≡ xs = none_asked g k xs ∙ quiet.pressed in
    let sent : each (sent_in k.at []) (pressed_tracks g k [] xs) ≡ xs = each_id (sent_in k.at []) (pressed_tracks g k [] xs) (λ i x. refl) ∙ pressed in
    clock_step old (quieted old k stepped) wall elapsed k stepped jumped xs p None xs None [] until (need_of g.entries xs k) nothing_noted clocks_are stepped_is jumped_is (sym quiet.settled) (sym quiet.presence)
    (sym quiet.reason) refl (λ i below. refl) quiet.shut
    (subst (λ ys. IsGoing g p k.at ys (old.width - length old.out) []) (sym pressed) (none_goes g p k.at xs (old.width - length old.out) (quiet.idle pace)))
    (quiet.waits pace ∙ ap (λ ys. wait_by g k p ys (need_of g.entries xs k)) (sym sent)) refl
    (ap (λ ys. record old { clocks = k; presence = p; stepped = stepped; answers = []; tracks = ys }) (sym sent)
    ∙ ap (λ (os : List Out). record old { clocks = k; presence = p; stepped = stepped; answers = []; tracks = each (sent_in k.at []) (pressed_tracks g k [] xs); out = os }) (sym (append-nil old.out)))
