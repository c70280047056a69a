-- Tracking: what holds between each track and what a step makes of it. For laws that speak of one entry.
use Rattle.std.proofs.Common.{◌≡◌, ◌∙◌, ℕ, zero, suc, if◌then◌else◌, List, [], ◌∷◌, length, refl, sym, subst, inl, inr, Bool, true, false, Some}
use Rattle.std.proofs.lemmas.{Bool.cases_lt, List.get_or_past, List.length-set}
use Rattle.std.specs.Prelude.{slice_set}
use Rattle.watch_machine.specs.{declared.event.WatchReply.WatchReply, declared.event.WatchReply.TheVariants.Told, declared.event.WatchTerms.WatchTerms, declared.lanes.Out.Out, declared.track.Track.Track, Clocks.sec, Looked.looked}
use Rattle.watch_machine.specs.{Renewed.state_renewed, Settling.is_real, Step.told_earlier, Wanted.is_alive}
use Rattle.watch_machine.specs.Answers.{answers_all, back_track, lane_freed, noted, replied, silent, with_track}
use Rattle.watch_machine.specs.Beginning.{owing_lookup, owing_past, soon, sooner_try}
use Rattle.watch_machine.specs.State.{WatchState, each, no_track, track_at, track_in}
use Rattle.watch_machine.proofs.{Cases.if_both, Cases.if_cases, Seeing.each_past, Seeing.each_read, Written.each_length}

-- a relation between what is made of a track and the track holds at each index, if it holds past the last one
pub each_kept :
    (R : Track → Track → Type 0) → R no_track no_track → (f : ℕ → Track → Track) (xs : List Track) → ((i : ℕ) (x : Track) → R (f i x) x) → (i : ℕ) →
    R (track_in (each f xs) i) (track_in xs i)
each_kept R none f xs made i =
    elim (cases_lt i (length xs)) [
      | inl within ↦ subst (λ y. R y (track_in xs i)) (sym (each_read f xs i within)) (made i (track_in xs i))
      | inr past ↦ subst (λ y. R y (track_in xs i)) (sym (each_past f xs i past)) (subst (λ x. R no_track x) (sym (get_or_past xs i no_track past)) none)
    ]

-- what is left at one index is as it was there
pub each_at : (f : ℕ → Track → Track) (xs : List Track) (i : ℕ) → ((x : Track) → f i x ≡ x) → track_in (each f xs) i ≡ track_in xs i
each_at f xs i same =
    elim (cases_lt i (length xs)) [
      | inl within ↦ each_read f xs i within ∙ same (track_in xs i)
      | inr past ↦ each_past f xs i past ∙ sym (get_or_past xs i no_track past)
    ]

-- what holds of what is made of a track, and past the last one, holds at its index
pub each_holds : (P : Track → Type 0) → P no_track → (f : ℕ → Track → Track) (xs : List Track) (i : ℕ) → P (f i (track_in xs i)) → P (track_in (each f xs) i)
each_holds P none f xs i made =
    elim (cases_lt i (length xs)) [
      | inl within ↦ subst P (sym (each_read f xs i within)) made
      | inr past ↦ subst P (sym (each_past f xs i past)) none
    ]

pub set_holds : (P : Track → Type 0) → P no_track → (xs : List Track) (i : ℕ) (y : Track) → P y → P (track_in (slice_set xs i y) i)
set_holds P none [] i y made = none
set_holds P none (x ∷ xs) zero y made = made
set_holds P none (x ∷ xs) (suc i) y made = set_holds P none xs i y made

-- an end that is handed in: its entry is as told; and where that is past it owes a lookup besides, and has a try, if it is not out
pub known_is :
    (P : Track → Type 0) (at end : ℕ) (renewable : Bool) (x : Track) → P (told_earlier end renewable x) → (x.out ≡ true → P (record (told_earlier end renewable x) { owes = true })) →
    (x.out ≡ false → P (record (told_earlier end renewable x) { owes = true; attempt = Some (sooner_try (soon at x) x.attempt) })) → P (owing_past at (told_earlier end renewable x))
unfolding owing_past
known_is P at end renewable x told out free =
    let y = told_earlier end renewable x in
    if_both P (is_alive (sec at) y) y (owing_lookup at y) told (if_cases P x.out (record y { owes = true }) (record y { owes = true; attempt = Some (sooner_try (soon at x) x.attempt) }) out free)

pub known_out : (at end : ℕ) (renewable : Bool) (x : Track) → (owing_past at (told_earlier end renewable x)).out ≡ x.out
known_out at end renewable x = known_is (λ (y : Track). y.out ≡ x.out) at end renewable x refl (λ out. refl) (λ free. refl)

-- and where one is set, if it holds between each track and itself
pub set_kept :
    (R : Track → Track → Type 0) → ((x : Track) → R x x) → (xs : List Track) (j : ℕ) (y : Track) → R y (track_in xs j) → (i : ℕ) →
    R (track_in (slice_set xs j y) i) (track_in xs i)
set_kept R same [] j y made i = same no_track
set_kept R same (x ∷ xs) zero y made zero = made
set_kept R same (x ∷ xs) zero y made (suc i) = same (track_in xs i)
set_kept R same (x ∷ xs) (suc j) y made zero = same x
set_kept R same (x ∷ xs) (suc j) y made (suc i) = set_kept R same xs j y made i

-- the broker's return
pub back_kept : (R : Track → Track → Type 0) → ((x : Track) → R x x) → ((x : Track) → R (back_track x) x) → (s : WatchState) (r : Out) (reply : WatchReply) (i : ℕ) → R (track_at (replied s r reply) i) (track_at s i)
back_kept R same made s r reply i =
    let free = lane_freed s r in
    if_both (λ (t : WatchState). R (track_at t i) (track_at s i)) (is_real reply) (answers_all free) (if r.heard then free else silent free)
    (if_both (λ (t : WatchState). R (track_at t i) (track_at s i)) s.presence.away _ _ (each_kept R (same no_track) (λ j. back_track) s.tracks (λ j x. made x) i) (same (track_at s i)))
    (if_both (λ (t : WatchState). R (track_at t i) (track_at s i)) r.heard free (silent free) (same (track_at s i))
    (if_both (λ (t : WatchState). R (track_at t i) (track_at s i)) s.presence.away _ _ (same (track_at s i)) (same (track_at s i))))

-- there are as many tracks as before
pub set_count : (s : WatchState) (i : ℕ) (x : Track) → length (with_track s i x).tracks ≡ length s.tracks
set_count s i x = length-set s.tracks i x

back_count : (s : WatchState) (r : Out) (reply : WatchReply) → length (replied s r reply).tracks ≡ length s.tracks
back_count s r reply =
    let free = lane_freed s r in
    if_both (λ (t : WatchState). length t.tracks ≡ length s.tracks) (is_real reply) (answers_all free) (if r.heard then free else silent free)
    (if_both (λ (t : WatchState). length t.tracks ≡ length s.tracks) s.presence.away _ _ (each_length (λ j. back_track) s.tracks) refl)
    (if_both (λ (t : WatchState). length t.tracks ≡ length s.tracks) r.heard free (silent free) refl
    (if_both (λ (t : WatchState). length t.tracks ≡ length s.tracks) s.presence.away _ _ refl refl))

looked_by : (s : WatchState) (r : Out) (reply : WatchReply) (terms : WatchTerms) → length (looked s r reply terms).tracks ≡ length s.tracks
looked_by s r (Told seconds renewable date) terms = length-set _ r.entry _ ∙ length-set s.tracks r.entry _
looked_by s r _ terms = length-set s.tracks r.entry _

pub looked_count : (s : WatchState) (r : Out) (reply : WatchReply) (terms : WatchTerms) → length (replied (looked (noted s r reply) r reply terms) r reply).tracks ≡ length s.tracks
looked_count s r reply terms = back_count (looked (noted s r reply) r reply terms) r reply ∙ looked_by (noted s r reply) r reply terms

pub renewed_count : (s : WatchState) (r : Out) (reply : WatchReply) → length (replied (state_renewed (noted s r reply) r reply) r reply).tracks ≡ length s.tracks
renewed_count s r reply = back_count (state_renewed (noted s r reply) r reply) r reply ∙ length-set s.tracks r.entry _

-- no answer writes the forest but that of a lookup
pub replied_forest : (s : WatchState) (r : Out) (reply : WatchReply) → (replied s r reply).forest ≡ s.forest
replied_forest s r reply =
    let free = lane_freed s r in
    if_both (λ (t : WatchState). t.forest ≡ s.forest) (is_real reply) (answers_all free) (if r.heard then free else silent free)
    (if_both (λ (t : WatchState). t.forest ≡ s.forest) s.presence.away _ _ refl refl)
    (if_both (λ (t : WatchState). t.forest ≡ s.forest) r.heard free (silent free) refl (if_both (λ (t : WatchState). t.forest ≡ s.forest) s.presence.away _ _ refl refl))
