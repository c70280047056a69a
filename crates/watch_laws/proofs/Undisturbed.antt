-- Undisturbed: a clock presses no entry whose request is out. For the laws of outages.
use Rattle.std.proofs.Common.{◌≡◌, ℕ, ◌+◌, Bool, true, false, not, ◌&&◌, ◌||◌, ◌==◌, if◌then◌else◌, List, Option, Some, None, nat_le, refl}
use Rattle.std.proofs.lemmas.Bool.{and_parts, or_parts}
use Rattle.std.specs.List.{list_any}
use Rattle.plan_forest.specs.{declared.entry.Entry.Entry, Forest.entry_at}
use Rattle.watch_machine.specs.{declared.command.WatchRequest.WatchRequest, declared.notes.BeginReason.BeginReason, declared.track.Track.Track, declared.track.Try.Try, Clocks.sec, Lines.rested, Margins.has_come, Pauses.pause}
use Rattle.watch_machine.specs.{Step.readied, Step.why}
use Rattle.watch_machine.specs.Beginning.{begun, is_called, is_pressed, is_pressed_try, is_start, owing, owing_lookup, soon, sooner_try, untopped, untopped_track}
use Rattle.watch_machine.specs.Press.{asked_track, dropped, is_fresh, press, pressed, pressed_alone, pressed_track, track_asked_in}
use Rattle.watch_machine.specs.Sending.{sent, sent_in, sent_track}
use Rattle.watch_machine.specs.Settling.{settled, settled_track, settled_try, timed}
use Rattle.watch_machine.specs.State.{WatchState, no_track, track_at, track_in}
use Rattle.watch_machine.specs.Wanted.{is_open, need_of, wants}
use Rattle.watch_machine.proofs.Cases.{if_both, if_cases, not_both}
use Rattle.watch_laws.proofs.Tracking.{each_kept}

-- who is out stays out, and is pressed only if it was
abbrev pub Undisturbed : Track → Track → Type 0
Undisturbed y x = (x.out ≡ true → y.out ≡ true) × (x.out ≡ true → is_pressed y ≡ true → is_pressed x ≡ true)

same_undisturbed : (x : Track) → Undisturbed x x
same_undisturbed x = ((λ out. out), (λ out pressed'. pressed'))

both_undisturbed : (z y x : Track) → Undisturbed z y → Undisturbed y x → Undisturbed z x
both_undisturbed z y x h k = ((λ out. h.0 (k.0 out)), (λ out pressed'. k.1 out (h.1 (k.0 out) pressed')))

none_undisturbed : Undisturbed no_track no_track
none_undisturbed = ((λ out. out), (λ out pressed'. pressed'))

pub settled_pressed : (margin at : ℕ) (x : Track) (o : Option Try) → is_pressed_try (settled_try margin at x o) ≡ true → is_pressed_try o ≡ true
settled_pressed margin at x None = λ h. h
settled_pressed margin at x (Some t) =
    if_both (λ (o : Option Try). is_pressed_try o ≡ true → t.pressed ≡ true) t.failed (Some (record t { at = at + pause margin at x t; alone = t.alone && nat_le (rested x.last) at; failed = false })) (Some t)
    (λ h. h) (λ h. h)

settled_undisturbed : (margin at : ℕ) (x : Track) → Undisturbed (settled_track margin at x) x
unfolding settled_track
settled_undisturbed margin at x = ((λ out. out), (λ out. settled_pressed margin at x x.attempt))

owing_undisturbed : (at : ℕ) (first called : Bool) (x : Track) → Undisturbed (owing at first called x) x
unfolding owing
owing_undisturbed at first called x =
    let P : Track → Type 0 = λ y. Undisturbed y x in
    if_both P (called && (first || is_open (sec at) x)) (owing_lookup at x) x
    (if_cases P x.out (record x { owes = true }) (record x { owes = true; attempt = Some (sooner_try (soon at x) x.attempt) }) (λ out. ((λ o. o), (λ o pressed'. pressed')))
    (λ free. ((λ o. o), (λ out pressed'. absurd (not_both out free))))) (same_undisturbed x)

fresh_free : (a b c out : Bool) → (a && (b && (c && not out))) ≡ true → out ≡ false
fresh_free a b c true h =
    let both = and_parts a (b && (c && false)) h in
    let more = and_parts b (c && false) both.1 in
    absurd (let bad = (and_parts c false more.1).1 in cc)
fresh_free a b c false h = refl

pressed_undisturbed : (margin : ℕ) (e : Entry) (need at : ℕ) (x : Track) → Undisturbed (pressed_track margin e need at x) x
unfolding pressed_track is_fresh
pressed_undisturbed margin e need at x =
    let P : Track → Type 0 = λ y. Undisturbed y x in
    let fresh = wants x need && (has_come margin e x (sec at) && (not (is_pressed x) && not x.out)) in
    if_cases P fresh (record x { attempt = Some (press at x) }) (if wants x need || x.out then x else record x { attempt = dropped x x.attempt })
    (λ yes'. ((λ o. o), (λ out pressed'. absurd (not_both out (fresh_free (wants x need) (has_come margin e x (sec at)) (not (is_pressed x)) x.out yes')))))
    (λ no'. if_cases P (wants x need || x.out) x (record x { attempt = dropped x x.attempt }) (λ kept. same_undisturbed x)
    (λ gone. ((λ o. o), (λ out pressed'. absurd (not_both out (or_parts (wants x need) x.out gone).1)))))

asked_undisturbed : (at : ℕ) (round : List ℕ) (i : ℕ) (x : Track) → Undisturbed (track_asked_in at round i x) x
unfolding asked_track
asked_undisturbed at round i x =
    let P : Track → Type 0 = λ y. Undisturbed y x in
    if_both P (list_any (λ j. j == i) round) (asked_track at x) x
    (if_cases P x.out x (record x { attempt = Some (press at x) }) (λ out. same_undisturbed x)
    (λ free. ((λ o. o), (λ out pressed'. absurd (not_both out free))))) (same_undisturbed x)

sent_undisturbed : (at : ℕ) (requests : List WatchRequest) (i : ℕ) (x : Track) → Undisturbed (sent_in at requests i x) x
sent_undisturbed at requests i x =
    if_both (λ y. Undisturbed y x) (list_any (λ (r : WatchRequest). r.entry == i) requests) (sent_track at x) x ((λ out. refl), (λ out pressed'. pressed')) (same_undisturbed x)

begun_undisturbed : (s : WatchState) (w : Option BeginReason) (i : ℕ) → Undisturbed (track_at (begun s w) i) (track_at s i)
begun_undisturbed s None i = same_undisturbed (track_at s i)
begun_undisturbed s (Some w) i =
    let xs = untopped s.tracks in
    both_undisturbed (track_at (begun s (Some w)) i) (track_in xs i) (track_at s i)
    (each_kept Undisturbed none_undisturbed (λ j. owing s.clocks.at (is_start w) (is_called s.forest xs s.clocks j)) xs (λ j x. owing_undisturbed s.clocks.at (is_start w) (is_called s.forest xs s.clocks j) x) i)
    (each_kept Undisturbed none_undisturbed (λ j. untopped_track) s.tracks (λ j x. ((λ out. out), (λ out pressed'. pressed'))) i)

mid_undisturbed : (s : WatchState) (round : List ℕ) (i : ℕ) → Undisturbed (track_at (pressed s round) i) (track_at s i)
mid_undisturbed s round i =
    let c = s.clocks in
    let g = s.forest in
    let alone = pressed_alone g c s.tracks in
    both_undisturbed (track_at (pressed s round) i) (track_in alone i) (track_at s i)
    (each_kept Undisturbed none_undisturbed (track_asked_in c.at round) alone (asked_undisturbed c.at round) i)
    (each_kept Undisturbed none_undisturbed (λ j. pressed_track g.margin (entry_at g.entries j) (need_of g.entries s.tracks c j) c.at) s.tracks
    (λ j x. pressed_undisturbed g.margin (entry_at g.entries j) (need_of g.entries s.tracks c j) c.at x) i)

pub clock_undisturbed : (old : WatchState) (wall elapsed : ℕ) (round : List ℕ) (requests : List WatchRequest) (i : ℕ) → Undisturbed (track_at (sent (pressed (readied old wall elapsed) round) requests) i) (track_at old i)
unfolding readied
clock_undisturbed old wall elapsed round requests i =
    let t = timed old wall elapsed in
    let ready = begun (settled t) (why old wall elapsed) in
    let mid = pressed ready round in
    both_undisturbed (track_at (sent mid requests) i) (track_at mid i) (track_at old i)
    (each_kept Undisturbed none_undisturbed (sent_in mid.clocks.at requests) mid.tracks (λ j x. sent_undisturbed mid.clocks.at requests j x) i)
    (both_undisturbed (track_at mid i) (track_at ready i) (track_at old i) (mid_undisturbed ready round i)
    (both_undisturbed (track_at ready i) (track_at (settled t) i) (track_at old i) (begun_undisturbed (settled t) (why old wall elapsed) i)
    (each_kept Undisturbed none_undisturbed (λ j. settled_track t.forest.margin t.clocks.at) t.tracks (λ j x. settled_undisturbed t.forest.margin t.clocks.at x) i)))
