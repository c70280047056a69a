-- StillPressed: a clock leaves an entry pressed that was, as long as it is wanted. For the laws of outages.
use Rattle.std.proofs.Common.{◌≡◌, ℕ, ◌+◌, Bool, true, false, ◌&&◌, ◌||◌, ◌==◌, if◌then◌else◌, List, Option, Some, None, nat_le, refl, sym, subst}
use Rattle.std.proofs.lemmas.Bool.{or_parts}
use Rattle.std.specs.List.{list_any}
use Rattle.plan_forest.specs.{declared.entry.Entry.Entry, Forest.entry_at}
use Rattle.watch_machine.specs.{declared.command.WatchOutput.WatchOutput, declared.command.WatchRequest.WatchRequest, declared.notes.BeginReason.BeginReason, declared.track.Track.Track, declared.track.Try.Try, Clocks.sec, Lines.rested}
use Rattle.watch_machine.specs.{Pauses.pause, Step.readied, Step.why}
use Rattle.watch_machine.specs.Beginning.{begun, is_called, is_pressed, is_pressed_try, is_start, owing, owing_lookup, soon, sooner_try, untopped, untopped_track}
use Rattle.watch_machine.specs.Press.{asked_track, dropped, is_fresh, press, pressed, pressed_alone, pressed_track, track_asked_in}
use Rattle.watch_machine.specs.Sending.{sent, sent_in, sent_track}
use Rattle.watch_machine.specs.Settling.{settled, settled_track, settled_try, timed}
use Rattle.watch_machine.specs.State.{WatchState, no_track, track_at, track_in}
use Rattle.watch_machine.specs.Wanted.{is_open, is_wanted, need_of, wants}
use Rattle.watch_machine.proofs.Unseen.{pressed_seen, sent_seen}
use Rattle.watch_machine.proofs.Cases.{if_both, if_cases, not_both}
use Rattle.watch_machine.proofs.Seeing.{SameSeen, both_seen, need_same}
use Rattle.watch_laws.proofs.{Lanes.Ticks, Tracking.each_holds, Tracking.each_kept}

-- before the time of others is looked at
abbrev Keeps : Track → Track → Type 0
Keeps y x = is_pressed x ≡ true → is_pressed y ≡ true

settled_keeps : (margin at : ℕ) (x : Track) (o : Option Try) → is_pressed_try o ≡ true → is_pressed_try (settled_try margin at x o) ≡ true
settled_keeps margin at x None = λ h. h
settled_keeps margin at x (Some t) = λ h.
    if_both (λ (o : Option Try). is_pressed_try o ≡ true) t.failed (Some (record t { at = at + pause margin at x t; alone = t.alone && nat_le (rested x.last) at; failed = false })) (Some t) h h

sooner_keeps : (from : ℕ) (o : Option Try) → is_pressed_try o ≡ true → (sooner_try from o).pressed ≡ true
sooner_keeps from None h = absurd cc
sooner_keeps from (Some t) h = h

owing_keeps : (at : ℕ) (first called : Bool) (x : Track) → Keeps (owing at first called x) x
unfolding owing
owing_keeps at first called x was =
    let P : Track → Type 0 = λ y. is_pressed y ≡ true in
    if_both P (called && (first || is_open (sec at) x)) (owing_lookup at x) x
    (if_both P x.out (record x { owes = true }) (record x { owes = true; attempt = Some (sooner_try (soon at x) x.attempt) }) was (sooner_keeps (soon at x) x.attempt was)) was

begun_keeps : (s : WatchState) (w : Option BeginReason) (i : ℕ) → Keeps (track_at (begun s w) i) (track_at s i)
begun_keeps s None i = λ was. was
begun_keeps s (Some w) i = λ was.
    let xs = untopped s.tracks in
    each_kept Keeps (λ h. h) (λ j. owing s.clocks.at (is_start w) (is_called s.forest xs s.clocks j)) xs (λ j x. owing_keeps s.clocks.at (is_start w) (is_called s.forest xs s.clocks j) x) i
    (each_kept Keeps (λ h. h) (λ j. untopped_track) s.tracks (λ j x h. h) i was)

settles_keep : (margin at : ℕ) (x : Track) → Keeps (settled_track margin at x) x
unfolding settled_track
settles_keep margin at x = settled_keeps margin at x x.attempt

readied_keeps : (old : WatchState) (wall elapsed i : ℕ) → Keeps (track_at (readied old wall elapsed) i) (track_at old i)
unfolding readied
readied_keeps old wall elapsed i = λ was.
    let t = timed old wall elapsed in
    begun_keeps (settled t) (why old wall elapsed) i
    (each_kept Keeps (λ h. h) (λ j. settled_track t.forest.margin t.clocks.at) t.tracks (λ j x. settles_keep t.forest.margin t.clocks.at x) i was)

-- and after it: who is wanted is not let go
abbrev Stays : ℕ → Track → Type 0
Stays need y = wants y need ≡ true → is_pressed y ≡ true

none_stays : (need : ℕ) → Stays need no_track
unfolding wants
none_stays need wanted = absurd cc

fresh_stays : (margin : ℕ) (e : Entry) (need at : ℕ) (x : Track) → is_pressed x ≡ true → Stays need (pressed_track margin e need at x)
unfolding pressed_track press wants
fresh_stays margin e need at x was =
    if_both (Stays need) (is_fresh margin e x need (sec at)) (record x { attempt = Some (press at x) }) (if wants x need || x.out then x else record x { attempt = dropped x x.attempt })
    (λ wanted. refl)
    (if_cases (Stays need) (wants x need || x.out) x (record x { attempt = dropped x x.attempt }) (λ kept wanted. was) (λ gone wanted. absurd (not_both wanted (or_parts (wants x need) x.out gone).0)))

asked_stays : (need at : ℕ) (round : List ℕ) (i : ℕ) (x : Track) → Stays need x → Stays need (track_asked_in at round i x)
unfolding asked_track press
asked_stays need at round i x h =
    if_both (Stays need) (list_any (λ j. j == i) round) (asked_track at x) x (if_both (Stays need) x.out x (record x { attempt = Some (press at x) }) h (λ wanted. refl)) h

sent_stays : (need at : ℕ) (requests : List WatchRequest) (i : ℕ) (x : Track) → Stays need x → Stays need (sent_in at requests i x)
unfolding wants
sent_stays need at requests i x h = if_both (Stays need) (list_any (λ (r : WatchRequest). r.entry == i) requests) (sent_track at x) x h h

mid_stays : (s : WatchState) (round : List ℕ) (i : ℕ) → is_pressed (track_at s i) ≡ true → Stays (need_of s.forest.entries s.tracks s.clocks i) (track_at (pressed s round) i)
mid_stays s round i was =
    let c = s.clocks in
    let g = s.forest in
    let need = need_of g.entries s.tracks c i in
    let alone = pressed_alone g c s.tracks in
    each_holds (Stays need) (none_stays need) (track_asked_in c.at round) alone i
    (asked_stays need c.at round i (track_in alone i)
    (each_holds (Stays need) (none_stays need) (λ j. pressed_track g.margin (entry_at g.entries j) (need_of g.entries s.tracks c j) c.at) s.tracks i
    (fresh_stays g.margin (entry_at g.entries i) need c.at (track_at s i) was)))

pub still_pressed_at : (old new : WatchState) (wall elapsed : ℕ) (output : WatchOutput) (i : ℕ) → Ticks old new wall elapsed output → is_wanted new i ≡ true → is_pressed (track_at old i) ≡ true → is_pressed (track_at new i) ≡ true
still_pressed_at old new wall elapsed output i h wanted was =
    let s = readied old wall elapsed in
    let mid = pressed s h.round in
    let end = sent mid h.requests in
    let g = s.forest in
    let c = s.clocks in
    let need = need_of g.entries s.tracks c i in
    let seen : SameSeen end.tracks s.tracks = both_seen end.tracks mid.tracks s.tracks (sent_seen c.at h.requests mid.tracks) (pressed_seen g c h.round s.tracks) in
    let needs = need_same end.tracks s.tracks seen g.entries c i in
    let stays : Stays need (track_at end i) =
    each_holds (Stays need) (none_stays need) (sent_in c.at h.requests) mid.tracks i (sent_stays need c.at h.requests i (track_at mid i) (mid_stays s h.round i (readied_keeps old wall elapsed i was))) in
    subst (λ (x : WatchState). is_wanted x i ≡ true → is_pressed (track_at x i) ≡ true) (sym h.new_is) (λ w. stays (subst (λ k. wants (track_at end i) k ≡ true) needs w)) wanted
