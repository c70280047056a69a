-- Unseen: a beginning, a pressing and a sending write nothing of what is seen of entries. For the steps of a clock.
use Rattle.std.proofs.Common.{◌≡◌, ℕ, Bool, true, ◌&&◌, ◌||◌, ◌==◌, List, Some, refl}
use Rattle.std.specs.List.{list_any}
use Rattle.plan_forest.specs.{declared.entry.Entry.Entry, Forest.Forest, Forest.entry_at}
use Rattle.watch_machine.specs.{declared.clocks.Clocks.Clocks, declared.command.WatchRequest.WatchRequest, declared.track.Track.Track, Clocks.sec, Sending.sent_in, Sending.sent_track, State.each}
use Rattle.watch_machine.specs.Beginning.{is_called, owing, owing_all, owing_lookup, soon, sooner_try}
use Rattle.watch_machine.specs.Press.{asked_track, dropped, is_fresh, press, pressed_alone, pressed_track, pressed_tracks, track_asked_in}
use Rattle.watch_machine.specs.Wanted.{is_open, need_of, wants}
use Rattle.watch_machine.proofs.Cases.{if_both}
use Rattle.watch_machine.proofs.Seeing.{SameSeen, both_seen, each_seen, sight}

owing_unseen : (at : ℕ) (first called : Bool) (x : Track) → sight (owing at first called x) ≡ sight x
unfolding owing
owing_unseen at first called x =
    if_both (λ y. sight y ≡ sight x) (called && (first || is_open (sec at) x)) (owing_lookup at x) x
    (if_both (λ y. sight y ≡ sight x) x.out (record x { owes = true }) (record x { owes = true; attempt = Some (sooner_try (soon at x) x.attempt) }) refl refl) refl

pub owing_seen : (g : Forest) (c : Clocks) (first : Bool) (xs : List Track) → SameSeen (owing_all g c first xs) xs
owing_seen g c first xs = each_seen (λ i. owing c.at first (is_called g xs c i)) xs (λ i x. owing_unseen c.at first (is_called g xs c i) x)

pressed_unseen : (margin : ℕ) (e : Entry) (need at : ℕ) (x : Track) → sight (pressed_track margin e need at x) ≡ sight x
unfolding pressed_track
pressed_unseen margin e need at x =
    if_both (λ y. sight y ≡ sight x) (is_fresh margin e x need (sec at)) (record x { attempt = Some (press at x) }) _ refl
    (if_both (λ y. sight y ≡ sight x) (wants x need || x.out) x (record x { attempt = dropped x x.attempt }) refl refl)

pub alone_seen : (g : Forest) (c : Clocks) (xs : List Track) → SameSeen (pressed_alone g c xs) xs
alone_seen g c xs =
    each_seen (λ i. pressed_track g.margin (entry_at g.entries i) (need_of g.entries xs c i) c.at) xs
    (λ i x. pressed_unseen g.margin (entry_at g.entries i) (need_of g.entries xs c i) c.at x)

asked_unseen : (at : ℕ) (round : List ℕ) (i : ℕ) (x : Track) → sight (track_asked_in at round i x) ≡ sight x
unfolding asked_track
asked_unseen at round i x =
    if_both (λ y. sight y ≡ sight x) (list_any (λ j. j == i) round) (asked_track at x) x
    (if_both (λ y. sight y ≡ sight x) x.out x (record x { attempt = Some (press at x) }) refl refl) refl

pub pressed_seen : (g : Forest) (c : Clocks) (round : List ℕ) (xs : List Track) → SameSeen (pressed_tracks g c round xs) xs
pressed_seen g c round xs =
    let mid = pressed_alone g c xs in
    both_seen (pressed_tracks g c round xs) mid xs
    (each_seen (track_asked_in c.at round) mid (asked_unseen c.at round)) (alone_seen g c xs)

pub sent_seen : (at : ℕ) (requests : List WatchRequest) (xs : List Track) → SameSeen (each (sent_in at requests) xs) xs
sent_seen at requests xs =
    each_seen (sent_in at requests) xs (λ i x. if_both (λ y. sight y ≡ sight x) (list_any (λ (r : WatchRequest). r.entry == i) requests) (sent_track at x) x refl refl)
