-- Basing: a try began no later than now, and no later than its request went out. What every part of a step keeps of that. For the law of
-- ends.
use Rattle.std.proofs.Common.{◌≡◌, ◌∙◌, ℕ, ◌+◌, ◌≤◌, Bool, true, false, not, ◌&&◌, ◌||◌, ◌==◌, if◌then◌else◌, List, Option, Some, None, nat_lt, refl, arith}
use Rattle.std.proofs.lemmas.Bool.{and_parts}
use Rattle.std.specs.List.{list_any}
use Rattle.plan_forest.specs.{declared.entry.Entry.Entry, Forest.entry_at}
use Rattle.watch_machine.specs.{declared.event.WatchReply.WatchReply, declared.notes.BeginReason.BeginReason, declared.track.Track.Track, declared.track.Try.Try, Clocks.sec, Margins.has_come}
use Rattle.watch_machine.specs.declared.event.Operation.TheVariants.{Look, Renew}
use Rattle.watch_machine.specs.declared.event.WatchReply.TheVariants.{Told, Refused}
use Rattle.watch_machine.specs.Answers.{back_track, back_try, failing}
use Rattle.watch_machine.specs.Beginning.{begun, is_called, is_pressed, is_start, owed, owing, owing_lookup, owing_past, soon, sooner_try, untopped, untopped_track}
use Rattle.watch_machine.specs.Looked.{at_once, refused_try, told_try, untold}
use Rattle.watch_machine.specs.Press.{asked_track, dropped, is_fresh, let_go, press, pressed, pressed_alone, pressed_track, track_asked_in}
use Rattle.watch_machine.specs.Renewed.{from_base, from_try, granted_try, time_from, ungranted}
use Rattle.watch_machine.specs.Settling.{settled, settled_track, settled_try, timed}
use Rattle.watch_machine.specs.State.{WatchState, no_track, track_at, track_in}
use Rattle.watch_machine.specs.Step.{readied, told_earlier, why}
use Rattle.watch_machine.specs.Wanted.{is_alive, is_open, need_of, wants}
use Rattle.watch_machine.proofs.Cases.{if_both, if_cases, not_both}
use Rattle.watch_laws.proofs.Tracking.{each_kept, known_is}

-- the clock at which a try began, if it counts from one, is no later than n
abbrev SetBy : ℕ → Option ℕ → Type 0
SetBy n None = Unit {0}
SetBy n (Some base) = base ≤ n

abbrev pub BaseBy : ℕ → Option Try → Type 0
BaseBy n None = Unit {0}
BaseBy n (Some t) = SetBy n t.base

set_later : (n m : ℕ) (b : Option ℕ) → n ≤ m → SetBy n b → SetBy m b
set_later n m None le h = tt
set_later n m (Some base) le h = omega (arith, le, h)

pub base_later : (n m : ℕ) (o : Option Try) → n ≤ m → BaseBy n o → BaseBy m o
base_later n m None le h = tt
base_later n m (Some t) le h = set_later n m t.base le h

-- it began no later than now, and where its request is out, no later than that went out
pub record Timely (now asked : ℕ) (x : Track) : Type 0 where
  pub base : BaseBy now x.attempt
  pub out : x.out ≡ true → BaseBy asked x.attempt

pub later_timely : (now then' asked more : ℕ) (x : Track) → now ≤ then' → asked ≤ more → Timely now asked x → Timely then' more x
later_timely now then' asked more x le further h = record { base = base_later now then' x.attempt le h.base; out = λ o. base_later asked more x.attempt further (h.out o) }

pub none_timely : (now asked : ℕ) → Timely now asked no_track
none_timely now asked = record { base = tt; out = λ o. tt }

-- the same end, and as timely
abbrev pub Passes : ℕ → ℕ → Track → Track → Type 0
Passes now asked y x = (y.end ≡ x.end) × (Timely now asked x → Timely now asked y)

pub same_passes : (now asked : ℕ) (x : Track) → Passes now asked x x
same_passes now asked x = (refl, λ h. h)

both_pass : (now asked : ℕ) (z y x : Track) → Passes now asked z y → Passes now asked y x → Passes now asked z x
both_pass now asked z y x h k = (h.0 ∙ k.0, λ t. h.1 (k.1 t))

-- the parts of a clock
settled_base : (n margin at : ℕ) (x : Track) (o : Option Try) → BaseBy n o → BaseBy n (settled_try margin at x o)
settled_base n margin at x None h = tt
settled_base n margin at x (Some t) h = if_both (BaseBy n) t.failed _ (Some t) h h

settled_passes : (now asked margin at : ℕ) (x : Track) → Passes now asked (settled_track margin at x) x
unfolding settled_track
settled_passes now asked margin at x = (
  refl,
  λ h. record { base = settled_base now margin at x x.attempt h.base; out = λ o. settled_base asked margin at x x.attempt (h.out o) },
)

untopped_passes : (now asked : ℕ) (x : Track) → Passes now asked (untopped_track x) x
untopped_passes now asked x = (refl, λ h. record { base = h.base; out = h.out })

sooner_base : (n from : ℕ) (o : Option Try) → BaseBy n o → BaseBy n (Some (sooner_try from o))
sooner_base n from None h = tt
sooner_base n from (Some t) h = h

owing_passes : (now asked at : ℕ) (first called : Bool) (x : Track) → Passes now asked (owing at first called x) x
unfolding owing
owing_passes now asked at first called x =
    if_both (λ y. Passes now asked y x) (called && (first || is_open (sec at) x)) (owing_lookup at x) x
    (if_both (λ y. Passes now asked y x) x.out (record x { owes = true }) (record x { owes = true; attempt = Some (sooner_try (soon at x) x.attempt) })
    (refl, λ h. record { base = h.base; out = h.out })
    (refl, λ h. record { base = sooner_base now (soon at x) x.attempt h.base; out = λ o. sooner_base asked (soon at x) x.attempt (h.out o) }))
    (same_passes now asked x)

-- an end that is handed in
pub known_timely : (now asked at end : ℕ) (renewable : Bool) (x : Track) → Timely now asked x → Timely now asked (owing_past at (told_earlier end renewable x))
known_timely now asked at end renewable x h =
    known_is (Timely now asked) at end renewable x (record { base = h.base; out = h.out }) (λ out. record { base = h.base; out = h.out })
    (λ free. record { base = sooner_base now (soon at x) x.attempt h.base; out = λ o. sooner_base asked (soon at x) x.attempt (h.out o) })

-- and an entry that owes a lookup after a change
pub owed_passes : (now asked at : ℕ) (x : Track) → Passes now asked (owing_lookup at (untopped_track x)) x
owed_passes now asked at x =
    if_both (λ y. Passes now asked y x) x.out (record (untopped_track x) { owes = true }) (record (untopped_track x) { owes = true; attempt = Some (sooner_try (soon at x) x.attempt) })
    (refl, λ h. record { base = h.base; out = h.out })
    (refl, λ h. record { base = sooner_base now (soon at x) x.attempt h.base; out = λ o. sooner_base asked (soon at x) x.attempt (h.out o) })

dropped_base : (n : ℕ) (x : Track) (o : Option Try) → BaseBy n o → BaseBy n (dropped x o)
dropped_base n x None h = tt
dropped_base n x (Some t) h = if_both (BaseBy n) t.pressed (let_go x t) (Some t) (if_both (BaseBy n) x.owes _ None h tt) h

-- who is pressed anew is not out
fresh_free : (margin : ℕ) (e : Entry) (x : Track) (need now : ℕ) → is_fresh margin e x need now ≡ true → x.out ≡ false
unfolding is_fresh
fresh_free margin e x need now fresh =
    let come = (and_parts (wants x need) (has_come margin e x now && (not (is_pressed x) && not x.out)) fresh).1 in
    let rest = (and_parts (has_come margin e x now) (not (is_pressed x) && not x.out) come).1 in
    not_so x.out (and_parts (not (is_pressed x)) (not x.out) rest).1 where
      not_so : (b : Bool) → not b ≡ true → b ≡ false
      not_so true h = absurd cc
      not_so false h = refl

pressed_passes : (now asked margin : ℕ) (e : Entry) (need at : ℕ) (x : Track) → at ≤ now → Passes now asked (pressed_track margin e need at x) x
unfolding pressed_track press
pressed_passes now asked margin e need at x le =
    if_cases (λ y. Passes now asked y x) (is_fresh margin e x need (sec at)) (record x { attempt = Some (press at x) }) (if wants x need || x.out then x else record x { attempt = dropped x x.attempt })
    (λ fresh. (refl, λ h. record { base = le; out = λ o. absurd (not_both o (fresh_free margin e x need (sec at) fresh)) }))
    (λ e'.
    if_both (λ y. Passes now asked y x) (wants x need || x.out) x (record x { attempt = dropped x x.attempt }) (same_passes now asked x)
    (refl, λ h. record { base = dropped_base now x x.attempt h.base; out = λ o. dropped_base asked x x.attempt (h.out o) }))

asked_passes : (now asked at : ℕ) (round : List ℕ) (i : ℕ) (x : Track) → at ≤ now → Passes now asked (track_asked_in at round i x) x
unfolding asked_track press
asked_passes now asked at round i x le =
    if_both (λ y. Passes now asked y x) (list_any (λ j. j == i) round) (asked_track at x) x
    (if_cases (λ y. Passes now asked y x) x.out x (record x { attempt = Some (press at x) }) (λ o. same_passes now asked x)
    (λ free. (refl, λ h. record { base = le; out = λ o. absurd (not_both o free) })))
    (same_passes now asked x)

begun_passes : (now asked : ℕ) (s : WatchState) (w : Option BeginReason) (i : ℕ) → Passes now asked (track_at (begun s w) i) (track_at s i)
begun_passes now asked s None i = same_passes now asked (track_at s i)
begun_passes now asked s (Some w) i =
    let R : Track → Track → Type 0 = Passes now asked in
    let xs = untopped s.tracks in
    both_pass now asked (track_at (begun s (Some w)) i) (track_in xs i) (track_at s i)
    (each_kept R (same_passes now asked no_track) (λ j. owing s.clocks.at (is_start w) (is_called s.forest xs s.clocks j)) xs (λ j x. owing_passes now asked s.clocks.at (is_start w) (is_called s.forest xs s.clocks j) x) i)
    (each_kept R (same_passes now asked no_track) (λ j. untopped_track) s.tracks (λ j x. untopped_passes now asked x) i)

pub readied_passes : (now asked : ℕ) (s : WatchState) (wall elapsed i : ℕ) → Passes now asked (track_at (readied s wall elapsed) i) (track_at s i)
unfolding readied
readied_passes now asked s wall elapsed i =
    let t = timed s wall elapsed in
    both_pass now asked (track_at (begun (settled t) (why s wall elapsed)) i) (track_at (settled t) i) (track_at s i) (begun_passes now asked (settled t) (why s wall elapsed) i)
    (each_kept (Passes now asked) (same_passes now asked no_track) (λ j. settled_track t.forest.margin t.clocks.at) s.tracks (λ j x. settled_passes now asked t.forest.margin t.clocks.at x) i)

pub mid_passes : (now asked : ℕ) (s : WatchState) (round : List ℕ) (i : ℕ) → s.clocks.at ≤ now → Passes now asked (track_at (pressed s round) i) (track_at s i)
mid_passes now asked s round i le =
    let R : Track → Track → Type 0 = Passes now asked in
    let c = s.clocks in
    let g = s.forest in
    let alone = pressed_alone g c s.tracks in
    both_pass now asked (track_at (pressed s round) i) (track_in alone i) (track_at s i)
    (each_kept R (same_passes now asked no_track) (track_asked_in c.at round) alone (λ j x. asked_passes now asked c.at round j x le) i)
    (each_kept R (same_passes now asked no_track) (λ j. pressed_track g.margin (entry_at g.entries j) (need_of g.entries s.tracks c j) c.at) s.tracks
    (λ j x. pressed_passes now asked g.margin (entry_at g.entries j) (need_of g.entries s.tracks c j) c.at x le) i)

-- the broker's return
back_base : (n : ℕ) (x : Track) (o : Option Try) → BaseBy n o → BaseBy n (back_try x o)
back_base n x None h = tt
back_base n x (Some t) h = if_both (BaseBy n) x.out _ _ h (if_both (BaseBy n) t.lost _ (Some t) h h)

pub back_passes : (now asked : ℕ) (x : Track) → Passes now asked (back_track x) x
unfolding back_track
back_passes now asked x = (refl, λ h. record { base = back_base now x x.attempt h.base; out = λ o. back_base asked x x.attempt (h.out o) })

-- the try after an answer
once_base : (n at : ℕ) (t : Try) → at ≤ n → SetBy n t.base → SetBy n (at_once at t).base
unfolding at_once
once_base n at t le h = if_both (λ (u : Try). SetBy n u.base) t.pressed _ _ h le

pub told_base : (n at : ℕ) (due : Bool) (x : Track) (o : Option Try) → at ≤ n → BaseBy n o → BaseBy n (told_try at due x o)
told_base n at due x None le h = tt
told_base n at due x (Some t) le h = if_both (BaseBy n) due (Some (at_once at t)) _ (once_base n at t le h) (if_both (BaseBy n) (is_alive (sec at) x) None (Some (failing t Look false false)) tt tt)

refused_base : (n at : ℕ) (x : Track) (t : Try) → SetBy n (refused_try at x t).base
refused_base n at x t = if_both (λ (u : Try). SetBy n u.base) (is_open (sec at) x) _ (failing t Look false false) (if_both (λ (u : Try). SetBy n u.base) t.pressed (failing t Renew false false) _ tt tt) tt

pub untold_base : (n at : ℕ) (heard : Bool) (reply : WatchReply) (x : Track) (o : Option Try) → BaseBy n o → BaseBy n (untold at heard reply x o)
untold_base n at heard reply x None h = tt
untold_base n at heard (Told seconds renewable date) x (Some t) h = h
untold_base n at heard (Refused status date) x (Some t) h = refused_base n at x t
untold_base n at heard _ x (Some t) h = tt

pub granted_base : (n at : ℕ) (owes : Bool) (end : ℕ) (o : Option Try) → BaseBy n (granted_try at owes end o)
granted_base n at owes end None = tt
granted_base n at owes end (Some t) =
    if_both (BaseBy n) (nat_lt (sec at) end) (if owes then Some (owed (at + 30000)) else None) (Some (failing t Look false false)) (if_both (BaseBy n) owes (Some (owed (at + 30000))) None tt tt) tt

pub ungranted_base : (n at : ℕ) (heard : Bool) (reply : WatchReply) (x : Track) (o : Option Try) → BaseBy n o → BaseBy n (ungranted at heard reply x o)
ungranted_base n at heard reply x None h = tt
ungranted_base n at heard (Told seconds renewable date) x (Some t) h = h
ungranted_base n at heard _ x (Some t) h = tt

-- a grant counts from a clock that is no later than both the request and the try's beginning may be
from_base_by : (margin step seconds at since n : ℕ) (b : Option ℕ) → since ≤ n → SetBy n b → from_base margin step seconds at since b ≤ n
from_base_by margin step seconds at since n None le h = le
from_base_by margin step seconds at since n (Some base) le h = if_both (λ m. m ≤ n) (nat_lt (sec at + 1) (time_from margin step seconds (sec base))) base since h le

pub from_try_by : (margin step seconds at since n : ℕ) (o : Option Try) → since ≤ n → BaseBy n o → from_try margin step seconds at since o ≤ n
from_try_by margin step seconds at since n None le h = le
from_try_by margin step seconds at since n (Some t) le h = from_base_by margin step seconds at since n t.base le h
