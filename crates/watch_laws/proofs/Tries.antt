-- Tries: what the steps of a clock after the pauses leave of a try that is pressed and has failed: it stays, and a beginning hastens it. For
-- laws that speak of such a one.
use Rattle.std.proofs.Common.{◌≡◌, ◌∙◌, ℕ, ◌<◌, Bool, true, false, ◌&&◌, ◌||◌, ◌==◌, if◌then◌else◌, List, Option, Some, None, max, refl, sym, ap, subst, arith, true≢false}
use Rattle.std.specs.List.{list_any}
use Rattle.plan_forest.specs.{declared.entry.Entry.Entry, Forest.entry_at}
use Rattle.watch_machine.specs.{declared.command.WatchRequest.WatchRequest, declared.event.Operation.TheVariants.Look, declared.notes.BeginReason.BeginReason, declared.track.Track.Track, declared.track.Try.Try, Clocks.sec, Lines.rested}
use Rattle.watch_machine.specs.Beginning.{begun, hastened, is_called, is_start, owed, owing, owing_lookup, soon, sooner_try, untopped, untopped_track}
use Rattle.watch_machine.specs.Press.{asked_track, dropped, is_fresh, let_go, press, pressed, pressed_alone, pressed_track, track_asked_in}
use Rattle.watch_machine.specs.Sending.{sent, sent_in, sent_track}
use Rattle.watch_machine.specs.State.{WatchState, no_track, track_at, track_in}
use Rattle.watch_machine.specs.Wanted.{is_open, need_of, wants}
use Rattle.watch_machine.proofs.Cases.{if_both, value_is}
use Rattle.watch_laws.proofs.Tracking.{each_holds, each_kept}

module _ (P : Try → Type 0) where
  -- what is pressed and has failed passes
  abbrev pub Passes : Track → Type 0
  Passes x = (u : Try) → x.attempt ≡ Some u → u.pressed ≡ true → 0 < u.fails → P u

  none_passes : Passes no_track
  none_passes u is = absurd cc

  -- a first try has not failed, and one that only owes is not pressed
  fresh_passes : (x : Track) (t : Try) → t.fails ≡ 0 → Passes (record x { attempt = Some t })
  fresh_passes x t none u is pressed' failed = absurd (let e = ap (λ (v : Try). v.fails) (value_is t u is) in omega (arith, e, none, failed))

  loose_passes : (t u : Try) → t.pressed ≡ false → Some t ≡ Some u → u.pressed ≡ true → 0 < u.fails → P u
  loose_passes t u none is pressed' failed = absurd (true≢false (sym pressed' ∙ ap (λ (v : Try). v.pressed) (sym (value_is t u is)) ∙ none))

  press_passes : (at : ℕ) (x : Track) → Passes (record x { attempt = Some (press at x) })
  unfolding press
  press_passes at x = fresh_passes x (press at x) refl

  let_go_passes : (x : Track) (v u : Try) → let_go x v ≡ Some u → u.pressed ≡ true → 0 < u.fails → P u
  let_go_passes x v u =
      if_both (λ (o : Option Try). o ≡ Some u → u.pressed ≡ true → 0 < u.fails → P u) x.owes (Some (record v { at = max v.at (rested x.last); operation = Look; pressed = false })) None
      (loose_passes (record v { at = max v.at (rested x.last); operation = Look; pressed = false }) u refl) (λ is. absurd cc)

  dropped_passes : (x : Track) (o : Option Try) → ((u : Try) → o ≡ Some u → u.pressed ≡ true → 0 < u.fails → P u) → (u : Try) → dropped x o ≡ Some u → u.pressed ≡ true → 0 < u.fails → P u
  dropped_passes x None h u = h u
  dropped_passes x (Some v) h u =
      if_both (λ (o : Option Try). o ≡ Some u → u.pressed ≡ true → 0 < u.fails → P u) v.pressed (let_go x v) (Some v) (let_go_passes x v u) (h u)

  pressed_passes : (margin : ℕ) (e : Entry) (need at : ℕ) (x : Track) → Passes x → Passes (pressed_track margin e need at x)
  unfolding pressed_track
  pressed_passes margin e need at x h =
      if_both Passes (is_fresh margin e x need (sec at)) (record x { attempt = Some (press at x) }) (if wants x need || x.out then x else record x { attempt = dropped x x.attempt }) (press_passes at x)
      (if_both Passes (wants x need || x.out) x (record x { attempt = dropped x x.attempt }) h (dropped_passes x x.attempt h))

  asked_passes : (at : ℕ) (round : List ℕ) (i : ℕ) (x : Track) → Passes x → Passes (track_asked_in at round i x)
  unfolding asked_track
  asked_passes at round i x h =
      if_both Passes (list_any (λ j. j == i) round) (asked_track at x) x
      (if_both Passes x.out x (record x { attempt = Some (press at x) }) h (press_passes at x)) h

  -- from the beginning on
  pub sent_passes : (s : WatchState) (round : List ℕ) (requests : List WatchRequest) (i : ℕ) → Passes (track_at s i) → Passes (track_at (sent (pressed s round) requests) i)
  sent_passes s round requests i h =
      let g = s.forest in
      let c = s.clocks in
      let alone = pressed_alone g c s.tracks in
      let mid = pressed s round in
      let two = each_holds Passes none_passes (λ j. pressed_track g.margin (entry_at g.entries j) (need_of g.entries s.tracks c j) c.at) s.tracks i
      (pressed_passes g.margin (entry_at g.entries i) (need_of g.entries s.tracks c i) c.at (track_at s i) h) in
      let three = each_holds Passes none_passes (track_asked_in c.at round) alone i
      (asked_passes c.at round i (track_in alone i) two) in
      each_holds Passes none_passes (sent_in c.at requests) mid.tracks i
      (if_both Passes (list_any (λ (r : WatchRequest). r.entry == i) requests) (sent_track c.at (track_at mid i)) (track_at mid i) three three)

  -- and before it, where a try that is hastened passes
  module _ (hasten : (t : Try) (from : ℕ) → P t → P (hastened t from)) where
    sooner_passes : (from : ℕ) (o : Option Try) → ((u : Try) → o ≡ Some u → u.pressed ≡ true → 0 < u.fails → P u) → (u : Try) → Some (sooner_try from o) ≡ Some u → u.pressed ≡ true → 0 < u.fails → P u
    sooner_passes from None h u is pressed' failed = loose_passes (owed from) u refl is pressed' failed
    sooner_passes from (Some v) h u is pressed' failed =
        let same = value_is (hastened v from) u is in
        subst P same (hasten v from (h v refl (ap (λ (w : Try). w.pressed) same ∙ pressed') (let e = ap (λ (w : Try). w.fails) same in omega (arith, e, failed))))

    owing_passes : (at : ℕ) (first called : Bool) (x : Track) → Passes x → Passes (owing at first called x)
    unfolding owing
    owing_passes at first called x h =
        if_both Passes (called && (first || is_open (sec at) x)) (owing_lookup at x) x
        (if_both Passes x.out (record x { owes = true }) (record x { owes = true; attempt = Some (sooner_try (soon at x) x.attempt) }) h (sooner_passes (soon at x) x.attempt h)) h

    pub begun_passes : (s : WatchState) (w : Option BeginReason) (i : ℕ) → Passes (track_at s i) → Passes (track_at (begun s w) i)
    begun_passes s None i h = h
    begun_passes s (Some w) i h =
        let xs = untopped s.tracks in
        each_holds Passes none_passes (λ j. owing s.clocks.at (is_start w) (is_called s.forest xs s.clocks j)) xs i
        (owing_passes s.clocks.at (is_start w) (is_called s.forest xs s.clocks i) (track_in xs i)
        (each_kept (λ y x. Passes x → Passes y) (λ k. k) (λ j. untopped_track) s.tracks (λ j x k. k) i h))
