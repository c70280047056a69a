-- Enduring: while the requests of an entry are lost it may go out again by some moment, once it is pressed. For the law of outages.
use Rattle.std.proofs.Common.{◌≡◌, ◌⊎◌, ◌∙◌, ℕ, ◌+◌, ◌-◌, ◌*◌, ◌/◌, ◌<◌, ◌≤◌, Bool, true, false, max, min, not, ◌&&◌, ◌||◌, ◌==◌, if◌then◌else◌, List, [], ◌∷◌, ◌++◌, Option, Some, None, All, length, nat_le, nat_lt, refl, sym, ap, subst, arith, inl, inr, true≢false}
use Rattle.std.proofs.lemmas.{Bool.Decides.nat_tests, List.Elements.All-filter, List.Elements.All-weaker}
use Rattle.std.proofs.lemmas.Bool.{and_from, and_parts, cases_Bool, cond-false, cond-true, or_parts, or_right}
use Rattle.std.specs.List.{list_any}
use Rattle.plan_forest.specs.{declared.entry.Entry.Entry, Forest.entry_at}
use Rattle.watch_machine.specs.{declared.event.WatchReply.WatchReply, declared.lanes.LaneAnswer.LaneAnswer, declared.lanes.Out.Out, declared.lanes.Presence.Presence, declared.notes.BeginReason.BeginReason, declared.track.End.TheVariants.At}
use Rattle.watch_machine.specs.{declared.track.Track.Track, declared.track.Try.Try, Clocks.ms, Clocks.sec, Lines.is_first, Lines.rested, Step.readied, Step.why}
use Rattle.watch_machine.specs.declared.event.Operation.TheVariants.{Look, Renew}
use Rattle.watch_machine.specs.declared.event.WatchReply.TheVariants.{Told, Refused, Lost}
use Rattle.watch_machine.specs.Answers.{answers_all, back_track, back_try, due_again, failing, is_back, lane_freed, presence_gone, replied, silent, without_request}
use Rattle.watch_machine.specs.Beginning.{begun, hastened, is_called, is_pressed, is_pressed_try, is_start, owed, owing, owing_lookup, soon, sooner_try, untopped, untopped_track}
use Rattle.watch_machine.specs.Looked.{untold, untold_track, untold_try}
use Rattle.watch_machine.specs.Pauses.{cap, cap_of, left_to, pause}
use Rattle.watch_machine.specs.Press.{asked_track, dropped, is_fresh, let_go, press, pressed, pressed_alone, pressed_track, track_asked_in}
use Rattle.watch_machine.specs.Renewed.{ungranted, ungranted_track, ungranted_try}
use Rattle.watch_machine.specs.Settling.{is_real, is_silent, presence_after, settled, settled_track, settled_try, timed}
use Rattle.watch_machine.specs.State.{WatchState, attempt_at, each, no_track, track_at, track_in}
use Rattle.watch_machine.specs.Wanted.{is_open, need_of, wants}
use Rattle.watch_machine.proofs.Cases.{if_both, if_cases, not_both, value_is}
use Rattle.watch_laws.specs.Presence.{is_told}
use Rattle.watch_laws.specs.Outage.{Outage, again, is_request_whole, outage_settled_by}
use Rattle.watch_laws.proofs.{Lanes.all_left, Tracking.back_kept, Tracking.each_holds}
use Rattle.watch_laws.proofs.Retrying.{held_least, held_to, pause_within}

-- by then every request that is not whole is settled, and a clock was handed in after it
abbrev pub cut : Outage → ℕ
cut o = o.until + o.slow + o.late

pub cut_off : (o : Outage) (since : ℕ) → is_request_whole o since ≡ false → outage_settled_by o since + o.late ≤ cut o
unfolding is_request_whole outage_settled_by
cut_off o since not_whole =
    let both = or_parts (nat_le (since + o.quick) o.from) (nat_le o.until since) not_whole in
    let early : since < o.until = (let late = both.1 in grind (arith, nat_tests)) in
    let slow = cond-false (nat_le (since + o.quick) o.from || nat_le o.until since) o.quick o.slow not_whole in
    omega (arith, early, slow)

-- a try that no clock has to settle, at a clock: first, or held back no longer than S says
pub record IsKept (at bound : ℕ) (S : Type 0) (t : Try) : Type 0 where
  pub settled : t.failed ≡ false
  pub soon : t.at ≤ max at bound
  pub first : (is_first t ≡ true) ⊎ S

-- so where the entry is pressed
pub record Steady (at bound : ℕ) (S : Type 0) (x : Track) : Type 0 where
  pub last : rested x.last ≤ bound
  pub tries : (t : Try) → x.attempt ≡ Some t → t.pressed ≡ true → IsKept at bound S t

-- the parts of a clock
module _ (at bound : ℕ) (S : Type 0) where
  abbrev Stands : Track → Type 0
  Stands x = Steady at bound S x

  abbrev AllKept : Option Try → Type 0
  AllKept o = (t : Try) → o ≡ Some t → t.pressed ≡ true → IsKept at bound S t

  pub none_stands : Stands no_track
  none_stands = record { last = omega arith; tries = λ t is. absurd cc }

  press_kept : (x : Track) → Stands x → IsKept at bound S (press at x)
  unfolding press
  press_kept x h = let last = h.last in record { settled = refl; soon = omega (arith, last); first = inl refl }

  press_stands : (x : Track) → Stands x → Stands (record x { attempt = Some (press at x) })
  press_stands x h = record { last = h.last; tries = λ t is pressed'. subst (IsKept at bound S) (value_is (press at x) t is) (press_kept x h) }

  -- a beginning
  sooner_kept : (from : ℕ) (o : Option Try) → AllKept o → AllKept (Some (sooner_try from o))
  sooner_kept from None h u is pressed' = absurd (true≢false (sym pressed' ∙ ap (λ (v : Try). v.pressed) (sym (value_is (owed from) u is))))
  sooner_kept from (Some v) h u is pressed' =
      let same = value_is (hastened v from) u is in
      let k = h v refl (ap (λ (w : Try). w.pressed) same ∙ pressed') in
      let soon' = k.soon in
      subst (IsKept at bound S) same (record { settled = k.settled; soon = omega (arith, soon'); first = k.first })

  owing_stands : (first called : Bool) (x : Track) → Stands x → Stands (owing at first called x)
  unfolding owing
  owing_stands first called x h =
      if_both Stands (called && (first || is_open (sec at) x)) (owing_lookup at x) x
      (if_both Stands x.out (record x { owes = true }) (record x { owes = true; attempt = Some (sooner_try (soon at x) x.attempt) }) (record { last = h.last; tries = h.tries })
      (record { last = h.last; tries = sooner_kept (soon at x) x.attempt h.tries })) h

  -- who is let go is not pressed
  dropped_loose : (x : Track) (o : Option Try) (t : Try) → dropped x o ≡ Some t → t.pressed ≡ false
  dropped_loose x None t = λ is. absurd cc
  dropped_loose x (Some v) t =
      let P : Option Try → Type 0 = λ o. o ≡ Some t → t.pressed ≡ false in
      let left : Try = record v { at = max v.at (rested x.last); operation = Look; pressed = false } in
      if_cases P v.pressed (let_go x v) (Some v)
      (λ gone. if_both P x.owes (Some left) None (λ is. ap (λ (u : Try). u.pressed) (sym (value_is left t is))) (λ is. absurd cc))
      (λ kept is. ap (λ (u : Try). u.pressed) (sym (value_is v t is)) ∙ kept)

  pressed_stands : (margin : ℕ) (e : Entry) (need : ℕ) (x : Track) → Stands x → Stands (pressed_track margin e need at x)
  unfolding pressed_track
  pressed_stands margin e need x h =
      if_both Stands (is_fresh margin e x need (sec at)) (record x { attempt = Some (press at x) }) (if wants x need || x.out then x else record x { attempt = dropped x x.attempt })
      (press_stands x h)
      (if_both Stands (wants x need || x.out) x (record x { attempt = dropped x x.attempt }) h
      (record { last = h.last; tries = λ t is pressed'. absurd (not_both pressed' (dropped_loose x x.attempt t is)) }))

  asked_stands : (round : List ℕ) (i : ℕ) (x : Track) → Stands x → Stands (track_asked_in at round i x)
  unfolding asked_track
  asked_stands round i x h =
      if_both Stands (list_any (λ j. j == i) round) (asked_track at x) x
      (if_both Stands x.out x (record x { attempt = Some (press at x) }) h (press_stands x h)) h

mid_steady : (s : WatchState) (round : List ℕ) (i bound : ℕ) (S : Type 0) → Steady s.clocks.at bound S (track_at s i) → Steady s.clocks.at bound S (track_at (pressed s round) i)
mid_steady s round i bound S h =
    let c = s.clocks in
    let g = s.forest in
    let alone = pressed_alone g c s.tracks in
    let P : Track → Type 0 = Steady c.at bound S in
    let none' : P no_track = none_stands c.at bound S in
    each_holds P none' (track_asked_in c.at round) alone i
    (asked_stands c.at bound S round i (track_in alone i)
    (each_holds P none' (λ j. pressed_track g.margin (entry_at g.entries j) (need_of g.entries s.tracks c j) c.at) s.tracks i
    (pressed_stands c.at bound S g.margin (entry_at g.entries i) (need_of g.entries s.tracks c i) (track_at s i) h)))

-- with or without a beginning
pub begun_steady : (s : WatchState) (w : Option BeginReason) (round : List ℕ) (i bound : ℕ) (S : Type 0) → Steady s.clocks.at bound S (track_at s i) → Steady s.clocks.at bound S (track_at (pressed (begun s w) round) i)
begun_steady s None round i bound S h = mid_steady (begun s None) round i bound S h
begun_steady s (Some w) round i bound S h =
    let at = s.clocks.at in
    let xs = untopped s.tracks in
    let P : Track → Type 0 = Steady at bound S in
    let none' : P no_track = none_stands at bound S in
    mid_steady (begun s (Some w)) round i bound S
    (each_holds P none' (λ j. owing at (is_start w) (is_called s.forest xs s.clocks j)) xs i
    (owing_stands at bound S (is_start w) (is_called s.forest xs s.clocks i) (track_in xs i)
    (each_holds P none' (λ j. untopped_track) s.tracks i (record { last = h.last; tries = h.tries }))))

-- the longest pause while the end is ahead
cap_by : (margin at end : ℕ) (x : Track) (t : Try) → x.end ≡ At end → at < ms end → cap margin at x t ≤ max 1000 ((ms end - at) / 16)
unfolding cap
cap_by margin at end x t is ahead =
    let twice = ms (2 * margin) in
    let test : nat_lt at (ms end) ≡ true = grind (arith, nat_tests) in
    let left : left_to at twice x.end t.lost ≡ Some (ms end - at) =
    ap (λ e. left_to at twice e t.lost) is ∙ cond-true (nat_lt at (ms end)) (Some (ms end - at)) None test in
    let same = ap (cap_of twice t.lost) left in
    let n = ms end - at in
    let most : cap_of twice t.lost (Some n) ≤ max 1000 (n / 16) =
    if_both (λ m. min m (max 1000 (n / 16)) ≤ max 1000 (n / 16)) (t.lost && nat_le n twice) 30000 300000 (omega arith) (omega arith) in
    omega (arith, same, most)

again_later : (end a b : ℕ) → a ≤ b → again end a ≤ again end b
again_later end a b le = omega (arith, le)

pub again_cut : (margin at end until : ℕ) (x : Track) (t : Try) → x.end ≡ At end → at < ms end → at ≤ until → at + cap margin at x t ≤ again end until
again_cut margin at end until x t is ahead le =
    let capped = cap_by margin at end x t is ahead in
    let later = again_later end at until le in
    omega (arith, capped, later)

-- what holds of an entry between two clocks: bound is by when its try may go, and it fails only where miss
unfoldable pub Kept : ℕ → ℕ → Type 0 → WatchState → Try → Type 0
Kept i bound miss s t = (t.failed ≡ false) × ((t.at ≤ max s.clocks.at bound) × ((track_at s i).out ≡ false → (is_first t ≡ true) ⊎ (miss × (s.presence.hold ≤ bound))))

unfoldable pub Missed : ℕ → ℕ → ℕ → ℕ → Type 0 → WatchState → Try → Type 0
Missed i bound due last miss s t =
    (t.failed ≡ true) × (((track_at s i).out ≡ false) × (miss × ((due ≤ last) × ((s.presence.hold ≤ bound) ⊎ ((list_any is_silent s.answers ≡ true) × (s.presence.away ≡ true))))))

abbrev pub IsPending : ℕ → ℕ → ℕ → ℕ → Type 0 → WatchState → Try → Type 0
IsPending i bound due last miss s t = Kept i bound miss s t ⊎ Missed i bound due last miss s t

-- a request of the entry that is out is lost; and where it is pressed, this may be
abbrev pub Cutting : Outage → ℕ → ℕ → Type 0 → WatchState → Out → Type 0
Cutting o i bound miss s q = q.entry ≡ i → (is_request_whole o q.since ≡ false) × (is_pressed (track_at s i) ≡ true → miss × (q.heard ≡ true → s.presence.hold ≤ bound))

pub record Endures (o : Outage) (i end bound due : ℕ) (miss : Type 0) (s : WatchState) : Type 0 where
  pub end_is : (track_at s i).end ≡ At end
  pub last : rested (track_at s i).last ≤ bound
  pub tries : (t : Try) → attempt_at s i ≡ Some t → t.pressed ≡ true → IsPending i bound due (cut o) miss s t
  pub out : All (Cutting o i bound miss s) s.out
  pub silent' : list_any is_silent s.answers ≡ true → s.presence.away ≡ true → due ≤ cut o

-- a clock that settles
module _ (o : Outage) (i end bound due : ℕ) (miss : Type 0) (s : WatchState) (at : ℕ) (within : i < length s.tracks) (h : Endures o i end bound due miss s) (ahead : at < ms end) (soon' : at ≤ due) (rises : s.clocks.at ≤ at) (far : miss → again end (cut o) ≤ bound) where
  abbrev margin : ℕ
  margin = s.forest.margin

  abbrev hold' : ℕ
  hold' = (presence_after margin at s.tracks s.answers s.presence).hold

  held_by : miss → (t : Try) → attempt_at s i ≡ Some t → t.pressed ≡ true → (s.presence.hold ≤ bound) ⊎ ((list_any is_silent s.answers ≡ true) × (s.presence.away ≡ true)) → hold' ≤ bound
  held_by may t is pressed' before =
      elim (held_to margin at s.tracks s.answers s.presence) [
        | inl sets ↦
            let both = and_parts s.presence.away (list_any is_silent s.answers) sets.0 in
            let due' = h.silent' both.1 both.0 in
            let less = held_least margin at s.tracks sets.1.0 i t within is pressed' in
            let set = sets.1.1 in
            let cut' = again_cut margin at end (cut o) (track_at s i) t h.end_is ahead (omega (arith, soon', due')) in
            let most = far may in
            omega (arith, set, less, cut', most)
        | inr stays ↦
            elim before [
              | inl low ↦ (let same = stays.1 in omega (arith, same, low))
              | inr silent'' ↦ absurd (not_both (and_from s.presence.away (list_any is_silent s.answers) silent''.1 silent''.0) stays.0)
            ]
      ]

  abbrev Spared : Type 0
  Spared = ((track_at s i).out ≡ true) ⊎ (miss × (hold' ≤ bound))

  kept_first : (t : Try) → attempt_at s i ≡ Some t → t.pressed ≡ true → ((track_at s i).out ≡ false → (is_first t ≡ true) ⊎ (miss × (s.presence.hold ≤ bound))) → (is_first t ≡ true) ⊎ Spared
  kept_first t is pressed' first =
      elim (cases_Bool (track_at s i).out) as (λ _. (is_first t ≡ true) ⊎ Spared) [
        | inl out ↦ inr (inl out)
        | inr free ↦
            elim (first free) as (λ _. (is_first t ≡ true) ⊎ Spared) [
              | inl yes' ↦ inl yes'
              | inr low ↦ inr (inr (low.0, held_by low.0 t is pressed' (inl low.1)))
            ]
      ]

  settled_kept : (t u : Try) → attempt_at s i ≡ Some t → t.pressed ≡ true → IsPending i bound due (cut o) miss s t → settled_try margin at (track_at s i) (Some t) ≡ Some u → IsKept at bound Spared u
  unfolding Kept Missed
  settled_kept t u is pressed' p made =
      let x = track_at s i in
      let paused : Try = record t { at = at + pause margin at x t; alone = t.alone && nat_le (rested x.last) at; failed = false } in
      elim p as (λ _. IsKept at bound Spared u) [
        | inl kept ↦
            let same : t ≡ u = value_is t u (sym (cond-false t.failed (Some paused) (Some t) kept.0) ∙ made) in
            let low = kept.1.0 in
            subst (IsKept at bound Spared) same (record { settled = kept.0; soon = omega (arith, low, rises); first = kept_first t is pressed' kept.1.1 })
        | inr missed ↦
            let same : paused ≡ u = value_is paused u (sym (cond-true t.failed (Some paused) (Some t) missed.0) ∙ made) in
            let most = far missed.1.1.0 in
            let due' = missed.1.1.1.0 in
            let cut' = again_cut margin at end (cut o) x t h.end_is ahead (omega (arith, soon', due')) in
            let less = pause_within margin at x t in
            subst (IsKept at bound Spared) same (record { settled = refl; soon = omega (arith, most, cut', less); first = inr (inr (missed.1.1.0, held_by missed.1.1.0 t is pressed' missed.1.1.1.1)) })
      ]

  -- a pause leaves it as pressed as it was
  settled_pressed : (x : Track) (t u : Try) → settled_try margin at x (Some t) ≡ Some u → u.pressed ≡ t.pressed
  settled_pressed x t u =
      let paused : Try = record t { at = at + pause margin at x t; alone = t.alone && nat_le (rested x.last) at; failed = false } in
      if_both (λ (o : Option Try). o ≡ Some u → u.pressed ≡ t.pressed) t.failed (Some paused) (Some t) (λ is. ap (λ (v : Try). v.pressed) (sym (value_is paused u is)))
      (λ is. ap (λ (v : Try). v.pressed) (sym (value_is t u is)))

  settled_by_try : (v : Option Try) (u : Try) → attempt_at s i ≡ v → settled_try margin at (track_at s i) v ≡ Some u → u.pressed ≡ true → IsKept at bound Spared u
  settled_by_try None u is made pressed' = absurd cc
  settled_by_try (Some t) u is made pressed' =
      let was = sym (settled_pressed (track_at s i) t u made) ∙ pressed' in
      settled_kept t u is was (h.tries t is was) made

  pub settled_steady : Steady at bound Spared (settled_track margin at (track_at s i))
  unfolding settled_track
  settled_steady = record { last = h.last; tries = λ u. settled_by_try (attempt_at s i) u refl }

-- so all that are pressed at it
pub clock_steady :
    (o : Outage) (i end bound due : ℕ) (miss : Type 0) (old : WatchState) (wall elapsed : ℕ) (round : List ℕ) → i < length old.tracks → Endures o i end bound due miss old →
    (timed old wall elapsed).clocks.at < ms end → (timed old wall elapsed).clocks.at ≤ due → old.clocks.at ≤ (timed old wall elapsed).clocks.at → (miss → again end (cut o) ≤ bound) →
    Steady (timed old wall elapsed).clocks.at bound
    (((track_at old i).out ≡ true) ⊎ (miss × ((presence_after old.forest.margin (timed old wall elapsed).clocks.at old.tracks old.answers old.presence).hold ≤ bound)))
    (track_at (pressed (readied old wall elapsed) round) i)
unfolding readied
clock_steady o i end bound due miss old wall elapsed round within h ahead soon' rises far =
    let t = timed old wall elapsed in
    let at = t.clocks.at in
    let S : Type 0 = ((track_at old i).out ≡ true) ⊎ (miss × ((presence_after old.forest.margin at old.tracks old.answers old.presence).hold ≤ bound)) in
    let b = settled t in
    let first : Steady at bound S (track_at b i) =
    each_holds (Steady at bound S) (none_stands at bound S) (λ j. settled_track old.forest.margin at) old.tracks i (settled_steady o i end bound due miss old at within h ahead soon' rises far) in
    begun_steady b (why old wall elapsed) round i bound S first

-- and what held back a try holds it back no longer
pub clock_held :
    (o : Outage) (i end bound due : ℕ) (miss : Type 0) (old : WatchState) (at : ℕ) → i < length old.tracks → Endures o i end bound due miss old → at < ms end → at ≤ due → old.clocks.at ≤ at →
    (miss → again end (cut o) ≤ bound) → miss → is_pressed (track_at old i) ≡ true → old.presence.hold ≤ bound → (presence_after old.forest.margin at old.tracks old.answers old.presence).hold ≤ bound
clock_held o i end bound due miss old at within h ahead soon' rises far may pressed' low = by (attempt_at old i) refl pressed' where
  by : (v : Option Try) → attempt_at old i ≡ v → is_pressed_try v ≡ true → (presence_after old.forest.margin at old.tracks old.answers old.presence).hold ≤ bound
  by None is some' = absurd cc
  by (Some t) is some' = held_by o i end bound due miss old at within h ahead soon' rises far may t is some' (inl low)

-- the broker's return: a try is due no later, or a second after its request if it failed since the last clock
abbrev IsBackFrom : Track → Try → Try → Type 0
IsBackFrom x t u =
    (u.pressed ≡ t.pressed) × ((((u.failed ≡ t.failed) × (u.at ≤ t.at)) ⊎ ((u.failed ≡ false) × (u.at ≤ rested x.last))) × (x.out ≡ false → is_first u ≡ is_first t))

pub record Backs (y x : Track) : Type 0 where
  end : y.end ≡ x.end
  last : y.last ≡ x.last
  out : y.out ≡ x.out
  pub pressed : is_pressed y ≡ is_pressed x
  tries : (u : Try) → y.attempt ≡ Some u → (t : Try) × ((x.attempt ≡ Some t) × IsBackFrom x t u)

same_backs : (x : Track) → Backs x x
same_backs x = record { end = refl; last = refl; out = refl; pressed = refl; tries = λ u is. (u, (is, (refl, (inl (refl, omega arith), λ e. refl)))) }

again_from : (x : Track) (t : Try) → IsBackFrom x t (due_again t (rested x.last))
again_from x t =
    elim (cases_Bool t.failed) as (λ _. IsBackFrom x t (due_again t (rested x.last))) [
      | inl failed ↦ (let e = cond-true t.failed (rested x.last) (min t.at (rested x.last)) failed in (refl, (inr (refl, omega (arith, e)), λ free. refl)))
      | inr settled' ↦ (let e = cond-false t.failed (rested x.last) (min t.at (rested x.last)) settled' in (refl, (inl (sym settled', omega (arith, e)), λ free. refl)))
    ]

abbrev FromTry : Track → Try → Option Try → Type 0
FromTry x t v = (u : Try) → v ≡ Some u → IsBackFrom x t u

from_try' : (x : Track) (t v : Try) → IsBackFrom x t v → FromTry x t (Some v)
from_try' x t v h u is = subst (IsBackFrom x t) (value_is v u is) h

back_from : (x : Track) (t : Try) → FromTry x t (back_try x (Some t))
back_from x t =
    if_cases (FromTry x t) x.out (Some (record t { fails = 0 })) (if t.lost then Some (due_again t (rested x.last)) else Some t)
    (λ out. from_try' x t (record t { fails = 0 }) (refl, (inl (refl, omega arith), λ free. absurd (not_both out free))))
    (λ free.
    if_both (FromTry x t) t.lost (Some (due_again t (rested x.last))) (Some t) (from_try' x t (due_again t (rested x.last)) (again_from x t))
    (from_try' x t t (refl, (inl (refl, omega arith), λ e. refl))))

back_pressed : (x : Track) (o : Option Try) → is_pressed_try (back_try x o) ≡ is_pressed_try o
back_pressed x None = refl
back_pressed x (Some t) =
    let P : Option Try → Type 0 = λ o. is_pressed_try o ≡ t.pressed in
    if_both P x.out (Some (record t { fails = 0 })) (if t.lost then Some (due_again t (rested x.last)) else Some t) refl (if_both P t.lost (Some (due_again t (rested x.last))) (Some t) refl refl)

back_backs : (x : Track) → Backs (back_track x) x
unfolding back_track
back_backs x = record { end = refl; last = refl; out = refl; pressed = back_pressed x x.attempt; tries = λ u is. by x.attempt refl u is } where
  by : (v : Option Try) → x.attempt ≡ v → (u : Try) → back_try x v ≡ Some u → (t : Try) × ((x.attempt ≡ Some t) × IsBackFrom x t u)
  by None same u is = absurd cc
  by (Some t) same u is = (t, (same, back_from x t u is))

-- what an answer says of the broker
real_hold : (s : WatchState) (q : Out) (reply : WatchReply) → is_real reply ≡ true → (s.presence.away ≡ false → s.presence.hold ≡ 0) → (replied s q reply).presence.hold ≡ 0
real_hold s q reply real none =
    let free = lane_freed s q in
    ap (λ (t : WatchState). t.presence.hold) (cond-true (is_real reply) (answers_all free) (if q.heard then free else silent free) real)
    ∙ if_cases (λ (t : WatchState). t.presence.hold ≡ 0) s.presence.away (record free { out = _; tracks = each (λ i. back_track) s.tracks; presence = is_back s.presence }) _ (λ e. refl) none

pub real_away : (s : WatchState) (q : Out) (reply : WatchReply) → is_real reply ≡ true → (replied s q reply).presence.away ≡ false
real_away s q reply real =
    let free = lane_freed s q in
    ap (λ (t : WatchState). t.presence.away) (cond-true (is_real reply) (answers_all free) (if q.heard then free else silent free) real)
    ∙ if_cases (λ (t : WatchState). t.presence.away ≡ false) s.presence.away (record free { out = _; tracks = each (λ i. back_track) s.tracks; presence = is_back s.presence }) _ (λ e. refl) (λ there. there)

replied_answers : (s : WatchState) (q : Out) (reply : WatchReply) → (replied s q reply).answers ≡ s.answers
replied_answers s q reply =
    let free = lane_freed s q in
    let P : WatchState → Type 0 = λ t. t.answers ≡ s.answers in
    if_both P (is_real reply) (answers_all free) (if q.heard then free else silent free) (if_both P s.presence.away _ _ refl refl) (if_both P q.heard free (silent free) refl (if_both P s.presence.away _ _ refl refl))

lost_hold : (s : WatchState) (q : Out) → (replied s q Lost).presence.hold ≤ s.presence.hold
lost_hold s q =
    let free = lane_freed s q in
    let P : WatchState → Type 0 = λ t. t.presence.hold ≤ s.presence.hold in
    if_both P q.heard free (silent free) (omega arith) (if_both P s.presence.away free (record free { presence = presence_gone s.presence }) (omega arith) (omega arith))

lost_away : (s : WatchState) (q : Out) → s.presence.away ≡ true → (replied s q Lost).presence.away ≡ true
lost_away s q away =
    let free = lane_freed s q in
    let P : WatchState → Type 0 = λ t. t.presence.away ≡ true in
    if_both P q.heard free (silent free) away (if_both P s.presence.away free (record free { presence = presence_gone s.presence }) away refl)

unheard_away : (s : WatchState) (q : Out) → q.heard ≡ false → (replied s q Lost).presence.away ≡ true
unheard_away s q unheard =
    let free = lane_freed s q in
    let P : WatchState → Type 0 = λ t. t.presence.away ≡ true in
    if_cases P q.heard free (silent free) (λ e. absurd (not_both e unheard)) (λ e. if_cases P s.presence.away free (record free { presence = presence_gone s.presence }) (λ away. away) (λ there. refl))

lost_tracks : (s : WatchState) (q : Out) (i : ℕ) → track_at (replied s q Lost) i ≡ track_at s i
lost_tracks s q i =
    let free = lane_freed s q in
    let P : WatchState → Type 0 = λ t. track_at t i ≡ track_at s i in
    if_both P q.heard free (silent free) refl (if_both P s.presence.away free (record free { presence = presence_gone s.presence }) refl refl)

-- the answers since the last clock, after one more
any_kept : (test : LaneAnswer → Bool) (xs ys : List LaneAnswer) → list_any test xs ≡ true → list_any test (xs ++ ys) ≡ true
any_kept test [] ys h = absurd cc
any_kept test (x ∷ xs) ys h =
    elim (cases_Bool (test x)) as (λ _. test x || list_any test (xs ++ ys) ≡ true) [
      | inl here ↦ ap (λ b. b || list_any test (xs ++ ys)) here
      | inr there ↦ ap (λ b. b || list_any test (xs ++ ys)) there ∙ any_kept test xs ys (sym (ap (λ b. b || list_any test xs) there) ∙ h)
    ]

any_added : (test : LaneAnswer → Bool) (xs : List LaneAnswer) (a : LaneAnswer) → test a ≡ true → list_any test (xs ++ a ∷ []) ≡ true
any_added test [] a h = ap (λ b. b || false) h
any_added test (x ∷ xs) a h = or_right (test x) (list_any test (xs ++ a ∷ [])) (any_added test xs a h)

-- an answer: mid is the state before what it says of the broker
pub record IsAnswered (old mid new : WatchState) (q : Out) (reply : WatchReply) : Type 0 where
  pub is : new ≡ replied mid q reply
  pub presence : mid.presence ≡ old.presence
  pub clocks : new.clocks ≡ old.clocks
  pub outs : mid.out ≡ old.out
  pub answers : mid.answers ≡ old.answers ++ record { since = q.since; heard = q.heard; reply = reply } ∷ []

module _ (old mid new : WatchState) (q : Out) (reply : WatchReply) (a : IsAnswered old mid new q reply) where
  abbrev answer : LaneAnswer
  answer = record { since = q.since; heard = q.heard; reply = reply }

  pub after : new.answers ≡ old.answers ++ answer ∷ []
  after = ap (λ (x : WatchState). x.answers) a.is ∙ replied_answers mid q reply ∙ a.answers

  pub new_backs : (i : ℕ) → Backs (track_at new i) (track_at mid i)
  new_backs i = subst (λ (x : WatchState). Backs (track_at x i) (track_at mid i)) (sym a.is) (back_kept_all mid q reply i) where
    back_kept_all : (t : WatchState) (r : Out) (w : WatchReply) (k : ℕ) → Backs (track_at (replied t r w) k) (track_at t k)
    back_kept_all t r w k = back_kept Backs same_backs back_backs t r w k

-- a real one to another: nothing is held back
pub real_endures :
    (o : Outage) (i end bound due : ℕ) (miss : Type 0) (old mid new : WatchState) (q : Out) (reply : WatchReply) → IsAnswered old mid new q reply → track_at mid i ≡ track_at old i →
    is_real reply ≡ true → (old.presence.away ≡ false → old.presence.hold ≡ 0) → Endures o i end bound due miss old → Endures o i end bound due miss new
unfolding Kept Missed
real_endures o i end bound due miss old mid new q reply a same real none h =
    let backs = subst (Backs (track_at new i)) same (new_backs old mid new q reply a i) in
    let hold : new.presence.hold ≡ 0 =
    ap (λ (x : WatchState). x.presence.hold) a.is ∙ real_hold mid q reply real (subst (λ (p : Presence). p.away ≡ false → p.hold ≡ 0) (sym a.presence) none) in
    let low : new.presence.hold ≤ bound = omega (arith, hold) in
    let clock = ap (λ c. c.at) a.clocks in
    let last' : rested (track_at new i).last ≤ bound = (let e = ap rested backs.last in let l = h.last in omega (arith, e, l)) in
    let P : Out → Type 0 = Cutting o i bound miss new in
    record {
      end_is = backs.end ∙ h.end_is;
      last = last';
      tries = λ u is pressed'.
          let f = backs.tries u is in
          let t = f.0 in
          let b = f.1.1 in
          let p = h.tries t f.1.0 (sym b.0 ∙ pressed') in
          let old_last = h.last in
          let first : (track_at new i).out ≡ false → (is_first t ≡ true) ⊎ miss → (is_first u ≡ true) ⊎ (miss × (new.presence.hold ≤ bound)) =
          λ free one. elim one as (λ _. (is_first u ≡ true) ⊎ (miss × (new.presence.hold ≤ bound))) [
            | inl yes' ↦ inl (b.1.1 (sym backs.out ∙ free) ∙ yes')
            | inr may ↦ inr (may, low)
          ] in
          elim p as (λ _. Kept i bound miss new u ⊎ Missed i bound due (cut o) miss new u) [
            | inl kept' ↦
                let soon' = kept'.1.0 in
                let spared : (track_at new i).out ≡ false → (is_first u ≡ true) ⊎ (miss × (new.presence.hold ≤ bound)) =
                λ free. first free (elim (kept'.1.1 (sym backs.out ∙ free)) as (λ _. (is_first t ≡ true) ⊎ miss) [ inl yes' ↦ inl yes' | inr held' ↦ inr held'.0 ]) in
                elim b.1.0 as (λ _. Kept i bound miss new u ⊎ Missed i bound due (cut o) miss new u) [
                  | inl stays ↦ (let at = stays.1 in inl (stays.0 ∙ kept'.0, (omega (arith, at, soon', clock), spared)))
                  | inr again' ↦ (let at = again'.1 in inl (again'.0, (omega (arith, at, old_last), spared)))
                ]
            | inr missed ↦
                elim b.1.0 as (λ _. Kept i bound miss new u ⊎ Missed i bound due (cut o) miss new u) [
                  | inl stays ↦ inr (stays.0 ∙ missed.0, (backs.out ∙ missed.1.0, (missed.1.1.0, (missed.1.1.1.0, inl low))))
                  | inr again' ↦ (let at = again'.1 in inl (again'.0, (omega (arith, at, old_last), λ free. first free (inr missed.1.1.0))))
                ]
          ];
      out =
          subst (λ (x : WatchState). All P x.out) (sym a.is)
          (all_left P (λ r k e. ((k e).0, λ pressed'. (((k e).1 pressed').0, λ heard'. low))) mid q reply
          (subst (All P) (sym a.outs)
          (All-weaker (Cutting o i bound miss old) P (λ r k e. ((k e).0, λ pressed'. (((k e).1 (sym backs.pressed ∙ pressed')).0, λ heard'. low))) old.out h.out)));
      silent' = λ any away. absurd (not_both away (ap (λ (x : WatchState). x.presence.away) a.is ∙ real_away mid q reply real));
    }

-- a lost one: the requests that are left, and by when the next clock comes
lost_out : (s : WatchState) (q : Out) → (replied s q Lost).out ≡ without_request q.entry s.out
lost_out s q =
    let free = lane_freed s q in
    let P : WatchState → Type 0 = λ t. t.out ≡ without_request q.entry s.out in
    if_both P q.heard free (silent free) refl (if_both P s.presence.away free (record free { presence = presence_gone s.presence }) refl refl)

-- what an answer leaves of its entry that tells nothing: it is pressed if it was, and its try has failed then
pub record IsFailed (y x : Track) : Type 0 where
  pub end : y.end ≡ x.end
  pub last : y.last ≡ x.last
  pub out : y.out ≡ false
  pub pressed : is_pressed y ≡ is_pressed x
  pub failed : (u : Try) → y.attempt ≡ Some u → u.pressed ≡ true → u.failed ≡ true

-- a real one to the entry itself, to a request that the outage cut: it fails, and nothing is held back
pub refused_endures :
    (o : Outage) (i end bound due : ℕ) (miss : Type 0) (old mid new : WatchState) (q : Out) (reply : WatchReply) → IsAnswered old mid new q reply → is_real reply ≡ true → (old.presence.away ≡ false → old.presence.hold ≡ 0) →
    is_request_whole o q.since ≡ false → due ≤ outage_settled_by o q.since + o.late → Cutting o i bound miss old q → q.entry ≡ i → IsFailed (track_at mid i) (track_at old i) → Endures o i end bound due miss old →
    Endures o i end bound due miss new
unfolding Kept Missed
refused_endures o i end bound due miss old mid new q reply a real none not_whole in_time cuts own f h =
    let backs = new_backs old mid new q reply a i in
    let hold : new.presence.hold ≡ 0 =
    ap (λ (x : WatchState). x.presence.hold) a.is ∙ real_hold mid q reply real (subst (λ (p : Presence). p.away ≡ false → p.hold ≡ 0) (sym a.presence) none) in
    let low : new.presence.hold ≤ bound = omega (arith, hold) in
    let c = cut_off o q.since not_whole in
    let by_cut' : due ≤ cut o = omega (arith, in_time, c) in
    let before : rested (track_at mid i).last ≤ bound = (let e = ap rested f.last in let l = h.last in omega (arith, e, l)) in
    let was : is_pressed (track_at new i) ≡ true → is_pressed (track_at old i) ≡ true = λ pressed'. sym (backs.pressed ∙ f.pressed) ∙ pressed' in
    let P : Out → Type 0 = Cutting o i bound miss new in
    record {
      end_is = backs.end ∙ f.end ∙ h.end_is;
      last = let e = ap rested backs.last in omega (arith, e, before);
      tries = λ u is pressed'.
          let b = backs.tries u is in
          let t = b.0 in
          let pressed'' : t.pressed ≡ true = sym b.1.1.0 ∙ pressed' in
          let failed' = f.failed t b.1.0 pressed'' in
          let may = (cuts own).1 (sym f.pressed ∙ ap is_pressed_try b.1.0 ∙ pressed'') in
          elim b.1.1.1.0 as (λ _. Kept i bound miss new u ⊎ Missed i bound due (cut o) miss new u) [
            | inl stays ↦ inr (stays.0 ∙ failed', (backs.out ∙ f.out, (may.0, (by_cut', inl low))))
            | inr again' ↦ (let at = again'.1 in inl (again'.0, (omega (arith, at, before), λ free. inr (may.0, low))))
          ];
      out =
          subst (λ (x : WatchState). All P x.out) (sym a.is)
          (all_left P (λ r k e. ((k e).0, λ pressed'. (((k e).1 pressed').0, λ heard'. low))) mid q reply
          (subst (All P) (sym a.outs) (All-weaker (Cutting o i bound miss old) P (λ r k e. ((k e).0, λ pressed'. (((k e).1 (was pressed')).0, λ heard'. low))) old.out h.out)));
      silent' = λ any away. absurd (not_both away (ap (λ (x : WatchState). x.presence.away) a.is ∙ real_away mid q reply real));
    }

module _ (o : Outage) (i end bound due : ℕ) (miss : Type 0) (old mid new : WatchState) (q : Out) (a : IsAnswered old mid new q Lost) (not_whole : is_request_whole o q.since ≡ false) (in_time : due ≤ outage_settled_by o q.since + o.late) (h : Endures o i end bound due miss old) where
  by_cut : due ≤ cut o
  by_cut = let c = cut_off o q.since not_whole in omega (arith, in_time, c)

  lower : new.presence.hold ≤ old.presence.hold
  lower =
      let l = lost_hold mid q in
      let e = ap (λ (x : WatchState). x.presence.hold) a.is in
      let same = ap (λ (p : Presence). p.hold) a.presence in
      omega (arith, l, e, same)

  still_away : old.presence.away ≡ true → new.presence.away ≡ true
  still_away away = ap (λ (x : WatchState). x.presence.away) a.is ∙ lost_away mid q (ap (λ (p : Presence). p.away) a.presence ∙ away)

  left_out : (is_pressed (track_at new i) ≡ true → is_pressed (track_at old i) ≡ true) → All (Cutting o i bound miss new) new.out
  unfolding without_request
  left_out was =
      let P : Out → Type 0 = Cutting o i bound miss new in
      let l = lower in
      subst (All P) (sym (ap (λ (x : WatchState). x.out) a.is ∙ lost_out mid q))
      (All-filter (λ r. not (r.entry == q.entry)) P mid.out
      (subst (All P) (sym a.outs)
      (All-weaker (Cutting o i bound miss old) P (λ r k e. ((k e).0, λ pressed'. (((k e).1 (was pressed')).0, λ heard'. let b = ((k e).1 (was pressed')).1 heard' in omega (arith, b, l)))) old.out h.out)))

  still_held : (old.presence.hold ≤ bound) ⊎ ((list_any is_silent old.answers ≡ true) × (old.presence.away ≡ true)) → (new.presence.hold ≤ bound) ⊎ ((list_any is_silent new.answers ≡ true) × (new.presence.away ≡ true))
  still_held before =
      let l = lower in
      elim before as (λ _. (new.presence.hold ≤ bound) ⊎ ((list_any is_silent new.answers ≡ true) × (new.presence.away ≡ true))) [
        | inl low ↦ inl (omega (arith, low, l))
        | inr both ↦
            inr (
              ap (list_any is_silent) (after old mid new q Lost a) ∙ any_kept is_silent old.answers (answer old mid new q Lost a ∷ []) both.0,
              still_away both.1,
            )
      ]

  pub lost_endures : track_at mid i ≡ track_at old i → Endures o i end bound due miss new
  unfolding Kept Missed
  lost_endures same =
      let track : track_at new i ≡ track_at old i = ap (λ (x : WatchState). track_at x i) a.is ∙ lost_tracks mid q i ∙ same in
      let clock = ap (λ c. c.at) a.clocks in
      let l = lower in
      record {
        end_is = ap (λ (x : Track). x.end) track ∙ h.end_is;
        last = let e = ap (λ (x : Track). rested x.last) track in let k = h.last in omega (arith, e, k);
        tries = λ t is pressed'.
            elim (h.tries t (sym (ap (λ (x : Track). x.attempt) track) ∙ is) pressed') as (λ _. Kept i bound miss new t ⊎ Missed i bound due (cut o) miss new t) [
              | inl kept ↦
                  let soon' = kept.1.0 in
                  inl (
                    kept.0,
                    (
                      omega (arith, soon', clock),
                      λ free. elim (kept.1.1 (sym (ap (λ (x : Track). x.out) track) ∙ free)) as (λ _. (is_first t ≡ true) ⊎ (miss × (new.presence.hold ≤ bound))) [
                        | inl first ↦ inl first
                        | inr low ↦ (let low' = low.1 in inr (low.0, omega (arith, low', l)))
                      ],
                    ),
                  )
              | inr missed ↦ inr (missed.0, (ap (λ (x : Track). x.out) track ∙ missed.1.0, (missed.1.1.0, (missed.1.1.1.0, still_held missed.1.1.1.1))))
            ];
        out = left_out (λ pressed'. ap is_pressed (sym track) ∙ pressed');
        silent' = λ any away. by_cut;
      }

  -- its own
  pub own_endures : Cutting o i bound miss old q → q.entry ≡ i → IsFailed (track_at mid i) (track_at old i) → Endures o i end bound due miss new
  unfolding Kept Missed
  own_endures cuts own f =
      let track : track_at new i ≡ track_at mid i = ap (λ (y : WatchState). track_at y i) a.is ∙ lost_tracks mid q i in
      let l = lower in
      let free : (track_at new i).out ≡ false = ap (λ (y : Track). y.out) track ∙ f.out in
      let was : is_pressed (track_at new i) ≡ true → is_pressed (track_at old i) ≡ true = λ pressed'. sym f.pressed ∙ ap is_pressed (sym track) ∙ pressed' in
      record {
        end_is = ap (λ (y : Track). y.end) track ∙ f.end ∙ h.end_is;
        last = let e = ap (λ (y : Track). rested y.last) track in let g = ap rested f.last in let k = h.last in omega (arith, e, g, k);
        tries = λ u is pressed'.
            let failed = f.failed u (sym (ap (λ (y : Track). y.attempt) track) ∙ is) pressed' in
            let may = (cuts own).1 (was (ap is_pressed_try is ∙ pressed')) in
            inr (
              failed,
              (
                free,
                (
                  may.0,
                  (
                    by_cut,
                    elim (cases_Bool q.heard) as (λ _. (new.presence.hold ≤ bound) ⊎ ((list_any is_silent new.answers ≡ true) × (new.presence.away ≡ true))) [
                      | inl heard' ↦ (let low = may.1 heard' in inl (omega (arith, low, l)))
                      | inr unheard ↦
                          inr (
                            ap (list_any is_silent) (after old mid new q Lost a) ∙ any_added is_silent old.answers (answer old mid new q Lost a) (ap not unheard),
                            ap (λ (y : WatchState). y.presence.away) a.is ∙ unheard_away mid q unheard,
                          )
                    ],
                  ),
                ),
              ),
            );
        out = left_out was;
        silent' = λ any away. by_cut;
      }

-- so after a renewal and after a lookup that tell nothing
abbrev Failing : Try → Try → Type 0
Failing t v = (v.pressed ≡ t.pressed) × (v.pressed ≡ true → v.failed ≡ true)

ungranted_fails : (at : ℕ) (heard : Bool) (reply : WatchReply) (x : Track) (t : Try) → is_told reply ≡ false → Failing t (ungranted_try at heard reply x t)
ungranted_fails at heard (Told seconds renewable date) x t untold' = absurd (true≢false untold')
ungranted_fails at heard _ x t untold' = (refl, λ p. refl)

untold_fails : (at : ℕ) (heard : Bool) (reply : WatchReply) (x : Track) (t : Try) → is_told reply ≡ false → Failing t (untold_try at heard reply x t)
untold_fails at heard (Told seconds renewable date) x t untold' = absurd (true≢false untold')
untold_fails at heard (Refused status date) x t untold' =
    if_both (Failing t) (is_open (sec at) x) (if t.pressed then failing t Renew false false else record (failing t Renew false false) { at = at; failed = false }) (failing t Look false false)
    (if_cases (Failing t) t.pressed (failing t Renew false false) (record (failing t Renew false false) { at = at; failed = false }) (λ e. (refl, λ p. refl)) (λ e. (refl, λ p. absurd (not_both p e))))
    (refl, λ p. refl)
untold_fails at heard _ x t untold' = (refl, λ p. refl)

fails_so : (t v u : Try) → Failing t v → Some v ≡ Some u → u.pressed ≡ true → u.failed ≡ true
fails_so t v u h is = subst (λ (w : Try). w.pressed ≡ true → w.failed ≡ true) (value_is v u is) h.1

pub ungranted_failed : (at : ℕ) (heard : Bool) (reply : WatchReply) (x : Track) → is_told reply ≡ false → IsFailed (ungranted_track at heard reply x) x
unfolding ungranted_track
ungranted_failed at heard reply x untold' = record { end = refl; last = refl; out = refl; pressed = pressed' x.attempt; failed = failed' x.attempt } where
  pressed' : (o : Option Try) → is_pressed_try (ungranted at heard reply x o) ≡ is_pressed_try o
  pressed' None = refl
  pressed' (Some t) = (ungranted_fails at heard reply x t untold').0

  failed' : (o : Option Try) (u : Try) → ungranted at heard reply x o ≡ Some u → u.pressed ≡ true → u.failed ≡ true
  failed' None u is = absurd cc
  failed' (Some t) u is = fails_so t (ungranted_try at heard reply x t) u (ungranted_fails at heard reply x t untold') is

pub untold_failed : (at : ℕ) (heard : Bool) (reply : WatchReply) (x : Track) → is_told reply ≡ false → IsFailed (untold_track at heard reply x) x
unfolding untold_track
untold_failed at heard reply x untold' = record { end = refl; last = refl; out = refl; pressed = pressed' x.attempt; failed = failed' x.attempt } where
  pressed' : (o : Option Try) → is_pressed_try (untold at heard reply x o) ≡ is_pressed_try o
  pressed' None = refl
  pressed' (Some t) = (untold_fails at heard reply x t untold').0

  failed' : (o : Option Try) (u : Try) → untold at heard reply x o ≡ Some u → u.pressed ≡ true → u.failed ≡ true
  failed' None u is = absurd cc
  failed' (Some t) u is = fails_so t (untold_try at heard reply x t) u (untold_fails at heard reply x t untold') is

-- the bound may be later, and then it may miss
pub later_endures :
    (o : Outage) (i end bound more due : ℕ) (miss may : Type 0) (s : WatchState) → bound ≤ more → (miss → may) → Endures o i end bound due miss s → Endures o i end more due may s
unfolding Kept Missed
later_endures o i end bound more due miss may s le weaker h = record {
  end_is = h.end_is;
  last = let l = h.last in omega (arith, l, le);
  tries = λ t is pressed'.
      elim (h.tries t is pressed') as (λ _. Kept i more may s t ⊎ Missed i more due (cut o) may s t) [
        | inl kept ↦
            let soon' = kept.1.0 in
            inl (
              kept.0,
              (
                omega (arith, soon', le),
                λ free. elim (kept.1.1 free) as (λ _. (is_first t ≡ true) ⊎ (may × (s.presence.hold ≤ more))) [
                  | inl first ↦ inl first
                  | inr low ↦ (let low' = low.1 in inr (weaker low.0, omega (arith, low', le)))
                ],
              ),
            )
        | inr missed ↦
            inr (
              missed.0,
              (
                missed.1.0,
                (
                  weaker missed.1.1.0,
                  (
                    missed.1.1.1.0,
                    elim missed.1.1.1.1 as (λ _. (s.presence.hold ≤ more) ⊎ ((list_any is_silent s.answers ≡ true) × (s.presence.away ≡ true))) [
                      | inl low ↦ inl (omega (arith, low, le))
                      | inr both ↦ inr both
                    ],
                  ),
                ),
              ),
            )
      ];
  out =
      All-weaker (Cutting o i bound miss s) (Cutting o i more may s)
      (λ r k e. ((k e).0, λ pressed'. let c = (k e).1 pressed' in (weaker c.0, λ heard'. let b = c.1 heard' in omega (arith, b, le)))) s.out h.out;
  silent' = h.silent';
}
