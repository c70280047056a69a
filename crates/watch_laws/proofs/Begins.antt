-- Begins: when a clock begins anew, and what a beginning leaves. For the law of when everything is looked up anew.
use Rattle.std.proofs.Common.{◌≡◌, ◌⊎◌, ◌∙◌, ℕ, ◌+◌, ◌<◌, ◌≤◌, Bool, true, false, not, ◌&&◌, ◌||◌, if◌then◌else◌, List, Option, Some, None, Result, Ok, Err, is_none, is_some, length, min, nat_le, nat_lt, refl, sym, ap, subst, arith, inl, inr, true≢false}
use Rattle.std.proofs.lemmas.{Bool.Decides.nat_tests, List.get_or_past}
use Rattle.std.proofs.lemmas.Bool.{and_from, and_parts, cases_Bool, cases_lt, cond-false, cond-true}
use Rattle.std.specs.List.{list_any}
use Rattle.watch_machine.specs.{declared.clocks.Clocks.Clocks, declared.command.WatchOutput.WatchOutput, declared.command.WatchRequest.WatchRequest, declared.event.WatchEvent.WatchEvent, declared.fault.WatchFault.WatchFault}
use Rattle.watch_machine.specs.{declared.notes.Notes.Notes, declared.notes.BeginReason.BeginReason, declared.reading.TheConstants.READING_MAX, declared.track.Track.Track, Clocks.reading, Clocks.sec, History.Turn, Press.pressed}
use Rattle.watch_machine.specs.{Round.asked_by_round, Sending.sent}
use Rattle.watch_machine.specs.declared.event.WatchEvent.TheVariants.{Clock, Begin}
use Rattle.watch_machine.specs.declared.notes.BeginReason.TheVariants.{Asked, Jump, Day}
use Rattle.watch_machine.specs.Beginning.{beginning, begun, is_called, is_past, is_pressed, is_start, is_urgent, owing, owing_lookup, soon, sooner_try, untopped, untopped_track}
use Rattle.watch_machine.specs.Settling.{at_reading, has_jumped, settled, settled_track, timed}
use Rattle.watch_machine.specs.State.{WatchState, no_track, second, track_at, track_in}
use Rattle.watch_machine.specs.Step.{Step, StepClock, readied, why}
use Rattle.watch_machine.specs.Wanted.{believed, is_alive, is_open}
use Rattle.watch_machine.proofs.{Cases.if_both, Cases.not_both, Seeing.each_read, Written.each_length}
use Rattle.watch_laws.specs.{Absence.is_event_taken, Beginnings.HasParted, Beginnings.why_begun}
use Rattle.watch_laws.specs.Begins.{BeginLaw, IsBegunAnew, IsNewDay, MayGoOn, SomebodyIsUrgent}
use Rattle.watch_laws.proofs.{Fronts.alone_index, Fronts.index_alone, OnPlan.new_count, Opener.mid_bears, Presses.settled_keeps, Topping.readied_count, Tracking.each_kept}
use Rattle.watch_laws.proofs.Clocking.{clock_at, clock_rises, readied_clocks, sent_by}
use Rattle.watch_laws.proofs.Dating.{Clocked, not_parted, reached_clocked}

-- why a clock does not begin anew
record IsNone (begun' : Option ℕ) (asked stepped jumped : Bool) (at : ℕ) (xs : List Track) : Type 0 where
  begun : ℕ
  begun_is : begun' ≡ Some begun
  stays : jumped ≡ false
  unasked : asked ≡ false
  dates : stepped ≡ true → at < begun + 600000
  day : (at < begun + 86400000) ⊎ (list_any (is_urgent (sec at)) xs ≡ true)

none_begins : (begun' : Option ℕ) (asked stepped jumped : Bool) (at : ℕ) (xs : List Track) → beginning begun' asked stepped jumped at xs ≡ None → IsNone begun' asked stepped jumped at xs
unfolding beginning
none_begins None asked stepped jumped at xs is = absurd cc
none_begins (Some b) asked stepped true at xs is = absurd cc
none_begins (Some b) asked stepped false at xs is =
    let due = stepped && is_past 600000 (Some b) at in
    let urgent = list_any (is_urgent (sec at)) xs in
    let day = is_past 86400000 (Some b) at && not urgent in
    let rest = if day then Some Day else None in
    let rest' = if asked then Some Asked else rest in
    elim (cases_Bool due) as (λ _. IsNone (Some b) asked stepped false at xs) [
      | inl yes' ↦ absurd (let bad : Some Jump ≡ None = sym (cond-true due (Some Jump) rest' yes') ∙ is in cc)
      | inr no' ↦
          let is' : rest' ≡ None = sym (cond-false due (Some Jump) rest' no') ∙ is in
          elim (cases_Bool asked) as (λ _. IsNone (Some b) asked stepped false at xs) [
            | inl yes' ↦ absurd (let bad : Some Asked ≡ None = sym (cond-true asked (Some Asked) rest yes') ∙ is' in cc)
            | inr unasked ↦
                let is'' : rest ≡ None = sym (cond-false asked (Some Asked) rest unasked) ∙ is' in
                elim (cases_Bool day) as (λ _. IsNone (Some b) asked stepped false at xs) [
                  | inl yes' ↦ absurd (let bad : Some Day ≡ None = sym (cond-true day (Some Day) None yes') ∙ is'' in cc)
                  | inr no_day ↦ record {
                    begun = b;
                    begun_is = refl;
                    stays = refl;
                    unasked = unasked;
                    dates = λ so. elim (cases_lt at (b + 600000)) as (λ _. at < b + 600000) [
                      | inl ahead ↦ ahead
                      | inr late ↦ absurd (let test : nat_le (b + 600000) at ≡ true = grind (arith, nat_tests) in not_both (and_from stepped (nat_le (b + 600000) at) so test) no')
                    ];
                    day = elim (cases_lt at (b + 86400000)) as (λ _. (at < b + 86400000) ⊎ (urgent ≡ true)) [
                      | inl ahead ↦ inl ahead
                      | inr late ↦ elim (cases_Bool urgent) as (λ _. (at < b + 86400000) ⊎ (urgent ≡ true)) [
                        | inl some ↦ inr some
                        | inr none ↦ absurd (let test : nat_le (b + 86400000) at ≡ true = grind (arith, nat_tests) in not_both (and_from (nat_le (b + 86400000) at) (not urgent) test (ap not none)) no_day)
                      ]
                    ];
                  }
                ]
          ]
    ]

-- and why one does for the sake of a day
record IsDay (begun' : Option ℕ) (at : ℕ) (xs : List Track) : Type 0 where
  begun : ℕ
  begun_is : begun' ≡ Some begun
  past : begun + 86400000 ≤ at
  quiet : list_any (is_urgent (sec at)) xs ≡ false

day_begins : (begun' : Option ℕ) (asked stepped jumped : Bool) (at : ℕ) (xs : List Track) → beginning begun' asked stepped jumped at xs ≡ Some Day → IsDay begun' at xs
unfolding beginning
day_begins None asked stepped jumped at xs is = absurd cc
day_begins (Some b) asked stepped true at xs is = absurd cc
day_begins (Some b) asked stepped false at xs is =
    let due = stepped && is_past 600000 (Some b) at in
    let urgent = list_any (is_urgent (sec at)) xs in
    let day = is_past 86400000 (Some b) at && not urgent in
    let rest = if day then Some Day else None in
    let rest' = if asked then Some Asked else rest in
    elim (cases_Bool due) as (λ _. IsDay (Some b) at xs) [
      | inl yes' ↦ absurd (let bad : Some Jump ≡ Some Day = sym (cond-true due (Some Jump) rest' yes') ∙ is in cc)
      | inr no' ↦
          let is' : rest' ≡ Some Day = sym (cond-false due (Some Jump) rest' no') ∙ is in
          elim (cases_Bool asked) as (λ _. IsDay (Some b) at xs) [
            | inl yes' ↦ absurd (let bad : Some Asked ≡ Some Day = sym (cond-true asked (Some Asked) rest yes') ∙ is' in cc)
            | inr unasked ↦
                let is'' : rest ≡ Some Day = sym (cond-false asked (Some Asked) rest unasked) ∙ is' in
                elim (cases_Bool day) as (λ _. IsDay (Some b) at xs) [
                  | inr no_day ↦ absurd (let bad : None ≡ Some Day = sym (cond-false day (Some Day) None no_day) ∙ is'' in cc)
                  | inl yes' ↦
                      let both = and_parts (nat_le (b + 86400000) at) (not urgent) yes' in
                      let test = both.0 in
                      record { begun = b; begun_is = refl; past = grind (arith, nat_tests, test); quiet = none_of urgent both.1 }
                ]
          ]
    ] where
      none_of : (c : Bool) → not c ≡ true → c ≡ false
      none_of true h = absurd cc
      none_of false h = refl

-- who is urgent before the pauses are set is so after it
settled_at : (s : WatchState) (wall elapsed i : ℕ) → i < length s.tracks → track_at (settled (timed s wall elapsed)) i ≡ settled_track s.forest.margin (timed s wall elapsed).clocks.at (track_at s i)
settled_at s wall elapsed i within = each_read (λ j. settled_track s.forest.margin (timed s wall elapsed).clocks.at) s.tracks i within

urgent_some : (s : WatchState) (wall elapsed now : ℕ) → list_any (is_urgent now) (settled (timed s wall elapsed)).tracks ≡ true → SomebodyIsUrgent s now
urgent_some s wall elapsed now some =
    let t = settled (timed s wall elapsed) in
    let there = alone_index (is_urgent now) t.tracks some in
    let i = there.0 in
    let low = there.1.0 in
    let count = each_length (λ j. settled_track s.forest.margin (timed s wall elapsed).clocks.at) s.tracks in
    let within : i < length s.tracks = omega (arith, low, count) in
    let same = settled_at s wall elapsed i within in
    let keeps = settled_keeps s.forest.margin (timed s wall elapsed).clocks.at (track_at s i) in
    let both = and_parts (is_pressed (track_at t i)) (is_alive now (track_at t i)) there.1.1 in
    let alive : nat_lt now (believed (track_at s i).end) ≡ true = ap (λ e. nat_lt now (believed e)) (sym keeps.end) ∙ ap (is_alive now) (sym same) ∙ both.1 in
    (i, (sym keeps.pressed ∙ ap is_pressed (sym same) ∙ both.0, grind (arith, nat_tests, alive)))

pressed_within : (xs : List Track) (i : ℕ) → is_pressed (track_in xs i) ≡ true → i < length xs
pressed_within xs i is =
    elim (cases_lt i (length xs)) [
      | inl within ↦ within
      | inr past ↦ absurd (let bad : false ≡ true = ap is_pressed (sym (get_or_past xs i no_track past)) ∙ is in cc)
    ]

some_urgent : (s : WatchState) (wall elapsed now : ℕ) → SomebodyIsUrgent s now → list_any (is_urgent now) (settled (timed s wall elapsed)).tracks ≡ true
some_urgent s wall elapsed now some =
    let t = settled (timed s wall elapsed) in
    let i = some.0 in
    let within = pressed_within s.tracks i some.1.0 in
    let count = each_length (λ j. settled_track s.forest.margin (timed s wall elapsed).clocks.at) s.tracks in
    let same = settled_at s wall elapsed i within in
    let keeps = settled_keeps s.forest.margin (timed s wall elapsed).clocks.at (track_at s i) in
    let ahead = some.1.1 in
    let test : nat_lt now (believed (track_at s i).end) ≡ true = grind (arith, nat_tests, ahead) in
    index_alone (is_urgent now) t.tracks i (omega (arith, within, count))
    (and_from (is_pressed (track_at t i)) (is_alive now (track_at t i)) (ap is_pressed same ∙ keeps.pressed ∙ some.1.0) (ap (is_alive now) same ∙ ap (λ e. nat_lt now (believed e)) keeps.end ∙ test))

-- what a clock leaves of its beginning
pub begun_stepped : (s : WatchState) (w : Option BeginReason) → w ≡ None → (begun s w).stepped ≡ s.stepped
begun_stepped s None is = refl
begun_stepped s (Some w) is = absurd cc

begun_anew : (s : WatchState) (w : Option BeginReason) → is_some w ≡ true → ((begun s w).begun ≡ Some (begun s w).clocks.at) × (((begun s w).asked ≡ false) × ((begun s w).stepped ≡ false))
begun_anew s None is = absurd cc
begun_anew s (Some w) is = (refl, (refl, refl))

owing_top : (at : ℕ) (first called : Bool) (x : Track) → (owing at first called x).top ≡ x.top
unfolding owing
owing_top at first called x =
    if_both (λ (y : Track). y.top ≡ x.top) (called && (first || is_open (sec at) x)) (owing_lookup at x) x
    (if_both (λ (y : Track). y.top ≡ x.top) x.out (record x { owes = true }) (record x { owes = true; attempt = Some (sooner_try (soon at x) x.attempt) }) refl refl) refl

pub begun_top : (s : WatchState) (w : Option BeginReason) (i : ℕ) → is_some w ≡ true → i < length s.tracks → (track_at (begun s w) i).top ≡ false
begun_top s None i is within = absurd cc
begun_top s (Some w) i is within =
    let xs = untopped s.tracks in
    each_kept (λ y x. y.top ≡ x.top) refl (λ j. owing s.clocks.at (is_start w) (is_called s.forest xs s.clocks j)) xs (λ j x. owing_top s.clocks.at (is_start w) (is_called s.forest xs s.clocks j) x) i
    ∙ ap (λ (x : Track). x.top) (each_read (λ j. untopped_track) s.tracks i within)

module _ (old new : WatchState) (wall elapsed : ℕ) (output : WatchOutput) (step : StepClock old wall elapsed output new) where
  abbrev t : WatchState
  t = settled (timed old wall elapsed)

  abbrev r : WatchState
  r = readied old wall elapsed

  abbrev round : List ℕ
  round = asked_by_round step.round

  go : (requests : List WatchRequest) × (new ≡ sent (pressed r round) requests)
  go = sent_by (pressed r round) new output.command step.command

  clock_is : new.clocks.at ≡ t.clocks.at
  clock_is = ap (λ (x : WatchState). x.clocks.at) go.1 ∙ ap (λ (c : Clocks). c.at) (readied_clocks old wall elapsed)

  why_is : why old wall elapsed ≡ output.notes.began
  why_is = ap (λ (n : Notes). n.began) (sym step.notes)

  -- the wall has not parted where it has not jumped
  still : Clocked old → is_none old.begun ≡ false → has_jumped old wall elapsed ≡ false → HasParted old.clocks.wall new.clocks.at (min wall READING_MAX) → ⊥
  unfolding has_jumped
  still o some stays parted =
      let moved = clock_at old wall elapsed some in
      let at = clock_is ∙ moved in
      let rises = clock_rises old wall elapsed some in
      let set = o.set.wall in
      not_parted (at_reading old.clocks elapsed) (reading wall) (omega (arith, set, rises, moved)) stays (subst (λ n. HasParted old.clocks.wall n (min wall READING_MAX)) at parted)

  clock_none : Clocked old → output.notes.began ≡ None → MayGoOn old new wall
  unfolding why readied
  clock_none o none =
      let h = none_begins t.begun t.asked t.stepped (has_jumped old wall elapsed) t.clocks.at t.tracks (why_is ∙ none) in
      let same = clock_is in
      let some : is_none old.begun ≡ false = ap is_none h.begun_is in
      record {
        begun = h.begun;
        begun_is = h.begun_is;
        stays = λ parted. still o some h.stays parted;
        unasked = h.unasked;
        dates = λ so.
            let d = h.dates (sym (ap (λ (x : WatchState). x.stepped) go.1 ∙ begun_stepped t (why old wall elapsed) (why_is ∙ none)) ∙ so) in
            omega (arith, d, same);
        day = elim h.day as (λ _. (new.clocks.at < h.begun + 86400000) ⊎ SomebodyIsUrgent old (second new)) [
          | inl ahead ↦ inl (omega (arith, ahead, same))
          | inr urgent ↦ inr (urgent_some old wall elapsed (second new) (ap (λ n. list_any (is_urgent (sec n)) t.tracks) same ∙ urgent))
        ];
      }

  clock_day : output.notes.began ≡ Some Day → IsNewDay old new
  unfolding why
  clock_day is =
      let h = day_begins t.begun t.asked t.stepped (has_jumped old wall elapsed) t.clocks.at t.tracks (why_is ∙ is) in
      let same = clock_is in
      let past = h.past in
      record {
        begun = h.begun;
        begun_is = h.begun_is;
        past = omega (arith, past, same);
        quiet = λ some. not_both (sym (ap (λ n. list_any (is_urgent (sec n)) t.tracks) same) ∙ some_urgent old wall elapsed (second new) some) h.quiet;
      }

  clock_anew : is_some output.notes.began ≡ true → IsBegunAnew new
  unfolding readied
  clock_anew some =
      let w = why old wall elapsed in
      let so : is_some w ≡ true = ap is_some why_is ∙ some in
      let h = begun_anew t w so in
      let at : new.clocks.at ≡ r.clocks.at = ap (λ (x : WatchState). x.clocks.at) go.1 in
      record {
        begun = ap (λ (x : WatchState). x.begun) go.1 ∙ h.0 ∙ ap (λ m. Some m) (sym at);
        asked = ap (λ (x : WatchState). x.asked) go.1 ∙ h.1.0;
        stepped = ap (λ (x : WatchState). x.stepped) go.1 ∙ h.1.1;
        top = λ i within.
            let count = ap (λ (x : WatchState). length x.tracks) go.1 ∙ new_count r round go.0 in
            let count' = readied_count old wall elapsed in
            let all = each_length (λ j. settled_track old.forest.margin (timed old wall elapsed).clocks.at) old.tracks in
            ap (λ (x : WatchState). (track_at x i).top) go.1 ∙ ap (λ (x : Track). x.top) (mid_bears r round go.0 i) ∙ begun_top t w i so (omega (arith, within, count, count', all));
      }

-- a turn
pub turn_of :
    (P : Option BeginReason → Type 0) (old new : WatchState) (event : WatchEvent) (result : Result WatchOutput WatchFault) (wall elapsed : ℕ) → Turn old event result new → event ≡ Clock wall elapsed → is_event_taken result ≡ true →
    ((output : WatchOutput) → StepClock old wall elapsed output new → P output.notes.began) → P (why_begun result)
turn_of P old new event (Ok output) wall elapsed turn is taken' h = h output (subst (λ e. Step old e output new) is turn.1)
turn_of P old new event (Err fault) wall elapsed turn is taken' h = absurd (true≢false (sym taken'))

turn_asks : (old new : WatchState) (event : WatchEvent) (result : Result WatchOutput WatchFault) → Turn old event result new → event ≡ Begin → is_event_taken result ≡ true → new.asked ≡ true
turn_asks old new event (Ok output) turn is taken' = ap (λ (x : WatchState). x.asked) (subst (λ e. Step old e output new) is turn.1).1
turn_asks old new event (Err fault) turn is taken' = absurd (true≢false (sym taken'))

pub begins_so : BeginLaw
begins_so = record {
  goes_on = λ old turn wall elapsed reached h clock.
      turn_of (λ w. w ≡ None → MayGoOn old turn.state wall) old turn.state turn.event turn.result wall elapsed h.0 clock.0 clock.1
      (λ output step. clock_none old turn.state wall elapsed output step (reached_clocked old reached));
  day = λ old turn wall elapsed h clock.
      turn_of (λ w. w ≡ Some Day → IsNewDay old turn.state) old turn.state turn.event turn.result wall elapsed h.0 clock.0 clock.1 (λ output step. clock_day old turn.state wall elapsed output step);
  anew = λ old turn wall elapsed h clock.
      turn_of (λ w. is_some w ≡ true → IsBegunAnew turn.state) old turn.state turn.event turn.result wall elapsed h.0 clock.0 clock.1 (λ output step. clock_anew old turn.state wall elapsed output step);
  asks = λ old turn h is taken'. turn_asks old turn.state turn.event turn.result h.0 is taken';
}
