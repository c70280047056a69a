-- Ticking: what a clock makes of the stages of an outage. For the law of outages.
use Rattle.std.proofs.Common.{◌≡◌, ◌⊎◌, ◌∙◌, ℕ, suc, ◌+◌, ◌*◌, ◌<◌, ◌≤◌, Bool, true, false, max, not, ◌&&◌, ◌||◌, ◌==◌, List, [], ◌∷◌, Some, All, get_or, length, map, nat_le, nat_lt, refl, sym, ap, subst, arith, inl, inr}
use Rattle.std.proofs.Math.Nat.{mul-suc}
use Rattle.std.proofs.lemmas.{Bool.Decides.nat_tests, List.Elements.All-weaker}
use Rattle.std.proofs.lemmas.Bool.{and_from, and_parts, cases_Bool, cases_lt, eqb-true, or_parts}
use Rattle.std.specs.List.{list_any}
use Rattle.watch_machine.specs.{declared.command.WatchOutput.WatchOutput, declared.command.WatchRequest.WatchRequest, declared.lanes.Out.Out, declared.lanes.Presence.Presence, declared.track.Track.Track, declared.track.Try.Try}
use Rattle.watch_machine.specs.{Beginning.is_pressed, Clocks.ms, Clocks.sec, Press.pressed, Outlook.time_of, Step.readied, Wait.wait, Wanted.is_wanted}
use Rattle.watch_machine.specs.Lines.{is_due, is_first, ready, rested}
use Rattle.watch_machine.specs.Sending.{sent, sent_in, sent_track}
use Rattle.watch_machine.specs.Settling.{is_silent, presence_after, timed}
use Rattle.watch_machine.specs.State.{WatchState, attempt_at, second, track_at, track_in}
use Rattle.watch_machine.proofs.Leasts.{least_start}
use Rattle.watch_machine.proofs.Cases.{if_both, if_cases, not_both}
use Rattle.watch_laws.specs.Outage.{Outage, again, comes, granted_by, how_many, is_request_served, is_request_whole, is_tried, outage_next_by, outage_settled_by, waiting, waits_to_be_asked}
use Rattle.watch_laws.proofs.{Clocking.readied_clocks, Holding.ready_presence, Lasting.Same, Lasting.same_time, Minding.end_tended, Minding.tended, Retrying.ready_first, Retrying.ready_later, Sparing.readied_answers}
use Rattle.watch_laws.proofs.{StillPressed.still_pressed_at, Topping.readied_count, Tracking.each_kept, Undisturbed.Undisturbed, Undisturbed.clock_undisturbed}
use Rattle.watch_laws.proofs.Counting.{lanes_apart, lanes_most, least_all, some}
use Rattle.watch_laws.proofs.Enduring.{Cutting, Endures, Kept, Missed, Steady, clock_held, clock_steady, cut, cut_off, later_endures}
use Rattle.watch_laws.proofs.Going.{entry_by, named_of, one_sent}
use Rattle.watch_laws.proofs.Grounds.{IsBase, fewer_wait, tracked}
use Rattle.watch_laws.proofs.Lanes.{Sends, Ticks, all_sent, goes_out_now, is_anew, is_of, pressed_count, served_marked, served_tried, stays_free, still_out}
use Rattle.watch_laws.proofs.Marked.{any_time, free_lanes, none_of, not_out}
use Rattle.watch_laws.proofs.Requests.{any_gives, anew_none, later_than, none_passes, one_left, quick_if, some_lane, take_one, whole_after}
use Rattle.watch_laws.proofs.Spacing.{free_of, mid_flag, passed_over, went}
use Rattle.watch_laws.proofs.Stages.{Facts, IsBack, IsCut, IsEarly, IsGoing, IsLate, IsPlanned, IsServed, IsThrough, free_from, late_base, late_holds, room_back, turn_of}

pub before_second : (s : WatchState) (n : ℕ) → second s < n → s.clocks.at < ms n
unfolding sec
before_second s n h = omega (arith, h)

pub so_whole : (w : Bool) → not w ≡ false → w ≡ true
so_whole true h = refl
so_whole false h = absurd cc

pub not_so : (w : Bool) → not w ≡ true → w ≡ false
not_so true h = absurd cc
not_so false h = refl

-- requests that went out before the broker was back
pub early_cut : (o : Outage) (since : ℕ) → o.from ≤ o.until → since < o.until → outage_settled_by o since + o.late ≤ cut o
unfolding outage_settled_by is_request_whole
early_cut o since order early =
    if_cases (λ n. since + n + o.late ≤ cut o) (nat_le (since + o.quick) o.from || nat_le o.until since) o.quick o.slow
    (λ whole.
    let after : nat_le o.until since ≡ false = grind (arith, nat_tests) in
    let first : nat_le (since + o.quick) o.from ≡ true = or_first (nat_le (since + o.quick) o.from) (nat_le o.until since) after whole in
    let le : since + o.quick ≤ o.from = grind (arith, nat_tests) in
    omega (arith, le, order))
    (λ slow. omega (arith, early)) where
      or_first : (a b : Bool) → b ≡ false → a || b ≡ true → a ≡ true
      or_first true b e h = refl
      or_first false b e h = absurd (not_both h e)

pub not_whole : (o : Outage) (at : ℕ) → is_request_whole o at ≡ false → (o.from < at + o.quick) × (at < o.until)
unfolding is_request_whole
not_whole o at h =
    let both = or_parts (nat_le (at + o.quick) o.from) (nat_le o.until at) h in
    let a = both.0 in
    let b = both.1 in
    (grind (arith, nat_tests), grind (arith, nat_tests))

any_lane : (test : Out → Bool) (out : List Out) → list_any test out ≡ true → list_any (λ (q : Out). true) out ≡ true
any_lane test [] h = absurd cc
any_lane test (q ∷ out) h = refl

-- a clock that was lived
pub record IsTick (f : Facts) (due : ℕ) (old new : WatchState) (wall elapsed : ℕ) (output : WatchOutput) : Type 0 where
  pub ticks : Ticks old new wall elapsed output
  pub soon : (timed old wall elapsed).clocks.at ≤ due
  pub rises : old.clocks.at ≤ (timed old wall elapsed).clocks.at
  pub planned : IsPlanned f
  pub going : IsGoing f due old
  pub base : IsBase f.width f.n new
  pub same : Same f.i old new
  pub wanted : is_wanted new f.i ≡ true
  pub ahead : due < ms f.end
  pub by : due ≤ granted_by f.o f.time f.end

module _ (f : Facts) (due : ℕ) (old new : WatchState) (wall elapsed : ℕ) (output : WatchOutput) (t : IsTick f due old new wall elapsed output) where
  abbrev o : Outage
  o = f.o

  abbrev i : ℕ
  i = f.i

  abbrev mid : WatchState
  mid = pressed (readied old wall elapsed) t.ticks.round

  abbrev at : ℕ
  at = new.clocks.at

  abbrev due' : ℕ
  due' = outage_next_by o (wait new) new.out

  clock : at ≡ (timed old wall elapsed).clocks.at
  clock = ap (λ (x : WatchState). x.clocks.at) t.ticks.new_is ∙ ap (λ c. c.at) (readied_clocks old wall elapsed)

  mid_clock : mid.clocks.at ≡ at
  mid_clock = ap (λ (x : WatchState). x.clocks.at) (sym t.ticks.new_is)

  presence : new.presence ≡ presence_after old.forest.margin (timed old wall elapsed).clocks.at old.tracks old.answers old.presence
  presence = ap (λ (x : WatchState). x.presence) t.ticks.new_is ∙ ready_presence old wall elapsed

  in_time : at ≤ due
  in_time = let c = clock in let s = t.soon in omega (arith, c, s)

  at_ahead : at < ms f.end
  at_ahead = let c = in_time in let a = t.ahead in omega (arith, c, a)

  within : i < length old.tracks
  within = let count = t.going.base.count in let low = t.planned.within in omega (arith, count, low)

  -- what holds back a try that failed, no longer than the bound
  abbrev Spares : ℕ → Type 0 → Type 0
  Spares bound miss = ((track_at old i).out ≡ true) ⊎ (miss × (new.presence.hold ≤ bound))

  -- the try with which the entry was pressed
  steady : (bound : ℕ) (miss : Type 0) → Endures o i f.end bound due miss old → (miss → again f.end (cut o) ≤ bound) → Steady at bound (Spares bound miss) (track_at mid i)
  steady bound miss h far =
      let c = clock in
      let a = at_ahead in
      let first = clock_steady o i f.end bound due miss old wall elapsed t.ticks.round within h (omega (arith, c, a)) t.soon t.rises far in
      subst (λ n. Steady n bound (((track_at old i).out ≡ true) ⊎ (miss × (new.presence.hold ≤ bound))) (track_at mid i)) (sym c)
      (subst (λ (p : Presence). Steady (timed old wall elapsed).clocks.at bound (((track_at old i).out ≡ true) ⊎ (miss × (p.hold ≤ bound))) (track_at mid i)) (sym presence) first)

  held : (bound : ℕ) (miss : Type 0) → Endures o i f.end bound due miss old → (miss → again f.end (cut o) ≤ bound) → miss → is_pressed (track_at old i) ≡ true → old.presence.hold ≤ bound → new.presence.hold ≤ bound
  held bound miss h far may pressed' low =
      let c = clock in
      let a = at_ahead in
      let e = ap (λ (p : Presence). p.hold) presence in
      let l = clock_held o i f.end bound due miss old (timed old wall elapsed).clocks.at within h (omega (arith, c, a)) t.soon t.rises far may pressed' low in
      omega (arith, e, l)

  -- what stays
  flag_kept : (track_at mid i).out ≡ (track_at old i).out
  flag_kept = mid_flag old wall elapsed t.ticks.round i

  still_marked : (track_at old i).out ≡ true → (track_at new i).out ≡ true
  still_marked out =
      elim (cases_Bool (track_at new i).out) [
        | inl yes' ↦ yes'
        | inr free ↦
            let same = ap (λ (x : Track). x.out) (stays_free old new wall elapsed output i t.ticks within free) in
            absurd (not_both (flag_kept ∙ out) (sym same ∙ free))
      ]

  named_marked : list_any (λ (r : WatchRequest). r.entry == i) t.ticks.requests ≡ true → i < length mid.tracks → (track_at new i).out ≡ true
  named_marked named low = ap (λ (x : WatchState). (track_at x i).out) t.ticks.new_is ∙ ap (λ (x : Track). x.out) (went mid t.ticks.requests i named low)

  attempt_kept : attempt_at new i ≡ attempt_at mid i
  attempt_kept =
      ap (λ (x : WatchState). attempt_at x i) t.ticks.new_is
      ∙ each_kept (λ (y x : Track). y.attempt ≡ x.attempt) refl (sent_in mid.clocks.at t.ticks.requests) mid.tracks
      (λ j x. if_both (λ (y : Track). y.attempt ≡ x.attempt) (list_any (λ (r : WatchRequest). r.entry == j) t.ticks.requests) (sent_track mid.clocks.at x) x refl refl) i

  mid_count : length mid.tracks ≡ length old.tracks
  mid_count = pressed_count (readied old wall elapsed) t.ticks.round ∙ readied_count old wall elapsed

  -- who is named was not out
  named_free : list_any (λ (r : WatchRequest). r.entry == i) t.ticks.requests ≡ true → (track_at old i).out ≡ false
  named_free named =
      let going = t.ticks.going in
      elim (one_sent mid.presence (sec mid.clocks.at) mid.clocks.at mid.tracks i going.entries (going.once i)) as (λ _. (track_at old i).out ≡ false) [
        | inl none' ↦ absurd (not_both (sym (ap (list_any (λ (r : WatchRequest). r.entry == i)) going.requests_are) ∙ named) none'.1)
        | inr one ↦
            let due'' = named_of (λ j. (j < length mid.tracks) × (is_due mid.presence mid.clocks.at (track_in mid.tracks j) ≡ true)) i going.entries going.due one.1.1 in
            sym flag_kept ∙ (free_of mid.presence mid.clocks.at (track_at mid i) due''.1).0
      ]

  -- what was last asked: before, or now
  last_kept : (bound : ℕ) → rested (track_at mid i).last ≤ bound → ((track_at old i).out ≡ false → (track_at new i).out ≡ true → at + 1000 ≤ bound) → rested (track_at new i).last ≤ bound
  last_kept bound low newly =
      elim (cases_Bool (list_any (λ (r : WatchRequest). r.entry == i) t.ticks.requests)) as (λ _. rested (track_at new i).last ≤ bound) [
        | inl named ↦
            let few = mid_count in
            let low' = within in
            let below : i < length mid.tracks = omega (arith, few, low') in
            let there = ap (λ (x : WatchState). rested (track_at x i).last) t.ticks.new_is ∙ ap (λ (x : Track). rested x.last) (went mid t.ticks.requests i named below) in
            let free = (named_free named) in
            let late = newly free (named_marked named below) in
            let c = mid_clock in
            omega (arith, there, late, c)
        | inr none' ↦
            let there = ap (λ (x : WatchState). rested (track_at x i).last) t.ticks.new_is ∙ ap (λ (x : Track). rested x.last) (passed_over mid t.ticks.requests i none') in
            omega (arith, there, low)
      ]

  -- what holds whatever the stage
  no_answers : new.answers ≡ []
  no_answers = ap (λ (x : WatchState). x.answers) t.ticks.new_is ∙ readied_answers old wall elapsed

  -- as long as it is not pressed its time comes no later
  was_loose : is_pressed (track_at new i) ≡ false → is_pressed (track_at old i) ≡ false
  was_loose loose =
      elim (cases_Bool (is_pressed (track_at old i))) [
        | inl was ↦ absurd (not_both (still_pressed_at old new wall elapsed output i t.ticks t.wanted was) loose)
        | inr free ↦ free
      ]

  soon_time : is_pressed (track_at new i) ≡ false → ms (time_of new i) ≤ f.time
  soon_time loose =
      let e = same_time i old new t.same in
      let h = t.going.time (was_loose loose) in
      omega (arith, e, h)

  pub goes_on : IsGoing f due' new
  goes_on = record {
    base = t.base;
    entries = t.same.count ∙ t.going.entries;
    time = soon_time;
    end_is = t.same.ends.0 ∙ t.going.end_is;
    timely = least_all (λ (q : Out). outage_settled_by o q.since + o.late) (wait new + o.late) new.out;
    ahead = at_ahead;
    by = let c = in_time in let b = t.by in omega (arith, c, b);
  }

  was_free : (track_at new i).out ≡ false → (track_at old i).out ≡ false
  was_free free =
      elim (cases_Bool (track_at old i).out) [
        | inl out ↦ absurd (not_both (still_marked out) free)
        | inr free' ↦ free'
      ]

  -- whose request is out is pressed no more than it was
  still_pressed : (track_at old i).out ≡ true → is_pressed (track_at new i) ≡ true → is_pressed (track_at old i) ≡ true
  still_pressed out pressed' = (subst (λ (x : WatchState). Undisturbed (track_at x i) (track_at old i)) (sym t.ticks.new_is) (clock_undisturbed old wall elapsed t.ticks.round t.ticks.requests i)).1 out pressed'

  still_cutting : (bound : ℕ) (miss : Type 0) → Endures o i f.end bound due miss old → (miss → again f.end (cut o) ≤ bound) → All (Cutting o i bound miss new) old.out
  still_cutting bound miss h far =
      elim (cases_Bool (track_at old i).out) as (λ _. All (Cutting o i bound miss new) old.out) [
        | inl out ↦
            All-weaker (Cutting o i bound miss old) (Cutting o i bound miss new)
            (λ q c is. ((c is).0, λ pressed'. let was = still_pressed out pressed' in let k = (c is).1 was in (k.0, λ heard'. held bound miss h far k.0 was (k.1 heard')))) old.out h.out
        | inr free ↦ All-weaker (λ (q : Out). q.entry ≡ i → ⊥) (Cutting o i bound miss new) (λ q no' is. absurd (no' is)) old.out (none_of i old.out (free_lanes i old within t.going.base.alone free))
      ]

  -- what it endures after the clock
  endures : (bound : ℕ) (miss : Type 0) → Endures o i f.end bound due miss old → (miss → again f.end (cut o) ≤ bound) →
      ((track_at old i).out ≡ false → (track_at new i).out ≡ true → miss × ((is_request_whole o at ≡ false) × (at + 1000 ≤ bound))) → Endures o i f.end bound due' miss new
  unfolding Kept Missed
  endures bound miss h far newly =
      let s = steady bound miss h far in
      record {
        end_is = t.same.ends.0 ∙ h.end_is;
        last = last_kept bound s.last (λ free out. (newly free out).1.1);
        tries = λ u is pressed'.
            let k = s.tries u (sym attempt_kept ∙ is) pressed' in
            inl (
              k.settled,
              (
                k.soon,
                λ free. elim k.first as (λ _. (is_first u ≡ true) ⊎ (miss × (new.presence.hold ≤ bound))) [
                  | inl first ↦ inl first
                  | inr held' ↦
                      elim held' as (λ _. (is_first u ≡ true) ⊎ (miss × (new.presence.hold ≤ bound))) [
                        | inl out ↦ absurd (not_both out (was_free free))
                        | inr low ↦ inr low
                      ]
                ],
              ),
            );
        out = all_sent (Cutting o i bound miss new) old new wall elapsed output t.ticks
            (still_cutting bound miss h far)
            (λ k low due'' named is.
            let same : k ≡ i = sym (entry_by mid.presence (sec mid.clocks.at) mid.tracks k) ∙ is in
            let named' = subst (λ j. list_any (λ (r : WatchRequest). r.entry == j) t.ticks.requests ≡ true) same named in
            let below = subst (λ j. j < length mid.tracks) same low in
            let goes' = newly (named_free named') (named_marked named' below) in
            (subst (λ n. is_request_whole o n ≡ false) (sym mid_clock) goes'.1.0, λ pressed'. (goes'.0, λ heard'. absurd cc)));
        silent' = λ any away. absurd (not_both any (ap (list_any is_silent) no_answers));
      }

  -- what has to be done of an entry that is not out: its try may go later, or all lanes are taken, or its time is ahead
  abbrev Tended : Type 0
  Tended =
      ((u : Try) × ((attempt_at new i ≡ Some u) × ((u.pressed ≡ true) × ((at < ready new.presence (track_at new i) u) × (wait new ≤ ready new.presence (track_at new i) u)))))
      ⊎ ((f.width ≤ length new.out) ⊎ ((at < f.time) × (wait new ≤ f.time)))

  tend : (track_at new i).out ≡ false → Tended
  tend free =
      let ready' = readied old wall elapsed in
      let end = sent mid t.ticks.requests in
      let is = t.ticks.new_is in
      let entries : length new.forest.entries ≡ f.n = t.same.count ∙ t.going.entries in
      let low = t.planned.within in
      let below : i < length new.forest.entries = omega (arith, entries, low) in
      let there : i < length ready'.forest.entries = subst (λ (x : WatchState). i < length x.forest.entries) is below in
      let free' : (track_at end i).out ≡ false = subst (λ (x : WatchState). (track_at x i).out ≡ false) is free in
      subst (λ (x : WatchState). ((u : Try) × ((attempt_at x i ≡ Some u) × ((u.pressed ≡ true) × ((x.clocks.at < ready x.presence (track_at x i) u) × (wait x ≤ ready x.presence (track_at x i) u)))))
      ⊎ ((f.width ≤ length x.out) ⊎ ((x.clocks.at < f.time) × (wait x ≤ f.time)))) (sym is)
      (elim (end_tended ready' t.ticks.round t.ticks.requests i t.ticks.going there (subst (λ (x : WatchState). is_wanted x i ≡ true) is t.wanted) free')
      as (λ _. ((u : Try) × ((attempt_at end i ≡ Some u) × ((u.pressed ≡ true) × ((end.clocks.at < ready end.presence (track_at end i) u) × (wait end ≤ ready end.presence (track_at end i) u)))))
      ⊎ ((f.width ≤ length end.out) ⊎ ((end.clocks.at < f.time) × (wait end ≤ f.time)))) [
        | inl pressed' ↦
            let u = pressed'.has.attempt in
            elim (tended ready' t.ticks.round t.ticks.requests i u t.ticks.going there free' pressed'.has.attempt_is)
            as (λ _. ((u : Try) × ((attempt_at end i ≡ Some u) × ((u.pressed ≡ true) × ((end.clocks.at < ready end.presence (track_at end i) u) × (wait end ≤ ready end.presence (track_at end i) u)))))
            ⊎ ((f.width ≤ length end.out) ⊎ ((end.clocks.at < f.time) × (wait end ≤ f.time)))) [
              | inl later ↦ inl (u, (pressed'.has.attempt_is, (pressed'.pressed, later)))
              | inr full ↦ (let w = ap (λ (x : WatchState). x.width) (sym is) ∙ t.base.fits.0 in inr (inl (omega (arith, full, w))))
            ]
        | inr ahead ↦
            let time = soon_time (ap (λ (x : WatchState). is_pressed (track_at x i)) is ∙ ahead.0) in
            let same : ms (time_of end i) ≤ f.time = subst (λ (x : WatchState). ms (time_of x i) ≤ f.time) is time in
            let a = before_second end (time_of end i) ahead.1.ahead in
            let heeded = ahead.1.heeded in
            inr (inr (omega (arith, a, same), omega (arith, heeded, same)))
      ])

  -- its try may go by the bound, or now
  ready_by : (bound : ℕ) (miss : Type 0) (u : Try) → Steady at bound (Spares bound miss) (track_at mid i) → (track_at new i).out ≡ false → attempt_at new i ≡ Some u → u.pressed ≡ true →
      ready new.presence (track_at new i) u ≤ max at bound
  ready_by bound miss u s free is pressed' =
      let k = s.tries u (sym attempt_kept ∙ is) pressed' in
      let soon' = k.soon in
      elim k.first as (λ _. ready new.presence (track_at new i) u ≤ max at bound) [
        | inl first ↦ ready_first new.presence (track_at new i) u (max at bound) first soon'
        | inr held' ↦
            elim held' as (λ _. ready new.presence (track_at new i) u ≤ max at bound) [
              | inl out ↦ absurd (not_both out (was_free free))
              | inr both ↦ (let low = both.1 in ready_later new.presence (track_at new i) u (max at bound) (omega (arith, low)) soon')
            ]
      ]

  -- the next clock, by what has to be done
  abbrev Heeds : ℕ → Type 0
  Heeds bound = (due' ≤ bound + o.late) ⊎ (f.width ≤ length new.out)

  waits_by : (n : ℕ) → wait new ≤ n → due' ≤ n + o.late
  waits_by n le = let start = least_start (wait new + o.late) (map (λ (q : Out). outage_settled_by o q.since + o.late) new.out) in omega (arith, start, le)

  heeds : (bound : ℕ) (miss : Type 0) → f.time ≤ bound → Steady at bound (Spares bound miss) (track_at mid i) → (track_at new i).out ≡ false → Heeds bound
  heeds bound miss reach s free =
      elim (tend free) as (λ _. Heeds bound) [
        | inl later ↦
            let r = ready_by bound miss later.0 s free later.1.0 later.1.1.0 in
            let ahead = later.1.1.1.0 in
            let until = later.1.1.1.1 in
            inl (waits_by bound (omega (arith, r, ahead, until)))
        | inr rest ↦
            elim rest as (λ _. Heeds bound) [
              | inl full ↦ inr full
              | inr idle ↦ (let until = idle.1 in inl (waits_by bound (omega (arith, until, reach))))
            ]
      ]

  -- and where its time has come before any failure, all lanes are taken
  full_now : f.time ≤ at → Steady at f.time (Spares f.time ⊥) (track_at mid i) → (track_at new i).out ≡ false → f.width ≤ length new.out
  full_now come s free =
      elim (tend free) as (λ _. f.width ≤ length new.out) [
        | inl later ↦
            let r = ready_by f.time ⊥ later.0 s free later.1.0 later.1.1.0 in
            let ahead = later.1.1.1.0 in
            absurd (omega (arith, r, ahead, come))
        | inr rest ↦
            elim rest as (λ _. f.width ≤ length new.out) [
              | inl full ↦ full
              | inr idle ↦ (let ahead = idle.0 in absurd (omega (arith, ahead, come)))
            ]
      ]

  -- requests that are out, and the next clock
  all_timely : All (λ (q : Out). due' ≤ outage_settled_by o q.since + o.late) new.out
  all_timely = least_all (λ (q : Out). outage_settled_by o q.since + o.late) (wait new + o.late) new.out

  settles : (test : Out → Bool) (bound : ℕ) → list_any test new.out ≡ true → All (λ (q : Out). test q ≡ true → outage_settled_by o q.since + o.late ≤ bound) new.out → due' ≤ bound
  settles test bound any all =
      let timely = all_timely in
      any_gives (due' ≤ bound) test new.out any
      (λ k d below yes'. let a = timely k d below in let b = all k d below yes' in omega (arith, a, b))

  all_now : All (λ (q : Out). q.since ≤ at) new.out
  all_now = t.base.since

  quick_by : (n : ℕ) (q : Out) → is_request_whole o q.since ≡ true → q.since ≤ n → outage_settled_by o q.since + o.late ≤ n + turn_of o
  quick_by n q whole le = let e = quick_if o q.since whole in omega (arith, e, le)

  -- all lanes are taken by requests that are whole
  full_quick : f.width ≤ length new.out → All (λ (q : Out). is_request_whole o q.since ≡ true) new.out → due' ≤ at + turn_of o
  full_quick full whole =
      let wide = t.planned.wide in
      let now = all_now in
      settles (λ q. true) (at + turn_of o) (some_lane new.out (omega (arith, full, wide))) (λ k d below yes'. quick_by at (get_or new.out k d) (whole k d below) (now k d below))

  some_old : (from : ℕ) → list_any (λ (q : Out). nat_le q.since from) new.out ≡ true → All (λ (q : Out). is_request_whole o q.since ≡ true) new.out → due' ≤ from + turn_of o
  some_old from any whole =
      settles (λ q. nat_le q.since from) (from + turn_of o) any
      (λ k d below yes'. let q = get_or new.out k d in let le : q.since ≤ from = grind (arith, nat_tests) in quick_by from q (whole k d below) le)

  -- no more lanes than the width are anew, and as many where all are
  all_anew : (from : ℕ) → All (λ (q : Out). is_request_whole o q.since ≡ true) new.out → All (λ (q : Out). from ≤ q.since) new.out → length new.out ≤ how_many (f.n + f.width) (is_anew o from new)
  all_anew from whole late =
      let low = t.base.within in
      lanes_apart (f.n + f.width) (λ (q : Out). is_request_whole o q.since && nat_le from q.since) new.out t.base.alone.single
      (λ k d below.
      let q = get_or new.out k d in
      let l = late k d below in
      let test : nat_le from q.since ≡ true = grind (arith, nat_tests) in
      (low k d below, and_from (is_request_whole o q.since) (nat_le from q.since) (whole k d below) test))

  none_anew : (from : ℕ) → at < from → how_many (f.n + f.width) (is_anew o from new) ≡ 0
  none_anew from late = anew_none o from (f.n + f.width) new all_now late

-- those that wait, from before a clock to after it
module _ (f : Facts) (due : ℕ) (old new : WatchState) (wall elapsed : ℕ) (output : WatchOutput) (t : IsTick f due old new wall elapsed output) (sends : Sends old new f.n) (rest : ℕ) where
  abbrev before : ℕ
  before = waiting f.o f.n old + (how_many f.n (comes f.o old new) + rest)

  abbrev now : ℕ
  now = waiting f.o f.n new + rest

  abbrev next : ℕ
  next = due' f due old new wall elapsed output t

  fewer : (from : ℕ) → now + how_many (f.n + f.width) (is_anew f.o from new) ≤ before + how_many (f.n + f.width) (is_anew f.o from old)
  fewer from = let all = fewer_wait f.o from f.width f.n old new t.going.base t.base sends in omega (arith, all)

  -- the entry is one of them, where it was not served
  tried_some : is_tried new f.i ≡ true → is_request_served f.o old f.i ≡ false → 1 ≤ before
  tried_some tried unserved =
      elim (cases_Bool (is_tried old f.i)) as (λ _. 1 ≤ before) [
        | inl was ↦
            let one = some f.n f.i (waits_to_be_asked f.o old) t.planned.within (and_from (is_tried old f.i) (not (is_request_served f.o old f.i)) was (ap not unserved)) in
            omega (arith, one)
        | inr not_before ↦
            let one = some f.n f.i (comes f.o old new) t.planned.within
            (and_from (is_tried new f.i) (not (is_tried old f.i) || (is_request_served f.o old f.i && not (is_request_served f.o new f.i))) tried (ap (λ b. not b || (is_request_served f.o old f.i && not (is_request_served f.o new f.i))) not_before)) in
            omega (arith, one)
      ]

  -- where it is served now it goes out now
  goes_whole : is_request_served f.o old f.i ≡ false → is_request_served f.o new f.i ≡ true → (is_request_whole f.o new.clocks.at ≡ true) × ((track_at old f.i).out ≡ false)
  goes_whole unserved served =
      elim (sends (λ k since. k == f.i && is_request_whole f.o since) served) as (λ _. (is_request_whole f.o new.clocks.at ≡ true) × ((track_at old f.i).out ≡ false)) [
        | inl before' ↦ absurd (not_both before' unserved)
        | inr goes' ↦
            let both = and_parts (goes'.0 == f.i) (is_request_whole f.o new.clocks.at) goes'.1.0 in
            (both.1, subst (λ k. (track_at old k).out ≡ false) (eqb-true goes'.0 f.i both.0) goes'.1.1.1)
      ]

  -- and from then on it is served
  serves : is_request_served f.o old f.i ≡ false → is_request_served f.o new f.i ≡ true → new.clocks.at + turn_of f.o < ms f.end → new.clocks.at + turn_of f.o ≤ granted_by f.o f.time f.end → IsServed f next new
  serves unserved served ahead by =
      let goes' = goes_whole unserved served in
      let o = f.o in
      let at = new.clocks.at in
      let now' = t.base.since in
      let P : Out → Type 0 = λ q. q.entry ≡ f.i → (is_request_whole o q.since ≡ true) × (q.since ≤ at) in
      let clock = mid_clock f due old new wall elapsed output t in
      let whole : All P new.out =
      all_sent P old new wall elapsed output t.ticks (All-weaker (λ (q : Out). q.entry ≡ f.i → ⊥) P (λ q no' is. absurd (no' is)) old.out (none_of f.i old.out (free_lanes f.i old (tracked f.width f.n old f.i t.going.base t.planned.within) t.going.base.alone goes'.1)))
      (λ k low due'' named is. (subst (λ n. is_request_whole o n ≡ true) (sym clock) goes'.0, omega (arith, clock))) in
      record {
        served = served;
        sent = at;
        whole = whole;
        next =
            settles f due old new wall elapsed output t (λ q. q.entry == f.i && is_request_whole o q.since) (at + turn_of o) served
            (λ k d below yes'.
            let q = get_or new.out k d in
            let both = and_parts (q.entry == f.i) (is_request_whole o q.since) yes' in
            quick_by f due old new wall elapsed output t at q both.1 (now' k d below));
        last_ahead = ahead;
        last_by = by;
      }

  -- all are whole where those that go out are
  all_whole : All (λ (q : Out). is_request_whole f.o q.since ≡ true) old.out → is_request_whole f.o new.clocks.at ≡ true → All (λ (q : Out). is_request_whole f.o q.since ≡ true) new.out
  all_whole there whole =
      let clock = mid_clock f due old new wall elapsed output t in
      all_sent (λ (q : Out). is_request_whole f.o q.since ≡ true) old new wall elapsed output t.ticks there (λ k low due'' named. subst (λ n. is_request_whole f.o n ≡ true) (sym clock) whole)

  still_over : (base : ℕ) → (base ≡ f.time) ⊎ (f.o.until ≤ old.clocks.at) → (base ≡ f.time) ⊎ (f.o.until ≤ new.clocks.at)
  still_over base (inl is) = inl is
  still_over base (inr before') = let up = t.rises in let c = clock f due old new wall elapsed output t in inr (omega (arith, before', up, c))

  -- before the outage: the entry goes out and is served
  early_served : (h : IsEarly f due before old) → is_request_served f.o old f.i ≡ false → is_request_served f.o new f.i ≡ true → IsServed f next new
  early_served h unserved served =
      let tried = served_tried f.o new f.i (tracked f.width f.n new f.i t.base t.planned.within) t.base.alone t.base.tries served in
      let one = tried_some tried unserved in
      let count = h.count in
      let r = one_left f.width h.r before (omega (arith, count)) one in
      let m = ap (λ n. turn_of f.o * n) r.1 ∙ mul-suc (turn_of f.o) r.0 in
      let holds = h.base_ahead in
      let far = h.base_by in
      let soon = in_time f due old new wall elapsed output t in
      let due'' = h.next in
      serves unserved served (omega (arith, holds, soon, due'', m)) (omega (arith, soon, due'', m, far))

  -- the time is ahead
  early_ahead : (h : IsEarly f due before old) → All (λ (q : Out). is_request_whole f.o q.since ≡ true) new.out → (track_at new f.i).out ≡ false → new.clocks.at < f.time → IsEarly f next now new
  early_ahead h whole free ahead =
      let at = new.clocks.at in
      let s = steady f due old new wall elapsed output t f.time ⊥ h.endures (λ bad. absurd bad) in
      let less = fewer (suc h.from) in
      let count = h.count in
      let zero' = none_anew f due old new wall elapsed output t (suc at) (omega arith) in
      let few = h.fewer in
      let reach = h.reach in
      let soon : next ≤ f.time + turn_of f.o =
      elim (heeds f due old new wall elapsed output t f.time ⊥ (omega arith) s free) as (λ _. next ≤ f.time + turn_of f.o) [
        | inl by' ↦ omega (arith, by')
        | inr full ↦ (let q = full_quick f due old new wall elapsed output t full whole in omega (arith, q, ahead))
      ] in
      record {
        endures = endures f due old new wall elapsed output t f.time ⊥ h.endures (λ bad. absurd bad) (λ was out. absurd (not_both out free));
        idle = free;
        whole = whole;
        r = h.r;
        from = at;
        count = omega (arith, less, count, zero');
        fewer = few;
        base = h.base;
        reach = reach;
        over = still_over h.base h.over;
        base_ahead = h.base_ahead;
        base_by = h.base_by;
        start = omega (arith, ahead, few, reach);
        next = omega (arith, soon, few, reach);
      }

  -- it has come, and all lanes are taken
  early_full : (h : IsEarly f due before old) → All (λ (q : Out). is_request_whole f.o q.since ≡ true) new.out → (track_at new f.i).out ≡ false → f.time ≤ new.clocks.at → IsEarly f next now new
  early_full h whole free come =
      let at = new.clocks.at in
      let o = f.o in
      let s = steady f due old new wall elapsed output t f.time ⊥ h.endures (λ bad. absurd bad) in
      let full = full_now f due old new wall elapsed output t come s free in
      let less = fewer (suc h.from) in
      let count = h.count in
      let few = h.fewer in
      let start = h.start in
      let lasts = endures f due old new wall elapsed output t f.time ⊥ h.endures (λ bad. absurd bad) (λ was out. absurd (not_both out free)) in
      elim (cases_Bool (list_any (λ (q : Out). nat_le q.since h.from) new.out)) as (λ _. IsEarly f next now new) [
        | inl some' ↦
            let soon = some_old f due old new wall elapsed output t h.from some' whole in
            record {
              endures = lasts;
              idle = free;
              whole = whole;
              r = h.r;
              from = h.from;
              count = omega (arith, less, count);
              fewer = few;
              base = h.base;
              reach = h.reach;
              over = still_over h.base h.over;
              base_ahead = h.base_ahead;
              base_by = h.base_by;
              start = start;
              next = omega (arith, soon, start);
            }
        | inr none' ↦
            let late : All (λ (q : Out). suc h.from ≤ q.since) new.out =
            All-weaker (λ (q : Out). nat_le q.since h.from ≡ false) (λ (q : Out). suc h.from ≤ q.since) (λ q no'. later_than h.from q.since no') new.out (none_passes (λ (q : Out). nat_le q.since h.from) new.out none') in
            let anew = all_anew f due old new wall elapsed output t (suc h.from) whole late in
            let q = take_one f.width h.r (now + how_many (f.n + f.width) (is_anew o (suc h.from) new)) now t.planned.wide (omega (arith, full, anew)) (omega (arith, less, count)) in
            let m = ap (λ n. turn_of o * n) q.1.0 ∙ mul-suc (turn_of o) q.0 in
            let zero' = none_anew f due old new wall elapsed output t (suc at) (omega arith) in
            let fits = q.1.1 in
            let soon = full_quick f due old new wall elapsed output t full whole in
            let in' = in_time f due old new wall elapsed output t in
            let due'' = h.next in
            record {
              endures = lasts;
              idle = free;
              whole = whole;
              r = q.0;
              from = at;
              count = omega (arith, fits, zero');
              fewer = omega (arith, few, m);
              base = h.base;
              reach = h.reach;
              over = still_over h.base h.over;
              base_ahead = h.base_ahead;
              base_by = h.base_by;
              start = omega (arith, in', due'', m);
              next = omega (arith, soon, in', due'', m);
            }
      ]

  -- who was not served is not where what goes out is not whole
  stays_unserved : is_request_served f.o old f.i ≡ false → is_request_whole f.o new.clocks.at ≡ false → is_request_served f.o new f.i ≡ false
  stays_unserved unserved broke =
      elim (cases_Bool (is_request_served f.o new f.i)) as (λ _. is_request_served f.o new f.i ≡ false) [
        | inl served ↦ absurd (not_both (goes_whole unserved served).0 broke)
        | inr no' ↦ no'
      ]

  -- the outage has begun: a request that goes out now is cut
  cut_before : All (λ (q : Out). q.since < f.o.until) new.out → list_any (λ (q : Out). true) new.out ≡ true → next ≤ cut f.o
  cut_before early any =
      let order = t.planned.order in
      settles f due old new wall elapsed output t (λ q. true) (cut f.o) any (λ k d below yes'. early_cut f.o (get_or new.out k d).since order (early k d below))

  early_cut_off : (h : IsEarly f due before old) → is_request_served f.o old f.i ≡ false → is_request_whole f.o new.clocks.at ≡ false → IsCut f next now new
  early_cut_off h unserved broke =
      let at = new.clocks.at in
      let o = f.o in
      let E = f.end in
      let between = not_whole o at broke in
      let late = between.0 in
      let soon'' = between.1 in
      let is_base : h.base ≡ f.time =
      elim (still_over h.base h.over) as (λ _. h.base ≡ f.time) [
        | inl is ↦ is
        | inr over ↦ absurd (omega (arith, over, soon''))
      ] in
      let now' = t.base.since in
      let early : All (λ (q : Out). q.since < o.until) new.out = All-weaker (λ (q : Out). q.since ≤ at) (λ (q : Out). q.since < o.until) (λ q le. omega (arith, le, soon'')) new.out now' in
      let reach : f.time ≤ free_from f = omega arith in
      let far : again E (cut o) ≤ free_from f = omega arith in
      let more = later_endures o f.i E f.time (free_from f) due ⊥ Unit old reach (λ bad. absurd bad) h.endures in
      let lasts = endures f due old new wall elapsed output t (free_from f) Unit more (λ u. far) (λ was out. (tt, (broke, omega (arith, soon'')))) in
      let less = fewer (suc h.from) in
      let count = h.count in
      let zero' = none_anew f due old new wall elapsed output t o.until soon'' in
      let in' = in_time f due old new wall elapsed output t in
      let due'' = h.next in
      let by' : next ≤ free_from f + o.late =
      elim (cases_Bool (track_at new f.i).out) as (λ _. next ≤ free_from f + o.late) [
        | inl out ↦ (let c = cut_before early (any_lane (is_of f.i any_time) new.out (t.base.marked f.i out)) in omega (arith, c, far))
        | inr free ↦
            let s = steady f due old new wall elapsed output t (free_from f) Unit more (λ u. far) in
            elim (heeds f due old new wall elapsed output t (free_from f) Unit reach s free) as (λ _. next ≤ free_from f + o.late) [
              | inl heeded' ↦ heeded'
              | inr full ↦ (let wide = t.planned.wide in let c = cut_before early (some_lane new.out (omega (arith, full, wide))) in omega (arith, c, far))
            ]
      ] in
      record {
        endures = lasts;
        unserved = stays_unserved unserved broke;
        r = h.r;
        count = omega (arith, less, count, zero');
        fewer = h.fewer;
        room = omega (arith, late, in', due'', is_base);
        next = by';
      }

  pub early_ticks : IsEarly f due before old → IsThrough f next now new
  early_ticks h =
      let o = f.o in
      let unserved : is_request_served o old f.i ≡ false =
      elim (cases_Bool (is_request_served o old f.i)) as (λ _. is_request_served o old f.i ≡ false) [
        | inl served ↦ absurd (not_both (served_marked o old f.i (tracked f.width f.n old f.i t.going.base t.planned.within) t.going.base.alone served) h.idle)
        | inr no' ↦ no'
      ] in
      elim (cases_Bool (is_request_whole o new.clocks.at)) as (λ _. IsThrough f next now new) [
        | inr broke ↦ inl (inr (early_cut_off h unserved broke))
        | inl whole ↦
            let all = all_whole h.whole whole in
            elim (cases_Bool (is_request_served o new f.i)) as (λ _. IsThrough f next now new) [
              | inl served ↦ inr (inr (inl (early_served h unserved served)))
              | inr not_served ↦
                  let free : (track_at new f.i).out ≡ false =
                  elim (cases_Bool (track_at new f.i).out) as (λ _. (track_at new f.i).out ≡ false) [
                    | inl out ↦
                        let clock = mid_clock f due old new wall elapsed output t in
                        absurd (not_both (goes_out_now old new wall elapsed output f.i (is_request_whole o) t.ticks h.idle out (subst (λ n. is_request_whole o n ≡ true) (sym clock) whole)) not_served)
                    | inr no' ↦ no'
                  ] in
                  elim (cases_lt new.clocks.at f.time) as (λ _. IsThrough f next now new) [
                    | inl ahead ↦ inl (inl (early_ahead h all free ahead))
                    | inr come ↦ inl (inl (early_full h all free come))
                  ]
            ]
      ]

  -- the outage: nothing waits for longer than until the entry may go
  still_cut : (r : ℕ) → now + how_many (f.n + f.width) (is_anew f.o f.o.until new) ≤ f.width * r → turn_of f.o * r ≤ turn_of f.o * f.o.rounds →
      f.o.from + 1 + turn_of f.o * r ≤ f.time + turn_of f.o + f.o.quick + turn_of f.o * f.o.rounds → Endures f.o f.i f.end (free_from f) next Unit new → is_request_served f.o new f.i ≡ false → next ≤ free_from f + f.o.late →
      IsCut f next now new
  still_cut r count few room lasts unserved by' = record { endures = lasts; unserved = unserved; r = r; count = count; fewer = few; room = room; next = by' }

  -- all lanes are taken since the broker is back, by r rounds of which the first is out
  back_from :
      (r : ℕ) (last : ℕ) → now ≤ f.width * r → turn_of f.o * suc r ≤ turn_of f.o * f.o.rounds → f.o.from + 1 + turn_of f.o * suc r ≤ f.time + turn_of f.o + f.o.quick + turn_of f.o * f.o.rounds →
      Endures f.o f.i f.end (free_from f) next Unit new → is_request_served f.o new f.i ≡ false → All (λ (q : Out). f.o.until ≤ q.since) new.out → f.width ≤ length new.out →
      new.clocks.at + turn_of f.o * suc r ≤ last → last < ms f.end → last ≤ granted_by f.o f.time f.end → IsBack f next now new
  back_from r last count few room lasts unserved back full start ahead by =
      let at = new.clocks.at in
      let o = f.o in
      let wide = t.planned.wide in
      let whole = All-weaker (λ (q : Out). o.until ≤ q.since) (λ (q : Out). is_request_whole o q.since ≡ true) (λ q le. whole_after o q.since le) new.out back in
      let zero' = none_anew f due old new wall elapsed output t (suc at) (omega arith) in
      let now' = t.base.since in
      record {
        endures = lasts;
        unserved = unserved;
        back = back;
        r = r;
        from = at;
        last = last;
        count = omega (arith, count, zero');
        fewer = few;
        room = room;
        start = start;
        last_ahead = ahead;
        last_by = by;
        since =
            any_gives (o.until ≤ at) (λ q. true) new.out (some_lane new.out (omega (arith, full, wide)))
            (λ k d below yes'. let a = back k d below in let b = now' k d below in omega (arith, a, b));
        now = omega arith;
        next = full_quick f due old new wall elapsed output t full whole;
      }

  all_late : list_any (λ (q : Out). nat_lt q.since f.o.until) new.out ≡ false → All (λ (q : Out). f.o.until ≤ q.since) new.out
  all_late none' = All-weaker (λ (q : Out). nat_lt q.since f.o.until ≡ false) (λ (q : Out). f.o.until ≤ q.since) (λ q no'. grind (arith, nat_tests)) new.out (none_passes (λ (q : Out). nat_lt q.since f.o.until) new.out none')

  pub cut_ticks : IsCut f due before old → IsThrough f next now new
  cut_ticks h =
      let at = new.clocks.at in
      let o = f.o in
      let E = f.end in
      let reach : f.time ≤ free_from f = omega arith in
      let far : again E (cut o) ≤ free_from f = omega arith in
      let less = fewer o.until in
      let count = h.count in
      let in' = in_time f due old new wall elapsed output t in
      let due'' = h.next in
      let room' = room_back f h.r t.planned h.fewer h.room in
      elim (cases_Bool (is_request_served o new f.i)) as (λ _. IsThrough f next now new) [
        | inl served ↦
            let tried = served_tried o new f.i (tracked f.width f.n new f.i t.base t.planned.within) t.base.alone t.base.tries served in
            let one = tried_some tried h.unserved in
            let r = one_left f.width h.r before (omega (arith, count)) one in
            let m = ap (λ n. turn_of o * n) r.1 ∙ mul-suc (turn_of o) r.0 in
            let few = h.fewer in
            inr (inr (inl (serves h.unserved served (omega (arith, in', due'', room', m)) (omega (arith, in', due'', m, few)))))
        | inr unserved ↦
            let lasts = endures f due old new wall elapsed output t (free_from f) Unit h.endures (λ u. far)
            (λ was out.
            let broke = unserved_broke (is_request_whole o at) refl was out unserved in
            let soon'' = (not_whole o at broke).1 in
            (tt, (broke, omega (arith, soon'')))) in
            elim (cases_Bool (list_any (λ (q : Out). nat_lt q.since o.until) new.out)) as (λ _. IsThrough f next now new) [
              | inl some' ↦
                  let order = t.planned.order in
                  let by' : next ≤ cut o =
                  settles f due old new wall elapsed output t (λ q. nat_lt q.since o.until) (cut o) some'
                  (λ k d below yes'. let q = get_or new.out k d in let early : q.since < o.until = grind (arith, nat_tests) in early_cut o q.since order early) in
                  inl (inr (still_cut h.r (omega (arith, less, count)) h.fewer h.room lasts unserved (omega (arith, by', far))))
              | inr none' ↦
                  let back = all_late none' in
                  let whole = All-weaker (λ (q : Out). o.until ≤ q.since) (λ (q : Out). is_request_whole o q.since ≡ true) (λ q le. whole_after o q.since le) new.out back in
                  let free = not_out o f.i new t.base.marked unserved whole in
                  let s = steady f due old new wall elapsed output t (free_from f) Unit h.endures (λ u. far) in
                  elim (heeds f due old new wall elapsed output t (free_from f) Unit reach s free) as (λ _. IsThrough f next now new) [
                    | inl by' ↦ inl (inr (still_cut h.r (omega (arith, less, count)) h.fewer h.room lasts unserved by'))
                    | inr full ↦
                        let anew = all_anew f due old new wall elapsed output t o.until whole back in
                        let q = take_one f.width h.r (now + how_many (f.n + f.width) (is_anew o o.until new)) now t.planned.wide (omega (arith, full, anew)) (omega (arith, less, count)) in
                        let same = ap (λ n. turn_of o * n) q.1.0 in
                        let few = h.fewer in
                        let room = h.room in
                        inr (inl (back_from q.0 (free_from f + o.late + turn_of o * h.r) q.1.1 (omega (arith, few, same)) (omega (arith, room, same)) lasts unserved back full (omega (arith, in', due'', same)) room' (omega (arith, few))))
                  ]
            ]
      ] where
        unserved_broke : (b : Bool) → is_request_whole f.o new.clocks.at ≡ b → (track_at old f.i).out ≡ false → (track_at new f.i).out ≡ true → is_request_served f.o new f.i ≡ false → is_request_whole f.o new.clocks.at ≡ false
        unserved_broke false is was out unserved = is
        unserved_broke true is was out unserved =
            let clock = mid_clock f due old new wall elapsed output t in
            absurd (not_both (goes_out_now old new wall elapsed output f.i (is_request_whole f.o) t.ticks was out (subst (λ n. is_request_whole f.o n ≡ true) (sym clock) is)) unserved)

  pub back_ticks : IsBack f due before old → IsThrough f next now new
  back_ticks h =
      let at = new.clocks.at in
      let o = f.o in
      let E = f.end in
      let reach : f.time ≤ free_from f = omega arith in
      let far : again E (cut o) ≤ free_from f = omega arith in
      let less = fewer (suc h.from) in
      let count = h.count in
      let in' = in_time f due old new wall elapsed output t in
      let due'' = h.next in
      let since = h.since in
      let now'' = h.now in
      let up = t.rises in
      let c = clock f due old new wall elapsed output t in
      let here : o.until ≤ at = omega (arith, since, now'', up, c) in
      let is_back = whole_after o at here in
      let mc = mid_clock f due old new wall elapsed output t in
      let back : All (λ (q : Out). o.until ≤ q.since) new.out =
      all_sent (λ (q : Out). o.until ≤ q.since) old new wall elapsed output t.ticks h.back (λ k low due0 named. omega (arith, mc, here)) in
      let whole = All-weaker (λ (q : Out). o.until ≤ q.since) (λ (q : Out). is_request_whole o q.since ≡ true) (λ q le. whole_after o q.since le) new.out back in
      let m = mul-suc (turn_of o) h.r in
      let start = h.start in
      let last_ahead = h.last_ahead in
      let last_by = h.last_by in
      elim (cases_Bool (is_request_served o new f.i)) as (λ _. IsThrough f next now new) [
        | inl served ↦
            let tried = served_tried o new f.i (tracked f.width f.n new f.i t.base t.planned.within) t.base.alone t.base.tries served in
            let one = tried_some tried h.unserved in
            let r = one_left f.width h.r before (omega (arith, count)) one in
            let n = ap (λ k. turn_of o * k) r.1 ∙ mul-suc (turn_of o) r.0 in
            inr (inr (inl (serves h.unserved served (omega (arith, in', due'', start, m, n, last_ahead)) (omega (arith, in', due'', start, m, n, last_by)))))
        | inr unserved ↦
            let lasts = endures f due old new wall elapsed output t (free_from f) Unit h.endures (λ u. far)
            (λ was out. absurd (not_both (goes_out_now old new wall elapsed output f.i (is_request_whole o) t.ticks was out (subst (λ n. is_request_whole o n ≡ true) (sym mc) is_back)) unserved)) in
            let free = not_out o f.i new t.base.marked unserved whole in
            let s = steady f due old new wall elapsed output t (free_from f) Unit h.endures (λ u. far) in
            elim (heeds f due old new wall elapsed output t (free_from f) Unit reach s free) as (λ _. IsThrough f next now new) [
              | inl by' ↦
                  let lanes = lanes_most (f.n + f.width) (λ (q : Out). is_request_whole o q.since && nat_le o.until q.since) new.out in
                  let fits = t.base.fits.1 in
                  let w = mul-suc f.width h.r in
                  inl (inr (still_cut (suc h.r) (omega (arith, less, count, lanes, fits, w)) h.fewer h.room lasts unserved by'))
              | inr full ↦
                  elim (cases_Bool (list_any (λ (q : Out). nat_le q.since h.from) new.out)) as (λ _. IsThrough f next now new) [
                    | inl some' ↦
                        let soon = some_old f due old new wall elapsed output t h.from some' whole in
                        inr (inl (record {
                          endures = lasts;
                          unserved = unserved;
                          back = back;
                          r = h.r;
                          from = h.from;
                          last = h.last;
                          count = omega (arith, less, count);
                          fewer = h.fewer;
                          room = h.room;
                          start = start;
                          last_ahead = last_ahead;
                          last_by = last_by;
                          since = since;
                          now = omega (arith, now'', up, c);
                          next = soon;
                        }))
                    | inr none' ↦
                        let late : All (λ (q : Out). suc h.from ≤ q.since) new.out =
                        All-weaker (λ (q : Out). nat_le q.since h.from ≡ false) (λ (q : Out). suc h.from ≤ q.since) (λ q no'. later_than h.from q.since no') new.out
                        (none_passes (λ (q : Out). nat_le q.since h.from) new.out none') in
                        let anew = all_anew f due old new wall elapsed output t (suc h.from) whole late in
                        let q = take_one f.width h.r (now + how_many (f.n + f.width) (is_anew o (suc h.from) new)) now t.planned.wide (omega (arith, full, anew)) (omega (arith, less, count)) in
                        let n = ap (λ k. turn_of o * k) q.1.0 in
                        let few = h.fewer in
                        let room = h.room in
                        inr (inl (back_from q.0 h.last q.1.1 (omega (arith, few, m, n)) (omega (arith, room, m, n)) lasts unserved back full (omega (arith, in', due'', start, m, n)) last_ahead last_by))
                  ]
            ]
      ]

  pub served_ticks : IsServed f due old → IsThrough f next now new
  served_ticks h =
      let o = f.o in
      let marked = served_marked o old f.i (tracked f.width f.n old f.i t.going.base t.planned.within) t.going.base.alone h.served in
      let P : Out → Type 0 = λ q. q.entry ≡ f.i → (is_request_whole o q.since ≡ true) × (q.since ≤ h.sent) in
      let whole : All P new.out =
      all_sent P old new wall elapsed output t.ticks h.whole
      (λ k low due'' named is.
      let same : k ≡ f.i = sym (entry_by (mid f due old new wall elapsed output t).presence (sec (mid f due old new wall elapsed output t).clocks.at) (mid f due old new wall elapsed output t).tracks k) ∙ is in
      absurd (not_both marked (named_free f due old new wall elapsed output t (subst (λ j. list_any (λ (r : WatchRequest). r.entry == j) t.ticks.requests ≡ true) same named)))) in
      let served = still_out old new wall elapsed output (λ (q : Out). q.entry == f.i && is_request_whole o q.since) t.ticks h.served in
      inr (inr (inl (record {
        served = served;
        sent = h.sent;
        whole = whole;
        next =
            settles f due old new wall elapsed output t (λ q. q.entry == f.i && is_request_whole o q.since) (h.sent + turn_of o) served
            (λ k d below yes'.
            let q = get_or new.out k d in
            let both = and_parts (q.entry == f.i) (is_request_whole o q.since) yes' in
            let w = whole k d below (eqb-true q.entry f.i both.0) in
            quick_by f due old new wall elapsed output t h.sent q w.0 w.1);
        last_ahead = h.last_ahead;
        last_by = h.last_by;
      })))

  -- where the outage was over first
  late_ticks : IsLate f due before old → IsThrough f next now new
  late_ticks h =
      let o = f.o in
      let at = new.clocks.at in
      let over = h.over in
      let up = t.rises in
      let c = clock f due old new wall elapsed output t in
      let here : o.until ≤ at = omega (arith, over, up, c) in
      let is_back = whole_after o at here in
      let mc = mid_clock f due old new wall elapsed output t in
      let in' = in_time f due old new wall elapsed output t in
      let due'' = h.next in
      let less = fewer (suc h.from) in
      let count = h.count in
      let holds = late_holds f t.planned h.soon in
      elim (cases_Bool (is_request_served o new f.i)) as (λ _. IsThrough f next now new) [
        | inl served ↦ inr (inr (inl (serves h.unserved served (omega (arith, in', due'', holds)) (omega (arith, in', due'')))))
        | inr not_served ↦
            let lasts = endures f due old new wall elapsed output t f.time ⊥ h.endures (λ bad. absurd bad)
            (λ was out. absurd (not_both (goes_out_now old new wall elapsed output f.i (is_request_whole o) t.ticks was out (subst (λ n. is_request_whole o n ≡ true) (sym mc) is_back)) not_served)) in
            elim (cases_Bool (list_any (λ (q : Out). not (is_request_whole o q.since)) new.out)) as (λ _. IsThrough f next now new) [
              | inl some' ↦
                  let by' : next ≤ cut o =
                  settles f due old new wall elapsed output t (λ q. not (is_request_whole o q.since)) (cut o) some'
                  (λ k d below yes'. cut_off o (get_or new.out k d).since (not_so (is_request_whole o (get_or new.out k d).since) yes')) in
                  inr (inr (inr (record { endures = lasts; unserved = not_served; over = here; soon = h.soon; from = h.from; count = omega (arith, less, count); next = by' })))
              | inr none' ↦
                  let whole : All (λ (q : Out). is_request_whole o q.since ≡ true) new.out =
                  All-weaker (λ (q : Out). not (is_request_whole o q.since) ≡ false) (λ (q : Out). is_request_whole o q.since ≡ true) (λ q e. so_whole (is_request_whole o q.since) e) new.out
                  (none_passes (λ (q : Out). not (is_request_whole o q.since)) new.out none') in
                  let free = not_out o f.i new t.base.marked not_served whole in
                  let s = steady f due old new wall elapsed output t f.time ⊥ h.endures (λ bad. absurd bad) in
                  let zero' = anew_none o (suc at) (f.n + f.width) new t.base.since (omega arith) in
                  let soon : next ≤ late_base f + turn_of o =
                  elim (heeds f due old new wall elapsed output t f.time ⊥ (omega arith) s free) as (λ _. next ≤ late_base f + turn_of o) [
                    | inl by' ↦ omega (arith, by')
                    | inr full ↦ (let q = full_quick f due old new wall elapsed output t full whole in omega (arith, q, in', due''))
                  ] in
                  inl (inl (record {
                    endures = lasts;
                    idle = free;
                    whole = whole;
                    r = o.rounds;
                    from = at;
                    count = omega (arith, less, count, zero');
                    fewer = omega arith;
                    base = late_base f;
                    reach = omega arith;
                    over = inr here;
                    base_ahead = holds;
                    base_by = omega arith;
                    start = omega (arith, in', due'');
                    next = omega (arith, soon);
                  }))
            ]
      ]

  pub ticks_through : IsThrough f due before old → IsThrough f next now new
  ticks_through (inl (inl h)) = early_ticks h
  ticks_through (inl (inr h)) = cut_ticks h
  ticks_through (inr (inl h)) = back_ticks h
  ticks_through (inr (inr (inl h))) = served_ticks h
  ticks_through (inr (inr (inr h))) = late_ticks h
