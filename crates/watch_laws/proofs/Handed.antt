-- Handed: at a clock before which an entry was not pressed it is on its first try, if any; so at the first clock of a watch that was told ends.
-- For the law of kills.
use Rattle.std.proofs.Common.{◌≡◌, ◌∙◌, Bool, ℕ, zero, suc, ◌*◌, ◌<◌, ◌≤◌, true, false, ◌==◌, List, [], ◌∷◌, Some, All, Result, Ok, Err, length, map, refl, sym, ap, subst, arith, inl, inr, Option, None}
use Rattle.std.proofs.lemmas.{Bool.cases_Bool, Bool.cond-false, List.Elements.All-weaker}
use Rattle.std.specs.List.{list_any}
use Rattle.plan_forest.specs.declared.entry.Entry.{Entry}
use Rattle.watch_machine.specs.{declared.command.WatchOutput.WatchOutput, declared.command.WatchRequest.WatchRequest, declared.event.WatchEvent.WatchEvent, declared.fault.WatchFault.WatchFault, declared.lanes.Out.Out}
use Rattle.watch_machine.specs.{declared.track.Track.Track, declared.track.Try.Try, Lines.is_first, Lines.rested, Press.pressed, Sending.sent_in, Sending.sent_track, Wanted.is_known, Wanted.is_wanted}
use Rattle.watch_machine.specs.declared.event.WatchEvent.TheVariants.{Need, Begin, Known}
use Rattle.watch_machine.specs.Beginning.{is_pressed, is_pressed_try, owing_past, soon, sooner_try}
use Rattle.watch_machine.specs.History.{AllHappen, Hands, History, Turn, Turned, after_all, state_after_all}
use Rattle.watch_machine.specs.Settling.{settled, settled_track, timed}
use Rattle.watch_machine.specs.State.{WatchState, attempt_at, fresh_track, opened, track_at, track_in}
use Rattle.watch_machine.specs.Step.{Step, readied, told_earlier, why}
use Rattle.watch_machine.proofs.Cases.{if_both, not_both}
use Rattle.watch_laws.specs.Outage.{AreHanded, KillLaw, MayBeAsked, in_line, is_handed, left_from}
use Rattle.watch_laws.proofs.{Clocking.readied_clocks, Clocking.refused_stays, Marked.free_lanes, Marked.none_of, Outliving.left_from_clock, Shapes.ran_shape, Shapes.turn_shape}
use Rattle.watch_laws.proofs.Enduring.{Steady, begun_steady, none_stands}
use Rattle.watch_laws.proofs.Grounds.{IsBase, first_turns, last_turns, opened_base, ran_base, starts, tracked, turn_base}
use Rattle.watch_laws.proofs.Lanes.{Ticks, all_sent, stays_free}
use Rattle.watch_laws.proofs.Tracking.{each_holds, each_kept, known_is, set_kept}
use Rattle.watch_laws.proofs.Undisturbed.{Undisturbed, clock_undisturbed, settled_pressed}

-- who was not pressed has no pressed try when all that failed have settled
loose_settles : (margin at bound : ℕ) (x : Track) → is_pressed x ≡ false → rested x.last ≤ bound → Steady at bound ⊥ (settled_track margin at x)
unfolding settled_track
loose_settles margin at bound x loose last =
    record { last = last; tries = λ u is pressed'. absurd (not_both (settled_pressed margin at x x.attempt (ap is_pressed_try is ∙ pressed')) loose) }

module _ (width n : ℕ) (old new : WatchState) (wall elapsed : ℕ) (output : WatchOutput) (i : ℕ) (low : i < n) (h : Ticks old new wall elapsed output) (before : IsBase width n old) (after : IsBase width n new) (loose : is_pressed (track_at old i) ≡ false) (never : rested (track_at old i).last ≤ 0) where
  abbrev mid : WatchState
  mid = pressed (readied old wall elapsed) h.round

  abbrev now : ℕ
  now = (timed old wall elapsed).clocks.at

  clock : new.clocks.at ≡ now
  clock = ap (λ (x : WatchState). x.clocks.at) h.new_is ∙ ap (λ c. c.at) (readied_clocks old wall elapsed)

  steady : Steady now 0 ⊥ (track_at mid i)
  unfolding readied
  steady =
      let t = timed old wall elapsed in
      begun_steady (settled t) (why old wall elapsed) h.round i 0 ⊥
      (each_holds (Steady now 0 ⊥) (none_stands now 0 ⊥) (λ j. settled_track old.forest.margin now) old.tracks i (loose_settles old.forest.margin now 0 (track_at old i) loose never))

  attempt_kept : attempt_at new i ≡ attempt_at mid i
  attempt_kept =
      ap (λ (x : WatchState). attempt_at x i) h.new_is
      ∙ each_kept (λ (y x : Track). y.attempt ≡ x.attempt) refl (sent_in mid.clocks.at h.requests) mid.tracks
      (λ j x. if_both (λ (y : Track). y.attempt ≡ x.attempt) (list_any (λ (r : WatchRequest). r.entry == j) h.requests) (sent_track mid.clocks.at x) x refl refl) i

  first_try : (t : Try) → attempt_at new i ≡ Some t → t.pressed ≡ true → (is_first t ≡ true) × ((t.failed ≡ false) × (t.at ≤ new.clocks.at))
  first_try t is pressed' =
      let k = steady.tries t (sym attempt_kept ∙ is) pressed' in
      let soon = k.soon in
      let c = clock in
      elim k.first as (λ _. (is_first t ≡ true) × ((t.failed ≡ false) × (t.at ≤ new.clocks.at))) [
        | inl first ↦ (first, (k.settled, omega (arith, soon, c)))
        | inr never ↦ absurd never
      ]

  abbrev GoesNow : Out → Type 0
  GoesNow q = q.entry ≡ i → is_pressed (track_at new i) ≡ true → (q.heard ≡ false) × (q.since ≡ new.clocks.at)

  -- what was out is not of it, or not for a pressed try
  was_out : All GoesNow old.out
  was_out =
      elim (cases_Bool (track_at old i).out) as (λ _. All GoesNow old.out) [
        | inl out ↦
            let still = subst (λ (x : WatchState). Undisturbed (track_at x i) (track_at old i)) (sym h.new_is) (clock_undisturbed old wall elapsed h.round h.requests i) in
            (λ k d below is pressed'. absurd (not_both (still.1 out pressed') loose))
        | inr free ↦ All-weaker (λ (q : Out). q.entry ≡ i → ⊥) GoesNow (λ q no' is. absurd (no' is)) old.out (none_of i old.out (free_lanes i old (tracked width n old i before low) before.alone free))
      ]

  goes_now : All GoesNow new.out
  goes_now =
      let same : new.clocks.at ≡ mid.clocks.at = ap (λ (x : WatchState). x.clocks.at) h.new_is in
      all_sent GoesNow old new wall elapsed output h was_out (λ k low due named is pressed'. (refl, sym same))

  rested_free : (track_at new i).out ≡ false → rested (track_at new i).last ≤ 0
  rested_free free =
      let within : i < length old.tracks = (let count = before.count in omega (arith, count, low)) in
      let same = ap (λ (x : Track). rested x.last) (stays_free old new wall elapsed output i h within free) in
      let zero' = steady.last in
      omega (arith, same, zero')

  abbrev from : ℕ
  from = left_from new i

  rests : (p : Bool) → is_pressed (track_at new i) ≡ p → (is_pressed (track_at new i) ≡ true → (track_at new i).out ≡ false) → rested (track_at new i).last ≤ from
  rests true is free = let r = rested_free (free is) in omega (arith, r)
  rests false is free =
      let e = cond-false (is_pressed (track_at new i)) 0 (rested (track_at new i).last) is in
      omega (arith, e)

  pub may_be_asked : i < length new.forest.entries → is_wanted new i ≡ true → is_known (track_at new i).end ≡ true → MayBeAsked new i from
  may_be_asked within wanted known' = record {
    within = within;
    wanted = wanted;
    known = known';
    first = λ t is pressed'. let f = first_try t is pressed' in let soon = f.1.1 in (f.0, (f.1.0, omega (arith, soon)));
    fresh = goes_now;
    come = λ loose. omega arith;
    ahead = omega arith;
    rested = rests (is_pressed (track_at new i)) refl;
  }

-- before its first clock a watch has pressed and asked nobody
abbrev Untouched : Track → Type 0
Untouched x = (is_pressed x ≡ false) × (rested x.last ≤ 0)

known_untouched : (at end : ℕ) (renewable : Bool) (x : Track) → Untouched x → Untouched (owing_past at (told_earlier end renewable x))
known_untouched at end renewable x h = known_is Untouched at end renewable x h (λ out. h) (λ free. (sooner_loose x.attempt h.0, h.1)) where
  sooner_loose : (o : Option Try) → is_pressed_try o ≡ false → (sooner_try (soon at x) o).pressed ≡ false
  sooner_loose None loose = refl
  sooner_loose (Some t) loose = loose

step_untouched : (i : ℕ) (old new : WatchState) (event : WatchEvent) (output : WatchOutput) → is_handed event ≡ true → Step old event output new → Untouched (track_at old i) → Untouched (track_at new i)
step_untouched i old new (Need j until) output handed step h = subst (λ (x : WatchState). Untouched (track_at x i)) (sym step.1) h
step_untouched i old new Begin output handed step h = subst (λ (x : WatchState). Untouched (track_at x i)) (sym step.1) h
step_untouched i old new (Known j end renewable) output handed step h =
    subst (λ (x : WatchState). Untouched (track_at x i)) (sym step.1)
    (set_kept (λ (y x : Track). Untouched x → Untouched y) (λ x k. k) old.tracks j _ (known_untouched old.clocks.at end renewable (track_at old j)) i h)
step_untouched i old new _ output handed step h = absurd cc

turn_untouched : (i : ℕ) (old new : WatchState) (event : WatchEvent) (result : Result WatchOutput WatchFault) → is_handed event ≡ true → Turn old event result new → Untouched (track_at old i) → Untouched (track_at new i)
turn_untouched i old new event (Ok output) handed turn h = step_untouched i old new event output handed turn.1 h
turn_untouched i old new event (Err fault) handed turn h = subst (λ (x : WatchState). Untouched (track_at x i)) (sym (refused_stays old new event fault turn)) h

ran_untouched : (i : ℕ) (turns : List Turned) (old : WatchState) → AreHanded turns → History old turns → Untouched (track_at old i) → Untouched (track_at (after_all old turns) i)
ran_untouched i [] old handed h first = first
ran_untouched i (turn ∷ turns) old handed h first = ran_untouched i turns turn.state handed.1 h.1 (turn_untouched i old turn.state turn.event turn.result handed.0 h.0 first)

first_untouched : (es : List Entry) (i : ℕ) → Untouched (track_in (map fresh_track es) i)
first_untouched [] i = (refl, omega arith)
first_untouched (e ∷ es) zero = (refl, omega arith)
first_untouched (e ∷ es) (suc i) = first_untouched es i

pub killed : KillLaw
killed o g width before first hs i wide history happens handed clock' taken' low wanted known' lived few order short =
    let n = length g.entries in
    let old = after_all (opened g width) before in
    let s = first.state in
    let last = (last_turns before (first ∷ []) (opened g width) history).0 in
    let until = first_turns before (first ∷ []) (opened g width) history in
    let base = ran_base width n before (opened g width) until (opened_base g width) in
    let after = turn_base width n old s first.event first.result last base in
    let start = starts o old first first.event first.result refl last clock' taken' in
    let untouched = ran_untouched i before (opened g width) handed until (first_untouched g.entries i) in
    let here = (turn_shape old s first.event first.result last).0 in
    let there = (ran_shape before (opened g width) until).0 in
    left_from_clock o old first hs i (left_from s i)
    (record { forest = g; width = width; run = map (λ (t : Turned). Hands t) before; is_run = hands before (opened g width) until; leads = leads before (opened g width) })
    (subst (λ w. 0 < w) (sym base.fits.0) wide) (last, happens) clock' taken'
    (may_be_asked width n old s start.wall start.elapsed start.output i low start.ticks' base after untouched.0 untouched.1 (omega (arith, low, here, there)) wanted known') lived
    (subst (λ w. in_line o s hs ≤ w * o.rounds) (sym base.fits.0) few) order short where
      hands : (ts : List Turned) (x : WatchState) → History x ts → AllHappen x (map (λ (t : Turned). Hands t) ts)
      hands [] x h = tt
      hands (t ∷ ts) x h = (h.0, hands ts t.state h.1)

      leads : (ts : List Turned) (x : WatchState) → state_after_all x (map (λ (t : Turned). Hands t) ts) ≡ after_all x ts
      leads [] x = refl
      leads (t ∷ ts) x = leads ts t.state
