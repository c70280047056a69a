-- LineAnswer: an answer after which nothing is to be asked of its entry, and that leaves what the others carry, keeps the line. For
-- `line_renewed`.
use Rattle.std.proofs.Common.{◌≡◌, ◌∙◌, ℕ, ◌<◌, ◌≤◌, Bool, true, false, not, ◌&&◌, if◌then◌else◌, List, [], ◌∷◌, None, filter, length, map, min, get_or, set, refl, sym, ap, ap₂, subst, arith, inl, inr}
use Rattle.std.proofs.lemmas.List.FromFn.{length-map-range_with_len}
use Rattle.std.proofs.lemmas.Bool.{cases_Bool, cases_eq, cases_lt, cond-false, cond-true}
use Rattle.std.proofs.lemmas.List.{get_or-set_other, get_or-set_same, length-set}
use Rattle.plan_forest.specs.{declared.entry.Entry.Entry, declared.forest.TheConstants.END_MAX, Forest.Forest, Forest.entry_at, Over.chain}
use Rattle.plan_forest.proofs.Entries.{entry_at_past}
use Rattle.watch_machine.specs.{declared.clocks.Clocks.Clocks, declared.lanes.Presence.Presence, declared.line.Line.Line, declared.lull.TheConstants.NEVER, declared.sending.Place.Place, declared.track.Track.Track, Clocks.ms, Clocks.sec}
use Rattle.watch_machine.specs.{Lines.is_due, Lines.is_due_try, Margins.time, Sending.is_alone_try, Sending.place_of, code.Lull.is_failed_try}
use Rattle.watch_machine.specs.State.{has_last_try, no_track, track_in}
use Rattle.watch_machine.specs.Wanted.{believed, cut_need, fixed_ends, free_need, is_fixed, least, least_over, limit, need_here, need_of, seen_entry, view, wants}
use Rattle.watch_machine.specs.code.Line.{IsInLine, IsLine, IsPlain, entries_of, has, left_at, left_of, rest_of, time_in}
use Rattle.watch_machine.proofs.{Carries.carries_alike, Cases.if_cases, Cases.not_both, Leasts.least_capped, LineSent.any_kept, LineSent.each_has, Opening.seen_at, Tests.and_no}

-- the believed ends of those that are led no further depend on these alone
ends_same : (ys xs : List Track) (as' : List ℕ) → ((a : ℕ) → is_fixed (track_in ys a) ≡ is_fixed (track_in xs a)) →
    ((a : ℕ) → is_fixed (track_in xs a) ≡ true → believed (track_in ys a).end ≡ believed (track_in xs a).end) → fixed_ends ys as' ≡ fixed_ends xs as'
ends_same ys xs [] fixed same = refl
ends_same ys xs (a ∷ as') fixed same =
    let more = ends_same ys xs as' fixed same in
    let f : ℕ → Bool = λ b. is_fixed (track_in ys b) in
    let h : ℕ → Bool = λ b. is_fixed (track_in xs b) in
    let u : ℕ → ℕ = λ b. believed (track_in ys b).end in
    let v : ℕ → ℕ = λ b. believed (track_in xs b).end in
    elim (cases_Bool (h a)) as (λ _. map u (filter f (a ∷ as')) ≡ map v (filter h (a ∷ as'))) [
      | inl is ↦
          ap (map u) (cond-true (f a) (a ∷ filter f as') (filter f as') (fixed a ∙ is)) ∙ ap₂ (λ n ns. n ∷ ns) (same a is) more
          ∙ sym (ap (map v) (cond-true (h a) (a ∷ filter h as') (filter h as') is))
      | inr off ↦
          ap (map u) (cond-false (f a) (a ∷ filter f as') (filter f as') (fixed a ∙ off)) ∙ more ∙ sym (ap (map v) (cond-false (h a) (a ∷ filter h as') (filter h as') off))
    ]

-- so other tracks of which the same are led no further, to the same ends, carry the same
module _ (es : List Entry) (c : Clocks) (ys xs : List Track) (fixed : (a : ℕ) → is_fixed (track_in ys a) ≡ is_fixed (track_in xs a)) (same : (a : ℕ) → is_fixed (track_in xs a) ≡ true → believed (track_in ys a).end ≡ believed (track_in xs a).end) where
  limit_same : (i : ℕ) → limit es ys i ≡ limit es xs i
  unfolding least_over
  limit_same i = ap (least END_MAX) (ends_same ys xs (chain es i) fixed same)

  seen_parent : (zs : List Track) (i : ℕ) → (seen_entry es zs c i).parent ≡ (entry_at es i).parent
  unfolding seen_entry
  seen_parent zs i = refl

  seen_need : (i : ℕ) → (seen_entry es ys c i).need ≡ (seen_entry es xs c i).need
  unfolding seen_entry
  seen_need i = ap (min (need_here c (entry_at es i).need)) (limit_same i)

  view_count : (zs : List Track) → length (view es zs c) ≡ length es
  view_count zs = length-map-range_with_len (seen_entry es zs c) 0 (length es)

  past_same : (i : ℕ) → length es ≤ i → entry_at (view es ys c) i ≡ entry_at (view es xs c) i
  past_same i past =
      let few = view_count ys in
      let many = view_count xs in
      entry_at_past (view es ys c) i (omega (arith, past, few)) ∙ sym (entry_at_past (view es xs c) i (omega (arith, past, many)))

  view_parents : (i : ℕ) → (entry_at (view es ys c) i).parent ≡ (entry_at (view es xs c) i).parent
  view_parents i = elim (cases_lt i (length es)) [
    | inl within ↦
        ap (λ (e : Entry). e.parent) (seen_at es ys c i within) ∙ seen_parent ys i ∙ sym (seen_parent xs i) ∙ sym (ap (λ (e : Entry). e.parent) (seen_at es xs c i within))
    | inr past ↦ ap (λ (e : Entry). e.parent) (past_same i past)
  ]

  view_needs : (i : ℕ) → (entry_at (view es ys c) i).need ≡ (entry_at (view es xs c) i).need
  view_needs i = elim (cases_lt i (length es)) [
    | inl within ↦ ap (λ (e : Entry). e.need) (seen_at es ys c i within) ∙ seen_need i ∙ sym (ap (λ (e : Entry). e.need) (seen_at es xs c i within))
    | inr past ↦ ap (λ (e : Entry). e.need) (past_same i past)
  ]

  cut_kept : (i : ℕ) → cut_need es ys c i ≡ cut_need es xs c i
  unfolding cut_need
  cut_kept i = carries_alike (view es xs c) (view es ys c) (view_count ys ∙ sym (view_count xs)) view_parents view_needs (sec c.at) i

  need_kept : (i : ℕ) → has_last_try (track_in ys i) ≡ has_last_try (track_in xs i) → need_of es ys c i ≡ need_of es xs c i
  unfolding need_of
  need_kept i last = ap₂ (λ b n. if b then free_need es c i else n) last (cut_kept i)

-- one that is out is not due, and nothing is to be done of it; of one of which nothing is asked, nothing before its time
module _ (p : Presence) (since : ℕ) (x : Track) where
  out_not_due : x.out ≡ true → is_due p since x ≡ false
  unfolding is_due
  out_not_due out = ap (λ b. not b && is_due_try p since x x.attempt) out

  idle_not_due : x.attempt ≡ None → is_due p since x ≡ false
  unfolding is_due
  idle_not_due idle = ap (λ o. not x.out && is_due_try p since x o) idle ∙ and_no (not x.out) false refl

  out_left : (margin need : ℕ) (e : Entry) → is_failed_try x.attempt ≡ false → x.out ≡ true → left_at margin e need p since x ≡ NEVER
  unfolding left_at
  out_left margin need e settled out = cond-false (is_failed_try x.attempt) 0 _ settled ∙ cond-true x.out NEVER _ out

  abbrev idle_one : Track
  idle_one = record x { attempt = None }

  idle_at : (margin need last : ℕ) (e : Entry) → last ≤ ms (time margin e idle_one) → last ≤ NEVER → last ≤ left_at margin e need p since idle_one
  unfolding left_at
  idle_at margin need last e early never =
      if_cases (λ n. last ≤ n) x.out NEVER _ (λ _. never) (λ _. if_cases (λ n. last ≤ n) (wants idle_one need) _ _ (λ _. (omega (arith, early, never))) (λ _. never))

idle_left : (margin need last : ℕ) (e : Entry) (p : Presence) (since : ℕ) (x : Track) → x.attempt ≡ None → last ≤ ms (time margin e x) → last ≤ NEVER → last ≤ left_at margin e need p since x
idle_left margin need last e p since x idle =
    subst (λ (y : Track). last ≤ ms (time margin e y) → last ≤ NEVER → last ≤ left_at margin e need p since y) (ap (λ o. record x { attempt = o }) (sym idle)) (idle_at p since x margin need last e)

module _ (g : Forest) (xs : List Track) (p : Presence) (line : Line) (is : IsLine g xs p line) (beside : length xs ≡ length g.entries) (i : ℕ) (within : i < length g.entries) (y : Track) (plain : IsPlain (track_in xs i) y) where
  abbrev ys : List Track
  ys = set xs i y

  abbrev since : ℕ
  since = line.clocks.at

  abbrev x : Track
  x = track_in xs i

  own : track_in ys i ≡ y
  own = get_or-set_same xs i y no_track (omega (arith, within, beside))

  other : (j : ℕ) → (j ≡ i → ⊥) → track_in ys j ≡ track_in xs j
  other j no' = get_or-set_other xs i j y no_track no'

  -- they carry the same
  fixed_kept : (j : ℕ) → is_fixed (track_in ys j) ≡ is_fixed (track_in xs j)
  fixed_kept j = elim (cases_eq j i) [
    | inl here ↦ subst (λ k. is_fixed (track_in ys k) ≡ is_fixed (track_in xs k)) (sym here) (ap is_fixed own ∙ plain.still ∙ sym plain.loose)
    | inr there ↦ ap is_fixed (other j there)
  ]

  fixed_ends_kept : (j : ℕ) → is_fixed (track_in xs j) ≡ true → believed (track_in ys j).end ≡ believed (track_in xs j).end
  fixed_ends_kept j fixed = elim (cases_eq j i) [
    | inl here ↦ absurd (not_both (subst (λ k. is_fixed (track_in xs k) ≡ true) here fixed) plain.loose)
    | inr there ↦ ap (λ (z : Track). believed z.end) (other j there)
  ]

  last_kept : (j : ℕ) → has_last_try (track_in ys j) ≡ has_last_try (track_in xs j)
  last_kept j = elim (cases_eq j i) [
    | inl here ↦ subst (λ k. has_last_try (track_in ys k) ≡ has_last_try (track_in xs k)) (sym here) (ap has_last_try own ∙ plain.untried ∙ sym plain.tried)
    | inr there ↦ ap has_last_try (other j there)
  ]

  need_same : (j : ℕ) → need_of g.entries ys line.clocks j ≡ need_of g.entries xs line.clocks j
  need_same j = need_kept g.entries line.clocks ys xs fixed_kept fixed_ends_kept j (last_kept j)

  -- those are due who were
  due_kept : (j : ℕ) → is_due p since (track_in ys j) ≡ is_due p since (track_in xs j)
  due_kept j = elim (cases_eq j i) [
    | inl here ↦
        subst (λ k. is_due p since (track_in ys k) ≡ is_due p since (track_in xs k)) (sym here)
        (ap (is_due p since) own ∙ idle_not_due p since y plain.idle ∙ sym (out_not_due p since x plain.out))
    | inr there ↦ ap (is_due p since) (other j there)
  ]

  not_in_line : (k : ℕ) (d : Place) → k < length (rest_of line) → (get_or (rest_of line) k d).entry ≡ i → ⊥
  not_in_line k d below here =
      let yes' : has i (entries_of (rest_of line)) ≡ true = subst (λ e. has e (entries_of (rest_of line)) ≡ true) here (each_has (rest_of line) k d below) in
      not_both (is.order.members i (omega (arith, within, beside)) ∙ yes') (out_not_due p since x plain.out)

  count : length ys ≡ length xs
  count = length-set xs i y

  order_kept : IsInLine g p since ys (rest_of line)
  order_kept = record {
    sorted = is.order.sorted;
    placed = λ k d below.
        let e = (get_or (rest_of line) k d).entry in
        is.order.placed k d below ∙ ap (λ (z : Track). place_of g.margin (entry_at g.entries e) p.away (sec since) e z z.attempt) (sym (other e (not_in_line k d below)));
    distinct = is.order.distinct;
    within = λ k d below. let inside = is.order.within k d below in let c = count in omega (arith, inside, c);
    members = λ j below. due_kept j ∙ is.order.members j (let c = count in omega (arith, below, c));
  }

  -- a moment before which no time of others comes, and a second before which no end does
  module _ (time' end : ℕ) (time_is : time' ≡ ms (time g.margin (entry_at g.entries i) y)) (end_is : end ≡ believed y.end) where
    abbrev after : Line
    after = record line { beyond = min line.beyond time'; lasting = min line.lasting end }

    left_other : (j : ℕ) → (j ≡ i → ⊥) → left_of g ys line.clocks p j ≡ left_of g xs line.clocks p j
    left_other j no' =
        ap (λ n. left_at g.margin (entry_at g.entries j) n p since (track_in ys j)) (need_same j)
        ∙ ap (left_at g.margin (entry_at g.entries j) (need_of g.entries xs line.clocks j) p since) (other j no')

    left_own : (last : ℕ) → last ≤ after.beyond → last ≤ NEVER → last ≤ left_of g ys line.clocks p i
    left_own last low never =
        subst (λ (z : Track). last ≤ left_at g.margin (entry_at g.entries i) (need_of g.entries ys line.clocks i) p since z) (sym own)
        (idle_left g.margin (need_of g.entries ys line.clocks i) last (entry_at g.entries i) p since y plain.idle (let t = time_is in omega (arith, low, t)) never)

    left_kept : (last j : ℕ) → last ≤ after.beyond → last ≤ NEVER → min last (left_of g ys line.clocks p j) ≡ min last (left_of g xs line.clocks p j)
    left_kept last j low never = elim (cases_eq j i) [
      | inl here ↦
          subst (λ k. min last (left_of g ys line.clocks p k) ≡ min last (left_of g xs line.clocks p k)) (sym here)
          (let a = left_own last low never in let b = out_left p since x g.margin (need_of g.entries xs line.clocks i) (entry_at g.entries i) plain.settled plain.out in omega (arith, a, b, never))
      | inr there ↦ ap (min last) (left_other j there)
    ]

    beyond_kept : (j : ℕ) → j < length g.entries → is_due p since (track_in ys j) ≡ true → after.beyond ≤ left_of g ys line.clocks p j
    beyond_kept j inside due = elim (cases_eq j i) [
      | inl here ↦ absurd (not_both (subst (λ k. is_due p since (track_in ys k) ≡ true) here due) (ap (is_due p since) own ∙ idle_not_due p since y plain.idle))
      | inr there ↦ (let a = is.beyond j inside (sym (due_kept j) ∙ due) in let b = left_other j there in omega (arith, a, b))
    ]

    ended_kept : (j : ℕ) → j < length g.entries → sec since < believed (track_in ys j).end → after.lasting ≤ believed (track_in ys j).end
    ended_kept j inside living = elim (cases_eq j i) [
      | inl here ↦ subst (λ k. after.lasting ≤ believed (track_in ys k).end) (sym here) (let e = ap (λ (z : Track). believed z.end) own in omega (arith, e, end_is))
      | inr there ↦
          (let e = ap (λ (z : Track). believed z.end) (other j there) in let n = is.ended j inside (omega (arith, living, e)) in omega (arith, e, n))
    ]

    -- the one that was answered stands in line no more
    timed_kept : (j : ℕ) → j < length g.entries → is_due p since (track_in ys j) ≡ true → sec since < time_in g ys j → after.lasting ≤ time_in g ys j
    timed_kept j inside due yet = elim (cases_eq j i) [
      | inl here ↦ absurd (not_both (subst (λ k. is_due p since (track_in ys k) ≡ true) here due) (ap (is_due p since) own ∙ idle_not_due p since y plain.idle))
      | inr there ↦
          (let e = ap (time g.margin (entry_at g.entries j)) (other j there) in let n = is.timed j inside (sym (due_kept j) ∙ due) (omega (arith, yet, e)) in omega (arith, e, n))
    ]

    alone_kept : (j : ℕ) → j < length xs → is_alone_try (track_in xs j).attempt ≡ false → is_alone_try (track_in ys j).attempt ≡ false
    alone_kept j below off = elim (cases_eq j i) [
      | inl here ↦ subst (λ k. is_alone_try (track_in ys k).attempt ≡ false) (sym here) (ap (λ (z : Track). is_alone_try z.attempt) own ∙ ap is_alone_try plain.idle)
      | inr there ↦ ap (λ (z : Track). is_alone_try z.attempt) (other j there) ∙ off
    ]

    pub line_answered : IsLine g ys p after
    line_answered = record {
      order = order_kept;
      next = λ last low never.
          least_capped (left_of g ys line.clocks p) (left_of g xs line.clocks p) last last 0 (length g.entries) (omega arith) (λ j from below. left_kept last j low never)
          ∙ is.next last (omega (arith, low)) never;
      beyond = beyond_kept;
      needed = λ j inside some. let e = need_same j in let n = is.needed j inside (omega (arith, e, some)) in omega (arith, e, n);
      ended = ended_kept;
      timed = timed_kept;
      there = is.there;
      together = any_kept (λ (z : Track). is_alone_try z.attempt) xs ys is.together count alone_kept;
    }
