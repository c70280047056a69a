-- Moving: what another forest that is watched makes of the requests that are out, of those that wait, and of the stages of an outage. For the
-- laws of recovery, starts and outages.
use Rattle.std.proofs.Common.{◌≡◌, ◌⊎◌, ◌∙◌, ℕ, suc, ◌+◌, ◌≤◌, Bool, true, false, not, ◌&&◌, Option, Some, None, All, filter, length, nat_le, refl, sym, ap, subst, arith, inl, inr}
use Rattle.std.proofs.lemmas.List.Elements.{All-weaker}
use Rattle.std.proofs.lemmas.Bool.{and_from, and_parts, cases_Bool}
use Rattle.std.specs.List.{list_any}
use Rattle.watch_machine.specs.{declared.lanes.Out.Out, declared.track.Track.Track, declared.track.Try.Try, Change.former_at, Clocks.ms, History.Changed, History.IsChanged, Lines.is_first, Lines.rested, Outlook.time_of, Settling.is_silent}
use Rattle.watch_machine.specs.{State.WatchState, State.track_at}
use Rattle.watch_machine.specs.Beginning.{hastened, is_pressed, is_pressed_try, owed, owing_lookup, soon, sooner_try, untopped_track}
use Rattle.watch_machine.proofs.{Cases.not_both, Cases.value_is, Changing.all_after}
use Rattle.watch_laws.specs.Outage.{Outage, comes_over, how_many, is_request_served, is_request_whole, is_tried, outage_settled_by, waiting, waits_to_be_asked, was_tried}
use Rattle.watch_laws.proofs.{Grounds.IsBase, Lanes.is_anew, Postponing.postponed}
use Rattle.watch_laws.proofs.Bases.{changed_base, kept_flag, owing_last}
use Rattle.watch_laws.proofs.Counting.{at_some, either, filtered_lanes, lanes_filtered, moved_pass}
use Rattle.watch_laws.proofs.Enduring.{Cutting, Endures, IsPending, Kept, Missed, cut}
use Rattle.watch_laws.proofs.Following.{any_over, changed_entries, changed_out, filter_after, kept_over, named_over, owed_is}
use Rattle.watch_laws.proofs.Stages.{Facts, IsGoing, IsThrough}

-- what holds of a try also where it may go out earlier holds of that of an entry that owes a lookup, where it is pressed
owed_keeps :
    (P : Try → Type 0) → ((t : Try) (n : ℕ) → P t → P (hastened t n)) → (at : ℕ) (x : Track) → ((t : Try) → x.attempt ≡ Some t → t.pressed ≡ true → P t) →
    (u : Try) → (owing_lookup at (untopped_track x)).attempt ≡ Some u → u.pressed ≡ true → P u
owed_keeps P sooner at x all =
    owed_is (λ (y : Track). (u : Try) → y.attempt ≡ Some u → u.pressed ≡ true → P u) at (untopped_track x) (λ out. all) (λ free. by x.attempt all) where
      by : (o : Option Try) → ((t : Try) → o ≡ Some t → t.pressed ≡ true → P t) → (u : Try) → Some (sooner_try (soon at x) o) ≡ Some u → u.pressed ≡ true → P u
      by None h u is pressed' = absurd (not_both pressed' (ap (λ (v : Try). v.pressed) (sym (value_is (owed (soon at x)) u is))))
      by (Some t) h u is pressed' =
          let same = value_is (hastened t (soon at x)) u is in
          subst P same (sooner t (soon at x) (h t refl (ap (λ (v : Try). v.pressed) same ∙ pressed')))

owed_pressed : (at : ℕ) (x : Track) → is_pressed (owing_lookup at (untopped_track x)) ≡ is_pressed x
owed_pressed at x = owed_is (λ (y : Track). is_pressed y ≡ is_pressed x) at (untopped_track x) (λ out. refl) (λ free. by x.attempt) where
  by : (o : Option Try) → is_pressed_try (Some (sooner_try (soon at x) o)) ≡ is_pressed_try o
  by None = refl
  by (Some t) = refl

-- what all requests are that are out stays so, if it does not look at the entry
pub all_over : (old : WatchState) (c : Changed) → IsChanged old c → (X : Out → Type 0) → ((r : Out) (m : ℕ) → X r → X (record r { entry = m })) → All X old.out → All X c.state.out
all_over old c h X moves all = subst (All X) (sym (changed_out old c h)) (all_after c.was X (λ m r x. moves r _ x) (length c.forest.entries) old.out all)

module _ (old : WatchState) (c : Changed) (h : IsChanged old c) (i k : ℕ) (said : former_at c.was k ≡ Some i) where
  clocks : c.state.clocks ≡ old.clocks
  clocks = ap (λ (s : WatchState). s.clocks) h.state

  flag : (track_at c.state k).out ≡ (track_at old i).out
  flag = kept_flag old c h i k said

  -- a try that holds out does so over a change
  sooner_pending : (bound due last : ℕ) (miss : Type 0) (t : Try) (n : ℕ) → IsPending i bound due last miss old t → IsPending i bound due last miss old (hastened t n)
  unfolding Kept Missed
  sooner_pending bound due last miss t n (inl kept) = (let low = kept.1.0 in inl (kept.0, (omega (arith, low), kept.1.1)))
  sooner_pending bound due last miss t n (inr missed) = inr missed

  pending_over : (bound due last : ℕ) (miss : Type 0) (t : Try) → IsPending i bound due last miss old t → IsPending k bound due last miss c.state t
  unfolding Kept Missed
  pending_over bound due last miss t (inl kept) =
      let at = ap (λ (s : WatchState). s.clocks.at) h.state in
      let hold = ap (λ (s : WatchState). s.presence.hold) h.state in
      let low = kept.1.0 in
      inl (
        kept.0,
        (
          omega (arith, low, at),
          λ free. elim (kept.1.1 (sym flag ∙ free)) as (λ _. (is_first t ≡ true) ⊎ (miss × (c.state.presence.hold ≤ bound))) [
            | inl first ↦ inl first
            | inr held ↦ (let less = held.1 in inr (held.0, omega (arith, less, hold)))
          ],
        ),
      )
  pending_over bound due last miss t (inr missed) =
      let hold = ap (λ (s : WatchState). s.presence.hold) h.state in
      inr (
        missed.0,
        (
          flag ∙ missed.1.0,
          (
            missed.1.1.0,
            (
              missed.1.1.1.0,
              elim missed.1.1.1.1 as (λ _. (c.state.presence.hold ≤ bound) ⊎ ((list_any is_silent c.state.answers ≡ true) × (c.state.presence.away ≡ true))) [
                | inl low ↦ inl (omega (arith, low, hold))
                | inr silent' ↦ inr (ap (λ (s : WatchState). list_any is_silent s.answers) h.state ∙ silent'.0, ap (λ (s : WatchState). s.presence.away) h.state ∙ silent'.1)
              ],
            ),
          ),
        ),
      )

  pub pressed_over : is_pressed (track_at c.state k) ≡ is_pressed (track_at old i)
  pressed_over = kept_over old c h (λ (y x : Track). is_pressed y ≡ is_pressed x) (λ x. refl) (λ x. owed_pressed old.clocks.at x) i k said

  pub endures_over : (o : Outage) (end bound due : ℕ) (miss : Type 0) → Endures o i end bound due miss old → Endures o k end bound due miss c.state
  endures_over o end bound due miss e =
      let hold = ap (λ (s : WatchState). s.presence.hold) h.state in
      let P : Try → Type 0 = IsPending i bound due (cut o) miss old in
      let Q : Out → Type 0 = λ q. (is_request_whole o q.since ≡ false) × (is_pressed (track_at old i) ≡ true → miss × (q.heard ≡ true → old.presence.hold ≤ bound)) in
      let last = kept_over old c h (λ (y x : Track). y.last ≡ x.last) (λ x. refl) (λ x. owing_last old.clocks.at (untopped_track x)) i k said in
      record {
        end_is = end_over ∙ e.end_is;
        last = (let same = ap rested last in let low = e.last in omega (arith, same, low));
        tries = λ u is pressed'.
            pending_over bound due (cut o) miss u
            (kept_over old c h (λ (y x : Track). ((t : Try) → x.attempt ≡ Some t → t.pressed ≡ true → P t) → (u : Try) → y.attempt ≡ Some u → u.pressed ≡ true → P u) (λ x all. all)
            (λ x all. owed_keeps P (λ t n. sooner_pending bound due (cut o) miss t n) old.clocks.at x all) i k said e.tries u is pressed');
        out = All-weaker (λ (q : Out). q.entry ≡ k → Q q) (Cutting o k bound miss c.state)
            (λ q all is. ((all is).0, λ pressed'. let may = (all is).1 (sym pressed_over ∙ pressed') in (may.0, λ heard'. let low = may.1 heard' in omega (arith, low, hold)))) c.state.out
            (named_over Q (λ r m all. all) old c h i k said e.out);
        silent' = λ any away. e.silent' (sym (ap (λ (s : WatchState). list_any is_silent s.answers) h.state) ∙ any) (sym (ap (λ (s : WatchState). s.presence.away) h.state) ∙ away);
      } where
        end_over : (track_at c.state k).end ≡ (track_at old i).end
        end_over = kept_over old c h (λ (y x : Track). y.end ≡ x.end) (λ x. refl) (λ x. owed_is (λ (y : Track). y.end ≡ x.end) old.clocks.at (untopped_track x) (λ out. refl) (λ free. refl)) i k said

  pub served_over : (o : Outage) → is_request_served o c.state k ≡ is_request_served o old i
  served_over o = any_over old c h i k (is_request_whole o) said

-- ---- those that wait

module _ (o : Outage) (old : WatchState) (c : Changed) (h : IsChanged old c) where
  waits_or_comes : (j : ℕ) → waits_to_be_asked o c.state j ≡ true → (comes_over old c j ≡ true) ⊎ (at_some (waits_to_be_asked o old) (former_at c.was j) ≡ true)
  waits_or_comes j waits = by (former_at c.was j) refl where
    tried : is_tried c.state j ≡ true
    tried = (and_parts (is_tried c.state j) (not (is_request_served o c.state j)) waits).0

    by : (was : Option ℕ) → former_at c.was j ≡ was → (is_tried c.state j && not (was_tried old was) ≡ true) ⊎ (at_some (waits_to_be_asked o old) was ≡ true)
    by None said = inl (and_from (is_tried c.state j) true tried refl)
    by (Some i) said =
        elim (cases_Bool (is_tried old i)) as (λ _. (is_tried c.state j && not (is_tried old i) ≡ true) ⊎ (waits_to_be_asked o old i ≡ true)) [
          | inr none ↦ inl (and_from (is_tried c.state j) (not (is_tried old i)) tried (ap not none))
          | inl was ↦
              let unserved = (and_parts (is_tried c.state j) (not (is_request_served o c.state j)) waits).1 in
              inr (and_from (is_tried old i) (not (is_request_served o old i)) was (ap not (sym (any_over old c h i j (is_request_whole o) said)) ∙ unserved))
        ]

  fewer_waiting : waiting o (length c.forest.entries) c.state ≤ how_many (length c.forest.entries) (comes_over old c) + waiting o (length old.forest.entries) old
  fewer_waiting =
      let n = length c.forest.entries in
      let parts = either n (waits_to_be_asked o c.state) (comes_over old c) (λ j. at_some (waits_to_be_asked o old) (former_at c.was j)) (λ j low waits. waits_or_comes j waits) in
      let moved = moved_pass n (length old.forest.entries) (λ j. former_at c.was j) (waits_to_be_asked o old) h.may.within h.may.once in
      omega (arith, parts, moved)

  fewer_anew : (from width n : ℕ) → length old.forest.entries ≡ n → IsBase width n old → how_many (length c.forest.entries + width) (is_anew o from c.state) ≤ how_many (n + width) (is_anew o from old)
  fewer_anew from width n entries base =
      let test : Out → Bool = λ q. is_request_whole o q.since && nat_le from q.since in
      let after = lanes_filtered (length c.forest.entries + width) test c.state.out in
      let same = ap (λ os. length (filter test os)) (changed_out old c h) ∙ filter_after test (λ r k. refl) c.was (length c.forest.entries) old.out in
      let before = filtered_lanes (n + width) test old.out base.alone.single base.within in
      omega (arith, after, same, before)

  -- those that wait after a change, where rest come to wait later, and those that are out anew
  pub fewer_over :
      (width n rest : ℕ) → length old.forest.entries ≡ n → IsBase width n old → (from : ℕ) →
      (waiting o (length c.forest.entries) c.state + rest) + how_many (length c.forest.entries + width) (is_anew o from c.state)
      ≤ (waiting o n old + (how_many (length c.forest.entries) (comes_over old c) + rest)) + how_many (n + width) (is_anew o from old)
  fewer_over width n rest entries base from =
      let waits = fewer_waiting in
      let anew = fewer_anew from width n entries base in
      let same = ap (λ m. waiting o m old) entries in
      omega (arith, waits, anew, same)

-- ---- the stages

abbrev pub facts_over : Facts → Changed → ℕ → Facts
facts_over f c k = record f { i = k; n = length c.forest.entries }

module _ (f : Facts) (due : ℕ) (old : WatchState) (c : Changed) (h : IsChanged old c) (k : ℕ) (said : former_at c.was k ≡ Some f.i) where
  pub end_kept : (track_at c.state k).end ≡ (track_at old f.i).end
  end_kept = kept_over old c h (λ (y x : Track). y.end ≡ x.end) (λ x. refl) (λ x. owed_is (λ (y : Track). y.end ≡ x.end) old.clocks.at (untopped_track x) (λ out. refl) (λ free. refl)) f.i k said

  -- its time may come later
  pub going_over : (from : ℕ) → f.time ≤ from → (is_pressed (track_at c.state k) ≡ false → ms (time_of c.state k) ≤ from) → IsGoing f due old → IsGoing (postponed (facts_over f c k) from) due c.state
  going_over from le late going =
      let at = ap (λ (s : WatchState). s.clocks.at) h.state in
      let ahead = going.ahead in
      let by = going.by in
      record {
        base = changed_base old c h f.width f.n going.entries going.base;
        entries = changed_entries old c h;
        time = late;
        end_is = end_kept ∙ going.end_is;
        timely = all_over old c h (λ (q : Out). due ≤ outage_settled_by f.o q.since + f.o.late) (λ r m le. le) going.timely;
        ahead = omega (arith, at, ahead);
        by = omega (arith, at, by, le);
      }

  pub through_over :
      (before after : ℕ) → ((from : ℕ) → after + how_many (length c.forest.entries + f.width) (is_anew f.o from c.state) ≤ before + how_many (f.n + f.width) (is_anew f.o from old)) →
      IsThrough f due before old → IsThrough (facts_over f c k) due after c.state
  through_over before after fewer (inl (inl e)) =
      let less = fewer (suc e.from) in
      let count = e.count in
      let at = ap (λ (s : WatchState). s.clocks.at) h.state in
      inl (inl (record {
        endures = endures_over old c h f.i k said f.o f.end f.time due ⊥ e.endures;
        idle = kept_flag old c h f.i k said ∙ e.idle;
        whole = all_over old c h (λ (q : Out). is_request_whole f.o q.since ≡ true) (λ r m w. w) e.whole;
        r = e.r;
        from = e.from;
        count = omega (arith, less, count);
        fewer = e.fewer;
        base = e.base;
        reach = e.reach;
        over = elim e.over as (λ _. (e.base ≡ f.time) ⊎ (f.o.until ≤ c.state.clocks.at)) [ inl is ↦ inl is | inr past ↦ inr (omega (arith, past, at)) ];
        base_ahead = e.base_ahead;
        base_by = e.base_by;
        start = e.start;
        next = e.next;
      }))
  through_over before after fewer (inl (inr e)) =
      let less = fewer f.o.until in
      let count = e.count in
      inl (inr (record {
        endures = endures_over old c h f.i k said f.o f.end _ due Unit e.endures;
        unserved = served_over old c h f.i k said f.o ∙ e.unserved;
        r = e.r;
        count = omega (arith, less, count);
        fewer = e.fewer;
        room = e.room;
        next = e.next;
      }))
  through_over before after fewer (inr (inl e)) =
      let less = fewer (suc e.from) in
      let count = e.count in
      let at = ap (λ (s : WatchState). s.clocks.at) h.state in
      let now = e.now in
      inr (inl (record {
        endures = endures_over old c h f.i k said f.o f.end _ due Unit e.endures;
        unserved = served_over old c h f.i k said f.o ∙ e.unserved;
        back = all_over old c h (λ (q : Out). f.o.until ≤ q.since) (λ r m le. le) e.back;
        r = e.r;
        from = e.from;
        last = e.last;
        count = omega (arith, less, count);
        fewer = e.fewer;
        room = e.room;
        start = e.start;
        last_ahead = e.last_ahead;
        last_by = e.last_by;
        since = e.since;
        now = omega (arith, now, at);
        next = e.next;
      }))
  through_over before after fewer (inr (inr (inl e))) =
      inr (inr (inl (record {
        served = served_over old c h f.i k said f.o ∙ e.served;
        sent = e.sent;
        whole = named_over (λ (q : Out). (is_request_whole f.o q.since ≡ true) × (q.since ≤ e.sent)) (λ r m so. so) old c h f.i k said e.whole;
        next = e.next;
        last_ahead = e.last_ahead;
        last_by = e.last_by;
      })))
  through_over before after fewer (inr (inr (inr e))) =
      let less = fewer (suc e.from) in
      let count = e.count in
      let at = ap (λ (s : WatchState). s.clocks.at) h.state in
      let over = e.over in
      inr (inr (inr (record {
        endures = endures_over old c h f.i k said f.o f.end f.time due ⊥ e.endures;
        unserved = served_over old c h f.i k said f.o ∙ e.unserved;
        over = omega (arith, over, at);
        soon = e.soon;
        from = e.from;
        count = omega (arith, less, count);
        next = e.next;
      })))
