-- Retrying: after the clock that sets its pause, an entry that failed may be asked again within its longest pause. For the law of retries.
use Rattle.std.proofs.Common.{◌≡◌, ◌⊎◌, ◌∙◌, ℕ, zero, suc, ◌+◌, ◌*◌, ◌<◌, ◌≤◌, Bool, true, false, max, min, ◌&&◌, ◌||◌, ◌==◌, if◌then◌else◌, List, [], ◌∷◌, Option, Some, None, Result, Ok, Err, is_none, length, map, nat_le, refl, sym, ap, subst, arith, inl, inr, true≢false}
use Rattle.std.proofs.lemmas.Bool.{and_from, and_parts, cases_Bool, cases_lt, cond-false, cond-true}
use Rattle.std.specs.List.{list_any}
use Rattle.plan_forest.specs.{declared.entry.Entry.Entry, Forest.Forest, Forest.entry_at}
use Rattle.watch_machine.specs.{declared.command.WatchOutput.WatchOutput, declared.command.WatchRequest.WatchRequest, declared.event.WatchEvent.WatchEvent, declared.event.WatchReply.WatchReply, declared.event.WatchTerms.WatchTerms}
use Rattle.watch_machine.specs.{declared.fault.WatchFault.WatchFault, declared.lanes.LaneAnswer.LaneAnswer, declared.lanes.Out.Out, declared.lanes.Presence.Presence, declared.notes.BeginReason.BeginReason, declared.track.Track.Track}
use Rattle.watch_machine.specs.{declared.track.Try.Try, Clocks.ms, Clocks.sec, Refusal.request_out, Round.asked_by_round as round_of}
use Rattle.watch_machine.specs.declared.event.WatchEvent.TheVariants.{Clock, Looked, Renewed, Known}
use Rattle.watch_machine.specs.declared.event.Operation.TheVariants.{Look, Renew}
use Rattle.watch_machine.specs.declared.event.WatchReply.TheVariants.{Told, Refused, Busy, Lost}
use Rattle.watch_machine.specs.Answers.{answers_all, back_track, lane_freed, noted, replied, silent}
use Rattle.watch_machine.specs.Beginning.{begun, hastened, is_called, is_start, owed, owing, owing_lookup, soon, sooner_try, untopped, untopped_track}
use Rattle.watch_machine.specs.History.{History, Turn, Turned}
use Rattle.watch_machine.specs.Lines.{is_first, later_at, ready, rested}
use Rattle.watch_machine.specs.Looked.{looked, told_state, told_track, untold_track, with_told_try}
use Rattle.watch_machine.specs.Pauses.{cap, cap_of, doubled, left_to, pause}
use Rattle.watch_machine.specs.Press.{asked_track, dropped, is_fresh, let_go, press, pressed, pressed_alone, pressed_track, track_asked_in}
use Rattle.watch_machine.specs.Renewed.{granted_from, renewed_track, state_renewed, ungranted_track}
use Rattle.watch_machine.specs.Sending.{sent, sent_in, sent_track}
use Rattle.watch_machine.specs.Settling.{count_after, held, held_back, held_by, held_try, hold_after, is_real, is_silent, presence_after, settled, settled_track, settled_try, timed}
use Rattle.watch_machine.specs.State.{WatchState, attempt_at, fresh_track, no_track, track_at, track_in}
use Rattle.watch_machine.specs.Step.{Step, StepClock, StepLooked, StepRenewed, known, readied, why}
use Rattle.watch_machine.specs.Wanted.{is_open, least, need_of, wants}
use Rattle.watch_machine.proofs.{Cases.if_both, Cases.not_both, Leasts.least_start}
use Rattle.watch_laws.specs.Failures.{AllKeepLoss}
use Rattle.watch_laws.specs.Waiting.{AllRetried, IsHeldBack, IsSoon, TryFails}
use Rattle.watch_laws.proofs.{Holding.looked_presence, Holding.ready_presence, Minding.some_within, Resting.cap_above}
use Rattle.watch_laws.proofs.Answering.{looked_leaves, renewed_leaves, rest_of}
use Rattle.watch_laws.proofs.Clocking.{begun_some, clock_rises, readied_clocks, refused_stays, sent_by}
use Rattle.watch_laws.proofs.Tracking.{back_kept, each_holds, each_kept, known_is, set_kept}

-- the bounds that every turn keeps: nothing was asked later than now, and nothing is held back while the broker is there
pub record IsPast (s : WatchState) : Type 0 where
  pub start : is_none s.begun ≡ true → s.clocks.at ≡ 0
  pub hold : s.presence.away ≡ false → s.presence.hold ≡ 0
  pub last : (i : ℕ) → rested (track_at s i).last ≤ s.clocks.at + 1000

pub rises : (s : WatchState) (wall elapsed : ℕ) → (is_none s.begun ≡ true → s.clocks.at ≡ 0) → s.clocks.at ≤ (timed s wall elapsed).clocks.at
rises s wall elapsed start =
    elim (cases_Bool (is_none s.begun)) [
      | inl none ↦ (let z = start none in omega (arith, z))
      | inr some ↦ clock_rises s wall elapsed some
    ]

-- a clock's presence
pub held_to : (margin at : ℕ) (xs : List Track) (answers : List LaneAnswer) (p : Presence) →
    ((p.away && list_any is_silent answers ≡ true) × ((n : ℕ) × ((presence_after margin at xs answers p).hold ≤ at + held margin at xs n)))
    ⊎ ((p.away && list_any is_silent answers ≡ false) × ((presence_after margin at xs answers p).hold ≡ p.hold))
unfolding presence_after held_back hold_after
held_to margin at xs answers p =
    let set : Presence = record p { count = count_after at p; hold = hold_after margin at xs p } in
    let test = p.away && list_any is_silent answers in
    elim (cases_Bool test) [
      | inl yes' ↦
          let is = ap (λ (q : Presence). q.hold) (cond-true test set p yes') in
          elim (cases_Bool (nat_le p.hold at)) [
            | inl over ↦
                let there = cond-true (nat_le p.hold at) (at + held margin at xs (count_after at p)) (min p.hold (at + held margin at xs p.count)) over in
                inl (yes', (count_after at p, omega (arith, is, there)))
            | inr stands ↦
                let there = cond-false (nat_le p.hold at) (at + held margin at xs (count_after at p)) (min p.hold (at + held margin at xs p.count)) stands in
                inl (yes', (p.count, omega (arith, is, there)))
          ]
      | inr no' ↦ inr (no', ap (λ (q : Presence). q.hold) (cond-false test set p no'))
    ]

away_same : (margin at : ℕ) (xs : List Track) (answers : List LaneAnswer) (p : Presence) → (presence_after margin at xs answers p).away ≡ p.away
unfolding presence_after held_back
away_same margin at xs answers p = if_both (λ (q : Presence). q.away ≡ p.away) (p.away && list_any is_silent answers) (record p { count = count_after at p; hold = hold_after margin at xs p }) p refl refl

-- nobody is held back for longer than he may wait
least_of : (f : Track → ℕ) (m : ℕ) (xs : List Track) (i : ℕ) → i < length xs → least m (map f xs) ≤ f (track_in xs i)
least_of f m [] i within = absurd (omega (arith, within))
least_of f m (x ∷ xs) zero within = let start = least_start (min m (f x)) (map f xs) in omega (arith, start)
least_of f m (x ∷ xs) (suc i) within = least_of f (min m (f x)) xs i (omega (arith, within))

pub held_least : (margin at : ℕ) (xs : List Track) (n i : ℕ) (t : Try) → i < length xs → (track_in xs i).attempt ≡ Some t → t.pressed ≡ true → held margin at xs n ≤ cap margin at (track_in xs i) t
unfolding held
held_least margin at xs n i t within is pressed' =
    let x = track_in xs i in
    let least' = least_of (held_by margin at) (min 300000 (doubled n)) xs i within in
    let by : held_by margin at x ≡ cap margin at x t = ap (held_try margin at x) is ∙ cond-true t.pressed (cap margin at x t) 300000 pressed' in
    omega (arith, least', by)

-- what a clock makes of the try t of a track that ends so, by at
module _ (at pause' : ℕ) (t : Try) where
  -- a new first try, or that with its pause
  abbrev Comes : Try → Type 0
  Comes u = ((u.at ≤ at + 1000) × (is_first u ≡ true)) ⊎ ((u.lost ≡ t.lost) × ((u.pressed ≡ t.pressed) × (u.at ≤ at + pause')))

  record Retried (x : Track) : Type 0 where
    last : rested x.last ≤ at + 1000
    comes : (u : Try) → x.attempt ≡ Some u → u.pressed ≡ true → Comes u

  abbrev Still : Track → Track → Type 0
  Still y x = Retried x → Retried y

  none_retried : Retried no_track
  none_retried = record { last = omega arith; comes = λ u is. absurd cc }

  same_try : (u v : Try) → Some u ≡ Some v → u ≡ v
  same_try u v is = ap (λ (o : Option Try). elim o [ None ↦ u | Some w ↦ w ]) is

  soon_comes : (x : Track) → rested x.last ≤ at + 1000 → Comes (press at x)
  unfolding press
  soon_comes x last = inl (omega (arith, last), refl)

  pressed_now : (x : Track) → Retried x → Retried (record x { attempt = Some (press at x) })
  pressed_now x h = record { last = h.last; comes = λ u is pressed'. subst Comes (same_try (press at x) u is) (soon_comes x h.last) }

  sooner_comes : (from : ℕ) (o : Option Try) → ((u : Try) → o ≡ Some u → u.pressed ≡ true → Comes u) → (u : Try) → Some (sooner_try from o) ≡ Some u → u.pressed ≡ true → Comes u
  sooner_comes from None h u is pressed' = absurd (true≢false (sym pressed' ∙ ap (λ (v : Try). v.pressed) (sym (same_try (owed from) u is))))
  sooner_comes from (Some v) h u is pressed' =
      let same = same_try (hastened v from) u is in
      subst Comes same
      (elim (h v refl (ap (λ (w : Try). w.pressed) same ∙ pressed')) as (λ _. Comes (hastened v from)) [
        | inl first ↦ (let l = first.0 in inl (omega (arith, l), first.1))
        | inr kept ↦ (let l = kept.1.1 in inr (kept.0, (kept.1.0, omega (arith, l))))
      ])

  owing_retried : (first called : Bool) (x : Track) → Still (owing at first called x) x
  unfolding owing
  owing_retried first called x h =
      if_both Retried (called && (first || is_open (sec at) x)) (owing_lookup at x) x
      (if_both Retried x.out (record x { owes = true }) (record x { owes = true; attempt = Some (sooner_try (soon at x) x.attempt) }) (record { last = h.last; comes = h.comes })
      (record { last = h.last; comes = sooner_comes (soon at x) x.attempt h.comes })) h

  let_go_comes : (x : Track) (v u : Try) → let_go x v ≡ Some u → u.pressed ≡ true → Comes u
  let_go_comes x v u =
      if_both (λ (o : Option Try). o ≡ Some u → u.pressed ≡ true → Comes u) x.owes (Some (record v { at = max v.at (rested x.last); operation = Look; pressed = false })) None
      (λ is pressed'. absurd (true≢false (sym pressed' ∙ ap (λ (w : Try). w.pressed) (sym (same_try (record v { at = max v.at (rested x.last); operation = Look; pressed = false }) u is)))))
      (λ is. absurd cc)

  dropped_comes : (x : Track) (o : Option Try) → ((u : Try) → o ≡ Some u → u.pressed ≡ true → Comes u) → (u : Try) → dropped x o ≡ Some u → u.pressed ≡ true → Comes u
  dropped_comes x None h u = h u
  dropped_comes x (Some v) h u =
      if_both (λ (o : Option Try). o ≡ Some u → u.pressed ≡ true → Comes u) v.pressed (let_go x v) (Some v) (let_go_comes x v u) (h u)

  pressed_retried : (margin : ℕ) (e : Entry) (need : ℕ) (x : Track) → Still (pressed_track margin e need at x) x
  unfolding pressed_track
  pressed_retried margin e need x h =
      if_both Retried (is_fresh margin e x need (sec at)) (record x { attempt = Some (press at x) }) (if wants x need || x.out then x else record x { attempt = dropped x x.attempt }) (pressed_now x h)
      (if_both Retried (wants x need || x.out) x (record x { attempt = dropped x x.attempt }) h (record { last = h.last; comes = dropped_comes x x.attempt h.comes }))

  asked_retried : (round : List ℕ) (i : ℕ) (x : Track) → Still (track_asked_in at round i x) x
  unfolding asked_track
  asked_retried round i x h =
      if_both Retried (list_any (λ j. j == i) round) (asked_track at x) x
      (if_both Retried x.out x (record x { attempt = Some (press at x) }) h (pressed_now x h)) h

  sent_retried : (requests : List WatchRequest) (i : ℕ) (x : Track) → Still (sent_in at requests i x) x
  sent_retried requests i x h = if_both Retried (list_any (λ (r : WatchRequest). r.entry == i) requests) (sent_track at x) x (record { last = omega arith; comes = h.comes }) h

  end_retried : (s : WatchState) (w : Option BeginReason) (round : List ℕ) (requests : List WatchRequest) (i : ℕ) → s.clocks.at ≡ at → Retried (track_at s i) → Retried (track_at (sent (pressed (begun s w) round) requests) i)
  end_retried s w round requests i is h = all w where
    later : (b : WatchState) → b.clocks.at ≡ at → Retried (track_at b i) → Retried (track_at (sent (pressed b round) requests) i)
    later b same k =
        let g = b.forest in
        let c = b.clocks in
        let alone = pressed_alone g c b.tracks in
        let mid = pressed b round in
        let two = each_holds Retried none_retried (λ j. pressed_track g.margin (entry_at g.entries j) (need_of g.entries b.tracks c j) c.at) b.tracks i
        (subst (λ n. Retried (pressed_track g.margin (entry_at g.entries i) (need_of g.entries b.tracks c i) n (track_at b i))) (sym same)
        (pressed_retried g.margin (entry_at g.entries i) (need_of g.entries b.tracks c i) (track_at b i) k)) in
        let three = each_holds Retried none_retried (track_asked_in c.at round) alone i
        (subst (λ n. Retried (track_asked_in n round i (track_in alone i))) (sym same) (asked_retried round i (track_in alone i) two)) in
        each_holds Retried none_retried (sent_in c.at requests) mid.tracks i
        (subst (λ n. Retried (sent_in n requests i (track_at mid i))) (sym same) (sent_retried requests i (track_at mid i) three))

    all : (v : Option BeginReason) → Retried (track_at (sent (pressed (begun s v) round) requests) i)
    all None = later (begun s None) is h
    all (Some v) =
        let xs = untopped s.tracks in
        later (begun s (Some v)) is
        (each_holds Retried none_retried (λ j. owing s.clocks.at (is_start v) (is_called s.forest xs s.clocks j)) xs i
        (subst (λ n. Retried (owing n (is_start v) (is_called s.forest xs s.clocks i) (track_in xs i))) (sym is)
        (owing_retried (is_start v) (is_called s.forest xs s.clocks i) (track_in xs i)
        (each_kept Still (λ k. k) (λ j. untopped_track) s.tracks (λ j x k. record { last = k.last; comes = k.comes }) i h))))

-- the clock sets the pause
settled_retried : (margin at : ℕ) (x : Track) (t : Try) → x.attempt ≡ Some t → t.failed ≡ true → rested x.last ≤ at + 1000 → Retried at (pause margin at x t) t (settled_track margin at x)
unfolding settled_track
settled_retried margin at x t is failed last =
    let u : Try = record t { at = at + pause margin at x t; alone = t.alone && nat_le (rested x.last) at; failed = false } in
    let there : settled_try margin at x x.attempt ≡ Some u = ap (settled_try margin at x) is ∙ cond-true t.failed (Some u) (Some t) failed in
    record {
      last = last;
      comes = λ v some pressed'.
          let same = same_try at (pause margin at x t) t u v (sym there ∙ some) in
          subst (Comes at (pause margin at x t) t) same (inr (refl, (refl, omega arith)));
    }

-- ends stay as they are
abbrev Ends : Track → Track → Type 0
Ends y x = y.end ≡ x.end

owing_ends : (at : ℕ) (first called : Bool) (x : Track) → Ends (owing at first called x) x
unfolding owing
owing_ends at first called x =
    if_both (λ y. Ends y x) (called && (first || is_open (sec at) x)) (owing_lookup at x) x
    (if_both (λ y. Ends y x) x.out (record x { owes = true }) (record x { owes = true; attempt = Some (sooner_try (soon at x) x.attempt) }) refl refl) refl

pressed_ends : (margin : ℕ) (e : Entry) (need at : ℕ) (x : Track) → Ends (pressed_track margin e need at x) x
unfolding pressed_track
pressed_ends margin e need at x =
    if_both (λ y. Ends y x) (is_fresh margin e x need (sec at)) (record x { attempt = Some (press at x) }) (if wants x need || x.out then x else record x { attempt = dropped x x.attempt }) refl
    (if_both (λ y. Ends y x) (wants x need || x.out) x (record x { attempt = dropped x x.attempt }) refl refl)

asked_ends : (at : ℕ) (round : List ℕ) (i : ℕ) (x : Track) → Ends (track_asked_in at round i x) x
unfolding asked_track
asked_ends at round i x =
    if_both (λ y. Ends y x) (list_any (λ j. j == i) round) (asked_track at x) x
    (if_both (λ y. Ends y x) x.out x (record x { attempt = Some (press at x) }) refl refl) refl

settled_ends : (margin at : ℕ) (x : Track) → Ends (settled_track margin at x) x
unfolding settled_track
settled_ends margin at x = refl

begun_ends : (s : WatchState) (w : Option BeginReason) (i : ℕ) → Ends (track_at (begun s w) i) (track_at s i)
begun_ends s None i = refl
begun_ends s (Some w) i =
    let xs = untopped s.tracks in
    each_kept Ends refl (λ j. owing s.clocks.at (is_start w) (is_called s.forest xs s.clocks j)) xs (λ j x. owing_ends s.clocks.at (is_start w) (is_called s.forest xs s.clocks j) x) i
    ∙ each_kept Ends refl (λ j. untopped_track) s.tracks (λ j x. refl) i

end_ends : (s : WatchState) (w : Option BeginReason) (round : List ℕ) (requests : List WatchRequest) (i : ℕ) → Ends (track_at (sent (pressed (begun s w) round) requests) i) (track_at s i)
end_ends s w round requests i =
    let b = begun s w in
    let g = b.forest in
    let c = b.clocks in
    let alone = pressed_alone g c b.tracks in
    let mid = pressed b round in
    each_kept Ends refl (sent_in c.at requests) mid.tracks (λ j x. if_both (λ y. Ends y x) (list_any (λ (r : WatchRequest). r.entry == j) requests) (sent_track c.at x) x refl refl) i
    ∙ each_kept Ends refl (track_asked_in c.at round) alone (asked_ends c.at round) i
    ∙ each_kept Ends refl (λ j. pressed_track g.margin (entry_at g.entries j) (need_of g.entries b.tracks c j) c.at) b.tracks
    (λ j x. pressed_ends g.margin (entry_at g.entries j) (need_of g.entries b.tracks c j) c.at x) i ∙ begun_ends s w i

cap_same : (margin at : ℕ) (y x : Track) (u t : Try) → y.end ≡ x.end → u.lost ≡ t.lost → cap margin at y u ≡ cap margin at x t
unfolding cap
cap_same margin at y x u t end lost =
    ap (λ b. cap_of (ms (2 * margin)) b (left_to at (ms (2 * margin)) y.end b)) lost ∙ ap (λ e. cap_of (ms (2 * margin)) t.lost (left_to at (ms (2 * margin)) e t.lost)) end

cap_second : (margin at : ℕ) (x : Track) (t : Try) → 1000 ≤ cap margin at x t
unfolding cap
cap_second margin at x t = cap_above (ms (2 * margin)) t.lost (left_to at (ms (2 * margin)) x.end t.lost)

pub pause_within : (margin at : ℕ) (x : Track) (t : Try) → pause margin at x t ≤ cap margin at x t
unfolding pause
pause_within margin at x t = omega arith

-- a try may go by a bound of all that holds it back
pub ready_first : (p : Presence) (x : Track) (u : Try) (most : ℕ) → is_first u ≡ true → u.at ≤ most → ready p x u ≤ most
unfolding ready
ready_first p x u most first at =
    let is = cond-true (is_first u) u.at (max p.hold (later_at p.away x u)) first in
    omega (arith, is, at)

pub ready_later : (p : Presence) (x : Track) (u : Try) (most : ℕ) → p.hold ≤ most → u.at ≤ most → ready p x u ≤ most
unfolding ready
ready_later p x u most hold at =
    let later : later_at p.away x u ≤ most = if_both (λ n. n ≤ most) (p.away && u.lost) (min u.at (rested x.last)) u.at (omega (arith, at)) at in
    if_both (λ n. n ≤ most) (is_first u) u.at (max p.hold (later_at p.away x u)) at (omega (arith, hold, later))

-- the try of an entry that failed, by what the clock found
soon_or_held :
    (margin at : ℕ) (xs : List Track) (answers : List LaneAnswer) (p : Presence) (i : ℕ) (y : Track) (t u : Try) → i < length xs → (track_in xs i).attempt ≡ Some t → y.end ≡ (track_in xs i).end →
    u.pressed ≡ true → Comes at (pause margin at (track_in xs i) t) t u → (p.away ≡ false → p.hold ≡ 0) →
    (ready (presence_after margin at xs answers p) y u ≤ at + cap margin at y u)
    ⊎ ((list_any is_silent answers ≡ false) × (ready (presence_after margin at xs answers p) y u ≤ p.hold))
soon_or_held margin at xs answers p i y t u within is end pressed' comes hold =
    let q = presence_after margin at xs answers p in
    let x = track_in xs i in
    let second' = cap_second margin at y u in
    elim comes as (λ _. (ready q y u ≤ at + cap margin at y u) ⊎ ((list_any is_silent answers ≡ false) × (ready q y u ≤ p.hold))) [
      | inl first ↦ (let l = first.0 in inl (ready_first q y u (at + cap margin at y u) first.1 (omega (arith, l, second'))))
      | inr kept ↦
          let most = cap_same margin at y x u t end kept.0 in
          let paused = pause_within margin at x t in
          let l = kept.1.1 in
          elim (held_to margin at xs answers p) as (λ _. (ready q y u ≤ at + cap margin at y u) ⊎ ((list_any is_silent answers ≡ false) × (ready q y u ≤ p.hold))) [
            | inl sets ↦
                let less = held_least margin at xs sets.1.0 i t within is (sym kept.1.0 ∙ pressed') in
                let h = sets.1.1 in
                inl (ready_later q y u (at + cap margin at y u) (omega (arith, h, less, most)) (omega (arith, l, paused, most)))
            | inr stays ↦
                let h = stays.1 in
                elim (cases_lt (at + cap margin at y u) p.hold) as (λ _. (ready q y u ≤ at + cap margin at y u) ⊎ ((list_any is_silent answers ≡ false) × (ready q y u ≤ p.hold))) [
                  | inl longer ↦
                      elim (cases_Bool (list_any is_silent answers)) as (λ _. (ready q y u ≤ at + cap margin at y u) ⊎ ((list_any is_silent answers ≡ false) × (ready q y u ≤ p.hold))) [
                        | inl silent' ↦
                            elim (cases_Bool p.away) as (λ _. (ready q y u ≤ at + cap margin at y u) ⊎ ((list_any is_silent answers ≡ false) × (ready q y u ≤ p.hold))) [
                              | inl away ↦ absurd (not_both (and_from p.away (list_any is_silent answers) away silent') stays.0)
                              | inr there ↦ (let none = hold there in absurd (omega (arith, none, longer)))
                            ]
                        | inr quiet ↦ inr (quiet, ready_later q y u p.hold (omega (arith, h)) (omega (arith, l, paused, most, longer)))
                      ]
                  | inr shorter ↦ inl (ready_later q y u (at + cap margin at y u) (omega (arith, h, shorter)) (omega (arith, l, paused, most)))
                ]
          ]
    ]

begun_forest : (s : WatchState) (w : Option BeginReason) → (begun s w).forest ≡ s.forest
begun_forest s None = refl
begun_forest s (Some w) = refl

readied_retried :
    (old : WatchState) (wall elapsed : ℕ) (round : List ℕ) (requests : List WatchRequest) (i : ℕ) (t : Try) → attempt_at old i ≡ Some t → t.failed ≡ true → IsPast old →
    Retried (timed old wall elapsed).clocks.at (pause old.forest.margin (timed old wall elapsed).clocks.at (track_at old i) t) t (track_at (sent (pressed (readied old wall elapsed) round) requests) i)
    × (Ends (track_at (sent (pressed (readied old wall elapsed) round) requests) i) (track_at old i) × ((readied old wall elapsed).forest ≡ old.forest))
unfolding readied
readied_retried old wall elapsed round requests i t is failed past =
    let s = timed old wall elapsed in
    let at = s.clocks.at in
    let up = rises old wall elapsed past.start in
    let low = past.last i in
    let first = settled_retried old.forest.margin at (track_at old i) t is failed (omega (arith, up, low)) in
    let n = pause old.forest.margin at (track_at old i) t in (
      end_retried at n t (settled s) (why old wall elapsed) round requests i refl
          (each_holds (Retried at n t) (none_retried at n t) (λ j. settled_track s.forest.margin at) s.tracks i first),
      (
        end_ends (settled s) (why old wall elapsed) round requests i ∙ each_kept Ends refl (λ j. settled_track s.forest.margin at) s.tracks (λ j x. settled_ends s.forest.margin at x) i,
        begun_forest (settled s) (why old wall elapsed),
      ),
    )

clock_retries :
    (old new : WatchState) (wall elapsed : ℕ) (output : WatchOutput) (i : ℕ) (t u : Try) → StepClock old wall elapsed output new → IsPast old → attempt_at old i ≡ Some t → t.failed ≡ true →
    attempt_at new i ≡ Some u → u.pressed ≡ true → IsSoon new i u ⊎ IsHeldBack old new i u
clock_retries old new wall elapsed output i t u step past is failed after pressed' =
    let ready' = readied old wall elapsed in
    let go = sent_by (pressed ready' (round_of step.round)) new output.command step.command in
    let n = sent (pressed ready' (round_of step.round)) go.0 in
    let at = (timed old wall elapsed).clocks.at in
    let three = readied_retried old wall elapsed (round_of step.round) go.0 i t is failed past in
    let there : attempt_at n i ≡ Some u = ap (λ (x : WatchState). attempt_at x i) (sym go.1) ∙ after in
    let all = soon_or_held old.forest.margin at old.tracks old.answers old.presence i (track_at n i) t u (some_within old.tracks i t is) is three.1.0 pressed' (three.0.comes u there pressed')
    past.hold in
    subst (λ (x : WatchState). IsSoon x i u ⊎ IsHeldBack old x i u) (sym go.1)
    (subst (λ (g : Forest). (ready n.presence (track_at n i) u ≤ n.clocks.at + cap g.margin n.clocks.at (track_at n i) u) ⊎ IsHeldBack old n i u) (sym three.1.1)
    (subst (λ c. (ready n.presence (track_at n i) u ≤ c.at + cap old.forest.margin c.at (track_at n i) u) ⊎ IsHeldBack old n i u) (sym (readied_clocks old wall elapsed))
    (subst (λ p. (ready p (track_at n i) u ≤ at + cap old.forest.margin at (track_at n i) u) ⊎ ((list_any is_silent old.answers ≡ false) × (ready p (track_at n i) u ≤ old.presence.hold)))
    (sym (ready_presence old wall elapsed)) all)))

turn_retries : (old new : WatchState) (event : WatchEvent) (result : Result WatchOutput WatchFault) (i : ℕ) (t u : Try) → Turn old event result new → IsPast old → TryFails old (record { event = event; result = result; state = new }) i t u → IsSoon new i u ⊎ IsHeldBack old new i u
turn_retries old new (Clock wall elapsed) (Ok output) i t u turn past h = clock_retries old new wall elapsed output i t u turn.1 past h.before h.failed h.after h.pressed
turn_retries old new event (Err fault) i t u turn past h = absurd (let e = h.taken in cc)
turn_retries old new _ (Ok output) i t u turn past h = absurd (let e = h.clock in cc)

-- nothing was asked later than now
module _ (most : ℕ) where
  abbrev Asked : Track → Track → Type 0
  Asked y x = rested x.last ≤ most → rested y.last ≤ most

  owing_asked : (at : ℕ) (first called : Bool) (x : Track) → Asked (owing at first called x) x
  unfolding owing
  owing_asked at first called x h =
      if_both (λ (y : Track). rested y.last ≤ most) (called && (first || is_open (sec at) x)) (owing_lookup at x) x
      (if_both (λ (y : Track). rested y.last ≤ most) x.out (record x { owes = true }) (record x { owes = true; attempt = Some (sooner_try (soon at x) x.attempt) }) h h) h

  pressed_asked : (margin : ℕ) (e : Entry) (need at : ℕ) (x : Track) → Asked (pressed_track margin e need at x) x
  unfolding pressed_track
  pressed_asked margin e need at x h =
      if_both (λ (y : Track). rested y.last ≤ most) (is_fresh margin e x need (sec at)) (record x { attempt = Some (press at x) }) (if wants x need || x.out then x else record x { attempt = dropped x x.attempt }) h
      (if_both (λ (y : Track). rested y.last ≤ most) (wants x need || x.out) x (record x { attempt = dropped x x.attempt }) h h)

  asked_asked : (at : ℕ) (round : List ℕ) (i : ℕ) (x : Track) → Asked (track_asked_in at round i x) x
  unfolding asked_track
  asked_asked at round i x h =
      if_both (λ (y : Track). rested y.last ≤ most) (list_any (λ j. j == i) round) (asked_track at x) x
      (if_both (λ (y : Track). rested y.last ≤ most) x.out x (record x { attempt = Some (press at x) }) h h) h

  settled_asked : (margin at : ℕ) (x : Track) → Asked (settled_track margin at x) x
  unfolding settled_track
  settled_asked margin at x h = h

  begun_asked : (s : WatchState) (w : Option BeginReason) (i : ℕ) → Asked (track_at (begun s w) i) (track_at s i)
  begun_asked s None i h = h
  begun_asked s (Some w) i h =
      let xs = untopped s.tracks in
      each_kept Asked (λ k. k) (λ j. owing s.clocks.at (is_start w) (is_called s.forest xs s.clocks j)) xs (λ j x. owing_asked s.clocks.at (is_start w) (is_called s.forest xs s.clocks j) x) i
      (each_kept Asked (λ k. k) (λ j. untopped_track) s.tracks (λ j x k. k) i h)

  readied_asked : (s : WatchState) (wall elapsed i : ℕ) → Asked (track_at (readied s wall elapsed) i) (track_at s i)
  unfolding readied
  readied_asked s wall elapsed i h =
      let t = timed s wall elapsed in
      begun_asked (settled t) (why s wall elapsed) i (each_kept Asked (λ k. k) (λ j. settled_track t.forest.margin t.clocks.at) s.tracks (λ j x. settled_asked t.forest.margin t.clocks.at x) i h)

  end_asked : (s : WatchState) (round : List ℕ) (requests : List WatchRequest) (i : ℕ) → s.clocks.at + 1000 ≤ most → Asked (track_at (sent (pressed s round) requests) i) (track_at s i)
  end_asked s round requests i now h =
      let c = s.clocks in
      let g = s.forest in
      let alone = pressed_alone g c s.tracks in
      let mid = pressed s round in
      each_kept Asked (λ k. k) (sent_in c.at requests) mid.tracks
      (λ j x k. if_both (λ (y : Track). rested y.last ≤ most) (list_any (λ (r : WatchRequest). r.entry == j) requests) (sent_track c.at x) x now k) i
      (each_kept Asked (λ k. k) (track_asked_in c.at round) alone (asked_asked c.at round) i
      (each_kept Asked (λ k. k) (λ j. pressed_track g.margin (entry_at g.entries j) (need_of g.entries s.tracks c j) c.at) s.tracks
      (λ j x. pressed_asked g.margin (entry_at g.entries j) (need_of g.entries s.tracks c j) c.at x) i h))

-- a clock keeps the bounds
held_none : (margin at : ℕ) (xs : List Track) (answers : List LaneAnswer) (p : Presence) → (p.away ≡ false → p.hold ≡ 0) → (presence_after margin at xs answers p).away ≡ false → (presence_after margin at xs answers p).hold ≡ 0
held_none margin at xs answers p h there =
    let away : p.away ≡ false = sym (away_same margin at xs answers p) ∙ there in
    elim (held_to margin at xs answers p) [
      | inl sets ↦ absurd (not_both (and_parts p.away (list_any is_silent answers) sets.0).0 away)
      | inr stays ↦ stays.1 ∙ h away
    ]

clock_past : (old new : WatchState) (wall elapsed : ℕ) (output : WatchOutput) → StepClock old wall elapsed output new → IsPast old → IsPast new
clock_past old new wall elapsed output step past =
    let ready' = readied old wall elapsed in
    let go = sent_by (pressed ready' (round_of step.round)) new output.command step.command in
    let at = (timed old wall elapsed).clocks.at in
    let up = rises old wall elapsed past.start in
    let clock : new.clocks.at ≡ at = ap (λ (x : WatchState). x.clocks.at) go.1 ∙ ap (λ c. c.at) (readied_clocks old wall elapsed) in
    let presence : new.presence ≡ presence_after old.forest.margin at old.tracks old.answers old.presence = ap (λ (x : WatchState). x.presence) go.1 ∙ ready_presence old wall elapsed in
    record {
      start = λ none. absurd (not_both none (ap (λ (x : WatchState). is_none x.begun) go.1 ∙ begun_some old wall elapsed));
      hold = λ there. ap (λ (p : Presence). p.hold) presence ∙ held_none old.forest.margin at old.tracks old.answers old.presence past.hold (sym (ap (λ (p : Presence). p.away) presence) ∙ there);
      last = λ i.
          let l = past.last i in
          let same = ap (λ c. c.at) (readied_clocks old wall elapsed) in
          let all = end_asked (at + 1000) ready' (round_of step.round) go.0 i (omega (arith, same)) (readied_asked (at + 1000) old wall elapsed i (omega (arith, up, l))) in
          let is = ap (λ (x : WatchState). rested (track_at x i).last) go.1 in
          omega (arith, all, is, clock);
    }

-- and so does every other event
abbrev SameLast : Track → Track → Type 0
SameLast y x = y.last ≡ x.last

back_last : (x : Track) → SameLast (back_track x) x
unfolding back_track
back_last x = refl

replied_hold : (s : WatchState) (q : Out) (reply : WatchReply) → (s.presence.away ≡ false → s.presence.hold ≡ 0) → (replied s q reply).presence.away ≡ false → (replied s q reply).presence.hold ≡ 0
replied_hold s q reply h =
    let free = lane_freed s q in
    if_both (λ (t : WatchState). t.presence.away ≡ false → t.presence.hold ≡ 0) (is_real reply) (answers_all free) (if q.heard then free else silent free)
    (if_both (λ (t : WatchState). t.presence.away ≡ false → t.presence.hold ≡ 0) s.presence.away _ _ (λ there. refl) h)
    (if_both (λ (t : WatchState). t.presence.away ≡ false → t.presence.hold ≡ 0) q.heard free (silent free) h
    (if_both (λ (t : WatchState). t.presence.away ≡ false → t.presence.hold ≡ 0) s.presence.away _ _ h (λ there. refl)))

left_past : (old new : WatchState) → rest_of new ≡ rest_of old → (new.presence.away ≡ false → new.presence.hold ≡ 0) → ((i : ℕ) → SameLast (track_at new i) (track_at old i)) → IsPast old → IsPast new
left_past old new rest hold last past =
    let clock = ap (λ (x : WatchState). x.clocks.at) rest in record {
      start = λ none. clock ∙ past.start (sym (ap (λ (x : WatchState). is_none x.begun) rest) ∙ none);
      hold = hold;
      last = λ i. let l = past.last i in let e = ap rested (last i) in omega (arith, l, e, clock);
    }

told_last : (since seconds : ℕ) (renewable endless : Bool) (x : Track) → SameLast (told_track since seconds renewable endless x) x
unfolding told_track
told_last since seconds renewable endless x = refl

untold_last : (at : ℕ) (heard : Bool) (reply : WatchReply) (x : Track) → SameLast (untold_track at heard reply x) x
unfolding untold_track
untold_last at heard reply x = refl

state_last : (s : WatchState) (i since seconds : ℕ) (renewable : Bool) (terms : WatchTerms) (j : ℕ) → SameLast (track_at (told_state s i since seconds renewable terms) j) (track_at s j)
state_last s i since seconds renewable terms j = set_kept SameLast (λ x. refl) s.tracks i _ (told_last since seconds renewable terms.endless (track_at s i)) j

by_last : (s : WatchState) (i j : ℕ) → SameLast (track_at (with_told_try s i) j) (track_at s j)
by_last s i j = set_kept SameLast (λ x. refl) s.tracks i _ refl j

looked_last : (s : WatchState) (q : Out) (reply : WatchReply) (terms : WatchTerms) (i : ℕ) → SameLast (track_at (looked s q reply terms) i) (track_at s i)
looked_last s q (Told seconds renewable date) terms i =
    by_last (told_state s q.entry q.since seconds renewable terms) q.entry i ∙ state_last s q.entry q.since seconds renewable terms i
looked_last s q (Refused status date) terms i = set_kept SameLast (λ x. refl) s.tracks q.entry _ (untold_last s.clocks.at q.heard (Refused status date) (track_at s q.entry)) i
looked_last s q Busy terms i = set_kept SameLast (λ x. refl) s.tracks q.entry _ (untold_last s.clocks.at q.heard Busy (track_at s q.entry)) i
looked_last s q Lost terms i = set_kept SameLast (λ x. refl) s.tracks q.entry _ (untold_last s.clocks.at q.heard Lost (track_at s q.entry)) i

renewed_last : (s : WatchState) (q : Out) (reply : WatchReply) (i : ℕ) → SameLast (track_at (state_renewed s q reply) i) (track_at s i)
unfolding renewed_track granted_from ungranted_track
renewed_last s q (Told seconds renewable date) i = set_kept SameLast (λ x. refl) s.tracks q.entry _ refl i
renewed_last s q _ i = set_kept SameLast (λ x. refl) s.tracks q.entry _ refl i

answer_past : (old mid new : WatchState) (q : Out) (reply : WatchReply) → new ≡ replied mid q reply → rest_of new ≡ rest_of old → mid.presence ≡ old.presence → ((i : ℕ) → SameLast (track_at mid i) (track_at old i)) → IsPast old → IsPast new
answer_past old mid new q reply is rest presence last past =
    left_past old new rest
    (subst (λ (x : WatchState). x.presence.away ≡ false → x.presence.hold ≡ 0) (sym is)
    (replied_hold mid q reply (subst (λ (p : Presence). p.away ≡ false → p.hold ≡ 0) (sym presence) past.hold)))
    (λ i. subst (λ (x : WatchState). SameLast (track_at x i) (track_at mid i)) (sym is) (back_kept SameLast (λ x. refl) (λ x. back_last x) mid q reply i) ∙ last i) past

looked_past : (old new : WatchState) (found : Option Out) (reply : WatchReply) (terms : WatchTerms) (output : WatchOutput) → StepLooked old found reply terms output new → IsPast old → IsPast new
looked_past old new None reply terms output step past = absurd step
looked_past old new (Some q) reply terms output step past =
    let s = noted old q reply in
    answer_past old (looked s q reply terms) new q reply step.1 (ap rest_of step.1 ∙ looked_leaves old q reply terms) (looked_presence s q reply terms) (λ i. looked_last s q reply terms i) past

renewed_past : (old new : WatchState) (found : Option Out) (reply : WatchReply) (output : WatchOutput) → StepRenewed old found reply output new → IsPast old → IsPast new
renewed_past old new None reply output step past = absurd step
renewed_past old new (Some q) reply output step past =
    let s = noted old q reply in
    answer_past old (state_renewed s q reply) new q reply step.1 (ap rest_of step.1 ∙ renewed_leaves old q reply) refl (λ i. renewed_last s q reply i) past

known_last : (s : WatchState) (j end : ℕ) (renewable : Bool) (i : ℕ) → SameLast (track_at (known s j end renewable) i) (track_at s i)
known_last s j end renewable i =
    let x = track_at s j in
    set_kept SameLast (λ y. refl) s.tracks j _ (known_is (λ y. SameLast y x) s.clocks.at end renewable x refl (λ out. refl) (λ free. refl)) i

step_past : (old new : WatchState) (event : WatchEvent) (output : WatchOutput) → Step old event output new → IsPast old → IsPast new
step_past old new (Clock wall elapsed) output step past = clock_past old new wall elapsed output step past
step_past old new (Looked j reply terms) output step past = looked_past old new (request_out old.out j Look) reply terms output step past
step_past old new (Renewed j reply) output step past = renewed_past old new (request_out old.out j Renew) reply output step past
step_past old new (Known j end renewable) output step past =
    subst IsPast (sym step.1) (record {
      start = past.start;
      hold = past.hold;
      last = λ i. let l = past.last i in let e = ap rested (known_last old j end renewable i) in omega (arith, l, e);
    })
step_past old new _ output step past = subst IsPast (sym step.1) (record { start = past.start; hold = past.hold; last = past.last })

pub turn_past : (old new : WatchState) (event : WatchEvent) (result : Result WatchOutput WatchFault) → Turn old event result new → IsPast old → IsPast new
turn_past old new event (Ok output) turn past = step_past old new event output turn.1 past
turn_past old new event (Err fault) turn past = subst IsPast (sym (refused_stays old new event fault turn)) past

pub ran_retried : (turns : List Turned) (old : WatchState) → History old turns → IsPast old → AllRetried old turns
ran_retried [] old h past = tt
ran_retried (turn ∷ turns) old h past = (
  (λ i t u fails. turn_retries old turn.state turn.event turn.result i t u h.0 past fails),
  ran_retried turns turn.state h.1 (turn_past old turn.state turn.event turn.result h.0 past),
)

pub first_past : (es : List Entry) (i : ℕ) → rested (track_in (map fresh_track es) i).last ≤ 1000
first_past [] i = omega arith
first_past (e ∷ es) zero = omega arith
first_past (e ∷ es) (suc i) = first_past es i

-- and the clock leaves it as lost as it was, unless it is pressed anew. For the law of failures
clock_keeps :
    (old new : WatchState) (wall elapsed : ℕ) (output : WatchOutput) (i : ℕ) (t u : Try) → StepClock old wall elapsed output new → IsPast old → attempt_at old i ≡ Some t → t.failed ≡ true →
    attempt_at new i ≡ Some u → u.pressed ≡ true → (u.lost ≡ t.lost) ⊎ (u.at ≤ new.clocks.at + 1000)
clock_keeps old new wall elapsed output i t u step past is failed after pressed' =
    let ready' = readied old wall elapsed in
    let go = sent_by (pressed ready' (round_of step.round)) new output.command step.command in
    let n = sent (pressed ready' (round_of step.round)) go.0 in
    let three = readied_retried old wall elapsed (round_of step.round) go.0 i t is failed past in
    let clock : new.clocks.at ≡ (timed old wall elapsed).clocks.at = ap (λ (x : WatchState). x.clocks.at) go.1 ∙ ap (λ c. c.at) (readied_clocks old wall elapsed) in
    let there : attempt_at n i ≡ Some u = ap (λ (x : WatchState). attempt_at x i) (sym go.1) ∙ after in
    elim (three.0.comes u there pressed') as (λ _. (u.lost ≡ t.lost) ⊎ (u.at ≤ new.clocks.at + 1000)) [
      | inl first ↦ (let l = first.0 in inr (omega (arith, l, clock)))
      | inr kept ↦ inl kept.0
    ]

turn_keeps :
    (old new : WatchState) (event : WatchEvent) (result : Result WatchOutput WatchFault) (i : ℕ) (t u : Try) → Turn old event result new → IsPast old →
    TryFails old (record { event = event; result = result; state = new }) i t u → (u.lost ≡ t.lost) ⊎ (u.at ≤ new.clocks.at + 1000)
turn_keeps old new (Clock wall elapsed) (Ok output) i t u turn past h = clock_keeps old new wall elapsed output i t u turn.1 past h.before h.failed h.after h.pressed
turn_keeps old new event (Err fault) i t u turn past h = absurd (let e = h.taken in cc)
turn_keeps old new _ (Ok output) i t u turn past h = absurd (let e = h.clock in cc)

pub ran_lost : (turns : List Turned) (old : WatchState) → History old turns → IsPast old → AllKeepLoss old turns
ran_lost [] old h past = tt
ran_lost (turn ∷ turns) old h past = (
  (λ i t u fails. turn_keeps old turn.state turn.event turn.result i t u h.0 past fails),
  ran_lost turns turn.state h.1 (turn_past old turn.state turn.event turn.result h.0 past),
)
