-- Holds: how long a clock holds tries back. For the law of the hold.
use Rattle.std.proofs.Common.{◌≡◌, ◌⊎◌, ◌∙◌, ℕ, suc, ◌+◌, ◌<◌, ◌≤◌, Bool, true, false, ◌&&◌, if◌then◌else◌, List, [], ◌∷◌, Option, Some, None, Result, Ok, Err, length, map, min, nat_le, refl, sym, ap, subst, arith, inl, inr, true≢false}
use Rattle.std.proofs.lemmas.Bool.Decides.{nat_tests}
use Rattle.std.proofs.lemmas.Bool.{and_from, cond-false, cond-true}
use Rattle.std.specs.List.{list_any}
use Rattle.watch_machine.specs.{declared.command.WatchOutput.WatchOutput, declared.event.WatchEvent.WatchEvent, declared.event.WatchReply.WatchReply, declared.event.WatchTerms.WatchTerms, declared.fault.WatchFault.WatchFault}
use Rattle.watch_machine.specs.{declared.lanes.LaneAnswer.LaneAnswer, declared.lanes.Out.Out, declared.lanes.Presence.Presence, declared.track.Track.Track, declared.track.Try.Try, History.Turn, Looked.looked, Pauses.cap, Pauses.doubled}
use Rattle.watch_machine.specs.{Press.pressed, Refusal.request_out, Renewed.state_renewed, Round.asked_by_round, Wanted.least}
use Rattle.watch_machine.specs.declared.event.WatchEvent.TheVariants.{Clock, Looked, Renewed, Need, Begin, Known}
use Rattle.watch_machine.specs.declared.event.Operation.TheVariants.{Look, Renew}
use Rattle.watch_machine.specs.Answers.{answers_all, lane_freed, noted, replied, silent}
use Rattle.watch_machine.specs.Settling.{count_after, held, held_back, held_by, held_try, hold_after, is_real, is_silent, presence_after, timed}
use Rattle.watch_machine.specs.State.{WatchState, attempt_at, track_at, track_in}
use Rattle.watch_machine.specs.Step.{Step, StepClock, StepLooked, StepRenewed, readied}
use Rattle.watch_machine.proofs.Leasts.{least_start}
use Rattle.watch_machine.proofs.Cases.{if_both, if_cases, not_both}
use Rattle.watch_laws.specs.Absence.{is_clock, is_event_taken}
use Rattle.watch_laws.specs.Holds.{HoldEnds, HoldLaw, HoldStays, HoldsAnew, HoldsOn, IsHold}
use Rattle.watch_laws.proofs.{Bases.reached_base, Holding.looked_presence, Holding.ready_presence, Retrying.held_least}
use Rattle.watch_laws.proofs.Clocking.{readied_clocks, refused_stays, sent_by}

-- how long it is
least_most : (f : Track → ℕ) (n m : ℕ) (xs : List Track) → m ≤ n → ((i : ℕ) → i < length xs → m ≤ f (track_in xs i)) → m ≤ least n (map f xs)
least_most f n m [] low all = low
least_most f n m (x ∷ xs) low all =
    let here = all 0 (omega arith) in
    least_most f (min n (f x)) m xs (omega (arith, low, here)) (λ i within. all (suc i) (omega (arith, within)))

waits_more : (margin at m : ℕ) (x : Track) (o : Option Try) → m ≤ 300000 → ((t : Try) → o ≡ Some t → t.pressed ≡ true → m ≤ cap margin at x t) → m ≤ held_try margin at x o
waits_more margin at m x None low all = low
waits_more margin at m x (Some t) low all = by t.pressed refl where
  by : (b : Bool) → t.pressed ≡ b → m ≤ (if b then cap margin at x t else 300000)
  by true is = all t refl is
  by false is = low

held_hold : (s : WatchState) (at n : ℕ) → IsHold s at n (held s.forest.margin at s.tracks n)
unfolding held
held_hold s at n =
    let margin = s.forest.margin in
    let most = least_start (min 300000 (doubled n)) (map (held_by margin at) s.tracks) in
    record {
      doubled = omega (arith, most);
      most = omega (arith, most);
      pressed = λ i t within is pressed'. held_least margin at s.tracks n i t within is pressed';
      longest = λ other low few all.
          least_most (held_by margin at) (min 300000 (doubled n)) other s.tracks (omega (arith, low, few))
          (λ i within. waits_more margin at other (track_at s i) (attempt_at s i) few (λ t is pressed'. all i t within is pressed'));
    }

-- a clock
module _ (margin at : ℕ) (xs : List Track) (answers : List LaneAnswer) (p : Presence) where
  abbrev q : Presence
  q = presence_after margin at xs answers p

  abbrev set : Presence
  set = record p { count = count_after at p; hold = hold_after margin at xs p }

  anew : p.away ≡ true → list_any is_silent answers ≡ true → p.hold ≤ at → (q.count ≡ min 20 (p.count + 1)) × (q.hold ≡ at + held margin at xs (min 20 (p.count + 1)))
  unfolding presence_after held_back hold_after
  anew away silent' over =
      let is = cond-true (p.away && list_any is_silent answers) set p (and_from p.away (list_any is_silent answers) away silent') in
      let past : nat_le p.hold at ≡ true = grind (arith, nat_tests, over) in
      let count : count_after at p ≡ min 20 (p.count + 1) = cond-true (nat_le p.hold at) (min 20 (p.count + 1)) p.count past in (
        ap (λ (x : Presence). x.count) is ∙ count,
        ap (λ (x : Presence). x.hold) is ∙ cond-true (nat_le p.hold at) (at + held margin at xs (count_after at p)) (min p.hold (at + held margin at xs p.count)) past ∙ ap (λ n. at + held margin at xs n) count,
      )

  on : p.away ≡ true → list_any is_silent answers ≡ true → at < p.hold → (q.count ≡ p.count) × (q.hold ≡ min p.hold (at + held margin at xs p.count))
  unfolding presence_after held_back hold_after
  on away silent' stands =
      let is = cond-true (p.away && list_any is_silent answers) set p (and_from p.away (list_any is_silent answers) away silent') in
      let past : nat_le p.hold at ≡ false = grind (arith, nat_tests, stands) in (
        ap (λ (x : Presence). x.count) is ∙ cond-false (nat_le p.hold at) (min 20 (p.count + 1)) p.count past,
        ap (λ (x : Presence). x.hold) is ∙ cond-false (nat_le p.hold at) (at + held margin at xs (count_after at p)) (min p.hold (at + held margin at xs p.count)) past,
      )

  other : p.away && list_any is_silent answers ≡ false → (q.count ≡ p.count) × (q.hold ≡ p.hold)
  unfolding presence_after held_back
  other none = let is = cond-false (p.away && list_any is_silent answers) set p none in (ap (λ (x : Presence). x.count) is, ap (λ (x : Presence). x.hold) is)

  away_is : q.away ≡ p.away
  unfolding presence_after held_back
  away_is = if_both (λ (x : Presence). x.away ≡ p.away) (p.away && list_any is_silent answers) set p refl refl

-- the clock and the presence after a turn that is one
record Clocked (old new : WatchState) : Type 0 where
  presence : new.presence ≡ presence_after old.forest.margin new.clocks.at old.tracks old.answers old.presence

step_clocked : (old new : WatchState) (wall elapsed : ℕ) (output : WatchOutput) → StepClock old wall elapsed output new → Clocked old new
step_clocked old new wall elapsed output step =
    let go = sent_by (pressed (readied old wall elapsed) (asked_by_round step.round)) new output.command step.command in
    let at : new.clocks.at ≡ (timed old wall elapsed).clocks.at = ap (λ (x : WatchState). x.clocks.at) go.1 ∙ ap (λ c. c.at) (readied_clocks old wall elapsed) in
    record { presence = ap (λ (x : WatchState). x.presence) go.1 ∙ ready_presence old wall elapsed ∙ ap (λ n. presence_after old.forest.margin n old.tracks old.answers old.presence) (sym at) }

turn_clocked : (old new : WatchState) (event : WatchEvent) (result : Result WatchOutput WatchFault) (wall elapsed : ℕ) → Turn old event result new → event ≡ Clock wall elapsed → is_event_taken result ≡ true → Clocked old new
turn_clocked old new event (Ok output) wall elapsed turn is taken' = step_clocked old new wall elapsed output (subst (λ e. Step old e output new) is turn.1)
turn_clocked old new event (Err fault) wall elapsed turn is taken' = absurd (true≢false (sym taken'))

holds_anew : (old new : WatchState) → Clocked old new → old.presence.away ≡ true → list_any is_silent old.answers ≡ true → old.presence.hold ≤ new.clocks.at → HoldsAnew old new
holds_anew old new h away silent' over =
    let at = new.clocks.at in
    let n = min 20 (old.presence.count + 1) in
    let is = anew old.forest.margin at old.tracks old.answers old.presence away silent' over in
    let count : new.presence.count ≡ n = ap (λ (p : Presence). p.count) h.presence ∙ is.0 in
    record { count = count; long = held old.forest.margin at old.tracks n; is_hold = subst (λ k. IsHold old at k (held old.forest.margin at old.tracks n)) (sym count) (held_hold old at n); hold = ap (λ (p : Presence). p.hold) h.presence ∙ is.1 }

holds_on : (old new : WatchState) → Clocked old new → old.presence.away ≡ true → list_any is_silent old.answers ≡ true → new.clocks.at < old.presence.hold → HoldsOn old new
holds_on old new h away silent' stands =
    let at = new.clocks.at in
    let n = old.presence.count in
    let is = on old.forest.margin at old.tracks old.answers old.presence away silent' stands in
    let count : new.presence.count ≡ n = ap (λ (p : Presence). p.count) h.presence ∙ is.0 in
    record { count = count; long = held old.forest.margin at old.tracks n; is_hold = subst (λ k. IsHold old at k (held old.forest.margin at old.tracks n)) (sym count) (held_hold old at n); hold = ap (λ (p : Presence). p.hold) h.presence ∙ is.1 }

hold_stays : (old new : WatchState) → Clocked old new → old.presence.away && list_any is_silent old.answers ≡ false → HoldStays old new
hold_stays old new h none =
    let is = other old.forest.margin new.clocks.at old.tracks old.answers old.presence none in
    record { count = ap (λ (p : Presence). p.count) h.presence ∙ is.0; hold = ap (λ (p : Presence). p.hold) h.presence ∙ is.1 }

-- what any other event leaves: all of it, or nothing where the broker goes or comes
abbrev Leaves : Presence → Presence → Type 0
Leaves old new = ((new.away ≡ old.away) × ((new.count ≡ old.count) × (new.hold ≡ old.hold))) ⊎ ((new.away ≡ old.away → ⊥) × ((new.count ≡ 0) × (new.hold ≡ 0)))

replied_leaves : (s : WatchState) (q : Out) (reply : WatchReply) → Leaves s.presence (replied s q reply).presence
replied_leaves s q reply =
    let free = lane_freed s q in
    let P : WatchState → Type 0 = λ t. Leaves s.presence t.presence in
    if_both P (is_real reply) (answers_all free) (if q.heard then free else silent free)
    (if_cases P s.presence.away _ _ (λ e. inr ((λ same. not_both e (sym same)), (refl, refl))) (λ e. inl (refl, (refl, refl))))
    (if_both P q.heard free (silent free) (inl (refl, (refl, refl)))
    (if_cases P s.presence.away _ _ (λ e. inl (refl, (refl, refl))) (λ e. inr ((λ same. not_both (sym same) e), (refl, refl)))))

looked_leaves : (old new : WatchState) (found : Option Out) (reply : WatchReply) (terms : WatchTerms) (output : WatchOutput) → StepLooked old found reply terms output new → Leaves old.presence new.presence
looked_leaves old new None reply terms output step = absurd step
looked_leaves old new (Some q) reply terms output step =
    let s = noted old q reply in
    let mid = looked s q reply terms in
    subst (λ (x : WatchState). Leaves old.presence x.presence) (sym step.1)
    (subst (λ (p : Presence). Leaves p (replied mid q reply).presence) (looked_presence s q reply terms) (replied_leaves mid q reply))

renewed_leaves : (old new : WatchState) (found : Option Out) (reply : WatchReply) (output : WatchOutput) → StepRenewed old found reply output new → Leaves old.presence new.presence
renewed_leaves old new None reply output step = absurd step
renewed_leaves old new (Some q) reply output step =
    subst (λ (x : WatchState). Leaves old.presence x.presence) (sym step.1) (replied_leaves (state_renewed (noted old q reply) q reply) q reply)

same_leaves : (old new : WatchState) → new.presence ≡ old.presence → Leaves old.presence new.presence
same_leaves old new is = subst (Leaves old.presence) (sym is) (inl (refl, (refl, refl)))

step_leaves : (old new : WatchState) (event : WatchEvent) (output : WatchOutput) → Step old event output new → is_clock event ≡ false → Leaves old.presence new.presence
step_leaves old new (Clock wall elapsed) output step none = absurd cc
step_leaves old new (Looked i reply terms) output step none = looked_leaves old new (request_out old.out i Look) reply terms output step
step_leaves old new (Renewed i reply) output step none = renewed_leaves old new (request_out old.out i Renew) reply output step
step_leaves old new _ output step none = same_leaves old new (ap (λ (x : WatchState). x.presence) step.1)

turn_leaves : (old new : WatchState) (event : WatchEvent) (result : Result WatchOutput WatchFault) → Turn old event result new → is_event_taken result && is_clock event ≡ false → Leaves old.presence new.presence
turn_leaves old new event (Ok output) turn none = step_leaves old new event output turn.1 none
turn_leaves old new event (Err fault) turn none = same_leaves old new (ap (λ (x : WatchState). x.presence) (refused_stays old new event fault turn))

-- a broker that goes or comes is not as it was
differ : (a b c : Bool) → a ≡ c → b ≡ (if c then false else true) → b ≡ a → ⊥
differ a b true is other same = absurd (true≢false (sym is ∙ sym same ∙ other))
differ a b false is other same = absurd (true≢false (sym other ∙ same ∙ is))

stays_so : (old new : WatchState) → Leaves old.presence new.presence → new.presence.away ≡ old.presence.away → HoldStays old new
stays_so old new (inl same) away = record { count = same.1.0; hold = same.1.1 }
stays_so old new (inr ends) away = absurd (ends.0 away)

ends_so : (old new : WatchState) (away : Bool) → Leaves old.presence new.presence → old.presence.away ≡ away → new.presence.away ≡ (if away then false else true) → HoldEnds new
ends_so old new away (inl same) is other = absurd (differ old.presence.away new.presence.away away is other same.0)
ends_so old new away (inr ends) is other = record { count = ends.1.0; hold = ends.1.1 }

turn_ends :
    (old new : WatchState) (event : WatchEvent) (result : Result WatchOutput WatchFault) (away : Bool) → Turn old event result new → old.presence.away ≡ away → new.presence.away ≡ (if away then false else true) → HoldEnds new
turn_ends old new (Clock wall elapsed) (Ok output) away turn is other =
    let h = step_clocked old new wall elapsed output turn.1 in
    absurd (differ old.presence.away new.presence.away away is other (ap (λ (p : Presence). p.away) h.presence ∙ away_is old.forest.margin new.clocks.at old.tracks old.answers old.presence))
turn_ends old new (Looked i reply terms) (Ok output) away turn is other = ends_so old new away (step_leaves old new (Looked i reply terms) output turn.1 refl) is other
turn_ends old new (Renewed i reply) (Ok output) away turn is other = ends_so old new away (step_leaves old new (Renewed i reply) output turn.1 refl) is other
turn_ends old new (Need i until) (Ok output) away turn is other = ends_so old new away (step_leaves old new (Need i until) output turn.1 refl) is other
turn_ends old new Begin (Ok output) away turn is other = ends_so old new away (step_leaves old new Begin output turn.1 refl) is other
turn_ends old new (Known i end renewable) (Ok output) away turn is other = ends_so old new away (step_leaves old new (Known i end renewable) output turn.1 refl) is other
turn_ends old new event (Err fault) away turn is other = ends_so old new away (same_leaves old new (ap (λ (x : WatchState). x.presence) (refused_stays old new event fault turn))) is other

pub held_so : HoldLaw
held_so = record {
  anew = λ old turn wall elapsed h clock away silent' over. holds_anew old turn.state (turn_clocked old turn.state turn.event turn.result wall elapsed h.0 clock.0 clock.1) away silent' over;
  on = λ old turn wall elapsed h clock away silent' stands. holds_on old turn.state (turn_clocked old turn.state turn.event turn.result wall elapsed h.0 clock.0 clock.1) away silent' stands;
  other = λ old turn wall elapsed h clock none. hold_stays old turn.state (turn_clocked old turn.state turn.event turn.result wall elapsed h.0 clock.0 clock.1) none;
  stays = λ old turn h none away. stays_so old turn.state (turn_leaves old turn.state turn.event turn.result h.0 none) away;
  ends = λ old turn away h is other'. turn_ends old turn.state turn.event turn.result away h.0 is other';
  there = λ s reached there. (reached_base s reached).past.hold there;
}
