-- Holding: while the broker is away, a hold that was set lasts a second or more. For the law of holding back.
use Rattle.std.proofs.Common.{◌≡◌, ◌∙◌, ℕ, ◌+◌, ◌*◌, ◌≤◌, min, true, false, ◌&&◌, if◌then◌else◌, List, [], ◌∷◌, ◌++◌, Option, Some, None, Result, Ok, Err, is_none, map, nat_le, refl, sym, ap, subst, arith, true≢false}
use Rattle.std.proofs.lemmas.{Bool.and_from, Bool.cond-true, Bool.Decides.nat_tests}
use Rattle.std.specs.List.{list_any}
use Rattle.watch_machine.specs.{declared.command.WatchOutput.WatchOutput, declared.event.WatchEvent.WatchEvent, declared.event.WatchReply.WatchReply, declared.event.WatchReply.TheVariants.Told, declared.event.WatchTerms.WatchTerms}
use Rattle.watch_machine.specs.{declared.fault.WatchFault.WatchFault, declared.lanes.LaneAnswer.LaneAnswer, declared.lanes.Out.Out, declared.lanes.Presence.Presence, declared.notes.BeginReason.BeginReason, declared.track.Track.Track}
use Rattle.watch_machine.specs.{declared.track.Try.Try, Beginning.begun, Clocks.ms, Looked.looked, Press.pressed, Refusal.request_out, Renewed.state_renewed, Round.asked_by_round as round_of, State.WatchState, Wanted.least}
use Rattle.watch_machine.specs.declared.event.WatchEvent.TheVariants.{Clock, Looked, Renewed, Begin}
use Rattle.watch_machine.specs.declared.event.Operation.TheVariants.{Look, Renew}
use Rattle.watch_machine.specs.Answers.{answers_all, lane_freed, noted, replied, silent}
use Rattle.watch_machine.specs.History.{AllHappen, Changed, Changes, Hands, Happening, IsChanged, Turn, Turned, state_after_all}
use Rattle.watch_machine.specs.Pauses.{cap, doubled, left_to}
use Rattle.watch_machine.specs.Settling.{count_after, held, held_back, held_by, held_try, hold_after, is_real, is_silent, presence_after, settled, timed}
use Rattle.watch_machine.specs.Step.{Step, StepClock, StepLooked, StepRenewed, readied, why}
use Rattle.watch_machine.proofs.Cases.{if_both, if_cases}
use Rattle.watch_laws.specs.Absence.{AllAway, HeldLaw, Sets}
use Rattle.watch_laws.proofs.Resting.{cap_above, doubled_above}
use Rattle.watch_laws.proofs.Answering.{looked_leaves, renewed_leaves, rest_of}
use Rattle.watch_laws.proofs.Clocking.{begun_some, clock_rises, readied_clocks, refused_stays, sent_by}

-- a hold is a second or more
may_wait : (margin at : ℕ) (x : Track) (o : Option Try) → 1000 ≤ held_try margin at x o
unfolding cap
may_wait margin at x None = omega arith
may_wait margin at x (Some t) =
    if_both (λ n. 1000 ≤ n) t.pressed (cap margin at x t) 300000 (cap_above (ms (2 * margin)) t.lost (left_to at (ms (2 * margin)) x.end t.lost)) (omega arith)

least_above : (margin at m : ℕ) (xs : List Track) → 1000 ≤ m → 1000 ≤ least m (map (held_by margin at) xs)
least_above margin at m [] h = h
least_above margin at m (x ∷ xs) h = let here = may_wait margin at x x.attempt in least_above margin at (min m (held_by margin at x)) xs (omega (arith, h, here))

held_above : (margin at : ℕ) (xs : List Track) (n : ℕ) → 1000 ≤ held margin at xs n
unfolding held
held_above margin at xs n = let d = doubled_above n in least_above margin at (min 300000 (doubled n)) xs (omega (arith, d))

-- a clock sets it, or leaves it no less than so far or a second ahead
sets_hold :
    (margin at : ℕ) (xs : List Track) (answers : List LaneAnswer) (p : Presence) → p.away ≡ true → list_any is_silent answers ≡ true → p.hold ≤ at →
    at + 1000 ≤ (presence_after margin at xs answers p).hold
unfolding presence_after held_back hold_after
sets_hold margin at xs answers p away silent' over =
    let long = held_above margin at xs (count_after at p) in
    let set : Presence = record p { count = count_after at p; hold = hold_after margin at xs p } in
    let test : p.away && list_any is_silent answers ≡ true = and_from p.away (list_any is_silent answers) away silent' in
    let past : nat_le p.hold at ≡ true = grind (arith, nat_tests) in
    let first = ap (λ (q : Presence). q.hold) (cond-true (p.away && list_any is_silent answers) set p test) in
    let second = cond-true (nat_le p.hold at) (at + held margin at xs (count_after at p)) (min p.hold (at + held margin at xs p.count)) past in
    omega (arith, long, first, second)

keeps_hold :
    (margin at from : ℕ) (xs : List Track) (answers : List LaneAnswer) (p : Presence) → from ≤ at → from + 1000 ≤ p.hold → from + 1000 ≤ (presence_after margin at xs answers p).hold
unfolding presence_after held_back hold_after
keeps_hold margin at from xs answers p later h =
    let long = held_above margin at xs (count_after at p) in
    let less = held_above margin at xs p.count in
    if_both (λ (q : Presence). from + 1000 ≤ q.hold) (p.away && list_any is_silent answers)
    (record p { count = count_after at p; hold = hold_after margin at xs p }) p
    (if_both (λ n. from + 1000 ≤ n) (nat_le p.hold at) (at + held margin at xs (count_after at p)) (min p.hold (at + held margin at xs p.count)) (omega (arith, long, later)) (omega (arith, less, later, h))) h

begun_presence : (s : WatchState) (w : Option BeginReason) → (begun s w).presence ≡ s.presence
begun_presence s None = refl
begun_presence s (Some w) = refl

pub ready_presence : (s : WatchState) (wall elapsed : ℕ) → (readied s wall elapsed).presence ≡ presence_after s.forest.margin (timed s wall elapsed).clocks.at s.tracks s.answers s.presence
unfolding readied
ready_presence s wall elapsed = begun_presence (settled (timed s wall elapsed)) (why s wall elapsed)

-- since that clock a hold lasts a second
record Holds (from : ℕ) (s : WatchState) : Type 0 where
  begun : is_none s.begun ≡ false
  past : from ≤ s.clocks.at
  hold : from + 1000 ≤ s.presence.hold

-- the clock that sets it
clock_sets : (old new : WatchState) (wall elapsed : ℕ) (output : WatchOutput) → StepClock old wall elapsed output new → old.presence.away ≡ true → list_any is_silent old.answers ≡ true → old.presence.hold ≤ new.clocks.at → Holds new.clocks.at new
clock_sets old new wall elapsed output step away silent' over =
    let ready = readied old wall elapsed in
    let is = sent_by (pressed ready (round_of step.round)) new output.command step.command in
    let clock : new.clocks.at ≡ (timed old wall elapsed).clocks.at = ap (λ (x : WatchState). x.clocks.at) is.1 ∙ ap (λ c. c.at) (readied_clocks old wall elapsed) in
    let hold : new.presence.hold ≡ (presence_after old.forest.margin (timed old wall elapsed).clocks.at old.tracks old.answers old.presence).hold =
    ap (λ (x : WatchState). x.presence.hold) is.1 ∙ ap (λ (p : Presence). p.hold) (ready_presence old wall elapsed) in
    let long = sets_hold old.forest.margin (timed old wall elapsed).clocks.at old.tracks old.answers old.presence away silent' (omega (arith, clock, over)) in
    record {
      begun = ap (λ (x : WatchState). is_none x.begun) is.1 ∙ begun_some old wall elapsed;
      past = omega arith;
      hold = omega (arith, clock, hold, long);
    }

first_sets : (old new : WatchState) (event : WatchEvent) (result : Result WatchOutput WatchFault) → Turn old event result new → Sets old (record { event = event; result = result; state = new }) → Holds new.clocks.at new
first_sets old new (Clock wall elapsed) (Ok output) turn h = clock_sets old new wall elapsed output turn.1 h.away h.silent h.over
first_sets old new event (Err fault) turn h = absurd (let e = h.taken in cc)
first_sets old new _ (Ok output) turn h = absurd (let e = h.clock in cc)

-- every turn after which the broker is still away keeps it
clock_holds : (from : ℕ) (old new : WatchState) (wall elapsed : ℕ) (output : WatchOutput) → StepClock old wall elapsed output new → Holds from old → Holds from new
clock_holds from old new wall elapsed output step h =
    let ready = readied old wall elapsed in
    let is = sent_by (pressed ready (round_of step.round)) new output.command step.command in
    let rises = clock_rises old wall elapsed h.begun in
    let clock : new.clocks.at ≡ (timed old wall elapsed).clocks.at = ap (λ (x : WatchState). x.clocks.at) is.1 ∙ ap (λ c. c.at) (readied_clocks old wall elapsed) in
    let hold : new.presence.hold ≡ (presence_after old.forest.margin (timed old wall elapsed).clocks.at old.tracks old.answers old.presence).hold =
    ap (λ (x : WatchState). x.presence.hold) is.1 ∙ ap (λ (p : Presence). p.hold) (ready_presence old wall elapsed) in
    let past = h.past in
    let long = keeps_hold old.forest.margin (timed old wall elapsed).clocks.at from old.tracks old.answers old.presence (omega (arith, rises, past)) h.hold in
    record {
      begun = ap (λ (x : WatchState). is_none x.begun) is.1 ∙ begun_some old wall elapsed;
      past = omega (arith, rises, clock, past);
      hold = omega (arith, hold, long);
    }

-- an answer after which it is still away leaves the presence
abbrev StillAway : WatchState → WatchState → Type 0
StillAway old new = new.presence.away ≡ true → new.presence ≡ old.presence

pub replied_presence : (s : WatchState) (q : Out) (reply : WatchReply) → s.presence.away ≡ true → StillAway s (replied s q reply)
replied_presence s q reply away =
    let free = lane_freed s q in
    if_both (StillAway s) (is_real reply) (answers_all free) (if q.heard then free else silent free)
    (if_cases (StillAway s) s.presence.away _ _ (λ e still. absurd cc) (λ e. absurd (true≢false (sym away ∙ e))))
    (if_both (StillAway s) q.heard free (silent free) (λ still. refl) (if_cases (StillAway s) s.presence.away _ _ (λ e still. refl) (λ e. absurd (true≢false (sym away ∙ e)))))

pub looked_presence : (s : WatchState) (q : Out) (reply : WatchReply) (terms : WatchTerms) → (looked s q reply terms).presence ≡ s.presence
looked_presence s q (Told seconds renewable date) terms = refl
looked_presence s q _ terms = refl

left_holds : (from : ℕ) (old new : WatchState) → rest_of new ≡ rest_of old → new.presence ≡ old.presence → Holds from old → Holds from new
left_holds from old new rest same h = record {
  begun = ap (λ (x : WatchState). is_none x.begun) rest ∙ h.begun;
  past = let e = ap (λ (x : WatchState). x.clocks.at) rest in let p = h.past in omega (arith, e, p);
  hold = let e = ap (λ (p : Presence). p.hold) same in let l = h.hold in omega (arith, e, l);
}

pub looked_still : (old new : WatchState) (found : Option Out) (reply : WatchReply) (terms : WatchTerms) (output : WatchOutput) → StepLooked old found reply terms output new → old.presence.away ≡ true → (rest_of new ≡ rest_of old) × StillAway old new
looked_still old new None reply terms output step away = absurd step
looked_still old new (Some q) reply terms output step away =
    let mid = looked (noted old q reply) q reply terms in
    let same = looked_presence (noted old q reply) q reply terms in (
      ap rest_of step.1 ∙ looked_leaves old q reply terms,
      subst (StillAway old) (sym step.1) (λ still. replied_presence mid q reply (ap (λ (p : Presence). p.away) same ∙ away) still ∙ same),
    )

pub renewed_still : (old new : WatchState) (found : Option Out) (reply : WatchReply) (output : WatchOutput) → StepRenewed old found reply output new → old.presence.away ≡ true → (rest_of new ≡ rest_of old) × StillAway old new
renewed_still old new None reply output step away = absurd step
renewed_still old new (Some q) reply output step away = (
  ap rest_of step.1 ∙ renewed_leaves old q reply,
  subst (StillAway old) (sym step.1) (λ still. replied_presence (state_renewed (noted old q reply) q reply) q reply away still),
)

step_holds : (from : ℕ) (old new : WatchState) (event : WatchEvent) (output : WatchOutput) → Step old event output new → old.presence.away ≡ true → new.presence.away ≡ true → Holds from old → Holds from new
step_holds from old new (Clock wall elapsed) output step away still h = clock_holds from old new wall elapsed output step h
step_holds from old new (Looked i reply terms) output step away still h =
    let left = looked_still old new (request_out old.out i Look) reply terms output step away in
    left_holds from old new left.0 (left.1 still) h
step_holds from old new (Renewed i reply) output step away still h =
    let left = renewed_still old new (request_out old.out i Renew) reply output step away in
    left_holds from old new left.0 (left.1 still) h
step_holds from old new Begin output step away still h = subst (Holds from) (sym step.1) (record { begun = h.begun; past = h.past; hold = h.hold })
step_holds from old new _ output step away still h = left_holds from old new (ap rest_of step.1) (ap (λ (x : WatchState). x.presence) step.1) h

turn_holds :
    (from : ℕ) (old new : WatchState) (event : WatchEvent) (result : Result WatchOutput WatchFault) → Turn old event result new → old.presence.away ≡ true → new.presence.away ≡ true → Holds from old →
    Holds from new
turn_holds from old new event (Ok output) turn away still h = step_holds from old new event output turn.1 away still h
turn_holds from old new event (Err fault) turn away still h = subst (Holds from) (sym (refused_stays old new event fault turn)) h

-- and so does a change
changed_holds : (from : ℕ) (old : WatchState) (c : Changed) → IsChanged old c → Holds from old → Holds from c.state
changed_holds from old c h holds = record {
  begun = ap (λ (s : WatchState). is_none s.begun) h.state ∙ holds.begun;
  past = (let clock = ap (λ (s : WatchState). s.clocks.at) h.state in let past = holds.past in omega (arith, clock, past));
  hold = (let hold = ap (λ (s : WatchState). s.presence.hold) h.state in let long = holds.hold in omega (arith, hold, long));
}

ran :
    (between : List Happening) (next : Turned) (from : ℕ) (old : WatchState) → AllHappen old (between ++ Hands next ∷ []) → old.presence.away ≡ true → AllAway between → Holds from old →
    Sets (state_after_all old between) next → from + 1000 ≤ next.state.clocks.at
ran [] next from old h away all holds sets = let over = sets.over in let hold = holds.hold in omega (arith, over, hold)
ran (Hands turn ∷ between) next from old h away all holds sets =
    ran between next from turn.state h.1 all.0 all.1 (turn_holds from old turn.state turn.event turn.result h.0 away all.0 holds) sets
ran (Changes c ∷ between) next from old h away all holds sets = ran between next from c.state h.1 all.0 all.1 (changed_holds from old c h.0 holds) sets

pub held_back_long : HeldLaw
held_back_long old first next between h all sets next_sets =
    ran between next first.state.clocks.at first.state h.1 all.0 all.1 (first_sets old first.state first.event first.result h.0 sets) next_sets
