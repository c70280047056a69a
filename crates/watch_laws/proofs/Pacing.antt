-- Pacing: what each turn makes of the pace, and of the answers since the last clock. For the law of the pace.
use Rattle.std.proofs.Common.{◌≡◌, ◌∙◌, ℕ, ◌-◌, ◌/◌, true, false, ◌&&◌, if◌then◌else◌, List, [], ◌∷◌, Option, Some, None, All, Result, Ok, Err, max, refl, sym, ap, subst}
use Rattle.watch_machine.specs.{declared.command.WatchOutput.WatchOutput, declared.command.WatchRequest.WatchRequest, declared.event.WatchEvent.WatchEvent, declared.event.WatchReply.WatchReply, declared.event.WatchReply.TheVariants.Told}
use Rattle.watch_machine.specs.{declared.event.WatchTerms.WatchTerms, declared.fault.WatchFault.WatchFault, declared.lanes.LaneAnswer.LaneAnswer, declared.lanes.Out.Out, declared.lanes.Presence.Presence, declared.track.Track.Track}
use Rattle.watch_machine.specs.{History.Turn, History.after_all, Looked.looked, Press.pressed, Refusal.request_out, Renewed.state_renewed, Round.asked_by_round, State.WatchState}
use Rattle.watch_machine.specs.declared.event.WatchEvent.TheVariants.{Clock, Looked, Renewed, Need, Begin, Known}
use Rattle.watch_machine.specs.declared.event.Operation.TheVariants.{Look, Renew}
use Rattle.watch_machine.specs.Answers.{answers_all, lane_freed, noted, replied, silent}
use Rattle.watch_machine.specs.Settling.{is_real, pace_after, presence_after, timed}
use Rattle.watch_machine.specs.Step.{Step, StepClock, StepLooked, StepRenewed, readied}
use Rattle.watch_machine.proofs.Cases.{if_both}
use Rattle.watch_laws.specs.{Absence.is_clock, Absence.is_event_taken, Load.requests_asked_by, Presence.is_answered}
use Rattle.watch_laws.specs.Pace.{IsKept, IsReplyOf, KeptLaw, PaceLaw, counts, pace_by, time_taken}
use Rattle.watch_laws.proofs.{Away.sent_requests, Clocking.readied_clocks, Clocking.refused_stays, Holding.looked_presence, Holding.ready_presence}
use Rattle.watch_laws.proofs.Dating.{Adds, Does, WentOut, clock_of, does, kept_as, parts, ran_out, turn_asks}

-- the pace at a clock
real_is : (reply : WatchReply) → is_real reply ≡ is_answered reply
real_is (Told seconds renewable date) = refl
real_is _ = refl

pace_is : (at pace : ℕ) (answers : List LaneAnswer) → pace_after at pace answers ≡ pace_by at pace answers
pace_is at pace [] = refl
pace_is at pace (a ∷ answers) =
    ap (λ b. pace_after at (if b then max (time_taken at a) (pace - pace / 8) else pace) answers) (real_is a.reply)
    ∙ pace_is at (if is_answered a.reply then max (time_taken at a) (pace - pace / 8) else pace) answers

set_pace : (margin at : ℕ) (xs : List Track) (answers : List LaneAnswer) (p : Presence) → (presence_after margin at xs answers p).pace ≡ pace_after at p.pace answers
unfolding presence_after
set_pace margin at xs answers p = refl

clock_pace : (old new : WatchState) (wall elapsed : ℕ) (output : WatchOutput) → StepClock old wall elapsed output new → new.presence.pace ≡ pace_by new.clocks.at old.presence.pace old.answers
clock_pace old new wall elapsed output step =
    let mid = pressed (readied old wall elapsed) (asked_by_round step.round) in
    let is = sent_requests mid new output.command step.command in
    let at : new.clocks.at ≡ (timed old wall elapsed).clocks.at = ap (λ (x : WatchState). x.clocks.at) is ∙ ap (λ c. c.at) (readied_clocks old wall elapsed) in
    ap (λ (x : WatchState). x.presence.pace) is ∙ ap (λ (p : Presence). p.pace) (ready_presence old wall elapsed)
    ∙ set_pace old.forest.margin (timed old wall elapsed).clocks.at old.tracks old.answers old.presence ∙ pace_is (timed old wall elapsed).clocks.at old.presence.pace old.answers
    ∙ ap (λ n. pace_by n old.presence.pace old.answers) (sym at)

turn_clock :
    (old new : WatchState) (event : WatchEvent) (result : Result WatchOutput WatchFault) (wall elapsed : ℕ) → Turn old event result new → event ≡ Clock wall elapsed → is_event_taken result ≡ true →
    new.presence.pace ≡ pace_by new.clocks.at old.presence.pace old.answers
turn_clock old new event (Ok output) wall elapsed turn is taken' = clock_pace old new wall elapsed output (subst (λ e. Step old e output new) is turn.1)
turn_clock old new event (Err fault) wall elapsed turn is taken' = absurd cc

-- and at any other event
replied_pace : (mid : WatchState) (q : Out) (reply : WatchReply) → (replied mid q reply).presence.pace ≡ mid.presence.pace
replied_pace mid q reply =
    let free = lane_freed mid q in
    let P : WatchState → Type 0 = λ t. t.presence.pace ≡ mid.presence.pace in
    if_both P (is_real reply) (answers_all free) (if q.heard then free else silent free) (if_both P mid.presence.away _ _ refl refl)
    (if_both P q.heard free (silent free) refl (if_both P mid.presence.away _ _ refl refl))

looked_pace : (old new : WatchState) (found : Option Out) (reply : WatchReply) (terms : WatchTerms) (output : WatchOutput) → StepLooked old found reply terms output new → new.presence.pace ≡ old.presence.pace
looked_pace old new None reply terms output step = absurd step
looked_pace old new (Some q) reply terms output step =
    let s = noted old q reply in
    ap (λ (x : WatchState). x.presence.pace) step.1 ∙ replied_pace (looked s q reply terms) q reply ∙ ap (λ (p : Presence). p.pace) (looked_presence s q reply terms)

renewed_pace : (old new : WatchState) (found : Option Out) (reply : WatchReply) (output : WatchOutput) → StepRenewed old found reply output new → new.presence.pace ≡ old.presence.pace
renewed_pace old new None reply output step = absurd step
renewed_pace old new (Some q) reply output step = ap (λ (x : WatchState). x.presence.pace) step.1 ∙ replied_pace (state_renewed (noted old q reply) q reply) q reply

step_pace : (old new : WatchState) (event : WatchEvent) (output : WatchOutput) → Step old event output new → is_clock event ≡ false → new.presence.pace ≡ old.presence.pace
step_pace old new (Clock wall elapsed) output step none = absurd cc
step_pace old new (Looked i reply terms) output step none = looked_pace old new (request_out old.out i Look) reply terms output step
step_pace old new (Renewed i reply) output step none = renewed_pace old new (request_out old.out i Renew) reply output step
step_pace old new _ output step none = ap (λ (x : WatchState). x.presence.pace) step.1

turn_pace : (old new : WatchState) (event : WatchEvent) (result : Result WatchOutput WatchFault) → Turn old event result new → is_event_taken result && is_clock event ≡ false → new.presence.pace ≡ old.presence.pace
turn_pace old new event (Ok output) turn none = step_pace old new event output turn.1 none
turn_pace old new event (Err fault) turn none = ap (λ (x : WatchState). x.presence.pace) (refused_stays old new event fault turn)

pub pace_kept : PaceLaw
pace_kept = record {
  clocks = λ old turn wall elapsed h clock. turn_clock old turn.state turn.event turn.result wall elapsed h.0 clock.0 clock.1;
  others = λ old turn h none. turn_pace old turn.state turn.event turn.result h.0 none;
}

-- the answers
adds_kept : (i since : ℕ) (reply : WatchReply) (old new : WatchState) (j : ℕ) (told : WatchReply) → Adds old j told new → j ≡ i → told ≡ reply → All (WentOut i since) old.out → IsKept old new since reply
adds_kept i since reply old new j told h of is all = record { answer = kept_as h.q told; last = h.answers; asked = h.found (WentOut i since) all (h.entry ∙ of); told = is }

does_kept :
    (i since : ℕ) (reply : WatchReply) (old new : WatchState) (event : WatchEvent) (requests : List WatchRequest) → Does old event requests new → IsReplyOf i reply event → All (WentOut i since) old.out →
    IsKept old new since reply
does_kept i since reply old new (Looked j told terms) requests h is all = adds_kept i since reply old new j told h is.0 is.1 all
does_kept i since reply old new (Renewed j told) requests h is all = adds_kept i since reply old new j told h is.0 is.1 all
does_kept i since reply old new _ requests h is all = absurd is

turn_kept :
    (i since : ℕ) (reply : WatchReply) (old new : WatchState) (event : WatchEvent) (result : Result WatchOutput WatchFault) → Turn old event result new → IsReplyOf i reply event → is_event_taken result ≡ true →
    All (WentOut i since) old.out → IsKept old new since reply
turn_kept i since reply old new event (Ok output) turn is taken' all = does_kept i since reply old new event (requests_asked_by output.command) (does old new event output turn.1) is all
turn_kept i since reply old new event (Err fault) turn is taken' all = absurd cc

does_leave : (old new : WatchState) (event : WatchEvent) (requests : List WatchRequest) → Does old event requests new → counts event ≡ false → new.answers ≡ old.answers
does_leave old new (Need i until) requests h none = h.answers
does_leave old new Begin requests h none = h.answers
does_leave old new (Known i end renewable) requests h none = h.answers
does_leave old new _ requests h none = absurd cc

turn_leaves : (old new : WatchState) (event : WatchEvent) (result : Result WatchOutput WatchFault) → Turn old event result new → is_event_taken result && counts event ≡ false → new.answers ≡ old.answers
turn_leaves old new event (Ok output) turn none = does_leave old new event (requests_asked_by output.command) (does old new event output turn.1) none
turn_leaves old new event (Err fault) turn none = ap (λ (x : WatchState). x.answers) (refused_stays old new event fault turn)

pub answers_kept : KeptLaw
answers_kept = record {
  replies = λ old between asking answer i reply h none unasked is.
      let p = parts between (answer ∷ []) asking.state h.1 in
      let all = ran_out i asking.state.clocks.at between asking.state p.0 unasked (turn_asks i old asking.state asking.event asking.result h.0 none) in
      turn_kept i asking.state.clocks.at reply (after_all asking.state between) answer.state answer.event answer.result p.1.0 is.0 is.1 all;
  clocks = λ old turn wall elapsed h clock. (clock_of old turn.state turn.event turn.result wall elapsed h.0 clock.0 clock.1).answers;
  others = λ old turn h none. turn_leaves old turn.state turn.event turn.result h.0 none;
}
