-- Width: no more requests are out than the width. For the law of the width.
use Rattle.std.proofs.Common.{◌≡◌, ◌∙◌, ℕ, ◌-◌, ◌≤◌, List, Option, Some, None, Result, Ok, Err, length, map, not, ◌==◌, if◌then◌else◌, refl, sym, ap, subst, arith}
use Rattle.std.proofs.lemmas.{List.length-append, List.length-map, List.Sums.count_by-le-length, List.Sums.length-filter}
use Rattle.watch_machine.specs.{declared.command.WatchCommand.WatchCommand, declared.command.WatchOutput.WatchOutput, declared.event.WatchEvent.WatchEvent, declared.event.WatchReply.WatchReply, declared.event.WatchTerms.WatchTerms}
use Rattle.watch_machine.specs.{declared.fault.WatchFault.WatchFault, declared.lanes.Out.Out, History.Turn, Looked.looked, Press.pressed, Refusal.request_out, Renewed.state_renewed, Round.asked_by_round as round_of, Sending.out_at}
use Rattle.watch_machine.specs.{Settling.is_real, State.WatchState}
use Rattle.watch_machine.specs.declared.command.WatchCommand.TheVariants.{Go, Taken}
use Rattle.watch_machine.specs.declared.event.WatchEvent.TheVariants.{Clock, Looked, Renewed}
use Rattle.watch_machine.specs.declared.event.Operation.TheVariants.{Look, Renew}
use Rattle.watch_machine.specs.Answers.{answers_all, heard, lane_freed, noted, replied, silent, without_request}
use Rattle.watch_machine.specs.Step.{Step, StepCommand, StepLooked, StepRenewed, readied}
use Rattle.watch_machine.proofs.Cases.{if_both}
use Rattle.watch_laws.proofs.{Clocking.readied_width, Clocking.refused_stays, Going.goes, Spacing.looked_out, Spacing.readied_out}
use Rattle.watch_laws.proofs.Answering.{looked_leaves, renewed_leaves, rest_of}

abbrev pub Fits : ℕ → WatchState → Type 0
Fits n s = (s.width ≡ n) × (length s.out ≤ n)

fewer : (i : ℕ) (out : List Out) → length (without_request i out) ≤ length out
unfolding without_request
fewer i out = let is = length-filter (λ q. not (q.entry == i)) out in let most = count_by-le-length (λ q. not (q.entry == i)) out in omega (arith, is, most)

replied_fewer : (s : WatchState) (r : Out) (reply : WatchReply) → length (replied s r reply).out ≤ length s.out
replied_fewer s r reply =
    let free = lane_freed s r in
    let few = fewer r.entry s.out in
    let many = length-map (without_request r.entry s.out) heard in
    if_both (λ (t : WatchState). length t.out ≤ length s.out) (is_real reply) (answers_all free) (if r.heard then free else silent free)
    (if_both (λ (t : WatchState). length t.out ≤ length s.out) s.presence.away _ _ (omega (arith, few, many)) (omega (arith, few, many)))
    (if_both (λ (t : WatchState). length t.out ≤ length s.out) r.heard free (silent free) few (if_both (λ (t : WatchState). length t.out ≤ length s.out) s.presence.away _ _ few few))

answer_fits : (n : ℕ) (old mid new : WatchState) (q : Out) (reply : WatchReply) → new ≡ replied mid q reply → mid.out ≡ old.out → rest_of new ≡ rest_of old → Fits n old → Fits n new
answer_fits n old mid new q reply is out rest h =
    let few = replied_fewer mid q reply in
    let a = ap (λ (x : WatchState). length x.out) is in
    let b = ap length out in
    let c = h.1 in
    (ap (λ (x : WatchState). x.width) rest ∙ h.0, omega (arith, few, a, b, c))

commanded : (n : ℕ) (s new : WatchState) (command : WatchCommand) → Fits n s → StepCommand s command new → Fits n new
commanded n s new (Go requests until) h step =
    let going = goes s.forest s.presence s.clocks.at s.tracks (s.width - length s.out) requests step.0.0 in
    let few = going.few in
    let many = ap length going.requests_are ∙ length-map going.entries _ in
    let sent = length-map requests (out_at s.clocks.at) in
    let both = ap (λ (x : WatchState). length x.out) step.0.1 ∙ length-append s.out (map (out_at s.clocks.at) requests) in
    let w = h.0 in
    let l = h.1 in
    (ap (λ (x : WatchState). x.width) step.0.1 ∙ h.0, omega (arith, few, many, sent, both, w, l))
commanded n s new Taken h step = absurd step

looked_fits : (n : ℕ) (old new : WatchState) (found : Option Out) (reply : WatchReply) (terms : WatchTerms) (output : WatchOutput) → StepLooked old found reply terms output new → Fits n old → Fits n new
looked_fits n old new None reply terms output step h = absurd step
looked_fits n old new (Some q) reply terms output step h =
    let s = noted old q reply in
    answer_fits n old (looked s q reply terms) new q reply step.1 (looked_out s q reply terms) (ap rest_of step.1 ∙ looked_leaves old q reply terms) h

renewed_fits : (n : ℕ) (old new : WatchState) (found : Option Out) (reply : WatchReply) (output : WatchOutput) → StepRenewed old found reply output new → Fits n old → Fits n new
renewed_fits n old new None reply output step h = absurd step
renewed_fits n old new (Some q) reply output step h =
    answer_fits n old (state_renewed (noted old q reply) q reply) new q reply step.1 refl (ap rest_of step.1 ∙ renewed_leaves old q reply) h

step_fits : (n : ℕ) (old new : WatchState) (event : WatchEvent) (output : WatchOutput) → Step old event output new → Fits n old → Fits n new
step_fits n old new (Clock wall elapsed) output step h =
    let out = ap length (readied_out old wall elapsed) in
    let l = h.1 in
    commanded n (pressed (readied old wall elapsed) (round_of step.round)) new output.command (readied_width old wall elapsed ∙ h.0, omega (arith, out, l)) step.command
step_fits n old new (Looked j reply terms) output step h = looked_fits n old new (request_out old.out j Look) reply terms output step h
step_fits n old new (Renewed j reply) output step h = renewed_fits n old new (request_out old.out j Renew) reply output step h
step_fits n old new _ output step h = subst (Fits n) (sym step.1) h

pub turn_fits : (n : ℕ) (old new : WatchState) (event : WatchEvent) (result : Result WatchOutput WatchFault) → Turn old event result new → Fits n old → Fits n new
turn_fits n old new event (Ok output) turn h = step_fits n old new event output turn.1 h
turn_fits n old new event (Err fault) turn h = subst (Fits n) (sym (refused_stays old new event fault turn)) h
