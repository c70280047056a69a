-- Forested: the forest of a watch stays a forest, whatever events come. For the laws of calm.
use Rattle.std.proofs.Common.{◌≡◌, ℕ, ◌<◌, Option, Some, None, Result, Ok, Err, length, min, refl, sym, subst, arith, inl, inr}
use Rattle.std.proofs.lemmas.{Bool.cases_lt, List.set_past}
use Rattle.base_moment.specs.declared.moment.TheConstants.{LAST}
use Rattle.plan_forest.specs.{declared.entry.Entry.Entry, Forest.entry_at, Push.IsForest}
use Rattle.plan_forest.proofs.Placed.{Replaces, range_from_parts, range_parts, replaced_is_forest}
use Rattle.watch_machine.specs.{declared.command.WatchOutput.WatchOutput, declared.event.WatchEvent.WatchEvent, declared.event.WatchReply.WatchReply, declared.event.WatchReply.TheVariants.Told, declared.event.WatchTerms.WatchTerms}
use Rattle.watch_machine.specs.{declared.fault.WatchFault.WatchFault, declared.lanes.Out.Out, declared.notes.BeginReason.BeginReason, Answers.noted, Beginning.begun, Press.pressed, Refusal.refusal, Refusal.request_out}
use Rattle.watch_machine.specs.{Renewed.state_renewed, Round.asked_by_round, Settling.settled, Settling.timed, State.WatchState, State.opened}
use Rattle.watch_machine.specs.declared.event.WatchEvent.TheVariants.{Clock, Looked, Renewed, Need}
use Rattle.watch_machine.specs.declared.event.Operation.TheVariants.{Look, Renew}
use Rattle.watch_machine.specs.History.{Changed, IsChanged, IsReached, Turn}
use Rattle.watch_machine.specs.Looked.{by_terms, looked, with_terms}
use Rattle.watch_machine.specs.Step.{Step, StepLooked, StepRenewed, readied, why}
use Rattle.watch_machine.proofs.{Foresting.forest_after_is_forest, Foresting.told_is_forest, Within.within_none}
use Rattle.watch_laws.proofs.{Clocking.refused_stays, Clocking.sent_by, Reached.all_keep, Tracking.replied_forest}

-- terms that are told of an entry that is no more are written of none
any_forest : (s : WatchState) (i : ℕ) (terms : WatchTerms) → IsForest s.forest → IsForest (with_terms s i terms).forest
any_forest s i terms forest =
    let g = s.forest in
    elim (cases_lt i (length g.entries)) as (λ _. IsForest (with_terms s i terms).forest) [
      | inl within ↦ told_is_forest g i terms forest within
      | inr past ↦ subst (λ es. IsForest (record { entries = es; margin = g.margin })) (sym (set_past g.entries i (by_terms g.margin terms (entry_at g.entries i)) past)) forest
    ]

looked_forest : (s : WatchState) (r : Out) (reply : WatchReply) (terms : WatchTerms) → IsForest s.forest → IsForest (looked s r reply terms).forest
looked_forest s r (Told seconds renewable date) terms forest = any_forest s r.entry terms forest
looked_forest s r _ terms forest = forest

looked_on : (old new : WatchState) (found : Option Out) (reply : WatchReply) (terms : WatchTerms) (output : WatchOutput) → StepLooked old found reply terms output new → IsForest old.forest → IsForest new.forest
looked_on old new None reply terms output step forest = absurd step
looked_on old new (Some q) reply terms output step forest =
    let s = noted old q reply in
    subst (λ (x : WatchState). IsForest x.forest) (sym step.1) (subst IsForest (sym (replied_forest (looked s q reply terms) q reply)) (looked_forest s q reply terms forest))

renewed_on : (old new : WatchState) (found : Option Out) (reply : WatchReply) (output : WatchOutput) → StepRenewed old found reply output new → IsForest old.forest → IsForest new.forest
renewed_on old new None reply output step forest = absurd step
renewed_on old new (Some q) reply output step forest =
    subst (λ (x : WatchState). IsForest x.forest) (sym step.1) (subst IsForest (sym (replied_forest (state_renewed (noted old q reply) q reply) q reply)) forest)

begun_forest : (s : WatchState) (w : Option BeginReason) → (begun s w).forest ≡ s.forest
begun_forest s None = refl
begun_forest s (Some w) = refl

pub readied_forest : (s : WatchState) (wall elapsed : ℕ) → (readied s wall elapsed).forest ≡ s.forest
unfolding readied
readied_forest s wall elapsed = begun_forest (settled (timed s wall elapsed)) (why s wall elapsed)

stepped : (old new : WatchState) (event : WatchEvent) (output : WatchOutput) → refusal old event ≡ None → Step old event output new → IsForest old.forest → IsForest new.forest
unfolding refusal
stepped old new (Clock wall elapsed) output taken step forest =
    let mid = pressed (readied old wall elapsed) (asked_by_round step.round) in
    let go = sent_by mid new output.command step.command in
    subst (λ (x : WatchState). IsForest x.forest) (sym go.1) (subst IsForest (sym (readied_forest old wall elapsed)) forest)
stepped old new (Looked i reply terms) output taken step forest = looked_on old new (request_out old.out i Look) reply terms output step forest
stepped old new (Renewed i reply) output taken step forest = renewed_on old new (request_out old.out i Renew) reply output step forest
stepped old new (Need i until) output taken step forest =
    let g = old.forest in
    let within : i < length g.entries = within_none old i None taken in
    let e : Entry = record (entry_at g.entries i) { need = min LAST until } in
    let parts = range_parts (entry_at g.entries i) (forest.placed i within).in_range in
    let low = parts.end in
    let fits : Replaces g i e = record {
      within = within;
      name = refl;
      kind = refl;
      parent = refl;
      step = (forest.placed i within).step_past_margin;
      range = range_from_parts e (record { end = low; ceiling = parts.ceiling; need = omega arith });
    } in
    subst (λ (x : WatchState). IsForest x.forest) (sym step.1) (replaced_is_forest g forest i e fits)
stepped old new _ output taken step forest = subst (λ (x : WatchState). IsForest x.forest) (sym step.1) forest

-- whatever an event gives, the forest stays one
pub turned_forest : (old new : WatchState) (event : WatchEvent) (result : Result WatchOutput WatchFault) → Turn old event result new → IsForest old.forest → IsForest new.forest
turned_forest old new event (Ok output) turn forest = stepped old new event output turn.0 turn.1 forest
turned_forest old new event (Err fault) turn forest = subst (λ (x : WatchState). IsForest x.forest) (sym (refused_stays old new event fault turn)) forest

changed_forest : (old : WatchState) (c : Changed) → IsChanged old c → IsForest old.forest → IsForest c.state.forest
changed_forest old c h forest = subst (λ (s : WatchState). IsForest s.forest) (sym h.state) (forest_after_is_forest old.forest.entries c.forest c.was h.may.forest)

pub reached_forest : (s : WatchState) (r : IsReached s) → IsForest r.forest → IsForest s.forest
reached_forest s r forest =
    subst (λ (x : WatchState). IsForest x.forest) r.leads (all_keep (λ (x : WatchState). IsForest x.forest) turned_forest changed_forest r.run (opened r.forest r.width) r.is_run forest)
