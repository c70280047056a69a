-- The terms that are told may be set, and the forest with them is that of the definitions.
use Rattle.std.proofs.Common.{◌≡◌, ap, arith, set, ◌∙◌}
use Rattle.plan_forest.specs.{declared.entry.Entry.Entry, Forest.entry_at}
use Rattle.plan_forest.proofs.Placed.{read_step}
use Rattle.watch_machine.specs.Looked.{by_terms, orphaned, step_told}
use Rattle.watch_machine.proofs.{Steps.past_margin, View.set_again}
use Rattle.watch_machine.proofs.new_terms.take_terms.Goals as goal

pub set_terms-requires-clause-step : goal.set_terms-requires-clause-step
set_terms-requires-clause-step c =
    let g = c.args.forest.now in
    let own = read_step g c.get.ensures.sound c.args.index c.get.result.now c.requires c.get.ensures.value in
    let same = c.margin.ensures in
    let told = c.step_told-step.ensures in
    let past = past_margin c.margin.result c.get.result.now.step c.args.terms.step (omega (arith, same)) in
    omega (arith, same, told)

pub returns : goal.returns
unfolding by_terms orphaned
returns c =
    let g = c.args.forest.now in
    let es = g.entries in
    let i = c.args.index in
    let e = entry_at es i in
    let step_is : c.step_told-step.result ≡ step_told g.margin e.step c.args.terms.step =
    c.step_told-step.ensures ∙ ap (λ m. step_told m c.get.result.now.step c.args.terms.step) c.margin.ensures
    ∙ ap (λ (x : Entry). step_told g.margin x.step c.args.terms.step) c.get.ensures.value in
    set_again g c.set_terms.new.self c.take_orphan.new.forest i _ (orphaned c.args.terms) c.requires c.set_terms.ensures c.take_orphan.ensures
    ∙ ap (λ n. record g { entries = set es i (orphaned c.args.terms (record e { step = n; ceiling = c.most.result })) }) step_is
    ∙ ap (λ o. record g { entries = set es i (orphaned c.args.terms (record e { step = step_told g.margin e.step c.args.terms.step; ceiling = o })) }) c.most.ensures.value
