-- An entry is written as it is planned, within its bounds.
use Rattle.std.proofs.Common.{◌≡◌, ◌∙◌, ◌+◌, false, true, set, sym, ap, arith}
use Rattle.plan_forest.specs.{declared.entry.Entry.Entry, Forest.entry_at, Renewal.capped}
use Rattle.plan_forest.proofs.Placed.{read_range}
use Rattle.watch_machine.specs.Round.{is_hoped, step_in_plan}
use Rattle.watch_machine.proofs.View.{ceiling_low, set_again}
use Rattle.watch_machine.proofs.Opening.{capped_least, hoped_is, kept_is}
use Rattle.watch_machine.proofs.round.write_planned.Goals as goal

pub set_end-requires-clause-range : goal.set_end-requires-clause-range
set_end-requires-clause-range c =
    let least = capped_least c.get.result.now.ceiling c.plus.result in
    omega (arith, c.capped.ensures, c.plus.ensures.value, c.plus.ensures.within, c.lead-lead.type_inv)

pub set_terms-requires-clause-range : goal.set_terms-requires-clause-range
set_terms-requires-clause-range c =
    ceiling_low c.get.result.now.ceiling (read_range c.args.view.now c.get.ensures.sound c.args.index c.get.result.now c.requires c.get.ensures.value).ceiling

pub returns-then-is_hoped : goal.returns-then-is_hoped
returns-then-is_hoped c =
    let g = c.args.view.now in
    let i = c.args.index in
    let f = entry_at g.entries i in
    let e = c.args.entry.now in
    let x = c.args.track in
    let hoped : is_hoped g.margin e x c.args.need ≡ true = sym (c.is_hoped.ensures ∙ ap (λ m. is_hoped m e x c.args.need) c.margin-margin.ensures) ∙ c.if-is_hoped.true in
    let ends = c.capped.ensures ∙ ap (λ (y : Entry). capped y.ceiling c.plus.result) c.get.ensures.value ∙ ap (capped f.ceiling) (c.plus.ensures.value ∙ ap (λ n. c.args.now + n) c.lead-lead.ensures) in
    set_again g c.set_end.new.self c.set_renewable.new.self i _ (λ (y : Entry). record y { renewable = false }) c.requires c.set_end.ensures c.set_renewable.ensures
    ∙ ap (λ y. record g { entries = set g.entries i y }) (hoped_is g.margin c.args.need c.args.now c.capped.result e f x hoped ends)

pub returns : goal.returns
returns c =
    let g = c.args.view.now in
    let i = c.args.index in
    let f = entry_at g.entries i in
    let e = c.args.entry.now in
    let x = c.args.track in
    let kept : is_hoped g.margin e x c.args.need ≡ false = sym (c.is_hoped.ensures ∙ ap (λ m. is_hoped m e x c.args.need) c.margin-margin.ensures) ∙ c.if-is_hoped.false in
    let steps = c.step_in_plan-step.ensures.value ∙ ap (λ m. step_in_plan m e x c.get-2.result.now.step) c.margin-margin.ensures ∙ ap (λ (y : Entry). step_in_plan g.margin e x y.step) c.get-2.ensures.value in
    set_again g c.set_terms.new.self c.set_renewable-2.new.self i _ (λ (y : Entry). record y { renewable = c.goes_further.result }) c.requires c.set_terms.ensures c.set_renewable-2.ensures
    ∙ ap (λ y. record g { entries = set g.entries i y })
    (kept_is g.margin c.args.need c.args.now c.step_in_plan-step.result c.get.result.now.ceiling c.goes_further.result e f x kept steps (ap (λ (y : Entry). y.ceiling) c.get.ensures.value) c.goes_further.ensures)
