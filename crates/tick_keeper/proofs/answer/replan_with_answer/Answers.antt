-- Where planning after an answer is refused, the entry gets back the end and the renewability that it had.
use Rattle.std.proofs.Common.{◌∙◌, ap}
use Rattle.plan_forest.specs.declared.entry.Entry.{Entry}
use Rattle.plan_forest.proofs.Placed.{read_range}
use Rattle.tick_keeper.proofs.{Hearing.answer_back, Taken.on_err}
use Rattle.tick_keeper.proofs.answer.replan_with_answer.Goals as goal

pub set_end-requires-clause-range : goal.set_end-requires-clause-range
set_end-requires-clause-range c = (read_range c.args.forest.now c.get.ensures.sound c.args.i c.get.result.now c.requires.within c.get.ensures.value).end

pub returns-then-is_err-clause-unchanged : goal.returns-then-is_err-clause-unchanged
returns-then-is_err-clause-unchanged c =
    let g = c.args.forest.now in
    let i = c.args.i in
    let ends = ap (λ (e : Entry). e.end) c.get.ensures.value in
    let able = ap (λ (e : Entry). e.renewable) c.get-2.ensures.value in
    on_err c.replan-planned.result _ _
    (λ same. (c.set_renewable.ensures ∙ answer_back g c.replan-planned.new.forest c.set_end.new.self i c.args.at c.args.event c.get.result.now.end c.get-2.result.now.renewable c.requires.within ends able (same.0 ∙ c.tell.ensures) c.set_end.ensures, same.1))
    c.replan-planned.ensures.unchanged
