-- An entry that was told has its new end, and one that was refused can no longer be renewed.
use Rattle.std.proofs.Common.{◌∙◌, ◌+◌, ap, set, sym}
use Rattle.plan_forest.specs.{declared.entry.Entry.Entry, Forest.Forest, Forest.entry_at}
use Rattle.tick_keeper.specs.Step.{entry_after_answer, with_entry_changed}
use Rattle.tick_keeper.proofs.Hearing.{set_own, set_then, untouched}
use Rattle.tick_keeper.proofs.answer.tell.Goals as goal

pub returns-in-Told : goal.returns-in-Told
unfolding entry_after_answer
returns-in-Told c =
    let g = c.args.forest.now in
    let i = c.args.i in
    let able : Entry → Entry = λ e. record e { renewable = c.in-Told.renewable } in
    let e : Entry = record (entry_at g.entries i) { end = c.get.result + c.in-Told.seconds } in
    c.set_renewable.ensures ∙ ap (λ (h : Forest). with_entry_changed h i able) c.set_end.ensures ∙ set_then g i e able c.requires.within
    ∙ ap (λ at. record { entries = set g.entries i (record (entry_at g.entries i) { end = at + c.in-Told.seconds; renewable = c.in-Told.renewable }); margin = g.margin }) c.get.ensures.value
    ∙ ap (λ event. with_entry_changed g i (entry_after_answer c.args.at event)) (sym c.in-Told.is)

pub returns-in-Refused : goal.returns-in-Refused
unfolding entry_after_answer
returns-in-Refused c = c.set_renewable-in-Refused.ensures ∙ ap (λ event. with_entry_changed c.args.forest.now c.args.i (entry_after_answer c.args.at event)) (sym c.in-Refused.is)

pub returns-in-Lost : goal.returns-in-Lost
returns-in-Lost c =
    let g = c.args.forest.now in
    let i = c.args.i in
    sym (ap (λ e. record { entries = set g.entries i e; margin = g.margin }) (untouched c.args.at c.args.event (entry_at g.entries i) c.in-Lost.is) ∙ set_own g i c.requires.within)
