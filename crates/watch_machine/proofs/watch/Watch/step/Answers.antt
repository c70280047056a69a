-- A step that is not refused is that of the definitions, by each kind of event.
use Rattle.std.proofs.Common.{◌≡◌, ◌∙◌, None, ap, subst, sym}
use Rattle.watch_machine.specs.{History.Turn, Refusal.refusal}
use Rattle.watch_machine.specs.declared.event.WatchEvent.TheVariants.{Clock, Looked, Renewed, Need, Known}
use Rattle.watch_machine.specs.declared.event.Operation.TheVariants.{Look, Renew}
use Rattle.watch_machine.proofs.{Taking.refused_turn, Taking.taken_turn, Within.asked_some, Within.within_none}
use Rattle.watch_machine.proofs.watch.Watch.step.Goals as goal

pub need-requires : goal.need-requires
unfolding refusal
need-requires c =
    let s = c.args.self.now in
    let none : refusal s (Need c.in-Need.entry c.in-Need.until) ≡ None = ap (refusal s) (sym c.in-Need.is) ∙ sym c.in_default.ensures in
    within_none s c.in-Need.entry None none

pub know-requires : goal.know-requires
unfolding refusal
know-requires c =
    let s = c.args.self.now in
    let none : refusal s (Known c.in-Known.entry c.in-Known.end c.in-Known.renewable) ≡ None = ap (refusal s) (sym c.in-Known.is) ∙ sym c.in_default.ensures in
    within_none s c.in-Known.entry None none

pub returns-in-Some-clause-turn : goal.returns-in-Some-clause-turn
returns-in-Some-clause-turn c = refused_turn c.args.self.now c.args.event c.in-Some.fault (sym c.in-Some.ensures)

pub returns-in-Clock-clause-turn : goal.returns-in-Clock-clause-turn
returns-in-Clock-clause-turn c =
    let s = c.args.self.now in
    let none : refusal s c.args.event ≡ None = sym c.in_default.ensures in
    subst (λ e. Turn s e c.clock.result c.clock.new.self) (sym c.in-Clock.is)
    (taken_turn s c.clock.new.self (Clock c.in-Clock.wall c.in-Clock.elapsed) c.clock.result (ap (refusal s) (sym c.in-Clock.is) ∙ none) tt c.clock.ensures.step c.clock.ensures.refused c.clock.ensures.unchanged)

pub returns-in-Looked-clause-turn : goal.returns-in-Looked-clause-turn
unfolding refusal
returns-in-Looked-clause-turn c =
    let s = c.args.self.now in
    let i = c.in-Looked.entry in
    let none : refusal s (Looked i c.in-Looked.reply c.in-Looked.terms) ≡ None = ap (refusal s) (sym c.in-Looked.is) ∙ sym c.in_default.ensures in
    subst (λ e. Turn s e c.take_looked.result c.take_looked.new.self) (sym c.in-Looked.is)
    (taken_turn s c.take_looked.new.self (Looked i c.in-Looked.reply c.in-Looked.terms) c.take_looked.result none tt c.take_looked.ensures.step
    (c.take_looked.ensures.refused (asked_some s i Look none)) c.take_looked.ensures.unchanged)

pub returns-in-Renewed-clause-turn : goal.returns-in-Renewed-clause-turn
unfolding refusal
returns-in-Renewed-clause-turn c =
    let s = c.args.self.now in
    let i = c.in-Renewed.entry in
    let none : refusal s (Renewed i c.in-Renewed.reply) ≡ None = ap (refusal s) (sym c.in-Renewed.is) ∙ sym c.in_default.ensures in
    subst (λ e. Turn s e c.take_renewed.result c.take_renewed.new.self) (sym c.in-Renewed.is)
    (taken_turn s c.take_renewed.new.self (Renewed i c.in-Renewed.reply) c.take_renewed.result none tt c.take_renewed.ensures.step
    (c.take_renewed.ensures.refused (asked_some s i Renew none)) c.take_renewed.ensures.unchanged)

pub returns-in-Looked-clause-memory : goal.returns-in-Looked-clause-memory
unfolding refusal
returns-in-Looked-clause-memory c =
    let s = c.args.self.now in
    let i = c.in-Looked.entry in
    let none : refusal s (Looked i c.in-Looked.reply c.in-Looked.terms) ≡ None = ap (refusal s) (sym c.in-Looked.is) ∙ sym c.in_default.ensures in
    λ _. c.take_looked.ensures.refused (asked_some s i Look none)

pub returns-in-Renewed-clause-memory : goal.returns-in-Renewed-clause-memory
unfolding refusal
returns-in-Renewed-clause-memory c =
    let s = c.args.self.now in
    let i = c.in-Renewed.entry in
    let none : refusal s (Renewed i c.in-Renewed.reply) ≡ None = ap (refusal s) (sym c.in-Renewed.is) ∙ sym c.in_default.ensures in
    λ _. c.take_renewed.ensures.refused (asked_some s i Renew none)
