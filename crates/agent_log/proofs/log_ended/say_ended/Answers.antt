-- An entry of which it is said is the first of those to come.
use Rattle.std.proofs.Common.{◌≡◌, ◌+◌, ◌∷◌, [], arith, drop, refl, subst, sym}
use Rattle.std.proofs.lemmas.{Grind.common_steps, List.drop_more}
use Rattle.agent_log.specs.{LinesOfClocks.ended_line, LinesOfClocks.ended_lines, Lines.AreSaid, Marks.fresh_mark, Marks.mark_at}
use Rattle.agent_log.proofs.Said.{both_said}
use Rattle.agent_log.proofs.log_ended.say_ended.Goals as goal

pub loop-entry-preserved : goal.loop-entry-preserved
loop-entry-preserved c last said =
    let a = c.args.agent.now in
    let marks = c.args.marks.now in
    let at = c.loop-entry.entry in
    let mark = mark_at marks at in
    let form = c.args.pen.now.form in
    let moment = c.args.pen.now.moment in
    let e : drop at marks ≡ mark ∷ drop (at + 1) marks = drop_more marks at fresh_mark c.loop-entry-test.true in
    c.loop-entry.invariant last
    (subst (λ xs. AreSaid form moment (ended_lines a at xs) c.loop-entry.room last) (sym e)
    (both_said form moment (ended_line a at mark) (ended_lines a (at + 1) (drop (at + 1) marks)) c.loop-entry.room c.say_end.new.room last c.say_end.ensures said))

pub returns : goal.returns
returns c =
    let e : drop c.loop-entry.entry c.args.marks.now ≡ [] = grind (arith, common_steps) in
    c.loop-entry.invariant c.loop-entry.room
    (subst (λ xs. AreSaid c.args.pen.now.form c.args.pen.now.moment (ended_lines c.args.agent.now c.loop-entry.entry xs) c.loop-entry.room c.loop-entry.room) (sym e) refl)
