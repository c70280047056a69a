-- A text that is said is the first of those to come.
use Rattle.std.proofs.Common.{◌≡◌, [], arith, drop, map, refl, subst, sym}
use Rattle.std.proofs.lemmas.Grind.{common_steps}
use Rattle.agent_log.specs.Lines.{AreSaid, text_line}
use Rattle.agent_words.proofs.Behind.{first_behind}
use Rattle.agent_log.proofs.log_changes.say_each.Goals as goal

pub loop-text-preserved : goal.loop-text-preserved
loop-text-preserved c last said =
    let at = c.loop-text.text-index in
    c.loop-text.invariant last
    (subst (λ xs. AreSaid c.args.pen.now.form c.args.pen.now.moment (map (text_line c.args.level c.args.event.now) xs) c.loop-text.room last)
    (sym (first_behind c.args.texts.now at c.text-item.result c.loop-text-test.true c.text-item.is)) (c.say_one.new.room, (c.say_one.ensures, said)))

pub returns : goal.returns
returns c =
    let e : drop c.loop-text.text-index c.args.texts.now ≡ [] = grind (arith, common_steps) in
    c.loop-text.invariant c.loop-text.room
    (subst (λ xs. AreSaid c.args.pen.now.form c.args.pen.now.moment (map (text_line c.args.level c.args.event.now) xs) c.loop-text.room c.loop-text.room) (sym e) refl)
