-- A need that is said is the first of those to come.
use Rattle.std.proofs.Common.{◌≡◌, [], arith, drop, map, refl, subst, sym}
use Rattle.std.proofs.lemmas.{Grind.common_steps, List.drop_more}
use Rattle.agent_log.specs.{LinesOfClocks.short_log_line, Lines.AreSaid}
use Rattle.agent_log.proofs.log_clock.say_each_short.Goals as goal

pub loop-short-preserved : goal.loop-short-preserved
loop-short-preserved c last said =
    let at = c.loop-short.short-index in
    c.loop-short.invariant last
    (subst (λ xs. AreSaid c.args.pen.now.form c.args.pen.now.moment (map (short_log_line c.args.names.now) xs) c.loop-short.room last) (sym (drop_more c.args.shorts.now at _ c.loop-short-test.true)) (c.say_short.new.room, (c.say_short.ensures, said)))

pub returns : goal.returns
returns c =
    let e : drop c.loop-short.short-index c.args.shorts.now ≡ [] = grind (arith, common_steps) in
    c.loop-short.invariant c.loop-short.room
    (subst (λ xs. AreSaid c.args.pen.now.form c.args.pen.now.moment (map (short_log_line c.args.names.now) xs) c.loop-short.room c.loop-short.room) (sym e) refl)
