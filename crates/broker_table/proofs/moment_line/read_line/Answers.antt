-- Input with as many bytes as a line may have, and no line feed, has no line; a failed push breaks it off.
use Rattle.std.proofs.Common.{◌≡◌, ◌==◌, ◌<◌, ◌≤◌, ◌∷◌, [], false, IfSome, length, arith, rules, subst}
use Rattle.std.proofs.lemmas.Bool.Decides.{nat_tests}
use Rattle.std.specs.Io.KnownBytes.{Consumes}
use Rattle.broker_table.specs.{MomentLine.BreaksOff, declared.moment_line.TheConstants.MOST_LINE}
use Rattle.broker_table.proofs.MomentLines.{broken_off, none_so_long}
use Rattle.broker_table.proofs.moment_line.read_line.Goals as goal

pub returns-clause-none : goal.returns-clause-none
returns-clause-none g c = λ is.
    let long : MOST_LINE ≤ length c.loop.line.items = omega (arith, c.loop-test.false, c.loop.invariant.turns) in
    none_so_long (g.S.Device.seen c.args.source.now).input.remaining (g.S.Device.seen c.loop.source).input.remaining c.loop.line.items c.loop.invariant.given long c.loop.invariant.one

pub returns-in_err-push-in-Some-clause-broken : goal.returns-in_err-push-in-Some-clause-broken
returns-in_err-push-in-Some-clause-broken g c =
    let before = (g.S.Device.seen c.args.source.now).input.remaining in
    let mid = (g.S.Device.seen c.loop.source).input.remaining in
    let now = (g.S.Device.seen c.next_byte.new.source).input.remaining in
    let given : Consumes mid now (c.in-Some.byte ∷ []) = subst (λ o. IfSome o (λ b. Consumes mid now (b ∷ []))) c.in-Some.is c.in_ok-next_byte.ensures.some in
    let other : (c.in-Some.byte == 10) ≡ false = grind (arith, nat_tests, c.in-Some.byte-test) in
    let short : length c.loop.line.items < MOST_LINE = omega (arith, c.loop-test.true, c.loop.invariant.turns) in
    let left : BreaksOff before now = broken_off before mid now c.loop.line.items c.in-Some.byte c.loop.invariant.one other short c.loop.invariant.given given in
    search rules
