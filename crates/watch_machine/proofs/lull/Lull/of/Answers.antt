-- What is found of the entries is a lull.
use Rattle.std.proofs.Common.{arith}
use Rattle.watch_machine.proofs.Lulls.{lull_of}
use Rattle.watch_machine.proofs.lull.Lull.of.Goals as goal

pub returns : goal.returns
returns c = λ has.
    let count = c.len.ensures.value in
    lull_of c.args.forest.now c.args.tracks.now c.args.clocks c.args.presence c.args.needs.now
    (record { next = c.next_due-next.result; lasting = c.first_past-lasting.result; first = c.first_time-first.result }) c.second.result c.second.ensures.value c.next_due-next.ensures
    (λ i within some. c.first_past-lasting.ensures.need i (omega (arith, within, count)) some) (λ i within living. c.first_past-lasting.ensures.end i (omega (arith, within, count)) living)
    (c.first_time-first.ensures has) has
