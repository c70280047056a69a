-- Each goes on under its own index.
use Rattle.std.proofs.Common.{◌<◌, ◌∙◌, arith, get_or, length, refl}
use Rattle.std.proofs.lemmas.List.{length-set}
use Rattle.vault_lanes.proofs.Moved.{move_next, on_refused, outs_set, rest_next, up_to}
use Rattle.vault_lanes.proofs.running.go_on.Goals as goal

pub loop-seat-preserved : goal.loop-seat-preserved
loop-seat-preserved g c =
    let i = c.loop-seat.invariant in
    let within : c.loop-seat.seat-index < length c.loop-seat.out = omega arith in
    let next = record (get_or c.loop-seat.out c.loop-seat.seat-index c.seat-item.result) { standing = c.go_on.new.self } in record {
      room = c.go_on.ensures.room ∙ i.room;
      many = length-set _ _ _ ∙ i.many;
      moved = move_next g.L.Line.written g.L.Line.remaining g.L.Line.failures g.L.Line.reason c.args.now c.args.out.now c.loop-seat.out c.loop-seat.seat-index c.seat-item.result next within i.rest i.moved
          c.in_ok-go_on.ensures.moves c.in_ok-go_on.ensures.ahead refl;
      same = outs_set c.loop-seat.out c.loop-seat.seat-index c.seat-item.result _ refl ∙ i.same;
      rest = rest_next g.L.Line.written g.L.Line.remaining g.L.Line.failures g.L.Line.reason c.args.now c.args.out.now c.loop-seat.out c.loop-seat.seat-index _ i.rest;
    }

pub returns-in_err-go_on-clause-out : goal.returns-in_err-go_on-clause-out
returns-in_err-go_on-clause-out g c = outs_set c.loop-seat.out c.loop-seat.seat-index c.seat-item.result _ refl ∙ c.loop-seat.invariant.same

pub returns-in_err-go_on-clause-up_to : goal.returns-in_err-go_on-clause-up_to
returns-in_err-go_on-clause-up_to g c =
    let i = c.loop-seat.invariant in
    let within : c.loop-seat.seat-index < length c.loop-seat.out = omega arith in
    let next = record (get_or c.loop-seat.out c.loop-seat.seat-index c.seat-item.result) { standing = c.go_on.new.self } in
    on_refused c.from_residual.result (up_to g.L.Line.written g.L.Line.remaining g.L.Line.failures g.L.Line.reason c.args.now c.args.out.now c.loop-seat.out c.loop-seat.seat-index c.seat-item.result next within i.rest i.moved refl c.in_err-go_on.ensures.wants)
