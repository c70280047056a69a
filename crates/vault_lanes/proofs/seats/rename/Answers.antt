-- One more is under its other index, and at last all of them are.
use Rattle.vault_lanes.proofs.Renamed.{is_under, renamed_all, renamed_more, under_all}
use Rattle.vault_lanes.proofs.seats.rename.Goals as goal

pub loop-seat-preserved : goal.loop-seat-preserved
loop-seat-preserved g c =
    let from = c.args.from.now in
    let to = c.args.to.now in
    let x = c.seat-item.result in
    renamed_more from to c.args.out.now c.loop-seat.out c.loop-seat.seat-index x _ c.loop-seat-test.true c.loop-seat.invariant c.seat-item.is (is_under from to x _ c.index_in-seat.result c.index_in-seat.ensures c.seat-item.is)

pub returns-clause-seats : goal.returns-clause-seats
returns-clause-seats g c = under_all c.args.from.now c.args.to.now c.args.out.now c.loop-seat.out c.loop-seat.seat-index c.loop-seat-test.false c.loop-seat.invariant

pub returns-clause-renamed : goal.returns-clause-renamed
returns-clause-renamed g c = renamed_all g.T.Standing.comes c.args.from.now c.args.to.now c.args.out.now c.loop-seat.out c.loop-seat.seat-index c.loop-seat-test.false c.loop-seat.invariant
