-- As many connections as turns were handed out and served.
use Rattle.minibroker.proofs.Served.{SoFar}
use Rattle.minibroker.proofs.serving.serve_all.Given as goal

abbrev pub invariant-loop : goal.invariant-loop
invariant-loop g l = SoFar l.counter l.moments (record { lines = g.S.Device.seen l.fn.lines; table = l.fn.table })
    (record { lines = g.S.Device.seen l.lines; table = l.table })
    (g.C.Connections.handed l.fn.connections) (g.C.Connections.handed l.connections)
