-- Each turn serves the connection that it was handed.
use Rattle.std.proofs.Common.{List, Option, Result}
use Rattle.base_device.specs.Seen.{change}
use Rattle.program_report.specs.declared.stop.Stop.{Stop}
use Rattle.minibroker.specs.Serving.{Broker, Connection, ServesAll, Visit}
use Rattle.minibroker.proofs.Served.{handed_on, one_more_served, stopped_at}
use Rattle.minibroker.proofs.serving.serve_all.Goals as goal

pub loop-preserved : goal.loop-preserved
loop-preserved g c =
    let first : Broker = record { lines = g.S.Device.seen c.args.lines.now; table = c.args.table.now } in
    let mid : Broker = record { lines = g.S.Device.seen c.loop.lines; table = c.loop.table } in
    let last : Broker = record { lines = g.S.Device.seen c.serve_one.new.lines; table = c.serve_one.new.table } in
    let v : Visit = record {
      stream = change g.C.Stream.Device.is_in_memory (g.C.Stream.Device.seen c.in_ok-stream.field-0.stream) (g.C.Stream.Device.seen c.serve_one.new.stream);
      has_time = c.in_ok-stream.field-0.has_time;
    } in
    one_more_served c.loop.counter c.args.moments.now first mid last (g.C.Connections.handed c.args.connections.now) (g.C.Connections.handed c.loop.connections) (g.C.Connections.handed c.accept.new.self) v
    c.loop.invariant c.in_ok-stream.ensures c.in_ok-serve_one.ensures

pub returns-in_err-serve_one : goal.returns-in_err-serve_one
returns-in_err-serve_one g c =
    let first : Broker = record { lines = g.S.Device.seen c.args.lines.now; table = c.args.table.now } in
    let mid : Broker = record { lines = g.S.Device.seen c.loop.lines; table = c.loop.table } in
    let last : Broker = record { lines = g.S.Device.seen c.serve_one.new.lines; table = c.serve_one.new.table } in
    let old : Option (List Connection) = g.C.Connections.handed c.args.connections.now in
    let new : Option (List Connection) = g.C.Connections.handed c.accept.new.self in
    let v : Visit = record {
      stream = change g.C.Stream.Device.is_in_memory (g.C.Stream.Device.seen c.in_ok-stream.field-0.stream) (g.C.Stream.Device.seen c.serve_one.new.stream);
      has_time = c.in_ok-stream.field-0.has_time;
    } in
    handed_on c.from_residual-in_err-serve_one.result c.in_err-serve_one.field-0.0 (λ (r : Result (Unit {0}) Stop). ServesAll c.args.count c.args.moments.now first r last old new) c.from_residual-in_err-serve_one.ensures
    (stopped_at c.loop.counter c.args.count c.args.moments.now first mid last old (g.C.Connections.handed c.loop.connections) new v c.in_err-serve_one.field-0.0
    c.loop.invariant c.loop-test.true c.in_ok-stream.ensures c.in_err-serve_one.ensures)
