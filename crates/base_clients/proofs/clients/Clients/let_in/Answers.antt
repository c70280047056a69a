-- One more is let in, or nobody is there.
use Rattle.std.proofs.Common.{◌+◌, ◌≤◌, arith}
use Rattle.base_clients.proofs.Let.{so_nobody, so_one_in}
use Rattle.base_clients.proofs.clients.Clients.let_in.Goals as goal

pub loop-asks-preserved : goal.loop-asks-preserved
loop-asks-preserved g c = record {
  within = omega arith;
  so_far = so_one_in c.args.now c.args.self.now c.loop-asks.self c.let_one_in.new.self _ _ _ c.loop-asks.asks c.let_one_in.result c.in-Ok-One.field-0 c.in-Ok-One.is c.in-Ok-One.field-0-is
      c.let_one_in.ensures c.loop-asks.invariant.so_far;
}

pub returns-in-Ok-Nobody : goal.returns-in-Ok-Nobody
returns-in-Ok-Nobody g c =
    let few : c.loop-asks.asks + 1 ≤ 16 = omega arith in
    so_nobody c.args.now c.args.self.now c.loop-asks.self c.let_one_in.new.self _ _ _ c.loop-asks.asks c.let_one_in.result c.in-Ok-Nobody.field-0 few c.in-Ok-Nobody.is c.in-Ok-Nobody.field-0-is
    c.let_one_in.ensures c.loop-asks.invariant.so_far
