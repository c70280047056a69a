-- What came so far is shown, and one read more.
use Rattle.program_calls.proofs.Passed.{ended, one_more}
use Rattle.program_calls.proofs.following.pass_on.Goals as goal

pub returns-in-Some : goal.returns-in-Some
returns-in-Some g c =
    ended (g.L.Device.seen c.args.line.now) (g.L.Device.seen c.loop.line) (g.L.Device.seen c.pass_one.new.line) (g.W.Device.seen c.args.out.now) (g.W.Device.seen c.loop.out) (g.W.Device.seen c.pass_one.new.out)
    g.L.Device.is_in_memory g.W.Device.is_in_memory c.loop.counter c.in-Some.followed c.loop.invariant.so_far c.in-Some.ensures.one

pub loop-preserved : goal.loop-preserved
loop-preserved g c = record {
  room = c.pass_one.ensures.room;
  so_far =
      one_more (g.L.Device.seen c.args.line.now) (g.L.Device.seen c.loop.line) (g.L.Device.seen c.pass_one.new.line) (g.W.Device.seen c.args.out.now) (g.W.Device.seen c.loop.out) (g.W.Device.seen c.pass_one.new.out)
      g.L.Device.is_in_memory g.W.Device.is_in_memory c.loop.counter c.loop.invariant.so_far c.in-None.ensures.one;
}
