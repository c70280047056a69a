-- The entries before the index are looked up, one after another, and there are 4096 at most.
use Rattle.std.proofs.Common.{◌≡◌, ◌-◌}
use Rattle.base_device.specs.Seen.{change}
use Rattle.tick_runs.proofs.LookedUp.{Looking}
use Rattle.tick_runs.proofs.live.looking.look_all_up.Given as goal

abbrev pub invariant-loop-i : goal.invariant-loop-i
invariant-loop-i g l = record {
  looking : Looking (g.E.Exchange.host_port l.fn.exchange) l.start (record { inventory = l.fn.inventory; behind = g.E.Exchange.behind l.fn.exchange }) l.i l.inventory (g.E.Exchange.behind l.exchange)
      (change g.W.Device.is_in_memory (g.W.Device.seen l.fn.out) (g.W.Device.seen l.out));
  port : g.E.Exchange.host_port l.exchange ≡ g.E.Exchange.host_port l.fn.exchange;
}

abbrev pub decreases-loop-i : goal.decreases-loop-i
decreases-loop-i g l = 4096 - l.i
