-- One more is there.
use Rattle.std.proofs.Common.{rules, ap, length, subst, sym}
use Rattle.std.proofs.lemmas.List.Elements.{All-nil, All-push}
use Rattle.std.specs.List.{All}
use Rattle.agent_run.specs.Run.{IsAskerFor}
use Rattle.agent_run.proofs.askers.askers_by.Goals as goal

pub loop-init : goal.loop-init
loop-init g c =
    let P = IsAskerFor g.L.Lanes.out g.L.Lanes.seconds g.L.Lanes.width c.args.served.now in
    record { count = ap length c.new-askers.ensures.items; each = subst (All P) (sym c.new-askers.ensures.items) (All-nil P) }

pub loop-preserved : goal.loop-preserved
loop-preserved g c =
    let P = IsAskerFor g.L.Lanes.out g.L.Lanes.seconds g.L.Lanes.width c.args.served.now in record {
      count = search rules;
      each = subst (All P) (sym c.in_ok-push.ensures.items) (All-push P c.loop.askers.items c.in_ok-asker_by.field-0 c.loop.invariant.each c.in_ok-asker_by.ensures);
    }
