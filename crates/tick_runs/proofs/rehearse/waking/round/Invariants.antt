-- The asked entries before the index have their answers, and the round stands for those that are left.
use Rattle.std.proofs.Common.{◌≡◌, [], drop, take}
use Rattle.tick_keeper.specs.LawsOfSteps.{IsShaped}
use Rattle.tick_runs.specs.{code.Playing.AnswersAll, Stops.both}
use Rattle.tick_runs.proofs.Refusing.{Stands}
use Rattle.tick_runs.proofs.rehearse.waking.round.Given as goal

abbrev pub invariant-loop-i : goal.invariant-loop-i
invariant-loop-i g l = record {
  answers : AnswersAll (g.E.Exchange.host_port l.fn.exchange) l.fn.agent.credentials l.t (both l.fn.agent.keeper (g.E.Exchange.behind l.fn.exchange)) (take l.i-index l.asked) l.next (both l.agent.keeper (g.E.Exchange.behind l.exchange)) l.fn.text.items l.text.items;
  shaped : IsShaped l.fn.agent.keeper.forest l.agent.keeper.forest;
  credentials : l.agent.credentials ≡ l.fn.agent.credentials;
  port : g.E.Exchange.host_port l.exchange ≡ g.E.Exchange.host_port l.fn.exchange;
  quiet : l.agent.keeper.shortened ≡ [];
  stands : Stands l.t (drop l.i-index l.asked) l.next l.agent.keeper;
}
