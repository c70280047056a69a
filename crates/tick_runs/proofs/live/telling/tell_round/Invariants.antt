-- Those before the index were asked, and each of their answers is told.
use Rattle.std.proofs.Common.{◌≡◌, List, [], ℕ, drop, take}
use Rattle.base_device.specs.Seen.{change}
use Rattle.tick_keeper.specs.LawsOfSteps.{IsShaped}
use Rattle.tick_runs.specs.{code.Telling.IsSentWhole, code.Playing.AnswersAll, Stops.both}
use Rattle.tick_runs.proofs.Refusing.{Stands}
use Rattle.tick_runs.proofs.live.telling.tell_round.Given as goal

abbrev pub invariant-loop-i : goal.invariant-loop-i
invariant-loop-i g l = record {
  told : (text : List ℕ) × (AnswersAll (g.E.Exchange.host_port l.fn.exchange) l.fn.agent.credentials l.t (both l.fn.agent.keeper (g.E.Exchange.behind l.fn.exchange)) (take l.i-index l.asked) l.next (both l.agent.keeper (g.E.Exchange.behind l.exchange)) [] text
      × IsSentWhole text (change g.W.Device.is_in_memory (g.W.Device.seen l.fn.out) (g.W.Device.seen l.out)));
  shaped : IsShaped l.fn.agent.keeper.forest l.agent.keeper.forest;
  credentials : l.agent.credentials ≡ l.fn.agent.credentials;
  port : g.E.Exchange.host_port l.exchange ≡ g.E.Exchange.host_port l.fn.exchange;
  quiet : l.agent.keeper.shortened ≡ [];
  stands : Stands l.t (drop l.i-index l.asked) l.next l.agent.keeper;
}
