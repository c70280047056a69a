-- One end more is handed in.
use Rattle.std.proofs.Common.{◌∙◌, ap}
use Rattle.watch_machine.specs.declared.event.WatchEvent.TheVariants.{Clock}
use Rattle.agent_turns.specs.Held.{Held}
use Rattle.agent_turns.proofs.Resumed.{resumed_on}
use Rattle.agent_turns.proofs.serving.Serving.hand_all_known.Goals as goal

pub loop-event-preserved : goal.loop-event-preserved
loop-event-preserved c = record {
  resumed = resumed_on c.args.known.now c.loop-event.event-index (Clock 0 0) c.args.self.now.agent c.loop-event.self.agent c.hand_known.new.self.agent c.loop-event-test.true c.loop-event.invariant.resumed c.hand_known.ensures.resumed;
  rest = c.hand_known.ensures.rest ∙ ap (λ (h : Held). record h { agent = c.hand_known.new.self.agent }) c.loop-event.invariant.rest;
}
