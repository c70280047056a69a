-- One line more is said.
use Rattle.agent_log.proofs.AtStart.{said_on}
use Rattle.agent_log.proofs.log_start.say_at_start.Goals as goal

pub loop-line-preserved : goal.loop-line-preserved
loop-line-preserved c = record { said = said_on c.args.now c.args.said.now c.loop-line.line-index c.line-item.result c.args.desk.now c.loop-line.desk c.say.new.desk c.loop-line-test.true c.line-item.is c.loop-line.invariant.said c.say.ensures }
