-- The lines so far were said.
use Rattle.std.proofs.Common.{take}
use Rattle.agent_log.specs.AtStart.{AreSaidAtStart}
use Rattle.agent_log.proofs.log_start.say_at_start.Given as goal

abbrev pub invariant-loop-line : goal.invariant-loop-line
invariant-loop-line l = record { said : AreSaidAtStart l.now (take l.line-index l.said) l.fn.desk l.desk }
