-- What is said follows from the machine, the forest and the standings.
use Rattle.std.proofs.Common.{ap}
use Rattle.program_lines.specs.Text.{name_of}
use Rattle.agent_log.specs.Sockets.{need_log_line}
use Rattle.agent_laws.proofs.Alike.{answered_alike, carried_alike, clocked_alike, marks_alike, next_alike, shorts_alike}
use Rattle.agent_laws.proofs.laws.no_credential_is_said.Goals as goal

pub returns-clause-clocked : goal.returns-clause-clocked
returns-clause-clocked c = λ a b h notes requests marks. (clocked_alike a b h notes requests marks, marks_alike a b h marks)

pub returns-clause-next : goal.returns-clause-next
returns-clause-next c = next_alike

pub returns-clause-need : goal.returns-clause-need
returns-clause-need c = λ a b h i until. ap (λ g. need_log_line (name_of g i) until) h.forest

pub returns-clause-shorts : goal.returns-clause-shorts
returns-clause-shorts c = shorts_alike

pub returns-clause-answered : goal.returns-clause-answered
returns-clause-answered c = answered_alike

pub returns-clause-carried : goal.returns-clause-carried
returns-clause-carried c = carried_alike
