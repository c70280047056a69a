-- What is written is one line, and is read as the same request.
use Rattle.agent_control.proofs.Written.{written_is_read}
use Rattle.agent_control.proofs.laws.requests_are_read_back.Goals as goal

pub returns : goal.returns
returns c = written_is_read
