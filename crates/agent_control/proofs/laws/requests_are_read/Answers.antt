-- What is read of a line is what it asks for, and each line that asks for something is read so.
use Rattle.agent_control.proofs.Commands.{request_found, request_only}
use Rattle.agent_control.proofs.laws.requests_are_read.Goals as goal

pub returns-clause-found : goal.returns-clause-found
returns-clause-found c = request_found

pub returns-clause-only : goal.returns-clause-only
returns-clause-only c = request_only
