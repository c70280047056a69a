-- A reply is read from its text, and from no other; a reason is one line.
use Rattle.agent_control.proofs.Replied.{reply_found, reply_only, why_is_line}
use Rattle.agent_control.proofs.laws.replies_are_read_back.Goals as goal

pub returns-clause-found : goal.returns-clause-found
returns-clause-found c = reply_found

pub returns-clause-only : goal.returns-clause-only
returns-clause-only c = reply_only

pub returns-clause-why : goal.returns-clause-why
returns-clause-why c = why_is_line
