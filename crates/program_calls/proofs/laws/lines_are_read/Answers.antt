-- What is sent is what is asked for, and nothing is sent of words that are refused.
use Rattle.program_calls.proofs.Asked.{sent_is_asked, unsent_is_refused}
use Rattle.program_calls.proofs.laws.lines_are_read.Goals as goal

pub returns-clause-sent : goal.returns-clause-sent
returns-clause-sent c = sent_is_asked

pub returns-clause-unsent : goal.returns-clause-unsent
returns-clause-unsent c = unsent_is_refused
