-- What is decided of a credential follows from which others it is equal to.
use Rattle.agent_laws.proofs.Decided.{anothers, apart, handed_on, held, made_so, refused, replayed_so, taken}
use Rattle.agent_laws.proofs.laws.no_credential_decides.Goals as goal

pub returns-clause-refused : goal.returns-clause-refused
returns-clause-refused c = refused

pub returns-clause-made : goal.returns-clause-made
returns-clause-made c = made_so

pub returns-clause-held : goal.returns-clause-held
returns-clause-held c = held

pub returns-clause-anothers : goal.returns-clause-anothers
returns-clause-anothers c = anothers

pub returns-clause-taken : goal.returns-clause-taken
returns-clause-taken c = taken

pub returns-clause-handed : goal.returns-clause-handed
returns-clause-handed c = handed_on

pub returns-clause-apart : goal.returns-clause-apart
returns-clause-apart c = apart

pub returns-clause-replayed : goal.returns-clause-replayed
returns-clause-replayed c = replayed_so
