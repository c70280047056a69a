-- What a house does hangs on what its keeper answers, and not on which keeper that is.
use Rattle.agent_laws.proofs.Keepers.{call_so, run_so}
use Rattle.agent_laws.proofs.laws.no_kept_credential_shows.Goals as goal

pub returns-clause-call : goal.returns-clause-call
returns-clause-call g c = λ beside other keepers call old new none x. call_so _ _ _ _ _ _ beside other keepers _ _ _ _ _ _ _ _ _ _ call old new none x

pub returns-clause-run : goal.returns-clause-run
returns-clause-run g c = λ beside other keepers made old new none x. run_so _ _ _ _ _ _ beside other keepers _ _ _ _ _ _ _ _ _ _ made old new none x
