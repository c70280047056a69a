-- A decision has the indices of entries, and its printed text is read as what it claims.
use Rattle.plan_certificate.proofs.Printing.{decided_is_of, printed_is_read}
use Rattle.plan_certificate.proofs.laws.decisions_are_read_back.Goals as goal

pub returns-clause-indices : goal.returns-clause-indices
returns-clause-indices c = decided_is_of

pub returns-clause-found : goal.returns-clause-found
returns-clause-found c = printed_is_read
