-- The fault of a text says how far it begins that of a certificate, and one line at most is the first at fault.
use Rattle.plan_certificate.proofs.FirstFault.{fault_says, one_first}
use Rattle.plan_certificate.proofs.first_fault.first_fault_law.Goals as goal

pub returns-clause-says : goal.returns-clause-says
returns-clause-says c = fault_says

pub returns-clause-alone : goal.returns-clause-alone
returns-clause-alone c = one_first
