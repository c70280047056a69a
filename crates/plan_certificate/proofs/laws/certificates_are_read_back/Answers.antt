-- What is read is what the text writes, and a text that writes a certificate is read as it.
use Rattle.plan_certificate.proofs.{FoundRuns.read_is_written, ReadBackAll.written_is_read, Stated.start_stated}
use Rattle.plan_certificate.proofs.laws.certificates_are_read_back.Goals as goal

pub returns-clause-found : goal.returns-clause-found
returns-clause-found c = read_is_written

pub returns-clause-only : goal.returns-clause-only
returns-clause-only c = written_is_read

pub returns-clause-start : goal.returns-clause-start
returns-clause-start c = start_stated
