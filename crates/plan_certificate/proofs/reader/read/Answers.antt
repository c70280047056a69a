-- A text writes the certificate that is read from it, and that certificate can be written.
use Rattle.plan_certificate.proofs.FoundRuns.{found_can_be_written, found_writes}
use Rattle.plan_certificate.proofs.reader.read.Goals as goal

pub returns-clause-found : goal.returns-clause-found
returns-clause-found c = found_writes c.args.forest.now.entries c.args.text.now c.read_exactly.result c.read_exactly.ensures

pub returns-clause-writable : goal.returns-clause-writable
returns-clause-writable c = found_can_be_written c.args.forest.now.entries c.args.text.now c.read_exactly.result c.read_exactly.ensures
