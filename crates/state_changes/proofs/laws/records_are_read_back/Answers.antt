-- A record is read back from its text, which is one line, and from no other.
use Rattle.state_changes.proofs.{Found.read_is_written, ReadBack.line_law, ReadBack.written_is_read}
use Rattle.state_changes.proofs.laws.records_are_read_back.Goals as goal

pub returns-clause-found : goal.returns-clause-found
returns-clause-found c = written_is_read

pub returns-clause-only : goal.returns-clause-only
returns-clause-only c = read_is_written

pub returns-clause-line : goal.returns-clause-line
returns-clause-line c = line_law
