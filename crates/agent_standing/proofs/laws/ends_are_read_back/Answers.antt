-- ends_are_read_back: the laws as they are proved in EndLines.
use Rattle.agent_standing.proofs.EndLines.{boot_law, line_law, read_is_written, written_is_read}
use Rattle.agent_standing.proofs.laws.ends_are_read_back.Goals as goal

pub returns-clause-found : goal.returns-clause-found
returns-clause-found c = written_is_read

pub returns-clause-only : goal.returns-clause-only
returns-clause-only c = read_is_written

pub returns-clause-line : goal.returns-clause-line
returns-clause-line c = line_law

pub returns-clause-boot : goal.returns-clause-boot
returns-clause-boot c = boot_law
