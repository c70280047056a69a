-- line_law: the laws as they are proved in Line.
use Rattle.watch_laws.proofs.Line.{line_so, ready_so}
use Rattle.watch_laws.proofs.laws_of_starts.line_law.Goals as goal

pub returns-clause-line : goal.returns-clause-line
returns-clause-line c = line_so

pub returns-clause-ready : goal.returns-clause-ready
returns-clause-ready c = ready_so
