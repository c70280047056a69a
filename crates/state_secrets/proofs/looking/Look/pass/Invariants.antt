-- However the pass ends from the current row on, it ends so from the first.
use Rattle.state_secrets.proofs.Passing.{SoFar}
use Rattle.state_secrets.specs.declared.looking.TheConstants.{MOST_LOOKS}
use Rattle.state_secrets.proofs.looking.Look.pass.Given as goal

abbrev pub invariant-loop-at : goal.invariant-loop-at
invariant-loop-at g l = SoFar g.I.SecretFiles.calls l.self.looking.now.marks.items l.self.secrets.now l.self.folder.now l.self.elapsed l.self.looking.now.next l.rows MOST_LOOKS l.fn.files l.at l.left l.files
