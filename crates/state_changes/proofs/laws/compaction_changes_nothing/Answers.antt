-- Records that a later one makes void may be left out.
use Rattle.state_changes.proofs.Compacting.{compaction}
use Rattle.state_changes.proofs.laws.compaction_changes_nothing.Goals as goal

pub returns : goal.returns
returns c = compaction
