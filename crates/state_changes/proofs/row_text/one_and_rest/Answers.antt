-- What is cut off at the first space is the first word.
use Rattle.state_changes.proofs.Cuts.{cut_is}
use Rattle.state_changes.proofs.row_text.one_and_rest.Goals as goal

pub returns : goal.returns
returns c = cut_is c.args.line.now _ c.cut.ensures
