-- Each step up counts down.
use Rattle.state_changes.proofs.rows.Rows.+is_deep.Given as goal

abbrev pub decreases-is_deep : goal.decreases-is_deep
decreases-is_deep l = l.most
