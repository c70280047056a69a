-- The walk from an entry to its root ends, since each parent has a lower index.
use Rattle.plan_rule.proofs.rule.+all_last.Given as goal

abbrev pub decreases-all_last : goal.decreases-all_last
decreases-all_last l = l.index
