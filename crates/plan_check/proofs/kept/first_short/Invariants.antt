-- The entries before the index last until their needs, and the least ends over them are listed.
use Rattle.std.proofs.Common.{◌≡◌, vec_len}
use Rattle.plan_forest.specs.Forest.{end_of}
use Rattle.plan_rule.proofs.Rounds.{LastsBelow}
use Rattle.plan_rule.specs.Runs.{all_wakes, moments_of}
use Rattle.plan_check.specs.{Kept.own, code.Steps.AllLast}
use Rattle.plan_check.proofs.kept.first_short.Given as goal

abbrev pub invariant-loop-index : goal.invariant-loop-index
invariant-loop-index l = record {
  count : vec_len l.lasts ≡ l.index;
  least : LastsBelow l.forest.entries (own l.forest.entries l.forest.margin (end_of l.forest.entries) (moments_of (all_wakes l.rising.runs))) l.lasts.items l.index;
  last : AllLast l.forest l.rising.start (own l.forest.entries l.forest.margin (end_of l.forest.entries) (moments_of (all_wakes l.rising.runs))) l.index;
}
