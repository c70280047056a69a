-- A walk that has passed all runs has found no fault in them.
use Rattle.std.proofs.Common.{◌∙◌, ap, arith, sym}
use Rattle.std.proofs.lemmas.List.{drop_all}
use Rattle.plan_forest.specs.Forest.{end_of}
use Rattle.plan_rule.specs.Runs.{all_wakes}
use Rattle.plan_check.specs.Walk.{fault}
use Rattle.plan_check.proofs.Run.{fault_at_none}
use Rattle.plan_check.proofs.walk.first_fault.Goals as goal

pub returns : goal.returns
returns c =
    let g = c.args.forest.now in
    let l = c.loop-run in
    sym (fault_at_none g.entries g.margin c.args.start (end_of g.entries) l.previous l.count)
    ∙ sym (ap (λ rs. fault g.entries g.margin c.args.start (end_of g.entries) l.previous l.count (all_wakes rs)) (drop_all l.run-index c.args.runs.now (omega arith)))
    ∙ l.invariant.walk
