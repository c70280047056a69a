-- The fault of one row more is said, where it has one.
use Rattle.std.proofs.Common.{◌≡◌, [], arith, drop}
use Rattle.std.proofs.lemmas.Grind.{common_steps}
use Rattle.agent_words.proofs.Behind.{first_behind}
use Rattle.agent_words.proofs.Unfilled.{unfilled_all, unfilled_more, unfilled_none}
use Rattle.agent_words.proofs.secret_files.push_unfilled.Goals as goal

pub loop-entry-init : goal.loop-entry-init
loop-entry-init g c = unfilled_none (g.I.Inputs.bytes_at c.args.inputs.now) c.args.folder.now c.args.rows.now c.args.faults.now.items

pub loop-entry-preserved : goal.loop-entry-preserved
loop-entry-preserved g c =
    let rows = c.args.rows.now in
    let at = c.loop-entry.entry in
    let row = c.index-rows-entry.result in
    let e = first_behind rows at row c.loop-entry-test.true c.index-rows-entry.is in
    unfilled_more (g.I.Inputs.bytes_at c.args.inputs.now) (g.I.Inputs.bytes_at c.loop-entry.inputs) (g.I.Inputs.bytes_at c.unfilled.new.inputs) c.args.folder.now rows c.args.faults.now.items c.loop-entry.faults.items
    c.push_if.new.faults.items at row c.in_ok-fault.fault c.loop-entry.invariant e c.in_ok-fault.ensures.fault c.unfilled.ensures.same c.in_ok-push_if.ensures

pub returns-clause-faults : goal.returns-clause-faults
returns-clause-faults g c =
    let e : drop c.loop-entry.entry c.args.rows.now ≡ [] = grind (arith, common_steps) in
    unfilled_all (g.I.Inputs.bytes_at c.args.inputs.now) (g.I.Inputs.bytes_at c.loop-entry.inputs) c.args.folder.now c.args.rows.now c.args.faults.now.items c.loop-entry.faults.items c.loop-entry.entry c.loop-entry.invariant e
