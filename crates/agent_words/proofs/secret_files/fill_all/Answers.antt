-- One row more is filled.
use Rattle.std.proofs.Common.{◌≡◌, ◌+◌, List, [], arith, drop, subst, sym}
use Rattle.std.proofs.lemmas.Grind.{common_steps}
use Rattle.state_changes.specs.declared.row.Row.{Row}
use Rattle.agent_words.proofs.Behind.{first_behind}
use Rattle.agent_words.proofs.Filled.{FilledSoFar, filled_all, filled_more, filled_none, handed_on}
use Rattle.agent_words.proofs.secret_files.fill_all.Goals as goal

pub loop-entry-init : goal.loop-entry-init
loop-entry-init g c =
    let none : c.new-filled.result.items ≡ [] = grind (arith, common_steps) in
    filled_none (g.I.Inputs.bytes_at c.args.inputs.now) c.args.folder.now c.args.rows.now c.new-filled.result.items none

pub loop-entry-preserved : goal.loop-entry-preserved
loop-entry-preserved g c =
    let k = g.I.Inputs.bytes_at c.args.inputs.now in
    let rows = c.args.rows.now in
    let at = c.loop-entry.entry in
    let row = c.index-rows-entry.result in
    let e = first_behind rows at row c.loop-entry-test.true c.index-rows-entry.is in
    subst (λ (done : List Row). FilledSoFar k (g.I.Inputs.bytes_at c.fill.new.inputs) c.args.folder.now rows done (at + 1)) (sym c.in_ok-push.ensures.items)
    (filled_more k (g.I.Inputs.bytes_at c.loop-entry.inputs) (g.I.Inputs.bytes_at c.fill.new.inputs) c.args.folder.now rows c.loop-entry.filled.items at row _ c.loop-entry.invariant e c.in_ok-fill.ensures.filled c.fill.ensures.same)

pub returns-clause-filled : goal.returns-clause-filled
returns-clause-filled g c =
    let e : drop c.loop-entry.entry c.args.rows.now ≡ [] = grind (arith, common_steps) in
    filled_all (g.I.Inputs.bytes_at c.args.inputs.now) (g.I.Inputs.bytes_at c.loop-entry.inputs) c.args.folder.now c.args.rows.now c.loop-entry.filled.items c.loop-entry.entry c.loop-entry.invariant e

pub returns-in_err-fill-clause-unfilled : goal.returns-in_err-fill-clause-unfilled
returns-in_err-fill-clause-unfilled g c =
    let row = c.index-rows-entry.result in
    let e = first_behind c.args.rows.now c.loop-entry.entry row c.loop-entry-test.true c.index-rows-entry.is in
    handed_on (g.I.Inputs.bytes_at c.args.inputs.now) (g.I.Inputs.bytes_at c.loop-entry.inputs) c.args.folder.now c.args.rows.now c.loop-entry.filled.items c.loop-entry.entry row c.in_err-fill.field-0.0
    c.from_residual.result c.loop-entry.invariant e c.in_err-fill.ensures.unfilled c.from_residual.ensures
