-- What one row more gives is gathered.
use Rattle.std.proofs.Common.{◌≡◌, [], arith, drop}
use Rattle.std.proofs.lemmas.Grind.{common_steps}
use Rattle.agent_words.proofs.Behind.{first_behind}
use Rattle.agent_words.proofs.Gathering.{gathered_all, gathered_more, gathered_none}
use Rattle.agent_words.proofs.gathered_secrets.gather.Goals as goal

pub loop-row-init : goal.loop-row-init
loop-row-init g c =
    let none : c.new-secrets.result.items ≡ [] = grind (arith, common_steps) in
    let silent : c.new-said.result.items ≡ [] = grind (arith, common_steps) in
    gathered_none (g.I.Inputs.bytes_at c.args.inputs.now) c.args.folder.now c.args.rows.now c.new-secrets.result.items c.new-said.result.items none silent

pub loop-row-preserved : goal.loop-row-preserved
loop-row-preserved g c =
    let rows = c.args.rows.now in
    let at = c.loop-row.row-index in
    let row = c.row-item.result in
    gathered_more (g.I.Inputs.bytes_at c.args.inputs.now) (g.I.Inputs.bytes_at c.loop-row.inputs) (g.I.Inputs.bytes_at c.given.new.inputs) c.args.folder.now rows at row _
    c.loop-row.secrets.items _ c.loop-row.said.items _ c.loop-row.invariant (first_behind rows at row c.loop-row-test.true c.row-item.is) c.in_ok-given.ensures.given c.given.ensures.same
    c.in_ok-put.ensures.secrets c.in_ok-put.ensures.said

pub returns-clause-gathered : goal.returns-clause-gathered
returns-clause-gathered g c =
    let none : drop c.loop-row.row-index c.args.rows.now ≡ [] = grind (arith, common_steps) in
    gathered_all (g.I.Inputs.bytes_at c.args.inputs.now) (g.I.Inputs.bytes_at c.loop-row.inputs) c.args.folder.now c.args.rows.now c.loop-row.secrets.items c.loop-row.said.items c.loop-row.row-index
    c.loop-row.invariant none
