-- One record more is left behind.
use Rattle.std.proofs.Common.{◌++◌, ◌+◌, ◌∙◌, List, ℕ, ap, arith, drop, sym}
use Rattle.std.proofs.lemmas.List.{drop_all}
use Rattle.base_journal.specs.Records.{block, blocks}
use Rattle.agent_system.proofs.SetAside.{record_then}
use Rattle.agent_system.proofs.aside.after_records.Goals as goal

pub loop-line-preserved : goal.loop-line-preserved
loop-line-preserved c end is =
    let lines = c.args.lines.now in
    let i = c.loop-line.line-index in
    let left = blocks (drop (i + 1) lines) ++ end in
    c.after_record-rest.ensures left
    (c.loop-line.invariant end is ∙ record_then lines i c.line-item.result end c.loop-line-test.true c.line-item.is ∙ ap (λ (l : List ℕ). block l ++ left) (sym c.list.ensures))

pub returns : goal.returns
returns c end is =
    let lines = c.args.lines.now in
    c.loop-line.invariant end is ∙ ap (λ (l : List (List ℕ)). blocks l ++ end) (drop_all c.loop-line.line-index lines (omega (arith, c.loop-line-test.false)))
