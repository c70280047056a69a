-- One line more is that of the next run.
use Rattle.std.proofs.Common.{◌<◌, ◌∙◌, ◌++◌, ap, arith, length, refl}
use Rattle.plan_commands.proofs.Dated.{lines_more}
use Rattle.plan_commands.proofs.plan_dates_text.run_lines.Goals as goal

pub loop-run-preserved : goal.loop-run-preserved
loop-run-preserved c =
    let test = c.loop-run-test.true in
    let end = c.loop-run.auto.run-index-end in
    let within : c.loop-run.run-index < length c.args.runs.now = omega (arith, test, end) in
    lines_more c.args.forest.now.entries c.args.runs.now c.loop-run.run-index _ _ c.loop-run.lines.items _ c.extend_from_slice.new.self.items within refl c.loop-run.invariant c.in_ok-line.ensures.line
    (c.in_ok-extend_from_slice.ensures.items ∙ ap (λ t. c.loop-run.lines.items ++ t) c.list.ensures)
