-- The line of one entry more, with what binds it, is appended.
use Rattle.std.proofs.Common.{◌∙◌, ◌++◌, ap}
use Rattle.plan_commands.proofs.Reaching.{lines_more}
use Rattle.plan_commands.proofs.reach_text.lines_of.Goals as goal

pub loop-index-preserved : goal.loop-index-preserved
loop-index-preserved c =
    lines_more c.args.forest.now c.args.start c.args.layout.dates c.loop-index.index c.loop-index.lines.items c.in_ok-line.line _ c.loop-index.invariant c.in_ok-line.ensures.line
    (c.in_ok-extend_from_slice.ensures.items ∙ ap (λ line. c.loop-index.lines.items ++ line) c.list.ensures)
