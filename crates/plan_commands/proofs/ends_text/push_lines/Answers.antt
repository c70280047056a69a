-- The line of one entry more, with its end, is appended.
use Rattle.std.proofs.Common.{◌∙◌, ◌++◌, ap, sym}
use Rattle.std.proofs.lemmas.List.{append-nil, append_assoc}
use Rattle.plan_forest.specs.Forest.{entry_at}
use Rattle.plan_commands.specs.{code.Making.at_index, EndsText.end_lines, EndsText.name_end_line}
use Rattle.plan_commands.proofs.Lines.{end_lines_more, end_lines_none}
use Rattle.plan_commands.proofs.ends_text.push_lines.Goals as goal

pub loop-index-init : goal.loop-index-init
loop-index-init c = sym (ap (λ xs. c.args.text.now.items ++ xs) (end_lines_none c.args.forest.now.entries (at_index c.args.ends.now)) ∙ append-nil c.args.text.now.items)

pub loop-index-preserved : goal.loop-index-preserved
unfolding at_index
loop-index-preserved c =
    let es = c.args.forest.now.entries in
    let i = c.loop-index.index in
    let ends = at_index c.args.ends.now in
    c.in_ok-push_line.ensures
    ∙ ap (λ e. c.loop-index.text.items ++ name_end_line e (ends i)) c.get.ensures.value
    ∙ ap (λ xs. xs ++ name_end_line (entry_at es i) (ends i)) c.loop-index.invariant
    ∙ append_assoc c.args.text.now.items (end_lines es ends i) (name_end_line (entry_at es i) (ends i))
    ∙ ap (λ xs. c.args.text.now.items ++ xs) (sym (end_lines_more es ends i))
