-- The lines of the ends and the line `keeps` are what asking every entry at the moments comes to.
use Rattle.std.proofs.Common.{◌≡◌, ◌∙◌, ◌++◌, ◌↔◌, IsTrue, None, ap, refl, length, subst}
use Rattle.plan_forest.specs.Forest.{end_of}
use Rattle.plan_rule.specs.{Ends.ends_after, Ends.ends_listed, Keeps.Keeps, Plans.wake_fault}
use Rattle.plan_commands.specs.code.Making.{at_index}
use Rattle.plan_commands.specs.EndsText.{all_asked, end_lines, keeps_line}
use Rattle.plan_commands.proofs.Lines.{at_index_listed, end_lines_same, length_listed}
use Rattle.plan_commands.proofs.ends_text.replay_text.Goals as goal

pub push_lines-requires : goal.push_lines-requires
push_lines-requires c = ap length c.list.ensures ∙ ap length c.in_ok-ends.ensures.ends.1 ∙ length_listed c.args.forest.now.entries _

pub returns : goal.returns
returns c =
    let g = c.args.forest.now in
    let es = g.entries in
    let s = c.args.start in
    let asked = all_asked (length es) c.args.moments.now in
    let wakes : c.deref.result.now ≡ asked = c.deref.ensures.value ∙ c.in_ok-wakes.ensures in
    let wakes' : c.deref-2.result.now ≡ asked = c.deref-2.ensures.value ∙ c.in_ok-wakes.ensures in
    let ends : c.list.result.now ≡ ends_listed es (ends_after es g.margin (end_of es) asked) =
    c.list.ensures ∙ c.in_ok-ends.ensures.ends.1 ∙ ap (λ ws. ends_listed es (ends_after es g.margin (end_of es) ws)) wakes in
    let judged : IsTrue c.in_ok-kept.kept ↔ Keeps es g.margin s (end_of es) asked =
    subst (λ ws. IsTrue c.in_ok-kept.kept ↔ Keeps es g.margin s (end_of es) ws) wakes' c.in_ok-kept.ensures.kept.1 in
    let lines : end_lines es (at_index c.list.result.now) (length es) ≡ end_lines es (ends_after es g.margin (end_of es) asked) (length es) =
    end_lines_same es (at_index c.list.result.now) (ends_after es g.margin (end_of es) asked) (length es) (at_index_listed es c.list.result.now (ends_after es g.margin (end_of es) asked) ends) in (
      refl,
      record {
        in_order = subst (λ ws. wake_fault es s ws ≡ None) wakes c.in_ok-ends.ensures.ends.0;
        kept = c.in_ok-kept.kept;
        judged = judged;
        spelled = c.from_vec.ensures ∙ c.in_ok-extend_from_slice.ensures.items
            ∙ ap (λ xs. c.push_lines.new.text.items ++ xs) c.keeps_line.ensures
            ∙ ap (λ xs. xs ++ keeps_line c.in_ok-kept.kept) (c.in_ok-push_lines.ensures ∙ ap (λ xs. xs ++ end_lines es (at_index c.list.result.now) (length es)) c.new-text.ensures.items ∙ lines);
      },
    )
