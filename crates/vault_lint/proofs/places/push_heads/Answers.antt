-- The first of the lines to come is appended, where it begins such a table.
use Rattle.std.proofs.Common.{◌≡◌, ◌∙◌, ◌++◌, ◌+◌, [], ap, append-nil, append_assoc, arith, drop, get_or, sym}
use Rattle.std.proofs.lemmas.{Grind.common_steps, List.drop_more}
use Rattle.vault_lint.specs.Places.{head_at, heads_from}
use Rattle.plan_forest.specs.declared.entry.Kind.TheVariants as kinds
use Rattle.vault_lint.specs.declared.mark.Mark.TheVariants as marks
use Rattle.vault_lint.proofs.places.push_heads.Goals as goal

pub loop-at-preserved : goal.loop-at-preserved
loop-at-preserved c =
    let at = c.loop-at.at in
    let kind = c.args.kind in
    let said = c.loop-at.heads.items in
    let later = heads_from kind (at + 1) (drop (at + 1) c.args.marks.now) in
    let first = marks.Table kinds.Token in
    let e = drop_more c.args.marks.now at first c.loop-at-test.true in
    ap (λ l. l ++ later) c.in_ok-push_head.ensures
    ∙ append_assoc said (head_at kind (at + 1) (get_or c.args.marks.now at first)) later
    ∙ sym (ap (λ ms. said ++ heads_from kind at ms) e)
    ∙ c.loop-at.invariant

pub returns : goal.returns
returns c =
    let e : drop c.loop-at.at c.args.marks.now ≡ [] = grind (arith, common_steps) in
    sym (append-nil c.loop-at.heads.items) ∙ sym (ap (λ ms. c.loop-at.heads.items ++ heads_from c.args.kind c.loop-at.at ms) e) ∙ c.loop-at.invariant
