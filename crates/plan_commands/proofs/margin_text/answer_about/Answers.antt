-- The text about the ends as they are, or renewed, is the one that is asked for.
use Rattle.std.proofs.Common.{subst}
use Rattle.plan_forest.specs.Forest.{Forest}
use Rattle.plan_commands.specs.{code.Making.MakesOf, code.MarginMaking.HaltsFrom, code.MarginMaking.TextsFrom}
use Rattle.plan_commands.proofs.Margins.{asked_makes}
use Rattle.plan_commands.proofs.margin_text.answer_about.Goals as goal

pub returns : goal.returns
returns c =
    let q = c.args.query.now in
    asked_makes q c.args.forest c.answer.result
    (subst (λ (h : Forest). MakesOf (TextsFrom q.start q.most_wakes) (HaltsFrom q.start q.most_wakes) h c.answer.result) c.renew_if_asked.ensures c.answer.ensures)
