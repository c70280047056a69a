-- Where no margin does with so few wake-ups, the text is `none` or names the pair.
use Rattle.plan_commands.proofs.Margins.{none_makes}
use Rattle.plan_commands.proofs.margin_text.widest_within.Goals as goal

pub returns-in_ok-none-in-Ok-None : goal.returns-in_ok-none-in-Ok-None
returns-in_ok-none-in-Ok-None c =
    none_makes c.args.forest.now c.widest_margin.new.forest c.args.start c.args.most c.min.result c.in-Ok-None.field-0 c.in_ok-none-in-Ok-None.none c.no_margin.result
    c.in-Ok-None.ensures.unchanged c.min.ensures c.in-Ok-None.field-0-is c.in-Ok-None.ensures.value c.in_ok-none-in-Ok-None.ensures c.no_margin.ensures.text c.no_margin.ensures.memory
