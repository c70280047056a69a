-- Where the own margin is enough, some margin is found.
use Rattle.plan_commands.proofs.Margins.{own_found}
use Rattle.plan_commands.proofs.margin_text.widest_for.Goals as goal

pub unwrap-requires : goal.unwrap-requires
unwrap-requires c = own_found c.args.forest.now c.args.start c.args.own c.in-Ok.widest c.len-entries.ensures.sound c.requires.fewest c.in-Ok.ensures.value
