-- Some plan keeps an entry until the moment that `reach` shows and none any longer, whatever is needed.
use Rattle.plan_commands.proofs.Until.{until_law, whatever_is_needed}
use Rattle.plan_commands.proofs.laws.until_law.Goals as goal

pub returns-clause-until : goal.returns-clause-until
returns-clause-until c = until_law

pub returns-clause-whatever : goal.returns-clause-whatever
returns-clause-whatever c = whatever_is_needed
