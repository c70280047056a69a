-- The law, as it is proved of the definitions.
use Rattle.vault_asking.proofs.Changed.{change_law}
use Rattle.vault_asking.proofs.InStep.{abreast_new, by_answers, by_clock, by_other}
use Rattle.vault_asking.proofs.laws.lanes_stay_in_step.Goals as goal

pub returns-clause-new : goal.returns-clause-new
returns-clause-new c = abreast_new

pub returns-clause-clock : goal.returns-clause-clock
returns-clause-clock c = by_clock

pub returns-clause-answers : goal.returns-clause-answers
returns-clause-answers c = by_answers

pub returns-clause-other : goal.returns-clause-other
returns-clause-other c = by_other

pub returns-clause-change : goal.returns-clause-change
returns-clause-change c = change_law
