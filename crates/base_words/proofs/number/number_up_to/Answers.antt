-- A number that is found is spelled by the word; where none is found, the word spells no number up to the bound.
use Rattle.std.proofs.Common.{◌∙◌, arith, sym}
use Rattle.base_words.proofs.Numbers.{number_lost, told_spelled}
use Rattle.base_words.proofs.number.number_up_to.Goals as goal

pub returns-clause-spelled : goal.returns-clause-spelled
returns-clause-spelled c = told_spelled c.args.most (omega (arith, c.ranges.most)) c.args.word.now c.spelled_number.result c.spelled_number.ensures.value

pub returns-clause-none : goal.returns-clause-none
returns-clause-none c = λ e. number_lost c.args.most (omega (arith, c.ranges.most)) c.args.word.now (sym c.spelled_number.ensures.value ∙ e)
