-- Each moment has one date, and so all that is told is one text.
use Rattle.agent_pages.proofs.OneText.{one_answer, one_told}
use Rattle.agent_pages.proofs.laws.nothing_else_is_told.Goals as goal

pub returns-clause-answers : goal.returns-clause-answers
returns-clause-answers c = one_answer

pub returns-clause-told : goal.returns-clause-told
returns-clause-told c = one_told
