-- The first word ends at the first space, and is the whole line where there is no space.
use Rattle.std.proofs.Common.{ap, sym}
use Rattle.base_words.specs.Pieces.{first, keyword}
use Rattle.base_words.proofs.words.keyword.Goals as goal

pub returns-in-Some : goal.returns-in-Some
unfolding keyword
returns-in-Some c = sym (ap first c.in-Some.ensures)

pub returns-in-None : goal.returns-in-None
unfolding keyword
returns-in-None c = sym (ap first c.in-None.ensures)
