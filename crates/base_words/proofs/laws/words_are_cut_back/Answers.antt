-- The pieces of a text join to that text, and what is joined is cut into the same pieces.
use Rattle.base_words.proofs.Joined.{cut_back, joined_back}
use Rattle.base_words.proofs.laws.words_are_cut_back.Goals as goal

pub returns-clause-joined : goal.returns-clause-joined
returns-clause-joined c = joined_back

pub returns-clause-cut : goal.returns-clause-cut
returns-clause-cut c = cut_back
