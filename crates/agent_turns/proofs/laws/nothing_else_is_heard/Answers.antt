-- nothing_else_is_heard: turns are what follows from their words, and that is one way only.
use Rattle.agent_turns.proofs.{Heard.words_law, OneWay.one_way_law}
use Rattle.agent_turns.proofs.laws.nothing_else_is_heard.Goals as goal

pub returns-clause-words : goal.returns-clause-words
returns-clause-words c = words_law

pub returns-clause-one_way : goal.returns-clause-one_way
returns-clause-one_way c = one_way_law
