-- An event that tells of no end leaves what is told of each entry, and what the entry is known by.
use Rattle.agent_ends.proofs.Untold.{untold}
use Rattle.agent_ends.proofs.laws.only_what_is_told_is_kept.Goals as goal

pub returns : goal.returns
returns c = untold
