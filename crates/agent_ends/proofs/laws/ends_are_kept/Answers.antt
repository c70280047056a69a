-- Ends are read back of the text that keeps them.
use Rattle.agent_standing.proofs.EndLines.{line_law, written_is_read}
use Rattle.agent_ends.proofs.Lines.{read_back}
use Rattle.agent_ends.proofs.laws.ends_are_kept.Goals as goal

pub returns : goal.returns
returns c = read_back written_is_read line_law
