-- A journal over the file that was settled.
use Rattle.state_file.proofs.Staying.{stays}
use Rattle.state_file.proofs.laws.settled_rows_stay.Goals as goal

pub returns : goal.returns
returns c = stays
