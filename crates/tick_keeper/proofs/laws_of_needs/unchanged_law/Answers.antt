-- Planning anew changes no need but those that it shortens, and nothing else of the entries.
use Rattle.tick_keeper.proofs.Kept.{unchanged}
use Rattle.tick_keeper.proofs.laws_of_needs.unchanged_law.Goals as goal

pub returns : goal.returns
returns c = unchanged
