-- A need that is shortened was more than any plan keeps, and becomes the latest moment that one keeps.
use Rattle.tick_keeper.proofs.Kept.{shortened}
use Rattle.tick_keeper.proofs.laws_of_needs.shortened_law.Goals as goal

pub returns : goal.returns
returns c = shortened
