-- No need is shortened where no pair of entries is unkeepable.
use Rattle.tick_keeper.proofs.Kept.{keepable}
use Rattle.tick_keeper.proofs.laws_of_needs.keepable_law.Goals as goal

pub returns : goal.returns
returns c = keepable
