-- The entries before the index have their new needs, and the others those that they had.
use Rattle.std.proofs.Common.{◌≡◌}
use Rattle.vault_served.proofs.ForGood.{so_far}
use Rattle.vault_served.proofs.for_good.set_needs.Given as goal

abbrev pub invariant-loop-index : goal.invariant-loop-index
invariant-loop-index l =
    l.inventory ≡ record l.initial.inventory { forest = record { entries = so_far l.initial.inventory.forest.entries l.needs l.index; margin = l.initial.inventory.forest.margin } }
