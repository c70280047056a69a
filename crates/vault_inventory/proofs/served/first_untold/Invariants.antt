-- No table before the index leaves its end to a lookup.
use Rattle.std.proofs.Common.{◌≡◌, drop}
use Rattle.vault_inventory.specs.Served.{first_untold}
use Rattle.vault_inventory.proofs.served.first_untold.Given as goal

abbrev pub invariant-loop-index : goal.invariant-loop-index
invariant-loop-index l = first_untold l.index (drop l.index l.notes) ≡ first_untold 0 l.notes
