-- No table before the index leaves anything open.
use Rattle.std.proofs.Common.{◌≡◌, drop}
use Rattle.vault_inventory.specs.Served.{first_open}
use Rattle.vault_inventory.proofs.served.first_open.Given as goal

abbrev pub invariant-loop-index : goal.invariant-loop-index
invariant-loop-index l = first_open l.index (drop l.index l.notes) ≡ first_open 0 l.notes
