-- To enter the leases that are left gives what it gives to enter all of them.
use Rattle.std.proofs.Common.{◌≡◌, drop}
use Rattle.toml.specs.View.{items_view}
use Rattle.vault_inventory.specs.{declared.key.Key.TheVariants.Lease, Languages.full, Inventory.lease_entered, Inventory.entered_by}
use Rattle.vault_inventory.proofs.draft.Draft.enter_leases.Given as goal

abbrev pub invariant-loop-lease : goal.invariant-loop-lease
invariant-loop-lease l =
    entered_by (lease_entered full l.fn.system_max) Lease l.self (items_view (drop l.lease-index l.leases)) ≡ entered_by (lease_entered full l.fn.system_max) Lease l.initial.self (items_view l.leases)
