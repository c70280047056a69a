-- GoodOnes: the inventory in which a need that is `always` lasts to the last moment has the entries that are written.
use Rattle.std.proofs.Common.{◌≡◌, ◌∙◌, ℕ, List, Ok, Result, ap, length, sym}
use Rattle.std.proofs.lemmas.List.FromFn.{length-map-range_with_len}
use Rattle.vault_inventory.specs.Answers.{◌>>=◌}
use Rattle.vault_inventory.specs.{Inventories.Inventory, Inventory.read_served, Served.Served, declared.fault.InvFault.InvFault}
use Rattle.vault_served.specs.ForGood.{inventory_for_good, inventory_with_needs, served_for_good}

pub good_of : (bytes : List ℕ) (v : Served) (good : Inventory) → read_served bytes ≡ Ok v → inventory_for_good bytes ≡ Ok good → good ≡ served_for_good v
unfolding inventory_for_good
good_of bytes v good reads is =
    let both : Ok (served_for_good v) ≡ Ok good = sym (ap (λ (r : Result Served InvFault). r >>= λ w. Ok (served_for_good w)) reads) ∙ is in
    cc

pub good_count : (v : Served) → length (served_for_good v).forest.entries ≡ length v.inventory.forest.entries
unfolding served_for_good inventory_with_needs
good_count v = length-map-range_with_len _ 0 (length v.inventory.forest.entries)
