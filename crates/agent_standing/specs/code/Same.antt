-- Same: parts of two inventories are the same. No public clause cites them.
-- Source: this project's own.
use Rattle.std.specs.Prelude.{◌≡◌, ℕ, length}
use Rattle.vault_inventory.specs.Inventories.{Inventory, credential_at, terms_at}
use Rattle.plan_forest.specs.Forest.{entry_at}

-- as many entries, and the same margin
abbrev pub IsAsLarge : Inventory → Inventory → Type 0
IsAsLarge s t = (length s.forest.entries ≡ length t.forest.entries) × (s.forest.margin ≡ t.forest.margin)

-- the entry at an index, with its credential and its terms
abbrev pub IsSameAt : Inventory → Inventory → ℕ → Type 0
IsSameAt s t i =
    (entry_at s.forest.entries i ≡ entry_at t.forest.entries i)
    × ((credential_at s.credentials i ≡ credential_at t.credentials i) × (terms_at s.terms i ≡ terms_at t.terms i))
