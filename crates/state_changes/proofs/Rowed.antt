-- The rows of one entry more.
use Rattle.std.proofs.Common.{◌≡◌, ℕ, suc, ◌+◌, [], ◌∷◌, ◌++◌, refl, ap, arith}
use Rattle.vault_inventory.specs.Served.{Served}
use Rattle.state_changes.specs.Listed.{row_at, rows_before}

pub rows_none : (v : Served) → rows_before v 0 ≡ []
unfolding rows_before
rows_none v = refl

pub rows_more : (v : Served) (i : ℕ) → rows_before v (i + 1) ≡ rows_before v i ++ row_at v i ∷ []
unfolding rows_before
rows_more v i = let one : i + 1 ≡ suc i = omega arith in ap (rows_before v) one
