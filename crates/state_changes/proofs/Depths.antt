-- How deep an entry stands, by the entry over it.
use Rattle.std.proofs.Common.{◌≡◌, ◌≢◌, ℕ, zero, suc, ◌-◌, true, false, List, Option, Some, None, refl, ap, arith}
use Rattle.state_changes.specs.declared.row.Row.{Row}
use Rattle.state_changes.specs.Rows.{holds_of_parent, is_deep, named}

pub deep_none : (most : ℕ) (rows : List Row) (parent : Option (List ℕ)) → most ≡ 0 → is_deep most rows parent ≡ true
unfolding is_deep
deep_none zero rows parent e = refl
deep_none (suc n) rows parent e = cc

pub deep_orphan : (most : ℕ) (rows : List Row) → most ≢ 0 → is_deep most rows None ≡ false
unfolding is_deep
deep_orphan zero rows some = absurd (some refl)
deep_orphan (suc n) rows some = refl

pub deep_under : (most : ℕ) (rows : List Row) (name : List ℕ) → most ≢ 0 → is_deep most rows (Some name) ≡ holds_of_parent (is_deep (most - 1) rows) (named rows name)
unfolding is_deep
deep_under zero rows name some = absurd (some refl)
deep_under (suc n) rows name some = let less : n ≡ suc n - 1 = omega arith in ap (λ k. holds_of_parent (is_deep k rows) (named rows name)) less
