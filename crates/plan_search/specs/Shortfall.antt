-- Shortfall: the pair that is named where no plan keeps.
-- Source: this project's own, over Vault, "Lease, renew, and revoke" (maximum TTL).
use Rattle.std.specs.Prelude.{ℕ, ◌≤◌}
use Rattle.plan_forest.specs.{Carried.IsFrom, Forest.Forest, Forest.end_of}
use Rattle.plan_rule.specs.Unkeepable.{Unkeepable}

-- entry is the lowest that is Unkeepable with some entry, by the present ends; needed is the from of its carried need, and
-- the two are Unkeepable
pub record IsShortfall (g : Forest) (s entry needed : ℕ) : Type 0 where
  pub pair : Unkeepable g.entries g.margin s (end_of g.entries) entry needed
  pub lowest : (i f : ℕ) → Unkeepable g.entries g.margin s (end_of g.entries) i f → entry ≤ i
  pub from : IsFrom g.entries s entry needed
