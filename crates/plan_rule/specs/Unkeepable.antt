-- Unkeepable: a pair of entries that no plan can keep.
-- Source: this project's own, over Vault, "Lease, renew, and revoke" (maximum TTL).
use Rattle.std.specs.Prelude.{◌≡◌, ℕ, ◌<◌, List, Some}
use Rattle.plan_forest.specs.{declared.entry.Entry.Entry, Forest.Forest, Forest.entry_at, Over.Over}
use Rattle.plan_rule.specs.Reach.{reach}

-- entry is over needed, whose need comes after s, and cannot be led that far
pub record Unkeepable (es : List Entry) (margin s : ℕ) (ends : ℕ → ℕ) (entry needed : ℕ) : Type 0 where
  pub over : Over es entry needed
  pub later : s < (entry_at es needed).need
  pub most : ℕ
  pub reaches : reach es margin s ends entry ≡ Some most
  pub short : most < (entry_at es needed).need

-- no pair is Unkeepable
abbrev pub AllKeepable : Forest → ℕ → (ℕ → ℕ) → Type 0
AllKeepable g s ends = (entry needed : ℕ) → Unkeepable g.entries g.margin s ends entry needed → ⊥
