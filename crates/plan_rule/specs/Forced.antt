-- Forced: a wake-up that no plan can put off.
-- Source: this project's own, over Vault, "Lease, renew, and revoke" (the increment counts from the renewal; maximum TTL).
use Rattle.std.specs.Prelude.{ℕ, ◌+◌, ◌≤◌, ◌<◌, max, List, [], ◌∷◌, Option, Some, None, if◌then◌else◌}
use Rattle.plan_forest.specs.{declared.entry.Entry.Entry, Forest.entry_at, Over.Over, Renewal.renewal}

-- the latest end that an entry with this end can have after a wake-up at prev, or before any where that is None
unfoldable pub latest_end : Entry → ℕ → Option ℕ → ℕ
latest_end e end None = end
latest_end e end (Some t) = if e.renewable then max end (renewal e t) else end

-- the bound of the entry at an index
unfoldable pub bound : List Entry → (ℕ → ℕ) → Option ℕ → ℕ → ℕ
bound es ends prev i = latest_end (entry_at es i) (ends i) prev

-- a wake-up at `moment`, after one at prev: entry is over needed, whose need comes after s; the bound of entry is less
-- than that need, and at most the margin after the wake-up
pub record Forced (es : List Entry) (margin s : ℕ) (ends : ℕ → ℕ) (prev : Option ℕ) (moment entry needed : ℕ) : Type 0 where
  pub over : Over es entry needed
  pub later : s < (entry_at es needed).need
  pub short : bound es ends prev entry < (entry_at es needed).need
  pub due : bound es ends prev entry ≤ moment + margin

-- each moment of a list is Forced by some pair
abbrev pub AllForced : List Entry → ℕ → ℕ → (ℕ → ℕ) → Option ℕ → List ℕ → Type 0
AllForced es margin s ends prev [] = Unit {0}
AllForced es margin s ends prev (t ∷ ts) = ((entry : ℕ) × (needed : ℕ) × Forced es margin s ends prev t entry needed) × AllForced es margin s ends (Some t) ts
