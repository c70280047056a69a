-- Alive and Keeps: what a plan does for the entries that are needed.
-- Source: Vault, "Tokens" (a token's end ends its children and its leases); needs are this project's own.
use Rattle.std.specs.Prelude.{ℕ, ◌≤◌, ◌<◌, List, filter, nat_le}
use Rattle.plan_forest.specs.{declared.entry.Entry.Entry, Forest.entry_at, Over.Over}
use Rattle.plan_rule.specs.{declared.wake.Wake.Wake, Ends.ends_after}

-- the ends at a moment: those after the wake-ups at that moment or before
unfoldable pub ends_at : List Entry → ℕ → (ℕ → ℕ) → List Wake → ℕ → ℕ → ℕ
ends_at es margin ends ws m = ends_after es margin ends (filter (λ w. nat_le w.at m) ws)

-- by these ends i is alive at m: each entry over it ends after m. The margin plays no part in it
abbrev pub Alive : List Entry → (ℕ → ℕ) → ℕ → ℕ → Type 0
Alive es ends m i = (a : ℕ) → Over es a i → m < ends a

-- each entry is alive at each moment from s on and before its need
abbrev pub Keeps : List Entry → ℕ → ℕ → (ℕ → ℕ) → List Wake → Type 0
Keeps es margin s ends ws = (i m : ℕ) → s ≤ m → m < (entry_at es i).need → Alive es (ends_at es margin ends ws m) m i
