-- Renewal rule: the end that a renewal gives.
-- Source: Vault, "Lease, renew, and revoke" (the increment counts from the renewal, not from the old end; no renewal
-- goes past the maximum TTL); Vault, "Tokens" (period, explicit max TTL). The margin is this project's own.
use Rattle.std.specs.Prelude.{ℕ, ◌+◌, min, Bool, ◌&&◌, if◌then◌else◌, List, Option, Some, None, nat_le}
use Rattle.std.specs.List.{list_all}
use Rattle.plan_forest.specs.{declared.entry.Entry.Entry, Forest.entry_at, Over.chain}

-- a moment that is no later than the ceiling, where there is one
unfoldable pub capped : Option ℕ → ℕ → ℕ
capped None t = t
capped (Some c) t = min t c

-- the end that a granted renewal at t gives: t + step, or the ceiling where that comes sooner
unfoldable pub renewal : Entry → ℕ → ℕ
renewal e t = capped e.ceiling (t + e.step)

-- each entry over i (itself included) has, by these ends, an end of at least m
unfoldable pub all_last : List Entry → (ℕ → ℕ) → ℕ → ℕ → Bool
all_last es ends m i = list_all (λ a. nat_le m (ends a)) (chain es i)

-- a request for i at t is granted: i is renewable, and each entry over it ends at t + margin or later
unfoldable pub is_granted : List Entry → ℕ → (ℕ → ℕ) → ℕ → ℕ → Bool
is_granted es margin ends t i = (entry_at es i).renewable && all_last es ends (t + margin) i

-- the end that i has after it was asked at t: a new one where that is granted, else its end as it was
unfoldable pub renewed : List Entry → ℕ → (ℕ → ℕ) → ℕ → ℕ → ℕ
renewed es margin ends t i = if is_granted es margin ends t i then renewal (entry_at es i) t else ends i
