-- Reach: how far renewals can lead an entry.
-- Source: Vault, "Lease, renew, and revoke" (maximum TTL); Vault, "Tokens" (explicit max TTL, period). The margin is
-- this project's own.
use Rattle.std.specs.Prelude.{ℕ, ◌+◌, max, ◌&&◌, if◌then◌else◌, List, Option, Some, option_map, nat_le}
use Rattle.plan_forest.specs.{declared.entry.Entry.Entry, Forest.entry_at}

-- the reach from s of an entry with this end: the end, where it cannot be renewed or ends before s + margin; else the
-- greater of the end and the ceiling, None (no limit) without a ceiling
unfoldable pub reach_of : Entry → ℕ → ℕ → ℕ → Option ℕ
reach_of e margin s end = if e.renewable && nat_le (s + margin) end then option_map (λ ceiling. max end ceiling) e.ceiling else Some end

-- the reach from s of the entry at an index, by these ends
unfoldable pub reach : List Entry → ℕ → ℕ → (ℕ → ℕ) → ℕ → Option ℕ
reach es margin s ends i = reach_of (entry_at es i) margin s (ends i)
