-- Kept to: until when an entry lives under a plan; and the end of an entry that is asked by itself.
-- Source: Vault, "Tokens" (a token's end ends its children and its leases); Vault, "Lease, renew, and revoke". Needs and
-- margin are this project's own.
use Rattle.std.specs.Prelude.{ℕ, ◌+◌, ◌≤◌, ◌<◌, max, ◌&&◌, if◌then◌else◌, List, [], ◌∷◌, nat_le}
use Rattle.plan_forest.specs.{declared.entry.Entry.Entry, Forest.entry_at, Renewal.renewal}
use Rattle.plan_rule.specs.{declared.wake.Wake.Wake, Keeps.Alive, Keeps.ends_at}

-- i is kept to n: it is alive at each moment from s on and before n
abbrev pub KeptTo : List Entry → ℕ → ℕ → (ℕ → ℕ) → List Wake → ℕ → ℕ → Type 0
KeptTo es margin s ends plan i n = (m : ℕ) → s ≤ m → m < n → Alive es (ends_at es margin ends plan m) m i

-- the end after a wake-up at t of an entry that is asked there by itself: no entry over it is looked at, and no end falls
unfoldable pub own_after : Entry → ℕ → ℕ → ℕ → ℕ
own_after e margin end t = if e.renewable && nat_le (t + margin) end then max end (renewal e t) else end

-- the last end of an entry that is asked by itself at each of these moments
unfoldable pub own_end : Entry → ℕ → ℕ → List ℕ → ℕ
own_end e margin end [] = end
own_end e margin end (t ∷ ts) = own_end e margin (own_after e margin end t) ts

-- that of the entry at an index
unfoldable pub own : List Entry → ℕ → (ℕ → ℕ) → List ℕ → ℕ → ℕ
own es margin ends ts i = own_end (entry_at es i) margin (ends i) ts
