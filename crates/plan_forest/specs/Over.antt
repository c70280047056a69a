-- Over: what stands over an entry, so that the entry ends where one of these does.
-- Source: Vault, "Tokens" (child tokens and orphans); Vault, "Lease, renew, and revoke" (a lease ends with its token).
use Rattle.std.specs.Prelude.{◌≡◌, ℕ, zero, suc, Bool, true, List, [], ◌∷◌, Some, None, ◌==◌}
use Rattle.std.specs.List.{list_any}
use Rattle.plan_forest.specs.{declared.entry.Entry.Entry, Forest.entry_at}

-- i, its parent, the parent of that and so on: n entries at most
unfoldable pub chain_of : ℕ → List Entry → ℕ → List ℕ
chain_of zero es i = []
chain_of (suc n) es i = i ∷ elim ((entry_at es i).parent) [ None ↦ [] | Some p ↦ chain_of n es p ]

-- i, its parent, the parent of that and so on, up to the root. A parent stands before its child, so i + 1 entries do
unfoldable pub chain : List Entry → ℕ → List ℕ
chain es i = chain_of (suc i) es i

-- whether a stands in the chain of f: the question of the code, which Over asks
unfoldable pub is_over : List Entry → ℕ → ℕ → Bool
is_over es a f = list_any (λ b. b == a) (chain es f)

-- a is over f
abbrev pub Over : List Entry → ℕ → ℕ → Type 0
Over es a f = is_over es a f ≡ true
