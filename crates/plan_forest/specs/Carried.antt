-- Carried need: the greatest need of an entry that one is over, and which entry has it.
-- Source: Vault, "Tokens" (a token's end ends its children and its leases); needs are this project's own.
use Rattle.std.specs.Prelude.{◌≡◌, ℕ, ◌≤◌, zero, suc, max, ◌&&◌, if◌then◌else◌, List, length, nat_lt}
use Rattle.plan_forest.specs.{declared.entry.Entry.Entry, Forest.entry_at, Over.Over, Over.is_over}

-- the greatest need after s of those of the first n entries that i is over, 0 where there is none
unfoldable pub carried_of : List Entry → ℕ → ℕ → ℕ → ℕ
carried_of es s i zero = 0
carried_of es s i (suc n) =
    if is_over es i n && nat_lt s (entry_at es n).need then max (carried_of es s i n) (entry_at es n).need else carried_of es s i n

-- the need that i carries from s on: the greatest need after s of an entry that i is over, 0 where there is none
unfoldable pub carried : List Entry → ℕ → ℕ → ℕ
carried es s i = carried_of es s i (length es)

-- needed is the entry that has the need which i carries: i is over it, and no entry before it that i is over has this need
pub record IsFrom (es : List Entry) (s i needed : ℕ) : Type 0 where
  pub over : Over es i needed
  pub need : (entry_at es needed).need ≡ carried es s i
  pub lowest : (f : ℕ) → Over es i f → (entry_at es f).need ≡ carried es s i → needed ≤ f
