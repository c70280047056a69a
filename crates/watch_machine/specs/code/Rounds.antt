-- Rounds: the first bound that falls short. No public clause cites it.
-- Source: this project's own.
use Rattle.std.specs.Prelude.{◌≡◌, ℕ, ◌≤◌, ◌<◌, Bool, true, ◌&&◌, if◌then◌else◌, Option, Some, None, nat_lt}

-- the first of two bounds that fall short
abbrev pub is_sooner : ℕ → Option ℕ → Bool
is_sooner bound None = true
is_sooner bound (Some first) = nat_lt bound first

abbrev pub first_with : Option ℕ → ℕ → ℕ → Option ℕ
first_with first bound need = if nat_lt bound need && is_sooner bound first then Some bound else first

-- b is the earliest of the first n bounds that fall short of a need
pub record IsEarliest (bound need : ℕ → ℕ) (n b : ℕ) : Type 0 where
  pub entry : ℕ
  pub within : entry < n
  pub is : bound entry ≡ b
  pub short : b < need entry
  pub earliest : (i : ℕ) → i < n → bound i < need i → b ≤ bound i

-- None where none of them does
abbrev pub IsFirstShort : (ℕ → ℕ) → (ℕ → ℕ) → ℕ → Option ℕ → Type 0
IsFirstShort bound need n None = (i : ℕ) → i < n → need i ≤ bound i
IsFirstShort bound need n (Some b) = IsEarliest bound need n b
