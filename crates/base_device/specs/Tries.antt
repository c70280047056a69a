-- Tries: what a call comes to that does not wait.
-- Source: this project's own.
use Rattle.std.specs.Prelude.{◌≡◌, ◌⊎◌, ℕ, Result, Ok, Err}
use Rattle.base_device.specs.{declared.tried.Tried.Tried, declared.tried.Tried.TheVariants.Done, declared.tried.Tried.TheVariants.Waits, declared.tried.Tried.TheVariants.Failed}

-- P of the number of bytes, where there is one, and else Q
abbrev pub MatchTried : Tried → (ℕ → Type 0) → Type 0 → Type 0
MatchTried (Done n) P Q = P n
MatchTried Waits P Q = Q
MatchTried Failed P Q = Q

abbrev pub IfTryDone : Tried → (ℕ → Type 0) → Type 0
IfTryDone tried P = MatchTried tried P (Unit {0})

-- the try that a call of the system is
abbrev pub IsTryOf : {E : Type 0} → Result ℕ E → Tried → Type 0
IsTryOf (Ok n) tried = tried ≡ Done n
IsTryOf (Err e) tried = (tried ≡ Waits) ⊎ (tried ≡ Failed)
