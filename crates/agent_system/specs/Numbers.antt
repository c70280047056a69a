-- Numbers: the number of the agent's own name.
-- Source: this project's own; docs/commands/serve.md, "Options".
use Rattle.std.specs.Prelude.{◌≡◌, ℕ, List, ◌++◌, Option, Some, None, codes}
use Rattle.plan_spread.specs.Parts.{number_of}

-- the machine's name, a colon, and the file as it is written
pub record IsOwnName (file name : List ℕ) : Type 0 where
  pub host : List ℕ
  pub is : name ≡ host ++ codes ":" ++ file

pub record IsOwnNumber (file : List ℕ) (number : ℕ) : Type 0 where
  pub name : List ℕ
  pub own : IsOwnName file name
  pub is : number ≡ number_of name

-- that of the name that is given, or of its own
abbrev pub IsNumber : Option (List ℕ) → List ℕ → ℕ → Type 0
IsNumber (Some name) file number = number ≡ number_of name
IsNumber None file number = IsOwnNumber file number
