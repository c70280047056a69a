-- A listener: how often it was asked, and whom it let in.
-- Source: this project's own.
use Rattle.std.specs.Prelude.{◌≡◌, ℕ, ◌+◌, List, [], ◌∷◌, ◌++◌, Option, Some, None}

-- how often it was asked for a connection, and those that it gave, the first of them first
pub record DoorLog (T : Type 0) : Type 0 where
  pub asks : ℕ
  pub given : List T

-- what was given, as a list
abbrev pub list_of_given : {T : Type 0} → Option T → List T
list_of_given None = []
list_of_given (Some t) = t ∷ []

-- it was asked so often, and gave these
abbrev pub AskedFor : {T : Type 0} → Option (DoorLog T) → Option (DoorLog T) → ℕ → List T → Type 0
AskedFor None new asks given = Unit {0}
AskedFor (Some old) new asks given = new ≡ Some (record { asks = old.asks + asks; given = old.given ++ given })

-- it was asked once, and gave this
abbrev pub AskedOnce : {T : Type 0} → Option (DoorLog T) → Option (DoorLog T) → Option T → Type 0
AskedOnce old new result = AskedFor old new 1 (list_of_given result)
