-- Turns: the tries at a sink, and which of them make up a turn.
-- Source: this project's own; docs/commands/serve.md, "The log".
use Rattle.std.specs.Prelude.{◌≡◌, ℕ, ◌+◌, ◌<◌, Bool, true, false, ◌&&◌, nat_lt, List, [], ◌∷◌, ◌++◌, length, take, Option, Some, IfSome}
use Rattle.base_device.specs.declared.tried.Tried.{Tried}
use Rattle.base_device.specs.declared.tried.Tried.TheVariants.{Done, Waits, Failed}
use Rattle.base_log.specs.declared.writing.TheConstants.{MOST_TRIES}

-- what is known of the tries now was known before, and these are more
abbrev pub AllTried : List Tried → Option (List Tried) → Option (List Tried) → Type 0
AllTried more old new = IfSome new (λ tries. (before : List Tried) × (old ≡ Some before) × (tries ≡ before ++ more))

-- one try was made, and came to this
abbrev pub TryIsMade : Tried → Option (List Tried) → Option (List Tried) → Type 0
TryIsMade tried old new = AllTried (tried ∷ []) old new

-- how many bytes tries took
abbrev pub bytes_taken : List Tried → ℕ
bytes_taken [] = 0
bytes_taken (Done n ∷ tries) = n + bytes_taken tries
bytes_taken (Waits ∷ tries) = bytes_taken tries
bytes_taken (Failed ∷ tries) = bytes_taken tries

-- whether one failed
abbrev pub any_failed : List Tried → Bool
any_failed [] = false
any_failed (Done n ∷ tries) = any_failed tries
any_failed (Waits ∷ tries) = any_failed tries
any_failed (Failed ∷ tries) = true

-- whether none waited or failed
abbrev pub all_done : List Tried → Bool
all_done [] = true
all_done (Done n ∷ tries) = all_done tries
all_done (Waits ∷ tries) = false
all_done (Failed ∷ tries) = false

-- whether a turn that has so many bytes to give goes on after these tries
abbrev pub goes_on : ℕ → List Tried → Bool
goes_on bytes tries = all_done tries && nat_lt (bytes_taken tries) bytes && nat_lt (length tries) MOST_TRIES

-- these tries are a turn with so many bytes to give: it goes on before each of them, and not after the last
abbrev pub IsTurn : ℕ → List Tried → Type 0
IsTurn bytes tries = ((n : ℕ) → n < length tries → goes_on bytes (take n tries) ≡ true) × (goes_on bytes tries ≡ false)

-- a turn was made with so many bytes to give, which gave the first of these two, and failed if the second says so
abbrev pub TurnIsMade : ℕ → ℕ → Bool → Option (List Tried) → Option (List Tried) → Type 0
TurnIsMade bytes taken failed old new = IfSome new (λ tries. (before turn : List Tried) × (old ≡ Some before) × (tries ≡ before ++ turn)
    × IsTurn bytes turn × (taken ≡ bytes_taken turn) × (failed ≡ any_failed turn))
