-- Needs: until when an entry is needed, by its table.
-- Source: this project's own.
use Rattle.std.specs.Prelude.{ℕ, Bool, true, false, Option, Some, None, List, codes, decimal, ◌≤◌}
use Rattle.vault_inventory.specs.declared.need.Need.{Need}
use Rattle.vault_inventory.specs.declared.need.Need.TheVariants.{Until, Always}
use Rattle.base_moment.specs.declared.moment.TheConstants.{LAST}

-- the moment of a need; one that is `always` has none of its own
abbrev pub until : Need → ℕ
until (Until t) = t
until Always = 0

abbrev pub has_always : Need → Bool
has_always (Until t) = false
has_always Always = true

-- an entry whose table writes no need is not needed
abbrev pub until_of : Option Need → ℕ
until_of None = 0
until_of (Some need) = until need

abbrev pub is_for_good : Option Need → Bool
is_for_good None = false
is_for_good (Some need) = has_always need

-- a need as a word: its moment in seconds, or `always`
abbrev pub need_word : Need → List ℕ
need_word (Until t) = decimal t
need_word Always = codes "always"

-- a need that can be: its moment is no later than the last one
abbrev pub IsNeed : Need → Type 0
IsNeed (Until t) = t ≤ LAST
IsNeed Always = Unit {0}
