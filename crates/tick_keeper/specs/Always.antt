-- Always: until when an entry is needed, from a start on, that is needed as long as it can be kept.
-- Source: this project's own, over Vault, "Lease, renew, and revoke" (maximum TTL), and Vault, "Tokens".
use Rattle.std.specs.Prelude.{◌≡◌, ℕ, ◌+◌, ◌≤◌, Bool, true, false, if◌then◌else◌, List, Option, Some, None, length, map, min, slice_index_or}
use Rattle.std.specs.List.{range_with_len}
use Rattle.base_moment.specs.declared.moment.TheConstants.{LAST}
use Rattle.plan_forest.specs.{declared.entry.Entry.Entry, Push.IsForest}
use Rattle.plan_forest.specs.Forest.{Forest, end_of, entry_at}
use Rattle.plan_rule.specs.Unkeepable.{AllKeepable}
use Rattle.tick_keeper.specs.{declared.always.TheConstants.YEAR, Shorten.is_short, Shorten.least_reach}

-- as far as it reaches, or a year from s where nothing limits it; no later than the last moment
abbrev pub until_reach : Option ℕ → ℕ → ℕ
until_reach None s = min (s + YEAR) LAST
until_reach (Some most) s = min most LAST

-- whether the entry i is needed always
abbrev pub is_always_needed : List Bool → ℕ → Bool
is_always_needed always i = slice_index_or always i false

-- the need of the entry i from s on: of one that is needed always, the least reach over it
unfoldable pub need_from : Forest → List Bool → ℕ → ℕ → ℕ
need_from g always s i = if is_always_needed always i then until_reach (least_reach g s i) s else (entry_at g.entries i).need

-- the needs of all entries from s on
unfoldable pub needs_from : Forest → List Bool → ℕ → List ℕ
needs_from g always s = map (need_from g always s) (range_with_len 0 (length g.entries))

-- the entry i with that need
unfoldable pub entry_from : Forest → List Bool → ℕ → ℕ → Entry
entry_from g always s i = record (entry_at g.entries i) { need = need_from g always s i }

-- the forest from s on
unfoldable pub forest_from : Forest → List Bool → ℕ → Forest
forest_from g always s = record { entries = map (entry_from g always s) (range_with_len 0 (length g.entries)); margin = g.margin }

-- a need that is always is never unkeepable: it is not shortened from s on; and where no other entry is needed after s, no pair
-- of entries is unkeepable
abbrev pub AlwaysLaw : Type 0
AlwaysLaw =
    (g : Forest) (always : List Bool) (s : ℕ) → IsForest g → IsForest (forest_from g always s)
    × ((i : ℕ) → is_always_needed always i ≡ true → is_short (forest_from g always s) s i ≡ false)
    × (((i : ℕ) → is_always_needed always i ≡ false → (entry_at g.entries i).need ≤ s) → AllKeepable (forest_from g always s) s (end_of (forest_from g always s).entries))

-- where no entry is needed always, the forest is as it was
abbrev pub NeverLaw : Type 0
NeverLaw = (g : Forest) (always : List Bool) (s : ℕ) → ((i : ℕ) → is_always_needed always i ≡ false) → forest_from g always s ≡ g
