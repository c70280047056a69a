-- Shorten: needs that no plan can keep, and what they become.
-- Source: this project's own, over Vault, "Tokens" (a token's end ends its children and its leases) and Vault, "Lease,
-- renew, and revoke" (maximum TTL).
use Rattle.std.specs.Prelude.{ℕ, Bool, false, ◌&&◌, if◌then◌else◌, List, [], ◌∷◌, Option, Some, None, filter, length, map, min, nat_lt}
use Rattle.std.specs.List.{range_with_len}
use Rattle.plan_forest.specs.{declared.entry.Entry.Entry, Over.chain}
use Rattle.plan_forest.specs.Forest.{Forest, end_of, entry_at}
use Rattle.plan_rule.specs.Reach.{reach}
use Rattle.tick_keeper.specs.declared.shortened.ShortNeed.{ShortNeed}

-- the lesser of two reaches, of which None is without limit
abbrev pub lesser : Option ℕ → Option ℕ → Option ℕ
lesser None b = b
lesser (Some a) None = Some a
lesser (Some a) (Some b) = Some (min a b)

abbrev pub least_of : List (Option ℕ) → Option ℕ
least_of [] = None
least_of (a ∷ rest) = lesser a (least_of rest)

-- the least reach of i from t: the least reach over the entries over i
unfoldable pub least_reach : Forest → ℕ → ℕ → Option ℕ
least_reach g t i = least_of (map (reach g.entries g.margin t (end_of g.entries)) (chain g.entries i))

-- a need after t that is greater than this reach
abbrev pub exceeds : ℕ → Option ℕ → ℕ → Bool
exceeds t None need = false
exceeds t (Some most) need = nat_lt t need && nat_lt most need

-- whether the need of i is shortened at t
unfoldable pub is_short : Forest → ℕ → ℕ → Bool
is_short g t i = exceeds t (least_reach g t i) (entry_at g.entries i).need

-- what a need becomes that is shortened to this reach
abbrev pub cut_to : Option ℕ → ℕ → ℕ
cut_to None need = need
cut_to (Some most) need = most

-- the need of i after shortening at t
unfoldable pub need_left : Forest → ℕ → ℕ → ℕ
need_left g t i = if is_short g t i then cut_to (least_reach g t i) (entry_at g.entries i).need else (entry_at g.entries i).need

-- the entry i after shortening at t
unfoldable pub entry_shortened : Forest → ℕ → ℕ → Entry
entry_shortened g t i = record (entry_at g.entries i) { need = need_left g t i }

-- the forest with each need after t that is greater than its entry's least reach set to that reach
unfoldable pub shorten : Forest → ℕ → Forest
shorten g t = record { entries = map (entry_shortened g t) (range_with_len 0 (length g.entries)); margin = g.margin }

-- the entry i with its need after shortening
abbrev pub pair_of : Forest → ℕ → ℕ → ShortNeed
pair_of g t i = record { entry = i; need = need_left g t i }

-- the needs that are shortened at t, by index
unfoldable pub pairs : Forest → ℕ → List ShortNeed
pairs g t = map (pair_of g t) (filter (is_short g t) (range_with_len 0 (length g.entries)))
