-- Words for the passes over the entries that planning anew makes. No public clause cites them.
-- Source: this project's own.
use Rattle.std.specs.Prelude.{◌≡◌, ℕ, ◌<◌, if◌then◌else◌, List, Option, Some, None, length, map, nat_lt, slice_index, slice_index_or}
use Rattle.std.specs.List.{range_with_len}
use Rattle.plan_forest.specs.{declared.entry.Entry.Entry, Forest.Forest, Forest.entry_at}
use Rattle.plan_search.specs.Decides.{PlanIsTooLong}
use Rattle.tick_keeper.specs.declared.fault.StepFault.{StepFault}
use Rattle.tick_keeper.specs.declared.fault.StepFault.TheVariants.{TooLong, OutOfMemory}
use Rattle.tick_keeper.specs.Shorten.{cut_to, exceeds, least_reach}

-- the entries with these needs
unfoldable pub needing : List Entry → (ℕ → ℕ) → List Entry
needing es f = map (λ i. record (entry_at es i) { need = f i }) (range_with_len 0 (length es))

-- the needs once the first n entries have those of a list
abbrev pub so_far : List Entry → List ℕ → ℕ → ℕ → ℕ
so_far es needs n i = if nat_lt i n then slice_index needs i else (entry_at es i).need

-- the least reach of each of the first n entries
pub record AreLeast (g : Forest) (t n : ℕ) (reaches : List (Option ℕ)) : Type 0 where
  pub count : length reaches ≡ n
  pub each : (i : ℕ) → i < n → slice_index_or reaches i None ≡ least_reach g t i

-- a number for each of the first n entries
pub record AreNeeds (n : ℕ) (f : ℕ → ℕ) (needs : List ℕ) : Type 0 where
  pub count : length needs ≡ n
  pub each : (i : ℕ) → i < n → slice_index needs i ≡ f i

-- the forest with these needs
abbrev pub forest_with_needs : Forest → List ℕ → Forest
forest_with_needs g needs = record { entries = needing g.entries (slice_index needs); margin = g.margin }

-- the needs of a forest
abbrev pub ForestHasNeeds : Forest → List ℕ → Type 0
ForestHasNeeds g needs = AreNeeds (length g.entries) (λ i. (entry_at g.entries i).need) needs

-- what a need is shortened to, None where it is not
unfoldable pub shorter : ℕ → Option ℕ → ℕ → Option ℕ
shorter t reach need = if exceeds t reach need then Some (cut_to reach need) else None

-- what stands in the way of a plan for a forest in which no need is to be shortened
abbrev pub PlanRefused : Forest → ℕ → StepFault → Type 0
PlanRefused g t TooLong = PlanIsTooLong g t
PlanRefused g t OutOfMemory = Unit {0}
PlanRefused g t fault = ⊥
