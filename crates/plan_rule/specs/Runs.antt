-- Runs: wake-ups at equal distances with one force, and the wake-ups and moments that a list of runs means.
-- Source: this project's own.
use Rattle.std.specs.Prelude.{◌≡◌, ℕ, zero, suc, ◌+◌, ◌-◌, ◌*◌, ◌<◌, ◌≤◌, ◌↔◌, List, [], ◌∷◌, ◌++◌}
use Rattle.std.specs.List.{AllByRecursion}
use Rattle.base_moment.specs.declared.moment.TheConstants.{LAST}
use Rattle.plan_rule.specs.{declared.force.Force.Force, declared.run.Run.Run}

-- count wake-ups at `first`, first + step and so on, each forced by entry for needed
unfoldable pub wakes_of : ℕ → ℕ → ℕ → ℕ → ℕ → List Force
wakes_of first step zero entry needed = []
wakes_of first step (suc n) entry needed = record { at = first; entry = entry; needed = needed } ∷ wakes_of (first + step) step n entry needed

-- the wake-ups that a run stands for
abbrev pub wakes : Run → List Force
wakes r = wakes_of r.first r.step r.count r.entry r.needed

-- the wake-ups that a list of runs stands for
abbrev pub all_wakes : List Run → List Force
all_wakes [] = []
all_wakes (r ∷ rs) = wakes r ++ all_wakes rs

-- their moments
abbrev pub moments_of : List Force → List ℕ
moments_of [] = []
moments_of (x ∷ xs) = x.at ∷ moments_of xs

-- how many wake-ups the runs have
abbrev pub wake_count : List Run → ℕ
wake_count [] = 0
wake_count (r ∷ rs) = r.count + wake_count rs

-- one wake-up or more, the last of them at a moment
pub record HasMoments (r : Run) : Type 0 where
  pub some : 0 < r.count
  pub last : r.first + (r.count - 1) * r.step ≤ LAST

-- and the step is 0 exactly where there is one
pub record IsRun (r : Run) : Type 0 where
  pub moments : HasMoments r
  pub lone : (r.step ≡ 0) ↔ (r.count ≡ 1)

abbrev pub AreRuns : List Run → Type 0
AreRuns rs = AllByRecursion IsRun rs

-- the indices of a run are those of n entries
pub record IsAmong (n : ℕ) (r : Run) : Type 0 where
  pub entry : r.entry < n
  pub needed : r.needed < n
