-- Words for the loop that collects the runs of a schedule. No public clause cites them.
-- Source: this project's own.
use Rattle.std.specs.Prelude.{◌≡◌, ℕ, ◌+◌, ◌≤◌, ◌<◌, ◌++◌, List, [], ◌∷◌, length}
use Rattle.plan_rule.specs.{declared.force.Force.Force, declared.run.Run.Run, Runs.AreRuns, Runs.all_wakes, Runs.wakes, declared.limit.TheConstants.LIMIT}
use Rattle.plan_search.specs.Decides.{AreLongest}

-- the runs are those of the list to come, at most so many of them
pub record RunsAreWhole (comes : List Force → Type 0) (most : ℕ) (rs : List Run) : Type 0 where
  pub runs : AreRuns rs
  pub all : comes (all_wakes rs)
  pub longest : AreLongest rs
  pub few : length (all_wakes rs) ≤ LIMIT
  pub few_runs : length rs ≤ most

-- the list to come is longer than a plan may be
abbrev pub ListIsOverlong : (List Force → Type 0) → Type 0
ListIsOverlong comes = (xs : List Force) → comes xs → LIMIT < length xs

-- where `rest` follows the runs, no longer run stands at the place of any of them
abbrev pub AreLongestBefore : List Run → List Force → Type 0
AreLongestBefore [] rest = Unit {0}
AreLongestBefore (r ∷ rs) rest = ((other : Run) (ys : List Force) → all_wakes (r ∷ rs) ++ rest ≡ wakes other ++ ys → other.count ≤ r.count) × AreLongestBefore rs rest

-- of a list to come, whose runs are at most so many, these runs were taken: what stood for it stands for what follows them.
-- There is room for so many wake-ups more, of which one is past the limit
pub record RunsAreTaken (old new : List Force → Type 0) (old_most new_most : ℕ) (taken : List Run) (room : ℕ) : Type 0 where
  pub runs : AreRuns taken
  pub some : 0 < room
  pub filled : length (all_wakes taken) + room ≡ LIMIT + 1
  pub joins : (rest : List Force) → new rest → old (all_wakes taken ++ rest)
  pub splits : (xs : List Force) → old xs → (rest : List Force) × ((xs ≡ all_wakes taken ++ rest) × new rest)
  pub longest : (rest : List Force) → new rest → length rest < room → AreLongestBefore taken rest
  pub most : length taken + new_most ≤ old_most
