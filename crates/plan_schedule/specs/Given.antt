-- Given: what it means to give the head, or a run, of a list of wake-ups to come.
-- Source: this project's own.
use Rattle.std.specs.Prelude.{◌≡◌, ℕ, ◌≤◌, ◌<◌, List, [], ◌∷◌, ◌++◌, Option, Some, None}
use Rattle.plan_rule.specs.{declared.force.Force.Force, declared.run.Run.Run, Runs.IsRun, Runs.wakes}

-- what stood for the list that begins with the answer stands for its tail now; with no answer it stood for the empty list
-- alone, and still stands for that
abbrev pub GivesHead : (List Force → Type 0) → (List Force → Type 0) → Option Force → Type 0
GivesHead old new None = old [] × (new [] × ((xs : List Force) → old xs → xs ≡ []))
GivesHead old new (Some x) = ((rest : List Force) → new rest → old (x ∷ rest)) × ((xs : List Force) → old xs → (rest : List Force) × ((xs ≡ x ∷ rest) × new rest))

-- the list to come begins with the wake-ups of a run, and is now what follows them. It is the longest run of at most `most`
-- wake-ups with which the list begins
pub record IsFirstRun (old new : List Force → Type 0) (most : ℕ) (r : Run) : Type 0 where
  pub run : IsRun r
  pub within : r.count ≤ most
  pub joins : (rest : List Force) → new rest → old (wakes r ++ rest)
  pub splits : (xs : List Force) → old xs → (rest : List Force) × ((xs ≡ wakes r ++ rest) × new rest)
  pub longest : (other : Run) (rest : List Force) → old (wakes other ++ rest) → other.count ≤ most → other.count ≤ r.count

-- the first run is taken from the list to come; with no answer that was empty, and still is
abbrev pub GivesRun : (List Force → Type 0) → (List Force → Type 0) → ℕ → Option Run → Type 0
GivesRun old new most None = old [] × (new [] × ((xs : List Force) → old xs → xs ≡ []))
GivesRun old new most (Some r) = IsFirstRun old new most r

-- a run that is not cut by `most` leaves fewer to come, and no answer leaves more
abbrev pub LeavesFewer : ℕ → ℕ → ℕ → Option Run → Type 0
LeavesFewer old new most None = new ≤ old
LeavesFewer old new most (Some r) = (new ≤ old) × ((r.count < most) → new < old)
