-- Planned: what callers see of a plan, and what its runs are.
-- Source: this project's own.
use Rattle.std.specs.Prelude.{◌≡◌, ◌==◌, ℕ, ◌+◌, ◌-◌, ◌≤◌, if◌then◌else◌, List, [], ◌∷◌, Option, Some, None, length, nat_lt}
use Rattle.plan_needs.specs.Carried.{CarriedNeed}
use Rattle.plan_rule.specs.{declared.force.Force.Force, declared.run.Run.Run, Runs.AreRuns, Runs.all_wakes, declared.limit.TheConstants.LIMIT}

-- the start and the carried needs that a plan was made by, and the runs of the wake-ups that are still to come
pub record Planned : Type 0 where
  pub start : ℕ
  pub carried : List CarriedNeed
  pub runs : List Run

-- the wake-ups of a plan that are still to come
abbrev pub to_come : Planned → List Force
to_come p = all_wakes p.runs

-- the runs of a plan, of LIMIT wake-ups in all at most
pub record IsPlanned (p : Planned) : Type 0 where
  pub runs : AreRuns p.runs
  pub few : length (to_come p) ≤ LIMIT

-- a run without its first wake-up, None where it has no other
abbrev pub behind_first : Run → Option Run
behind_first r = if r.count == 1 then None else Some (record r { first = r.first + r.step; step = if r.count == 2 then 0 else r.step; count = r.count - 1 })

-- a run, where there is one, and others after it
abbrev pub in_front : Option Run → List Run → List Run
in_front None rs = rs
in_front (Some r) rs = r ∷ rs

-- runs without the first wake-up: the first of them is shortened, or taken away where it has no other
abbrev pub without_first : List Run → List Run
without_first [] = []
without_first (r ∷ rs) = in_front (behind_first r) rs

-- one list is the other without its head
abbrev pub IsTail : List Force → List Force → Type 0
IsTail xs rest = (x : Force) × (xs ≡ x ∷ rest)

-- the moment of the first of these wake-ups that comes after `at`, None where none does
abbrev pub next_after : ℕ → List Force → Option ℕ
next_after at [] = None
next_after at (x ∷ xs) = if nat_lt at x.at then Some x.at else next_after at xs
