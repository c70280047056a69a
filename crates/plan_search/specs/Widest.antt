-- Widest margin: the greatest with which few wake-ups are enough, and how many it takes.
-- Source: this project's own.
use Rattle.std.specs.Prelude.{ℕ, ◌≤◌, List, length}
use Rattle.plan_forest.specs.{Forest.Forest, Forest.end_of, Margins.IsMargin}
use Rattle.plan_rule.specs.{declared.wake.Wake.Wake, Keeps.Keeps, Plans.IsPlan}
use Rattle.plan_search.specs.declared.widest.Widest.{Widest}

-- some plan from s keeps, by at most so many wake-ups
abbrev pub KeepsWithin : Forest → ℕ → ℕ → Type 0
KeepsWithin g s most = (plan : List Wake) × (IsPlan s plan × (Keeps g.entries g.margin s (end_of g.entries) plan × (length plan ≤ most)))

-- the fewest wake-ups by which a plan from s keeps
pub record IsFewest (g : Forest) (s wakes : ℕ) : Type 0 where
  pub some : KeepsWithin g s wakes
  pub least : (plan : List Wake) → IsPlan s plan → Keeps g.entries g.margin s (end_of g.entries) plan → wakes ≤ length plan

-- a margin that the entries allow, with which some plan from s keeps by at most so many wake-ups
pub record IsEnough (g : Forest) (s most margin : ℕ) : Type 0 where
  pub allowed : IsMargin g.entries margin
  pub keeps : KeepsWithin (record g { margin = margin }) s most

-- there is none
abbrev pub NoneIsEnough : Forest → ℕ → ℕ → Type 0
NoneIsEnough g s most = (margin : ℕ) → IsEnough g s most margin → ⊥

-- the greatest of these, and the fewest wake-ups with it
pub record IsWidest (g : Forest) (s most : ℕ) (w : Widest) : Type 0 where
  pub enough : IsEnough g s most w.margin
  pub widest : (other : ℕ) → IsEnough g s most other → other ≤ w.margin
  pub fewest : IsFewest (record g { margin = w.margin }) s w.wakes
