-- Line: entries in the order of a key, of equal keys by index. No public clause cites it.
-- Source: this project's own.
use Rattle.std.specs.Prelude.{◌≡◌, ℕ, List, [], Option, Some, None}
use Rattle.std.specs.{declared.cmp.Ordering.Ordering, declared.cmp.Reverse.Reverse, List.All, List.Contains, Ordering.nat_cmp, Ordering.ordering_then}
use Rattle.plan_schedule.specs.Terms.{Ahead}

-- a key and an index
abbrev pub Spot : Type 0
Spot = Reverse (ℕ × ℕ)

abbrev pub spot : ℕ → ℕ → Spot
spot key index = record { 0 = (key, index) }

-- the order of a heap, whose greatest is the first: by falling key, and of equal keys by falling index
abbrev pub falling : Spot → Spot → Ordering
falling x y = ordering_then (nat_cmp y.0.0 x.0.0) (nat_cmp y.0.1 x.0.1)

-- the spots of a line in any order, and for how many it has room
pub record Lined : Type 0 where
  pub spots : List Spot
  pub room : ℕ

-- x stands in the line, and none stands ahead of it
pub record IsFirstInLine (spots : List Spot) (x : Spot) : Type 0 where
  pub among : Contains spots x
  pub ahead : All (λ y. Ahead x.0.0 x.0.1 y.0.0 y.0.1) spots

abbrev pub FirstOf : List Spot → Option ℕ → Type 0
FirstOf spots None = spots ≡ []
FirstOf spots (Some i) = (key : ℕ) × IsFirstInLine spots (spot key i)
