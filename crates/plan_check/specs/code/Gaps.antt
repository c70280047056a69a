-- Gaps: the distances between neighbouring moments, run by run, and what it means to find a wide one in a tree of them.
-- Words for the steps of the code: no public clause cites them.
use Rattle.std.specs.Prelude.{◌≡◌, ℕ, ◌+◌, ◌-◌, ◌*◌, ◌≤◌, ◌<◌, max, slice_index, slice_index_or, if◌then◌else◌, nat_eq, List, [], ◌∷◌, ◌++◌, drop, length, Option, Some, None}
use Rattle.plan_forest.specs.declared.entry.Entry.{Entry}
use Rattle.plan_rule.specs.declared.run.Run.{Run}
use Rattle.plan_check.specs.declared.gap_tree.GapTree.{GapTree}
use Rattle.plan_check.specs.declared.gap_tree.GapTree.TheVariants.{Empty, Leaf, Fork'}

-- the last moment of a run
abbrev pub last_moment : Run → ℕ
last_moment r = r.first + (r.count - 1) * r.step

-- the distance between neighbouring moments of a run, 0 where it has one alone
abbrev pub gap_within : Run → ℕ
gap_within r = if nat_eq r.count 1 then 0 else r.step

-- the greatest distance between neighbouring moments, of those of a run and the first after it
abbrev pub gap_of : Run → List Run → ℕ
gap_of r [] = gap_within r
gap_of r (next ∷ rs) = max (gap_within r) (next.first - last_moment r)

abbrev pub gaps_of : List Run → List ℕ
gaps_of [] = []
gaps_of (r ∷ rs) = gap_of r rs ∷ gaps_of rs

abbrev pub first_gap : List Run → ℕ
first_gap [] = 0
first_gap (r ∷ rs) = gap_of r rs

-- that of the run at a place
abbrev pub gap_from : List Run → ℕ → ℕ
gap_from rs at = first_gap (drop at rs)

-- the gaps in a tree, in order
abbrev pub gaps_in : GapTree → List ℕ
gaps_in Empty = []
gaps_in (Leaf gap) = gap ∷ []
gaps_in (Fork' greatest half p left q right) = gaps_in left ++ gaps_in right

-- what a tree says of its greatest gap
abbrev pub mark : GapTree → ℕ
mark Empty = 0
mark (Leaf gap) = gap
mark (Fork' greatest half p left q right) = greatest

-- each fork has the number of gaps on its left, and the greater of the marks of its sides
abbrev pub HasMarks : GapTree → Type 0
HasMarks Empty = Unit {0}
HasMarks (Leaf gap) = Unit {0}
HasMarks (Fork' greatest half p left q right) = (half ≡ length (gaps_in left)) × ((greatest ≡ max (mark left) (mark right)) × (HasMarks left × HasMarks right))

-- no gap from one place on and before another is as wide
abbrev pub AllNarrow : List ℕ → ℕ → ℕ → ℕ → Type 0
AllNarrow gaps from to least = (k : ℕ) → from ≤ k → k < to → slice_index gaps k < least

-- the first place, from one on, of a gap that is at least so wide
abbrev pub IsFirstFrom : List ℕ → ℕ → ℕ → Option ℕ → Type 0
IsFirstFrom gaps from least None = AllNarrow gaps from (length gaps) least
IsFirstFrom gaps from least (Some at) = (from ≤ at) × ((at < length gaps) × ((least ≤ slice_index gaps at) × AllNarrow gaps from at least))

-- the run at this place begins with a moment at which a renewal gives no more than the end
abbrev pub IsIdleAt : Entry → ℕ → List Run → ℕ → Type 0
IsIdleAt e end rs at = (at < length rs) × ((d : Run) → (slice_index_or rs at d).first + e.step ≤ end)
