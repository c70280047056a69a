-- Laws of what binds an entry: which entry it is, until when some plan keeps it, and that no need plays a part in it; and of what is short.
use Rattle.std.specs.Prelude.{◌≡◌, ◌≢◌, ℕ, ◌<◌, ◌≤◌, Option, Some, None, true, false, length}
use Rattle.plan_forest.specs.{Over.Over, Push.IsForest}
use Rattle.plan_forest.specs.Forest.{Forest, end_of, entry_at}
use Rattle.tick_keeper.specs.Shorten.{least_reach}
use Rattle.plan_rule.specs.Reach.{reach}
use Rattle.plan_commands.specs.{declared.bound.Bound.Bound, ReachText.binding_reach, ReachText.short_at}
use Rattle.plan_search.specs.Decides.{NoneKeeps, SomeKeeps}

-- the entry `by` is over i, its reach from s is the least reach of i, and none nearer the root has that reach; where nothing
-- limits i, it is i itself
pub record Binds (g : Forest) (s i : ℕ) (b : Bound) : Type 0 where
  pub least : b.most ≡ least_reach g s i
  pub over : Over g.entries b.by i
  pub reaches : reach g.entries g.margin s (end_of g.entries) b.by ≡ b.most
  pub nearest : (a : ℕ) → Over g.entries a b.by → a ≢ b.by → b.most ≢ None → reach g.entries g.margin s (end_of g.entries) a ≢ b.most
  pub itself : b.most ≡ None → b.by ≡ i

-- of each line, UNTIL is `most` and BY is `by`
abbrev pub BoundLaw : Type 0
BoundLaw = (g : Forest) (s i : ℕ) → IsForest g → i < length g.entries → Binds g s i (binding_reach g s i)

-- the entry i is needed after s, and no other is
pub record IsNeededAlone (g : Forest) (s i : ℕ) : Type 0 where
  pub later : s < (entry_at g.entries i).need
  pub alone : (k : ℕ) → s < (entry_at g.entries k).need → k ≡ i

abbrev pub IsWithinReach : ℕ → Option ℕ → Type 0
IsWithinReach need None = Unit {0}
IsWithinReach need (Some most) = need ≤ most

-- some plan keeps an entry that is needed alone until what binds it, and none a second longer
abbrev pub UntilLaw : Type 0
UntilLaw =
    (g : Forest) (s i : ℕ) → IsForest g → IsNeededAlone g s i →
    (IsWithinReach (entry_at g.entries i).need (binding_reach g s i).most → SomeKeeps g s) × ((IsWithinReach (entry_at g.entries i).need (binding_reach g s i).most → ⊥) → NoneKeeps g s)

-- two forests that differ in needs alone
pub record DifferInNeeds (g other : Forest) : Type 0 where
  pub margin : other.margin ≡ g.margin
  pub each : (k : ℕ) → (need : ℕ) × (entry_at other.entries k ≡ record (entry_at g.entries k) { need = need })

-- an entry is bound alike, whatever is needed
abbrev pub WhateverIsNeeded : Type 0
WhateverIsNeeded = (g other : Forest) (s i : ℕ) → IsForest g → DifferInNeeds g other → binding_reach other s i ≡ binding_reach g s i

-- no plan keeps where some entry is short, and some plan keeps where none is
abbrev pub ShortLaw : Type 0
ShortLaw =
    (g : Forest) (s : ℕ) → IsForest g →
    ((i : ℕ) → i < length g.entries → short_at g s i ≡ true → NoneKeeps g s) × (((i : ℕ) → i < length g.entries → short_at g s i ≡ false) → SomeKeeps g s)
