-- Words for the pass that carries needs up, which holds a need and an index for each entry. No public clause cites them.
use Rattle.std.specs.Prelude.{◌≡◌, ℕ, ◌≤◌, ◌<◌, List, Some, None, ◌==◌, ◌⊎◌, if◌then◌else◌, length, nat_lt, slice_index_or}
use Rattle.plan_forest.specs.{declared.entry.Entry.Entry, Forest.entry_at, Over.Over}
use Rattle.plan_needs.specs.{declared.load.Load.Load, Carried.CarriedNeed}

-- what callers see of a load
abbrev pub seen_load : Load → CarriedNeed
seen_load l = record { need = l.need; from = if l.need == 0 then None else Some l.from }

unfoldable pub nth : List Load → ℕ → Load
nth loads i = slice_index_or loads i (record { need = 0; from = 0 })

-- b weighs at least as much as a: its need is greater, or the same and from an index that is no higher
pub record IsAtMost (a b : Load) : Type 0 where
  pub need : a.need ≤ b.need
  pub from : a.need ≡ b.need → b.from ≤ a.from

-- c is a or b, and weighs at least as much as each
pub record IsHeavier (a b c : Load) : Type 0 where
  pub left : IsAtMost a c
  pub right : IsAtMost b c
  pub one : (c ≡ a) ⊎ (c ≡ b)

-- the entry's need where it comes after s, else 0
unfoldable pub need_after : ℕ → Entry → ℕ
need_after s e = if nat_lt s e.need then e.need else 0

-- the load of the entry's own need
abbrev pub own_load : List Entry → ℕ → ℕ → Load
own_load es s i = record { need = need_after s (entry_at es i); from = i }

pub record AllOwn (es : List Entry) (s : ℕ) (loads : List Load) : Type 0 where
  pub count : length loads ≡ length es
  pub each : (i : ℕ) → i < length es → nth loads i ≡ own_load es s i

-- each load is the own one of an entry that i is over; it weighs at least as much as the own one of i and as the load of
-- each child of i from k on
pub record IsHandedUp (es : List Entry) (s k : ℕ) (loads : List Load) : Type 0 where
  pub count : length loads ≡ length es
  pub own : (i : ℕ) → i < length es → IsAtMost (own_load es s i) (nth loads i)
  pub child : (c p : ℕ) → k ≤ c → c < length es → (entry_at es c).parent ≡ Some p → IsAtMost (nth loads c) (nth loads p)
  pub is_of : (i : ℕ) → i < length es → Over es i (nth loads i).from × ((nth loads i).need ≡ (own_load es s (nth loads i).from).need)
