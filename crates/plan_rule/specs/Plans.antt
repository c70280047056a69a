-- Plan: wake-ups in the order of their moments.
-- Source: this project's own.
use Rattle.std.specs.Prelude.{ℕ, ◌+◌, ◌≤◌, Bool, if◌then◌else◌, List, [], ◌∷◌, Option, Some, None, length, map, nat_le, nat_lt}
use Rattle.std.specs.List.{list_any}
use Rattle.base_moment.specs.declared.moment.TheConstants.{LAST}
use Rattle.plan_forest.specs.declared.entry.Entry.{Entry}
use Rattle.plan_rule.specs.{declared.wake.Wake.Wake, declared.wake.WakeFault.WakeFault, declared.wake.WakeFault.TheVariants.BeforeStart, declared.wake.WakeFault.TheVariants.Unordered, declared.wake.WakeFault.TheVariants.BadIndex}

abbrev pub moments : List Wake → List ℕ
moments ws = map (λ w. w.at) ws

-- no moment is before s, none is less than the one before it, and all are at most LAST
abbrev pub IsPlan : ℕ → List Wake → Type 0
IsPlan s [] = Unit {0}
IsPlan s (w ∷ ws) = (s ≤ w.at) × ((w.at ≤ LAST) × IsPlan w.at ws)

-- some index is not that of one of n entries
unfoldable pub asks_past : ℕ → List ℕ → Bool
asks_past n asked = list_any (λ i. nat_le n i) asked

-- what is wrong with the k-th wake-up, after one at prev, in a plan from s over n entries
unfoldable pub wake_fault_at : ℕ → ℕ → ℕ → ℕ → Wake → Option WakeFault
wake_fault_at n s prev k w =
    if nat_lt w.at s then Some (BeforeStart k) else (if nat_lt w.at prev then Some (Unordered k) else (if asks_past n w.asked then Some (BadIndex k) else None))

-- the first of two answers that is one
abbrev pub first_some : Option WakeFault → Option WakeFault → Option WakeFault
first_some (Some fault) later = Some fault
first_some None later = later

-- the fault of the first wake-up at fault, of which the first is the k-th and after one at prev
unfoldable pub fault_from : ℕ → ℕ → ℕ → ℕ → List Wake → Option WakeFault
fault_from n s prev k [] = None
fault_from n s prev k (w ∷ ws) = first_some (wake_fault_at n s prev k w) (fault_from n s w.at (k + 1) ws)

-- the fault of the first wake-up that breaks Plan or asks past the entries; wake-ups count from 1
unfoldable pub wake_fault : List Entry → ℕ → List Wake → Option WakeFault
wake_fault es s ws = fault_from (length es) s s 1 ws
