-- Walk: wake-up by wake-up, the first that does not rise or is not forced by its pair.
-- Source: this project's own.
use Rattle.std.specs.Prelude.{ℕ, ◌+◌, Bool, ◌&&◌, if◌then◌else◌, List, [], ◌∷◌, Option, Some, None, nat_le, nat_lt}
use Rattle.plan_forest.specs.{declared.entry.Entry.Entry, Forest.entry_at, Over.is_over}
use Rattle.plan_rule.specs.{Forced.bound, declared.force.Force.Force}
use Rattle.plan_check.specs.declared.answer.Cause.{Cause}
use Rattle.plan_check.specs.declared.answer.Cause.TheVariants.{NotForced, NotRising}

-- t is not before s, and is after the moment before it, if there is one
unfoldable pub rises : ℕ → Option ℕ → ℕ → Bool
rises s None t = nat_le s t
rises s (Some u) t = nat_le s t && nat_lt u t

-- whether entry and needed force a wake-up at t after one at prev: the question of the code, which Forced asks
unfoldable pub is_forced : List Entry → ℕ → ℕ → (ℕ → ℕ) → Option ℕ → ℕ → ℕ → ℕ → Bool
is_forced es margin s ends prev t entry needed =
    is_over es entry needed
    && (nat_lt s (entry_at es needed).need && (nat_lt (bound es ends prev entry) (entry_at es needed).need && nat_le (bound es ends prev entry) (t + margin)))

-- of wake-ups after one at prev, of which the next is the k-th, what is wrong with the first that does not rise, or rises
-- and is not forced by the pair that it names
unfoldable pub fault : List Entry → ℕ → ℕ → (ℕ → ℕ) → Option ℕ → ℕ → List Force → Option Cause
fault es margin s ends prev k [] = None
fault es margin s ends prev k (w ∷ ws) =
    if rises s prev w.at
    then (if is_forced es margin s ends prev w.at w.entry w.needed then fault es margin s ends (Some w.at) (k + 1) ws else Some (NotForced k))
    else Some (NotRising k)
