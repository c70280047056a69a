-- Ends after: the ends that a list of wake-ups leaves, by the Renewal rule at each.
-- Source: this project's own; the fold of the Renewal rule.
use Rattle.std.specs.Prelude.{ℕ, Bool, if◌then◌else◌, List, [], ◌∷◌, length, map, ◌==◌}
use Rattle.std.specs.List.{list_any, range_with_len}
use Rattle.plan_forest.specs.{declared.entry.Entry.Entry, Renewal.renewed}
use Rattle.plan_rule.specs.declared.wake.Wake.{Wake}

unfoldable pub is_asked : Wake → ℕ → Bool
is_asked w i = list_any (λ j. j == i) w.asked

-- the ends after one wake-up, whose requests are all judged by the ends before it
unfoldable pub ends_after_wake_up : List Entry → ℕ → (ℕ → ℕ) → Wake → ℕ → ℕ
ends_after_wake_up es margin ends w i = if is_asked w i then renewed es margin ends w.at i else ends i

-- the ends after a list of wake-ups
unfoldable pub ends_after : List Entry → ℕ → (ℕ → ℕ) → List Wake → ℕ → ℕ
ends_after es margin ends [] = ends
ends_after es margin ends (w ∷ ws) = ends_after es margin (ends_after_wake_up es margin ends w) ws

-- the ends of the entries, in the order of their indices
unfoldable pub ends_listed : List Entry → (ℕ → ℕ) → List ℕ
ends_listed es ends = map ends (range_with_len 0 (length es))
