-- Runs: turns one after another.
-- Source: this project's own.
use Rattle.std.specs.Prelude.{◌≡◌, ℕ, List, [], ◌∷◌}
use Rattle.std.specs.List.{flat_map}
use Rattle.base_clock.specs.declared.call.ClockCall.{ClockCall}
use Rattle.agent_turns.specs.{Changes.given_by, Held.ServingSide, declared.change.AgentChange.AgentChange}
use Rattle.agent_turns.specs.Turns.{IsServingTurn, ServingTurn, calls_of_turn}

abbrev pub AreTurns : ℕ → ServingSide → List ServingTurn → ServingSide → Type 0
AreTurns port old [] new = new ≡ old
AreTurns port old (t ∷ rest) new = (mid : ServingSide) × (IsServingTurn port old t mid × AreTurns port mid rest new)

-- all that is asked of the clock, and all changes that are taken
abbrev pub all_calls : List ServingTurn → List ClockCall
all_calls turns = flat_map calls_of_turn turns

abbrev pub all_changes : List ServingTurn → List AgentChange
all_changes turns = flat_map (λ (t : ServingTurn). given_by t.made) turns
