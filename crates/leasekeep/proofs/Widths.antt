-- Widths: the lanes to the broker are as many as the words ask for. For `own_lanes`.
use Rattle.std.proofs.Common.{◌≡◌, ℕ, ap}
use Rattle.std.proofs.Math.Nat.{min-eq_left, min-le_right}
use Rattle.std.specs.Prelude.{max, min}
use Rattle.agent_run.specs.Run.{width_of}

pub least_twice : (w : ℕ) → max 1 (min (min w 32) 32) ≡ width_of w
least_twice w = ap (max 1) (min-eq_left (min-le_right w 32))
