-- Requests: how many a plan makes.
-- Source: this project's own.
use Rattle.std.specs.Prelude.{ℕ, List, length}
use Rattle.std.specs.List.{count_by, sum_by}
use Rattle.plan_rule.specs.{declared.wake.Wake.Wake, Ends.is_asked}

-- how many indices a plan asks, over all its wake-ups
abbrev pub requests : List Wake → ℕ
requests ws = sum_by (λ w. length w.asked) ws

-- at how many of its wake-ups a plan asks i
abbrev pub times_asked : List Wake → ℕ → ℕ
times_asked ws i = count_by (λ w. is_asked w i) ws
