-- Queues: how far a queue of deadlines has come.
-- Source: this project's own.
use Rattle.std.specs.Prelude.{ℕ}
use Rattle.plan_schedule.specs.Courses.{Course}

-- how far it has come, and how many runs at most are still to come
pub record Queue : Type 0 where
  pub course : Course
  pub runs : ℕ
