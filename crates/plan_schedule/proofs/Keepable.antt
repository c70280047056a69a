-- Where each entry reaches the need that it carries, no pair is unkeepable; for the tests.
use Rattle.std.proofs.Common.{◌≡◌, ℕ, ◌<◌, ◌≤◌, List, Some, length, arith, inl, inr}
use Rattle.std.proofs.lemmas.Bool.{cases_lt}
use Rattle.plan_forest.specs.{Forest.Forest, Forest.end_of, Push.IsForest}
use Rattle.plan_forest.proofs.Carrying.{carried_at_least}
use Rattle.plan_rule.specs.{Unkeepable.AllKeepable, Reach.reach}
use Rattle.plan_needs.specs.Carried.{CarriedNeed, IsCarried, load_at}
use Rattle.plan_schedule.proofs.Bridge.{carried_past}
