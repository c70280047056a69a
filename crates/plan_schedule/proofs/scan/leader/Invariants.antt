-- The entry found so far leads those before the index, and is an entry of the forest.
use Rattle.std.proofs.Common.{◌<◌, length}
use Rattle.std.specs.Option.{IfSome}
use Rattle.plan_schedule.specs.{code.Scanning.LeadsBelow, Prospect.terms_of}
use Rattle.plan_schedule.proofs.scan.leader.Given as goal

abbrev pub invariant-loop-index : goal.invariant-loop-index
invariant-loop-index l = LeadsBelow (terms_of l.outlook) l.last l.index l.best × IfSome l.best (λ f. f < length l.outlook.loads)
