-- The need that is read at an index is the one that the entry there carries.
use Rattle.std.proofs.Common.{ap}
use Rattle.plan_needs.specs.Carried.{CarriedNeed}
use Rattle.plan_needs.proofs.Loads.{seen_read}
use Rattle.plan_needs.proofs.carried.Carried.need.Goals as goal

pub returns : goal.returns
returns c = ap (λ (n : CarriedNeed). n.need) (seen_read c.self.inside.loads.items c.args.self.now c.args.index c.index.result.now c.self.view_is c.requires c.index.ensures)
