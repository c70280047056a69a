-- The line is made of what was taken.
use Rattle.std.proofs.Common.{Ok, List, ℕ, subst}
use Rattle.base_device.specs.Seen.{change}
use Rattle.program_calls.specs.Requesting.{MakesLine}
use Rattle.program_calls.proofs.request.request_for.Goals as goal

pub returns-in-Ok : goal.returns-in-Ok
returns-in-Ok g c = (Ok c.in-Ok.text, (c.in-Ok.ensures, subst (λ (t : List ℕ). MakesLine c.args.call.now (Ok t) c.told_line.result (change g.E.Device.is_in_memory (g.E.Device.seen c.args.errors.now) (g.E.Device.seen c.told_line.new.errors))) c.list.ensures c.told_line.ensures))
