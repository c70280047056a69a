-- The answer goes on after `ok`.
use Rattle.std.proofs.Common.{Ok, inl, inr, subst}
use Rattle.base_device.specs.Seen.{change}
use Rattle.program_calls.specs.Following.{CallBegins}
use Rattle.program_calls.proofs.Beginning.{goes_on}
use Rattle.program_calls.proofs.following.follow.Goals as goal

pub returns-in-Ok-Lines : goal.returns-in-Ok-Lines
returns-in-Ok-Lines g c =
    let begins = subst (λ b. CallBegins c.args.request.now (Ok b) (change g.L.Device.is_in_memory (g.L.Device.seen c.args.line.now) (g.L.Device.seen c.begin.new.line))) c.in-Ok-Lines.field-0-is c.in-Ok-Lines.ensures.begins in
    inr (inl (
    goes_on (g.L.Device.seen c.args.line.now) (g.L.Device.seen c.begin.new.line) (g.L.Device.seen c.pass_on-followed.new.line) g.L.Device.is_in_memory c.args.call.now c.args.request.now c.tell_how.result
    c.pass_on-followed.result _ _ begins c.pass_on-followed.ensures c.tell_how.ensures))
