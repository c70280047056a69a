-- What is heard is shown.
use Rattle.std.proofs.Common.{Ok, Err, refl, subst}
use Rattle.base_device.specs.Seen.{change}
use Rattle.program_calls.specs.Lines.{TellsOf}
use Rattle.program_calls.proofs.talking.talk.Goals as goal

pub returns-in-Ok : goal.returns-in-Ok
returns-in-Ok g c = (Ok c.in-Ok.heard.reply, (c.in-Ok.ensures.heard, c.show.ensures))

pub returns-in-Err : goal.returns-in-Err
returns-in-Err g c = (Err c.in-Err.fault, (c.in-Err.ensures.heard, (refl, subst (λ words. TellsOf c.args.call.now words c.tell_of_socket.result (change g.E.Device.is_in_memory (g.E.Device.seen c.args.errors.now) (g.E.Device.seen c.tell_of_socket.new.errors))) c.words.ensures c.tell_of_socket.ensures)))
