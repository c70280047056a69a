-- The text of the line is put.
use Rattle.std.proofs.Common.{subst}
use Rattle.agent_log.specs.Lines.{ArePut}
use Rattle.agent_log.proofs.Said.{put_said}
use Rattle.agent_log.proofs.log_line.Pen.say.Goals as goal

pub returns-in-Ok : goal.returns-in-Ok
returns-in-Ok c =
    put_said c.args.self.now.form c.args.self.now.moment _ c.in-Ok.text.items c.args.room.now c.put.new.self c.in-Ok.ensures
    (subst (λ t. ArePut c.args.self.now.form c.args.self.now.moment c.args.level t c.args.room.now c.put.new.self) c.deref.ensures.value c.put.ensures)
