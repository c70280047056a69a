-- The agent is put together of its parts.
use Rattle.agent_run.proofs.Putting.{put_together}
use Rattle.agent_run.proofs.begun.begin.Goals as goal

pub returns-clause-begun : goal.returns-clause-begun
returns-clause-begun g c =
    put_together g.P.SecretFiles.calls g.P.Doors.asked g.E.Disk.is_known g.E.Disk.state c.args.now c.args.beginning.words.now c.args.beginning.start c.args.beginning.later c.args.parts c.args.doors.now c.make_ready.new.doors (g.L.Lanes.width c.args.lanes.now)
    (record { serving = c.in_ok-serving.field-0.serving; neighbours = c.day_of.result; wait = c.in_ok-serving.field-0.wait }) c.in_ok-ready.ready c.resume.new.desk c.lookout_of-lookout.result c.deref.result.now
    c.late_of-state.result c.house_of-house.result c.beside.result c.in_ok-ready.ensures c.in_ok-serving.ensures.resumed c.deref.ensures.value c.in_ok-serving.ensures.waits c.late_of-state.ensures
    c.house_of-house.ensures c.lookout_of-lookout.ensures c.beside.ensures c.day_of.ensures
