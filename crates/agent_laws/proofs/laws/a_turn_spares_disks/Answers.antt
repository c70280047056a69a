-- Each call of the loop asks for little, and the ends are tried where the house goes on, which is once.
use Rattle.agent_laws.proofs.Spared.{asked_at, asked_behind, asked_day, asks_law, ends_at, ends_behind, ends_day, ends_law}
use Rattle.agent_laws.proofs.laws.a_turn_spares_disks.Goals as goal

pub returns-clause-asks : goal.returns-clause-asks
returns-clause-asks g c = (
  asks_law g.K.Keeping.does _ _ (asked_at g.S.LogSink.written g.S.LogSink.failures g.S.LogSink.tries g.S.LogSink.tried g.T.Talk.remaining g.T.Talk.written g.T.Talk.calls g.D.Door.log g.K.Keeping.does g.K.Keeping.rows g.K.Keeping.keeps g.K.Keeping.path g.K.Keeping.reads g.K.Keeping.gives g.E.Disk.is_known g.E.Disk.state),
  (
    asks_law g.K.Keeping.does _ _ (asked_day g.S.LogSink.written g.S.LogSink.failures g.S.LogSink.tries g.S.LogSink.tried g.T.Talk.remaining g.T.Talk.written g.T.Talk.calls g.D.Door.log g.K.Keeping.does g.K.Keeping.rows g.K.Keeping.keeps g.K.Keeping.path g.K.Keeping.reads g.K.Keeping.gives g.E.Disk.is_known g.E.Disk.state),
    asks_law g.K.Keeping.does _ _ (asked_behind g.S.LogSink.written g.S.LogSink.failures g.S.LogSink.tries g.S.LogSink.tried g.T.Talk.remaining g.T.Talk.written g.T.Talk.calls g.D.Door.log g.K.Keeping.does g.K.Keeping.rows g.K.Keeping.keeps g.K.Keeping.path g.K.Keeping.reads g.K.Keeping.gives g.E.Disk.is_known g.E.Disk.state g.M.Lanes.due_by),
  ),
)

pub returns-clause-ends : goal.returns-clause-ends
returns-clause-ends g c = (
  ends_law g.E.Disk.is_known g.E.Disk.state _ _ (ends_at g.S.LogSink.written g.S.LogSink.failures g.S.LogSink.tries g.S.LogSink.tried g.T.Talk.remaining g.T.Talk.written g.T.Talk.calls g.D.Door.log g.K.Keeping.does g.K.Keeping.rows g.K.Keeping.keeps g.K.Keeping.path g.K.Keeping.reads g.K.Keeping.gives g.E.Disk.is_known g.E.Disk.state),
  (
    ends_law g.E.Disk.is_known g.E.Disk.state _ _ (ends_day g.S.LogSink.written g.S.LogSink.failures g.S.LogSink.tries g.S.LogSink.tried g.T.Talk.remaining g.T.Talk.written g.T.Talk.calls g.D.Door.log g.K.Keeping.does g.K.Keeping.rows g.K.Keeping.keeps g.K.Keeping.path g.K.Keeping.reads g.K.Keeping.gives g.E.Disk.is_known g.E.Disk.state),
    ends_law g.E.Disk.is_known g.E.Disk.state _ _ (ends_behind g.S.LogSink.written g.S.LogSink.failures g.S.LogSink.tries g.S.LogSink.tried g.T.Talk.remaining g.T.Talk.written g.T.Talk.calls g.D.Door.log g.K.Keeping.does g.K.Keeping.rows g.K.Keeping.keeps g.K.Keeping.path g.K.Keeping.reads g.K.Keeping.gives g.E.Disk.is_known g.E.Disk.state g.M.Lanes.due_by),
  ),
)
