-- The reader is tried where the house goes on, which is once.
use Rattle.agent_laws.proofs.Tries.{tries_law}
use Rattle.agent_laws.proofs.Reached.{reader_of, reader_of_behind, reader_of_day}
use Rattle.agent_laws.proofs.laws.a_turn_tries_the_reader_little.Goals as goal

pub returns-clause-house : goal.returns-clause-house
returns-clause-house g c =
    tries_law _ g.S.LogSink.tries _
    (reader_of g.S.LogSink.written g.S.LogSink.failures g.S.LogSink.tries g.S.LogSink.tried g.T.Talk.remaining g.T.Talk.written g.T.Talk.calls g.D.Door.log g.K.Keeping.does g.K.Keeping.rows g.K.Keeping.keeps g.K.Keeping.path g.K.Keeping.reads g.K.Keeping.gives g.E.Disk.is_known g.E.Disk.state)

pub returns-clause-day : goal.returns-clause-day
returns-clause-day g c =
    tries_law _ g.S.LogSink.tries _
    (reader_of_day g.S.LogSink.written g.S.LogSink.failures g.S.LogSink.tries g.S.LogSink.tried g.T.Talk.remaining g.T.Talk.written g.T.Talk.calls g.D.Door.log g.K.Keeping.does g.K.Keeping.rows g.K.Keeping.keeps g.K.Keeping.path g.K.Keeping.reads g.K.Keeping.gives g.E.Disk.is_known g.E.Disk.state)

pub returns-clause-behind : goal.returns-clause-behind
returns-clause-behind g c = tries_law _ g.S.LogSink.tries _ (reader_of_behind g.S.LogSink.written g.S.LogSink.failures g.S.LogSink.tries g.S.LogSink.tried g.T.Talk.remaining g.T.Talk.written g.T.Talk.calls g.D.Door.log g.K.Keeping.does g.K.Keeping.rows g.K.Keeping.keeps g.K.Keeping.path g.K.Keeping.reads g.K.Keeping.gives g.E.Disk.is_known g.E.Disk.state g.M.Lanes.due_by)
