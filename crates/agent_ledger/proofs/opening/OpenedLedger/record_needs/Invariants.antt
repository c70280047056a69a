-- However the needs from the current one on are recorded, all are recorded so from the first.
use Rattle.agent_ledger.proofs.Recording.{SoFar}
use Rattle.agent_ledger.proofs.opening.OpenedLedger.record_needs.Given as goal

abbrev pub invariant-loop-given : goal.invariant-loop-given
invariant-loop-given g l = SoFar g.K.Keeping.does g.K.Keeping.rows l.now l.needs l.fn.self l.given-index l.self
