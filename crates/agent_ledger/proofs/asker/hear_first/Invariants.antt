-- Those before the current one have no word, and the others are as they were.
use Rattle.vault_asking.specs.Sending.{Lanes, lanes_of}
use Rattle.agent_ledger.proofs.Asking.{SoFar}
use Rattle.agent_ledger.proofs.asker.hear_first.Given as goal

abbrev pub invariant-loop-asker : goal.invariant-loop-asker
invariant-loop-asker g l = SoFar (λ lanes. lanes_of (g.L.Lanes.behind lanes) (g.L.Lanes.out lanes) (g.L.Lanes.seconds lanes)) l.now l.fn.askers l.askers l.asker-index
