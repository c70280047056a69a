-- Told: what is told of a command that was done. For `taking`.
use Rattle.std.proofs.Common.{ℕ, List, Option, Some, None, Ok, Result, IfSome}
use Rattle.agent_ledger.specs.Keeping.{KeepCall, KeeperIsAsked}
use Rattle.agent_words.specs.Outcomes.{Why}

pub says_done : {K : Type 0} (does : KeepCall → K → K → Type 0) (call : Result (Unit {0}) Why → KeepCall) (Says : K → List ℕ → Type 0) (line : Option (List ℕ)) (old new : K) → does (call (Ok tt)) old new → IfSome line (Says new) →
    KeeperIsAsked does call Says (Ok line) (Some old) (Some new)
says_done does call Says None old new done said = (done, tt)
says_done does call Says (Some line) old new done said = (done, said)
