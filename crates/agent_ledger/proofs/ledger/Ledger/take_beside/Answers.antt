-- What a file gives is taken, and then the look goes back to where it was.
use Rattle.std.proofs.Common.{ap}
use Rattle.state_secrets.specs.declared.looking.Looking.{Looking}
use Rattle.agent_ledger.proofs.ledger.Ledger.take_beside.Goals as goal

pub returns : goal.returns
returns g c = record {
  mid = c.take_held-looked.new.self;
  takes = c.take_held-looked.ensures;
  rest = ap (λ (l : Looking). record c.take_held-looked.new.self { looking = l }) c.go_on_at.ensures;
}
