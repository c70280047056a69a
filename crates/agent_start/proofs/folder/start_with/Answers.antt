-- What a start says is that of the state that was opened, and of its ledger.
use Rattle.std.proofs.Common.{refl}
use Rattle.agent_start.proofs.Telling.{says_start}
use Rattle.agent_start.proofs.folder.start_with.Goals as goal

pub returns-clause-says : goal.returns-clause-says
returns-clause-says g c =
    says_start (g.I.Inputs.bytes_at c.args.files) (g.I.Inputs.bytes_at c.ledger_of-ledger.result.inputs) c.args.paths.now c.args.opened.state c.args.opened.said.items c.say_opened.new.said.items _ c.filled.new.ledger
    c.ledger_of-ledger.result.folder.now c.deref.result.now c.ledger_of-ledger.result.state refl c.in_ok-inventories.ensures.says c.ledger_of-ledger.ensures.files c.ledger_of-ledger.ensures.folder
    c.deref.ensures.value c.ledger_of-ledger.ensures.state c.in_ok-say_opened.ensures
