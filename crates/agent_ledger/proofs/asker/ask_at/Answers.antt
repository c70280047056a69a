-- The asker at that place looks it up.
use Rattle.agent_ledger.proofs.Asking.{asked_at}
use Rattle.agent_ledger.proofs.asker.ask_at.Goals as goal

pub returns-clause-asks : goal.returns-clause-asks
returns-clause-asks g c =
    asked_at _ g.L.Lanes.host_port c.args.at c.args.now c.args.asked c.args.candidate c.ask.result c.args.askers.now c.index-askers-at.result c.ask.new.self c.requires.within c.ask.ensures
