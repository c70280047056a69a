-- What is left is due later, and those that were over are handed back.
use Rattle.vault_lanes.proofs.{Due.left_due, Moved.gone_on}
use Rattle.vault_lanes.proofs.running.LanesOverLanes.go_on.Goals as goal

pub returns-clause-settled : goal.returns-clause-settled
returns-clause-settled g c =
    left_due g.W.Line.Line.restless c.args.now c.take_out.result (λ answers. answers.items) c.try_all.new.self.out.items c.take_out.new.out.items c.in_ok-try_all.ensures.ahead c.take_out.ensures.there

pub returns-clause-does : goal.returns-clause-does
returns-clause-does g c =
    gone_on g.W.Line.Line.written g.W.Line.Line.remaining g.W.Line.Line.failures g.W.Line.Line.reason c.args.now c.take_out.result (λ answers. answers.items) c.args.self.now.out.items c.try_all.new.self.out.items c.take_out.new.out.items
    c.in_ok-try_all.ensures.moved c.take_out.ensures.said c.take_out.ensures.there
