-- Each goes on, and the deadlines of those that went on are ahead.
use Rattle.std.proofs.Common.{◌≡◌, ◌∙◌, ap, length}
use Rattle.vault_lanes.proofs.{Due.back_ahead, Moved.back_moved, Moved.back_up_to}
use Rattle.base_device.proofs.Lent.{written_back}
use Rattle.vault_lanes.proofs.running.LanesOver.try_all.Goals as goal

pub returns-clause-ahead : goal.returns-clause-ahead
returns-clause-ahead g c =
    let same : length c.go_on.new.out ≡ length c.args.self.now.out.items = c.go_on.auto.out ∙ ap length c.deref_mut.ensures.value in
    let whole : c.args.self.now.out.len ≡ length c.args.self.now.out.items = c.args.self.now.out.ok.0 in
    back_ahead g.W.Line.Line.written g.W.Line.Line.remaining g.W.Line.Line.failures g.W.Line.Line.reason c.args.now c.go_on.result c.deref_mut.result.now c.go_on.new.out _ (written_back c.args.self.now.out.len c.go_on.new.out c.args.self.now.out.items same whole)
    c.go_on.ensures.moves

pub returns-clause-moved : goal.returns-clause-moved
returns-clause-moved g c =
    let same : length c.go_on.new.out ≡ length c.args.self.now.out.items = c.go_on.auto.out ∙ ap length c.deref_mut.ensures.value in
    let whole : c.args.self.now.out.len ≡ length c.args.self.now.out.items = c.args.self.now.out.ok.0 in
    back_moved g.W.Line.Line.written g.W.Line.Line.remaining g.W.Line.Line.failures g.W.Line.Line.reason c.args.now c.go_on.result c.args.self.now.out.items c.deref_mut.result.now c.go_on.new.out _ c.deref_mut.ensures.value
    (written_back c.args.self.now.out.len c.go_on.new.out c.args.self.now.out.items same whole) c.go_on.ensures.moves

pub returns-clause-up_to : goal.returns-clause-up_to
returns-clause-up_to g c =
    let same : length c.go_on.new.out ≡ length c.args.self.now.out.items = c.go_on.auto.out ∙ ap length c.deref_mut.ensures.value in
    let whole : c.args.self.now.out.len ≡ length c.args.self.now.out.items = c.args.self.now.out.ok.0 in
    back_up_to g.W.Line.Line.written g.W.Line.Line.remaining g.W.Line.Line.failures g.W.Line.Line.reason c.args.now c.go_on.result c.args.self.now.out.items c.deref_mut.result.now c.go_on.new.out _ c.deref_mut.ensures.value
    (written_back c.args.self.now.out.len c.go_on.new.out c.args.self.now.out.items same whole) c.go_on.ensures.up_to
