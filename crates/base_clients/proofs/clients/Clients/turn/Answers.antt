-- Each goes on, those that are over leave, and some are let in.
use Rattle.std.proofs.Common.{◌≡◌, ◌∙◌, ap, length}
use Rattle.base_device.proofs.Lent.{written_back}
use Rattle.base_clients.proofs.Went.{turned}
use Rattle.base_clients.proofs.clients.Clients.turn.Goals as goal

pub returns : goal.returns
returns g c =
    let same : length c.go_on_all-is_enough.new.guests ≡ length c.self.inside.guests.items = c.go_on_all-is_enough.ensures.many ∙ ap length c.deref_mut.ensures.value in
    let whole : c.self.inside.guests.len ≡ length c.self.inside.guests.items = c.self.inside.guests.ok.0 in
    turned g.T.Talk.remaining g.T.Talk.written g.T.Talk.calls g.F.Framing.tells c.args.now c.self.inside.next c.self.inside.limits c.self.inside.framing c.args.self.now c.let_in-has_let.new.self
    c.self.inside.guests.items c.deref_mut.result.now c.go_on_all-is_enough.new.guests _ c.drop_over.new.guests.items _ _ c.go_on_all-is_enough.result c.let_in-has_let.result _
    c.self.view_is c.deref_mut.ensures.value c.go_on_all-is_enough.ensures.on c.both.ensures c.drop_over.ensures
    (written_back c.self.inside.guests.len c.go_on_all-is_enough.new.guests c.self.inside.guests.items same whole) c.let_in-has_let.ensures
