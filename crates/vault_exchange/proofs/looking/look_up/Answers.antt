-- A reply that came is applied to the inventory as the lookup of an entry wants it.
use Rattle.std.proofs.Common.{ap, ◌∙◌}
use Rattle.vault_exchange.specs.Requests.{lookup_of}
use Rattle.vault_exchange.proofs.Looked.{looked_up}
use Rattle.vault_exchange.proofs.looking.look_up.Goals as goal

pub returns-in-Ok-clause-looked : goal.returns-in-Ok-clause-looked
returns-in-Ok-clause-looked g c =
    looked_up (g.E.Exchange.behind c.args.exchange.now) (g.E.Exchange.behind c.exchange.new.self) (g.E.Exchange.host_port c.args.exchange.now) c.args.t c.args.i c.args.inventory.now c.apply.new.inventory c.in_ok-request.request c.in-Ok.reply c.apply.result
    (c.in_ok-request.ensures.is ∙ ap (λ p. lookup_of p c.args.inventory.now.credentials c.args.inventory.now.forest c.args.i) c.port-port.ensures) c.in-Ok.ensures.exchanged c.apply.ensures.applied
