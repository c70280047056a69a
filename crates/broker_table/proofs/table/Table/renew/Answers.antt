-- A renewal that is granted names a text, so that its reply can have its body.
use Rattle.std.proofs.Common.{subst, sym}
use Rattle.broker_table.specs.{Found.GrantNamesText, Slots.listed_rows}
use Rattle.broker_table.proofs.Texts.{grant_names_text}
use Rattle.broker_table.proofs.table.Table.renew.Goals as goal

pub renewed-requires-clause-text : goal.renewed-requires-clause-text
renewed-requires-clause-text c =
    subst (GrantNamesText c.args.call) (sym c.in_ok-grant.ensures.granted)
    (grant_names_text (listed_rows c.self.inside.slots) c.args.t c.args.call c.args.request.now c.next-fault.result)
