-- What is served is the inventory that is due, with the margin that is demanded.
use Rattle.std.proofs.Common.{subst}
use Rattle.state_keeping.specs.{States.book_in, Keepers.InventoryIsGiven, Keepers.waiting_in}
use Rattle.agent_words.specs.Reading.{IsWide}
use Rattle.agent_ledger.proofs.ledger.LedgerKeeping.due.Goals as goal

pub returns : goal.returns
returns g c = (
  c.in-Some.inventory,
  (
    subst (InventoryIsGiven (waiting_in c.args.self.now.state.keeper) c.args.now (book_in c.args.self.now.state).text) c.in-Some.is c.in_ok-inventory.ensures.given,
    subst (λ text. IsWide c.args.self.now.demands text c.in-Some.inventory c.in_ok-wide.field-0) c.text.ensures c.in_ok-wide.ensures,
  ),
)
