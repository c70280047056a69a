-- A token's row is entered among the tokens, and a lease's among the leases.
use Rattle.broker_table.proofs.Indexed.{lease_enters, token_enters}
use Rattle.broker_table.proofs.index.Index.add.Goals as goal

pub returns-in-Token : goal.returns-in-Token
returns-in-Token c = token_enters c.enter.result c.args.self.now c.enter.new.places c.args.row.now c.args.place c.list-credential.result.now c.in-Token.is c.list-credential.ensures c.enter.ensures

pub returns-in-Lease : goal.returns-in-Lease
returns-in-Lease c =
    lease_enters c.enter-in-Lease.result c.args.self.now c.enter-in-Lease.new.places c.args.row.now c.args.place c.list-credential.result.now c.in-Lease.is c.list-credential.ensures c.enter-in-Lease.ensures
