-- Whether two of the rows from the place on share a credential is known, and so are the credentials of these.
use Rattle.std.proofs.Common.{◌≡◌, ◌≤◌, drop, length}
use Rattle.agent_ledger.specs.{Shared.is_any_shared, code.OfKinds.AreCredentialsOf}
use Rattle.agent_ledger.proofs.shared.is_any_shared.Given as goal

abbrev pub invariant-loop-index : goal.invariant-loop-index
invariant-loop-index l = record {
  within : l.index ≤ length l.rows;
  any : l.is_any ≡ is_any_shared (drop l.index l.rows);
  held : AreCredentialsOf l.later (drop l.index l.rows);
}

abbrev pub decreases-loop-index : goal.decreases-loop-index
decreases-loop-index l = l.index
