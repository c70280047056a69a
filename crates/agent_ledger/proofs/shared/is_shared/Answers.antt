-- The credential that is not new is a later row's.
use Rattle.std.proofs.Common.{rules, ◌≡◌, refl}
use Rattle.plan_forest.specs.Push.{is_lease}
use Rattle.agent_ledger.specs.declared.shared.OfKind.{OfKind}
use Rattle.agent_ledger.proofs.Sharing.{one_more}
use Rattle.agent_ledger.proofs.shared.is_shared.Goals as goal

pub returns : goal.returns
returns c =
    let row = c.args.earlier.now in
    let key : OfKind = record { is_lease = c.is_lease.result; credential = c.in_ok-clone.field-0 } in
    let kinds : key.is_lease ≡ is_lease row.kind = search rules in
    let held : key.credential ≡ row.credential = search rules in
    λ rows are.
    one_more c.args.later.now c.insert.new.self row key rows _ c.in_ok-is_new.is_new kinds held c.in_ok-is_new.ensures.added refl c.in_ok-is_new.ensures.updates are
