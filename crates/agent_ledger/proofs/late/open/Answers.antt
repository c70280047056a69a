use Rattle.std.proofs.Common.{ℕ, true, List, ap, subst}
use Rattle.agent_ledger.specs.{Openings.RecordsNeeds, declared.opening.NeedMeanwhile.NeedMeanwhile}
use Rattle.agent_ledger.proofs.late.open.Goals as goal

pub returns-then-record_needs : goal.returns-then-record_needs
returns-then-record_needs g c =
    let shut = c.args.shut.now in
    let records = subst (λ (needs : List NeedMeanwhile). RecordsNeeds g.K.Keeping.does g.K.Keeping.rows c.args.now needs true c.in_ok-opened.opened c.record_needs.new.self) c.deref.ensures.value c.if-record_needs.ensures in
    (c.in_ok-opened.opened, (records, ap (λ (next : ℕ). record { opening = c.open.new.self; proving = shut.proving; askers = shut.askers; next = next; needs = shut.needs; read = shut.read }) c.saturating_add-shut.ensures))
