-- There are faults of what is written or of files; or what is left is told.
use Rattle.std.proofs.Common.{◌≡◌, ◌∙◌, ◌==◌, ap, sym}
use Rattle.state_changes.specs.Listed.{rows_of_served}
use Rattle.agent_words.proofs.Faulty.{are_last, are_there}
use Rattle.agent_words.proofs.all_faults.faults_of.Goals as goal

pub returns-then-is_empty-clause-all : goal.returns-then-is_empty-clause-all
returns-then-is_empty-clause-all g c =
    let listed : c.list.result.now ≡ rows_of_served c.args.served.now = cc (c.list.ensures, c.in_ok-rows.ensures) in
    let pushed = c.in_ok-push_unfilled.ensures.faults in
    are_last c.args.demands (g.I.Inputs.bytes_at c.args.inputs.now) c.args.folder.now c.as_bytes.result.now c.args.bytes.now c.args.served.now c.list.result.now c.in_ok-faults.faults.items c.push_unfilled.new.faults.items pushed.0
    c.in_ok-faults.ensures listed c.as_bytes.ensures.value pushed.1.0 pushed.1.1 (g.I.Inputs.bytes_at c.push_unfilled.new.inputs) c.last_fault.result (sym (ap (λ n. n == 0) c.push_unfilled.new.faults.ok.0) ∙ sym c.if-is_empty.ensures) c.push_unfilled.ensures.same c.last_fault.ensures.last

pub returns-clause-all : goal.returns-clause-all
returns-clause-all g c =
    let listed : c.list.result.now ≡ rows_of_served c.args.served.now = cc (c.list.ensures, c.in_ok-rows.ensures) in
    let pushed = c.in_ok-push_unfilled.ensures.faults in
    are_there c.args.demands (g.I.Inputs.bytes_at c.args.inputs.now) c.args.folder.now c.as_bytes.result.now c.args.bytes.now c.args.served.now c.list.result.now c.in_ok-faults.faults.items c.push_unfilled.new.faults.items pushed.0
    c.in_ok-faults.ensures listed c.as_bytes.ensures.value pushed.1.0 pushed.1.1 (sym (ap (λ n. n == 0) c.push_unfilled.new.faults.ok.0) ∙ sym c.if-is_empty.ensures)
