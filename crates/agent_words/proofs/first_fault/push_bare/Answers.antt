-- The fault of the first of those to come is said, where it has one.
use Rattle.std.proofs.Common.{◌≡◌, ◌∙◌, ◌++◌, ◌+◌, [], ap, append-nil, append_assoc, arith, drop, sym}
use Rattle.std.proofs.lemmas.Grind.{common_steps}
use Rattle.agent_words.specs.Starts.{bare_at, bare_faults}
use Rattle.agent_words.proofs.Behind.{first_behind}
use Rattle.agent_words.proofs.first_fault.push_bare.Goals as goal

pub loop-entry-preserved : goal.loop-entry-preserved
loop-entry-preserved c =
    let at = c.loop-entry.entry in
    let v = c.args.served.now in
    let said = c.loop-entry.faults.items in
    let later = bare_faults v (at + 1) (drop (at + 1) c.args.notes.now) in
    let e = first_behind c.args.notes.now at c.index-notes-entry.result c.loop-entry-test.true c.index-notes-entry.is in
    ap (λ l. l ++ later) (c.in_ok-push_if.ensures ∙ ap (λ here. said ++ here) c.bare_fault.ensures)
    ∙ append_assoc said (bare_at v at c.index-notes-entry.result) later
    ∙ sym (ap (λ notes. said ++ bare_faults v at notes) e)
    ∙ c.loop-entry.invariant

pub returns : goal.returns
returns c =
    let e : drop c.loop-entry.entry c.args.notes.now ≡ [] = grind (arith, common_steps) in
    sym (append-nil c.loop-entry.faults.items) ∙ sym (ap (λ notes. c.loop-entry.faults.items ++ bare_faults c.args.served.now c.loop-entry.entry notes) e) ∙ c.loop-entry.invariant
