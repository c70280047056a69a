-- The entry is the first of those to come.
use Rattle.std.proofs.Common.{◌≡◌, ◌∙◌, ◌++◌, [], ◌+◌, ap, arith, drop, sym}
use Rattle.std.proofs.lemmas.{Bool.cond-false, Bool.cond-true, Grind.common_steps}
use Rattle.agent_words.specs.Starts.{bare_faults, first_listed_fault}
use Rattle.agent_words.proofs.Behind.{first_behind}
use Rattle.agent_words.proofs.first_fault.first_bare.Goals as goal

pub loop-entry-preserved : goal.loop-entry-preserved
loop-entry-preserved c =
    let at = c.loop-entry.entry in
    let v = c.args.served.now in
    let e = first_behind c.args.notes.now at c.index-notes-entry.result c.loop-entry-test.true c.index-notes-entry.is in
    sym (ap (λ notes. first_listed_fault (bare_faults v at notes)) e ∙ ap (λ here. first_listed_fault (here ++ bare_faults v (at + 1) (drop (at + 1) c.args.notes.now))) (cond-false _ _ _ (sym c.is_bare.ensures ∙ c.if-is_bare.false))) ∙ c.loop-entry.invariant

pub returns-then-is_bare : goal.returns-then-is_bare
returns-then-is_bare c =
    let at = c.loop-entry.entry in
    let v = c.args.served.now in
    let e = first_behind c.args.notes.now at c.index-notes-entry.result c.loop-entry-test.true c.index-notes-entry.is in
    sym (ap (λ notes. first_listed_fault (bare_faults v at notes)) e ∙ ap (λ here. first_listed_fault (here ++ bare_faults v (at + 1) (drop (at + 1) c.args.notes.now))) (cond-true _ _ _ (sym c.is_bare.ensures ∙ c.if-is_bare.true))) ∙ c.loop-entry.invariant

pub returns : goal.returns
returns c =
    let e : drop c.loop-entry.entry c.args.notes.now ≡ [] = grind (arith, common_steps) in
    sym (ap (λ notes. first_listed_fault (bare_faults c.args.served.now c.loop-entry.entry notes)) e) ∙ c.loop-entry.invariant
