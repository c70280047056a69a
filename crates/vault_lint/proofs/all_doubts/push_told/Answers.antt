-- What is told of the first of the rest is appended.
use Rattle.std.proofs.Common.{◌≡◌, ◌∙◌, ◌++◌, ◌+◌, [], None, ap, append-nil, append_assoc, arith, drop, get_or, sym}
use Rattle.std.proofs.lemmas.{Grind.common_steps, List.drop_more}
use Rattle.vault_lint.specs.Doubts.{told, told_of}
use Rattle.vault_lint.proofs.all_doubts.push_told.Goals as goal

pub loop-at-preserved : goal.loop-at-preserved
loop-at-preserved c =
    let at = c.loop-at.at in
    let i = c.args.index in
    let said = c.loop-at.found.items in
    let later = told i (drop (at + 1) c.args.whats.now) in
    let e = drop_more c.args.whats.now at None c.loop-at-test.true in
    ap (λ l. l ++ later) c.in_ok-push_what.ensures
    ∙ append_assoc said (told_of i (get_or c.args.whats.now at None)) later
    ∙ sym (ap (λ whats. said ++ told i whats) e)
    ∙ c.loop-at.invariant

pub returns : goal.returns
returns c =
    let e : drop c.loop-at.at c.args.whats.now ≡ [] = grind (arith, common_steps) in
    sym (append-nil c.loop-at.found.items) ∙ sym (ap (λ whats. c.loop-at.found.items ++ told c.args.index whats) e) ∙ c.loop-at.invariant
