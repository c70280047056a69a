-- The doubts of one entry more are appended.
use Rattle.std.proofs.Common.{◌∙◌, ◌++◌, ap, append_assoc, sym}
use Rattle.vault_lint.specs.Doubts.{doubts_of_first, entry_doubts}
use Rattle.vault_lint.proofs.Steps.{doubts_more}
use Rattle.vault_lint.proofs.all_doubts.push_entries.Goals as goal

pub loop-index-preserved : goal.loop-index-preserved
loop-index-preserved c =
    let s = c.args.subject.now in
    let i = c.loop-index.index in
    let here = entry_doubts s c.args.whole i in
    let old = c.args.found.now.items in
    c.in_ok-push_entry.ensures
    ∙ ap (λ l. l ++ here) c.loop-index.invariant
    ∙ append_assoc old (doubts_of_first s c.args.whole i) here
    ∙ sym (ap (λ l. old ++ l) (doubts_more s c.args.whole i))
