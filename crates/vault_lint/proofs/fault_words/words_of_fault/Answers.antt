-- The line and the words of the finding.
use Rattle.std.proofs.Common.{◌∙◌, ap, ◌++◌}
use Rattle.vault_lint.specs.FaultWords.{finding_words, line_words}
use Rattle.vault_lint.proofs.Said.{said_of}
use Rattle.vault_lint.proofs.fault_words.words_of_fault.Goals as goal

pub returns : goal.returns
returns c =
    let places = c.in_ok-places.places in
    let f = c.in_ok-finding.finding in
    let is = c.in_ok-finding.ensures in
    said_of c.args.bytes.now places.marks.items places.heads.items c.args.fault f c.from_vec.result c.in_ok-places.ensures.marks c.in_ok-places.ensures.heads is.line is.entry is.key is.problem is.mend
    (c.from_vec.ensures ∙ c.in_ok-push_words.ensures ∙ ap (λ t. t ++ finding_words f) (c.in_ok-push_line_number.ensures ∙ ap (λ t. t ++ line_words f.line) c.new-text.ensures.items))
