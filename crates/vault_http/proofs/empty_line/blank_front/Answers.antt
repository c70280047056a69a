-- The bytes of line ends that were known, and those after them.
use Rattle.std.proofs.Common.{◌∙◌, length, take_while, ap}
use Rattle.std.proofs.lemmas.List.{take_rest}
use Rattle.vault_http.specs.EmptyLine.{is_line_end_byte}
use Rattle.vault_http.proofs.EmptyLines.{blank_more}
use Rattle.vault_http.proofs.empty_line.blank_front.Goals as goal

pub returns-clause-blank : goal.returns-clause-blank
returns-clause-blank c =
    (blank_more c.args.bytes.now c.args.blank c.blanks.result c.requires.within c.requires.blank
    (c.blanks.ensures ∙ ap (λ t. length (take_while is_line_end_byte t)) (take_rest c.args.bytes.now c.args.blank))).1
