-- `strip_suffix` at the character `s`, by bytes.
use Rattle.std.proofs.Common.{ap, ◌∙◌, arith}
use Rattle.std.proofs.lemmas.Str.Pattern.{strip_suffix_char}
use Rattle.vault_json.proofs.Durations.{stripped}
use Rattle.vault_json.proofs.duration.without_unit.Goals as goal

pub returns : goal.returns
returns c =
    ap (λ x. x.now) c.unwrap_or.ensures
    ∙ stripped c.args.text c.strip_suffix.result (strip_suffix_char 115 c.args.text.now c.strip_suffix.result c.strip_suffix.ensures.cases (omega arith))
