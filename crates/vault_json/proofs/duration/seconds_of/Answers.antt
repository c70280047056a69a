-- `parse` takes a sign too, so it is asked only where the text is digits.
use Rattle.std.proofs.Common.{sym, ap, ◌∙◌}
use Rattle.vault_json.proofs.Durations.{parsed, not_parsed}
use Rattle.vault_json.specs.Duration.{seconds_of_text, seconds_of_digits}
use Rattle.vault_json.proofs.duration.seconds_of.Goals as goal

pub returns-then-is_digits : goal.returns-then-is_digits
unfolding seconds_of_text
returns-then-is_digits c =
    c.ok.ensures.value
    ∙ parsed c.without_unit-digits.result.now c.parse.result c.parse.ensures.value.0 (sym c.is_digits.ensures ∙ c.if-is_digits.true)
    ∙ ap seconds_of_digits c.without_unit-digits.ensures

pub returns-else-is_digits : goal.returns-else-is_digits
unfolding seconds_of_text
returns-else-is_digits c =
    sym (not_parsed c.without_unit-digits.result.now (sym c.is_digits.ensures ∙ c.if-is_digits.false)) ∙ ap seconds_of_digits c.without_unit-digits.ensures
