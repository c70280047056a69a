-- A word that spells a number is all digits, so that their value may be asked.
use Rattle.std.proofs.Common.{sym}
use Rattle.base_words.proofs.Digits.{spelled_digits}
use Rattle.base_words.proofs.number.spelled_number.Goals as goal

pub value_of-requires : goal.value_of-requires
value_of-requires c = spelled_digits c.args.word.now (sym c.if-is_spelled.ensures)
