-- Bytes are a text where they are UTF-8.
use Rattle.std.proofs.Common.{refl}
use Rattle.std.proofs.lemmas.{Bool.false_from_ne_true, Str.IsUtf8-from_is_utf8, Str.is_utf8-from_IsUtf8}
use Rattle.std.specs.Str.{is_utf8}
use Rattle.program_calls.proofs.words.text.Goals as goal

pub returns-in-Ok : goal.returns-in-Ok
returns-in-Ok c = (c.in-Ok.ensures.cases.0, is_utf8-from_IsUtf8 c.args.bytes.now c.in-Ok.ensures.cases.1)

pub returns-in-Err : goal.returns-in-Err
returns-in-Err c = (refl, false_from_ne_true (is_utf8 c.args.bytes.now) (λ t. c.in-Err.ensures.cases.0 (IsUtf8-from_is_utf8 c.args.bytes.now t)))
