-- Bytes are a text exactly where they can be read as UTF-8.
use Rattle.std.proofs.Common.{sym}
use Rattle.std.proofs.lemmas.{Bool.false_from_ne_true, Str.IsUtf8-from_is_utf8, Str.is_utf8-from_IsUtf8}
use Rattle.std.specs.Str.{is_utf8}
use Rattle.state_changes.proofs.row_text.is_text.Goals as goal

pub returns-in_default : goal.returns-in_default
returns-in_default c = sym (false_from_ne_true (is_utf8 c.args.bytes.now) (λ e. c.in_default.ensures.cases.0 (IsUtf8-from_is_utf8 c.args.bytes.now e)))

pub returns : goal.returns
returns c = sym (is_utf8-from_IsUtf8 c.args.bytes.now c.in-Ok.ensures.cases.1)
