-- The text so far has the bytes before the index that are shown.
use Rattle.std.proofs.Common.{◌≡◌, filter, take}
use Rattle.vault_lint.specs.Marks.{is_shown}
use Rattle.vault_lint.proofs.mark.shown.Given as goal

abbrev pub invariant-loop-byte : goal.invariant-loop-byte
invariant-loop-byte l = l.text.items ≡ filter is_shown (take l.byte-index l.line)
