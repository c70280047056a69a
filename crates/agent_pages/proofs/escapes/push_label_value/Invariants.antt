-- What was written, and the bytes to come, are all of them.
use Rattle.std.proofs.Common.{◌≡◌, ◌++◌, drop}
use Rattle.agent_pages.specs.Escapes.{label_value}
use Rattle.agent_pages.proofs.escapes.push_label_value.Given as goal

abbrev pub invariant-loop-byte : goal.invariant-loop-byte
invariant-loop-byte l = l.text.items ++ label_value (drop l.byte-index l.value) ≡ l.initial.text.items ++ label_value l.value
