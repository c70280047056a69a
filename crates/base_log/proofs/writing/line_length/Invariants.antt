-- No line has ended yet.
use Rattle.std.proofs.Common.{◌≡◌, ◌+◌, drop}
use Rattle.base_log.specs.Waiting.{line_length}
use Rattle.base_log.proofs.writing.line_length.Given as goal

abbrev pub invariant-loop-byte : goal.invariant-loop-byte
invariant-loop-byte l = (l.length ≡ l.byte-index) × (l.length + line_length (drop l.byte-index l.bytes) ≡ line_length l.bytes)
