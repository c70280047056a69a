-- The walk over the bytes so far has met no empty line.
use Rattle.std.proofs.Common.{◌≡◌, drop}
use Rattle.vault_http.proofs.EmptyLines.{meets}
use Rattle.vault_http.proofs.empty_line.has_empty_line.Given as goal

abbrev pub invariant-loop-byte : goal.invariant-loop-byte
invariant-loop-byte l = meets 0 l.bytes ≡ meets l.last (drop l.byte-index l.bytes)
