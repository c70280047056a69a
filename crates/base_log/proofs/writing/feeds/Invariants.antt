-- The lines that were counted, and those to come, are all of them.
use Rattle.std.proofs.Common.{◌≡◌, ◌+◌, ◌≤◌, drop}
use Rattle.base_log.specs.Waiting.{feeds}
use Rattle.base_log.proofs.writing.feeds.Given as goal

abbrev pub invariant-loop-byte : goal.invariant-loop-byte
invariant-loop-byte l = (l.lines + feeds (drop l.byte-index l.bytes) ≡ feeds l.bytes) × (l.lines ≤ l.byte-index)
