-- What was given so far, in how many tries.
use Rattle.std.proofs.Common.{◌≡◌, ◌+◌, ◌≤◌, length, take}
use Rattle.std.specs.Io.KnownBytes.{Appends}
use Rattle.base_log.proofs.Turning.{Going}
use Rattle.base_log.proofs.writing.write_out.Given as goal

abbrev pub invariant-loop-try : goal.invariant-loop-try
invariant-loop-try g l = record {
  within : l.taken ≤ length l.bytes;
  given : Appends (g.S.LogSink.written l.fn.sink) (g.S.LogSink.written l.sink) (take l.taken l.bytes);
  turn : Going (length l.bytes) l.taken l._try (g.S.LogSink.tried l.fn.sink) (g.S.LogSink.tried l.sink);
  tries : g.S.LogSink.tries l.sink ≤ g.S.LogSink.tries l.fn.sink + l._try;
  failures : g.S.LogSink.failures l.sink ≡ g.S.LogSink.failures l.fn.sink;
}
