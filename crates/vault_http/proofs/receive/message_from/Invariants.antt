-- What was read so far is the front of the input, more is rightly waited for, and the reads that were made are off those
-- that were needed.
use Rattle.std.proofs.Common.{◌≡◌, ◌+◌, ◌<◌, ◌≤◌, ◌⊎◌, IfSome, vec_len}
use Rattle.std.specs.Io.KnownBytes.{Consumes, IsAtEnd}
use Rattle.base_device.specs.Whole.{MakesAtMost}
use Rattle.vault_http.specs.Known.{IsCurrent, StaysKnown}
use Rattle.vault_http.proofs.receive.message_from.Given as goal

abbrev pub invariant-loop : goal.invariant-loop
invariant-loop g l = record {
  given : Consumes (g.R.Device.seen l.fn.reader).input.remaining (g.R.Device.seen l.reader).input.remaining l.bytes.items;
  few : vec_len l.bytes ≤ l.max;
  pace : IfSome (g.R.Device.seen l.fn.reader).input.remaining (λ _. (l.counter + (g.R.Device.seen l.reader).input.reads_left ≤ (g.R.Device.seen l.fn.reader).input.reads_left)
      × ((l.counter ≡ 0) ⊎ (0 < (g.R.Device.seen l.reader).input.reads_left)));
  made : MakesAtMost l.counter (g.R.Device.seen l.fn.reader).input (g.R.Device.seen l.reader).input;
  last : (l.counter ≡ 0) ⊎ ((g.R.Device.seen l.reader).input.reads_left ≤ 1 → IsAtEnd (g.R.Device.seen l.reader).input.remaining);
  output : (g.R.Device.seen l.reader).output ≡ (g.R.Device.seen l.fn.reader).output;
  known : StaysKnown g.M.Message.has_no_head (g.M.Message.is_answer l.max) g.M.Message.with_body l.max l.bytes.items l.known;
  current : IsCurrent l.max l.bytes.items l.known;
  count : (g.R.Device.seen l.reader).failed_calls ≡ (g.R.Device.seen l.fn.reader).failed_calls;
}
