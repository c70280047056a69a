-- The lines before `rest` are heard, and `rest` is what stands after them.
use Rattle.std.proofs.Common.{◌≡◌, ◌-◌, ◌≤◌, drop, length}
use Rattle.base_device.specs.Seen.{change}
use Rattle.base_words.specs.Pieces.{pieces}
use Rattle.program_lines.specs.{Hearing.counted_line, code.LineByLine.HearsUpTo}
use Rattle.program_lines.proofs.listening.hear_whole.Given as goal

abbrev pub invariant-loop-line : goal.invariant-loop-line
invariant-loop-line g l = record {
  up_to : HearsUpTo g.H.Hearer.State (g.H.Hearer.hearing (g.H.Hearer.key l.fn.hearer l.fn.neighbours)) l.fn.count (g.H.Hearer.state l.fn.hearer l.fn.neighbours) l.bytes (pieces 10 l.rest) (g.H.Hearer.state l.hearer l.neighbours) l.count
      (change g.W.Device.is_in_memory (g.W.Device.seen l.fn.out) (g.W.Device.seen l.out));
  rest : drop (length l.bytes - length l.rest) l.bytes ≡ l.rest;
  within : length l.rest ≤ length l.bytes;
  numbered : counted_line l.count ≡ l.count;
  ready : g.H.Hearer.is_ready l.hearer l.neighbours (g.W.Device.seen l.out);
  same : g.H.Hearer.key l.hearer l.neighbours ≡ g.H.Hearer.key l.fn.hearer l.fn.neighbours;
}

abbrev pub decreases-loop-line : goal.decreases-loop-line
decreases-loop-line g l = length l.rest
