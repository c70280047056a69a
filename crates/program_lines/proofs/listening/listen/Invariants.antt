-- What was read so far is heard line by line.
use Rattle.std.proofs.Common.{◌≡◌, length}
use Rattle.base_device.specs.Seen.{change}
use Rattle.program_lines.specs.{Hearing.counted_line, code.LineByLine.IsListening, declared.limits.TheConstants.ROOM}
use Rattle.program_lines.proofs.listening.listen.Given as goal

abbrev pub invariant-loop : goal.invariant-loop
invariant-loop g l = record {
  listening : IsListening g.H.Hearer.State (g.H.Hearer.hearing (g.H.Hearer.key l.fn.hearer l.fn.neighbours)) l.fn.limits (g.H.Hearer.state l.fn.hearer l.fn.neighbours) l.counter l.pending.items l.left (g.H.Hearer.state l.hearer l.neighbours) l.count
      (change g.R.Device.is_in_memory (g.R.Device.seen l.fn.lines) (g.R.Device.seen l.lines))
      (change g.W.Device.is_in_memory (g.W.Device.seen l.fn.out) (g.W.Device.seen l.out));
  room : length l.room.items ≡ ROOM;
  numbered : counted_line l.count ≡ l.count;
  ready : g.H.Hearer.is_ready l.hearer l.neighbours (g.W.Device.seen l.out);
  same : g.H.Hearer.key l.hearer l.neighbours ≡ g.H.Hearer.key l.fn.hearer l.fn.neighbours;
  output : (g.R.Device.seen l.lines).output ≡ (g.R.Device.seen l.fn.lines).output;
}
