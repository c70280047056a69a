-- Those so far went on, and the others are as they were.
use Rattle.std.proofs.Common.{◌≡◌, None, drop, length, take}
use Rattle.vault_lanes.specs.{Seats.outs, code.Ways.Move}
use Rattle.vault_lanes.proofs.running.go_on.Given as goal

abbrev pub invariant-loop-seat : goal.invariant-loop-seat
invariant-loop-seat g l = record {
  room : length l.room ≡ length l.fn.room;
  many : length l.out ≡ length l.fn.out;
  moved : Move g.L.Line.written g.L.Line.remaining g.L.Line.failures g.L.Line.reason l.now (take l.seat-index l.fn.out) (take l.seat-index l.out);
  same : outs (λ _. None) l.out ≡ outs (λ _. None) l.fn.out;
  rest : drop l.seat-index l.out ≡ drop l.seat-index l.fn.out;
}
