-- Those so far went on, and the others are as they were.
use Rattle.std.proofs.Common.{◌≡◌, drop, length, take}
use Rattle.base_clients.specs.Tables.{EachGoesOn}
use Rattle.base_clients.proofs.clients.go_on_all.Given as goal

abbrev pub invariant-loop-guest : goal.invariant-loop-guest
invariant-loop-guest g l = record {
  room : length l.room ≡ 4096;
  many : length l.guests ≡ length l.fn.guests;
  on : EachGoesOn g.T.Talk.remaining g.T.Talk.written g.T.Talk.calls (g.F.Framing.tells l.framing) l.most l.now l.is_enough (take l.guest-index l.fn.guests) (take l.guest-index l.guests);
  rest : drop l.guest-index l.guests ≡ drop l.guest-index l.fn.guests;
}
