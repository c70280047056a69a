-- One more has begun, and takes as long as it is allowed to.
use Rattle.std.proofs.Common.{◌≡◌, subst}
use Rattle.vault_lanes.specs.{Seats.SeatIsPut, Serving.allowed, code.Ways.HasBegun}
use Rattle.vault_http.specs.Written.{request_text}
use Rattle.vault_lanes.proofs.running.LanesOverLanes.send.Goals as goal

pub returns-clause-does : goal.returns-clause-does
returns-clause-does g c =
    let allowance : c.new-allowance.result ≡ allowed c.args.self.now.seconds c.args.now c.args.ask.now = c.new-allowance.ensures in record {
      seat = c.in_ok-seat.seat;
      put = subst (λ l. SeatIsPut c.in_ok-seat.seat l c.put.new.out.items) c.reserve.ensures.items c.put.ensures.seat;
      index_is = c.in_ok-seat.ensures.index;
      begun = subst (λ a. HasBegun g.W.Line.Line.written g.W.Line.Line.remaining g.W.Line.Line.failures g.W.Line.Line.reason (request_text c.args.ask.now.request) a c.in_ok-seat.seat.standing) allowance c.in_ok-seat.ensures.begins;
    }
