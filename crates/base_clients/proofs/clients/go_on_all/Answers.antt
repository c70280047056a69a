-- Each goes on for itself.
use Rattle.std.proofs.Common.{◌&&◌, get_or, is_ok, ◌<◌, ◌+◌, ◌∙◌, ap, length, refl, set, sym, subst, take, arith}
use Rattle.std.proofs.lemmas.List.{length-set}
use Rattle.base_clients.specs.Tables.{EachGoesOn}
use Rattle.base_clients.proofs.Went.{one_went, rest_next, went_next}
use Rattle.base_clients.proofs.clients.go_on_all.Goals as goal

pub loop-guest-preserved : goal.loop-guest-preserved
loop-guest-preserved g c =
    let i = c.loop-guest.invariant in
    let within : c.loop-guest.guest-index < length c.loop-guest.guests = omega arith in record {
      room = c.go_on-went.ensures.room;
      many = length-set _ _ _ ∙ i.many;
      on = subst (λ e. EachGoesOn g.T.Talk.remaining g.T.Talk.written g.T.Talk.calls (g.F.Framing.tells c.args.framing.now) c.args.most c.args.now e (take (c.loop-guest.guest-index + 1) c.args.guests.now)
          (take (c.loop-guest.guest-index + 1) (set c.loop-guest.guests c.loop-guest.guest-index c.go_on-went.new.self))) (sym (c.both-is_enough.ensures ∙ ap (λ b. c.loop-guest.is_enough && b) c.is_ok.ensures.value))
          (went_next g.T.Talk.remaining g.T.Talk.written g.T.Talk.calls (g.F.Framing.tells c.args.framing.now) c.args.most c.args.now c.loop-guest.is_enough (is_ok c.go_on-went.result) c.args.guests.now
          c.loop-guest.guests c.loop-guest.guest-index c.guest-item.result (get_or c.loop-guest.guests c.loop-guest.guest-index c.guest-item.result) c.go_on-went.new.self within i.rest i.on
          (one_went g.T.Talk.remaining g.T.Talk.written g.T.Talk.calls (g.F.Framing.tells c.args.framing.now) c.args.most c.args.now c.loop-guest.is_enough c.go_on-went.result (get_or c.loop-guest.guests c.loop-guest.guest-index c.guest-item.result) c.go_on-went.new.self
          c.go_on-went.ensures.on c.go_on-went.ensures.lost) refl);
      rest = rest_next c.args.guests.now c.loop-guest.guests c.loop-guest.guest-index _ i.rest;
    }
