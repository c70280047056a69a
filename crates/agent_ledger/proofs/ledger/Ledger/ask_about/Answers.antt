-- The first that is free looks it up, or memory is wanting for that.
use Rattle.std.proofs.Common.{◌∙◌, Ok, Err, ap, inr, refl, sym}
use Rattle.std.specs.Vec.{with_items}
use Rattle.state_secrets.specs.declared.looking.Looking.{Looking}
use Rattle.agent_ledger.specs.Askers.{free_place}
use Rattle.agent_ledger.proofs.Asking.{asked_whole}
use Rattle.agent_ledger.proofs.ledger.Ledger.ask_about.Goals as goal

pub returns-in-Ok : goal.returns-in-Ok
returns-in-Ok g c =
    let v = c.args.self.now.askers in
    let new = c.ask_at.new.askers in
    inr (record {
      place = c.in-Some.place;
      free = sym (ap free_place c.deref.ensures.value) ∙ sym c.free_place.ensures.place ∙ c.in-Some.is;
      result = Ok c.in-Ok.field-0;
      mid = record c.args.self.now { askers = with_items v new };
      asks = asked_whole v c.deref_mut.result.now new c.deref_mut.ensures.value c.ask_at.ensures.many _ g.L.Lanes.host_port c.in-Some.place c.args.now c.args.asked c.args.candidate c.ask_at.result (Ok c.in-Ok.field-0) c.in-Ok.is c.ask_at.ensures.asks;
      beside = refl;
      then = (c.quiet.ensures, ap (λ (l : Looking). record c.args.self.now { askers = with_items v new; looking = l }) c.go_on_past.ensures);
    })

pub returns-in-Err : goal.returns-in-Err
returns-in-Err g c =
    let v = c.args.self.now.askers in
    let new = c.ask_at.new.askers in
    inr (record {
      place = c.in-Some.place;
      free = sym (ap free_place c.deref.ensures.value) ∙ sym c.free_place.ensures.place ∙ c.in-Some.is;
      result = Err c.in-Err.field-0;
      mid = record c.args.self.now { askers = with_items v new };
      asks = asked_whole v c.deref_mut.result.now new c.deref_mut.ensures.value c.ask_at.ensures.many _ g.L.Lanes.host_port c.in-Some.place c.args.now c.args.asked c.args.candidate c.ask_at.result (Err c.in-Err.field-0) c.in-Err.is c.ask_at.ensures.asks;
      beside = refl;
      then = (c.wanting.ensures, refl);
    })
