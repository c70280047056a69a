-- The guest at that place is given it.
use Rattle.base_clients.proofs.Placed.{became_at}
use Rattle.base_clients.specs.{Guests.is_stage_asked, Tables.guest_answered}
use Rattle.base_clients.proofs.clients.Clients.answer_first.Goals as goal

pub returns-in-Some : goal.returns-in-Some
returns-in-Some g c = became_at c.self.inside.next c.self.inside.limits c.self.inside.framing (λ it. is_stage_asked it.stage) (guest_answered c.args.now c.args.answer.items) c.args.self.now c.self.inside.guests.items
    c.deref.result.now c.in-Some.place c.place_asked.result c.index_mut.result.now c.set_answer.new.self c.self.view_is c.deref.ensures.value c.place_asked.ensures.place c.in-Some.is
    c.in-Some.ensures.within c.index_mut.ensures.value c.set_answer.ensures
