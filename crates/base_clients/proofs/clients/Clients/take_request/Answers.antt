-- The guest at that place gives it.
use Rattle.base_clients.proofs.Placed.{taken_at}
use Rattle.base_clients.proofs.clients.Clients.take_request.Goals as goal

pub returns-in-Some : goal.returns-in-Some
returns-in-Some g c = taken_at c.self.inside.next c.self.inside.limits c.self.inside.framing c.take_request.result c.args.self.now c.self.inside.guests.items
    c.deref.result.now c.in-Some.place c.place_asked.result c.index_mut.result.now c.take_request.new.self c.self.view_is c.deref.ensures.value c.place_asked.ensures.place c.in-Some.is
    c.in-Some.ensures.within c.index_mut.ensures.value c.take_request.ensures
