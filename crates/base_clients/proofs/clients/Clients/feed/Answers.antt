-- The guest at that place is given what one call writes.
use Rattle.base_clients.proofs.Placed.{fed_at}
use Rattle.base_clients.proofs.clients.Clients.feed.Goals as goal

pub returns-in-Some : goal.returns-in-Some
returns-in-Some g c = fed_at c.self.inside.next c.self.inside.limits c.self.inside.framing c.args.id c.args.bytes.now c.feed.result c.args.self.now c.self.inside.guests.items
    c.deref.result.now c.in-Some.place c.place_following.result c.index_mut.result.now c.feed.new.self c.self.view_is c.deref.ensures.value c.place_following.ensures.place c.in-Some.is
    c.in-Some.ensures.within c.index_mut.ensures.value c.feed.ensures
