-- It will tell nothing, and what it will tell is for that client.
use Rattle.agent_house.proofs.house.House.tell_nothing.Goals as goal

pub returns : goal.returns
returns g c = (c.will_tell.new.self, (c.will_tell.ensures, c.address.ensures))
