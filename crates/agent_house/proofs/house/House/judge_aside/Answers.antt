-- It is judged, and what it will tell is for that client.
use Rattle.agent_house.proofs.house.House.judge_aside.Goals as goal

pub returns : goal.returns
returns g c = (c.judge.new.self, (c.judge.ensures, c.address.ensures))
