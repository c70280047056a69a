-- One lookup less may go out.
use Rattle.agent_behind.proofs.looking.+look_from.Given as goal

abbrev pub decreases-look_from : goal.decreases-look_from
decreases-look_from g l = l.most
