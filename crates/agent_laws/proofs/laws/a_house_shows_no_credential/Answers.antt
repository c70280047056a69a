-- What a house does follows from the machine, the forest, the standings and the beginnings.
use Rattle.agent_laws.proofs.Heard.{attended, heard, none_given_alike, settled, stretch_alike, went_on}
use Rattle.agent_laws.proofs.laws.a_house_shows_no_credential.Goals as goal

pub returns-clause-heard : goal.returns-clause-heard
returns-clause-heard g c = λ a b alike thing old new h. heard a b alike thing old new h

pub returns-clause-attended : goal.returns-clause-attended
returns-clause-attended g c = λ a b alike begun now goes_on old new h. attended a b alike begun _ _ _ _ _ _ _ _ g.K.Keeping.does _ _ g.K.Keeping.path g.K.Keeping.reads g.K.Keeping.gives g.E.Disk.is_known g.E.Disk.state now goes_on old new h

pub returns-clause-goes_on : goal.returns-clause-goes_on
returns-clause-goes_on g c = λ a b alike begun now is_busy old new none h. went_on a b alike begun _ _ _ _ _ _ _ _ _ _ _ _ _ _ _ _ now is_busy old new none h

pub returns-clause-settled : goal.returns-clause-settled
returns-clause-settled g c = λ a b alike is_made old new h. settled a b alike _ _ is_made old new h

pub returns-clause-none_given : goal.returns-clause-none_given
returns-clause-none_given g c = λ a b alike now old new h. none_given_alike a b alike _ _ _ _ _ _ now old new h

pub returns-clause-stretch : goal.returns-clause-stretch
returns-clause-stretch g c = λ made alike old new none run. stretch_alike _ _ _ _ _ _ _ _ _ _ _ _ _ _ _ _ made old new alike none run
