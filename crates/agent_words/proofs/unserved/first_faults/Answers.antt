-- Where there are fewer, they are all.
use Rattle.std.proofs.Common.{arith, sym}
use Rattle.std.proofs.lemmas.List.{take_all}
use Rattle.agent_words.proofs.unserved.first_faults.Goals as goal

pub returns-then-faults-lt-MOST_FAULTS : goal.returns-then-faults-lt-MOST_FAULTS
returns-then-faults-lt-MOST_FAULTS c = sym (take_all 100 c.args.faults.now (omega (arith, c.if-faults-lt-MOST_FAULTS.true)))
