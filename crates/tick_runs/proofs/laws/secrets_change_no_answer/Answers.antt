-- Live runs that differ in credentials alone are opened by the same lines, and answer the same event lines by the same lines.
use Rattle.tick_runs.proofs.AlikeLines as lines
use Rattle.tick_runs.proofs.AlikeLives as lives
use Rattle.tick_runs.proofs.AlikeLookups as lookups
use Rattle.tick_runs.proofs.laws.secrets_change_no_answer.Goals as goal

pub returns-clause-answers : goal.returns-clause-answers
returns-clause-answers c = lines.alike_answers

pub returns-clause-lookups : goal.returns-clause-lookups
returns-clause-lookups c = lookups.alike_lookups c.looked_lease_is_read.ensures

pub returns-clause-openings : goal.returns-clause-openings
returns-clause-openings c = lookups.alike_openings c.looked_lease_is_read.ensures

pub returns-clause-runs : goal.returns-clause-runs
returns-clause-runs c = lives.alike_runs c.looked_lease_is_read.ensures
