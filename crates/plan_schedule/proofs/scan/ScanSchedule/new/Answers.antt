-- What is to come of a new schedule is the list of the forces from the start on.
use Rattle.plan_schedule.proofs.Taking.{comes_forces}
use Rattle.plan_schedule.proofs.scan.ScanSchedule.new.Goals as goal

pub returns : goal.returns
returns c = λ xs. comes_forces c.new.result c.args.forest.now c.args.carried.now c.args.start c.new.ensures.value c.new.ensures.sound c.requires.carried c.requires.keepable xs
