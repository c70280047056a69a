-- The runs of the whole list are the least and latest plan, and an overlong list makes it too long.
use Rattle.plan_schedule.specs.Courses.{IsToCome}
use Rattle.plan_search.specs.{code.Collecting.ListIsOverlong, code.Collecting.RunsAreWhole, Decides.AreBest, Decides.PlanIsTooLong}
use Rattle.plan_search.proofs.Deciding.{best_of, each_case, too_long}
use Rattle.plan_search.proofs.planning.best_runs.Goals as goal

pub returns : goal.returns
returns c =
    let g = c.args.forest.now in
    let s = c.args.start in
    let schedule = c.in_ok-schedule.schedule in
    let comes = IsToCome schedule.course in
    let list = c.in_ok-schedule.ensures.list in
    let forest = c.len-entries.ensures.sound in
    each_case c.in_ok-collect.field-0 (ListIsOverlong comes) (PlanIsTooLong g s) (λ v. RunsAreWhole comes schedule.runs v.items) (λ v. AreBest g s v.items)
    (too_long g s forest c.requires.keepable comes (λ xs h. (list xs).1 h))
    (λ v h. best_of g s forest c.requires.keepable comes (λ xs h. (list xs).0 h) schedule.runs c.in_ok-schedule.ensures.runs v.items h)
    c.in_ok-collect.ensures
