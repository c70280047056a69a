-- After a run the entry has the end that its last moment in time gives, if that is later than before.
use Rattle.std.proofs.Common.{◌∙◌, max, ap}
use Rattle.plan_check.proofs.OwnRuns.{own_run}
use Rattle.plan_check.proofs.kept.own_after_run.Goals as goal

pub returns : goal.returns
returns c =
    c.max.ensures ∙ ap (max c.args.end) c.renewal.ensures
    ∙ own_run c.args.entry.now c.args.margin c.args.end c.args.run.now c.more_in_time-more.result c.requires.renewable c.requires.some c.requires.first c.more_in_time-more.ensures.most c.more_in_time-more.ensures.stops
