-- The date of a day number, which counts from 1970, has no negative year.
use Rattle.std.proofs.Common.{◌≡◌, pos, rules}
use Rattle.jiff_core.specs.Date.{epoch_day}
use Rattle.base_moment.proofs.Calendar.{year_from_epoch}
use Rattle.base_moment.proofs.stamp.calendar_day.Goals as goal

pub returns-clause-year : goal.returns-clause-year
returns-clause-year c =
    let day : epoch_day c.unwrap.result ≡ pos c.args.day = search rules in
    year_from_epoch c.unwrap.result c.args.day day
