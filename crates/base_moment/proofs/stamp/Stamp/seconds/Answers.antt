-- The day, the time of day and the offset of a stamp give its seconds since 1970.
use Rattle.std.proofs.Common.{◌≡◌, true, FitsSigned, w32, w64, rules}
use Rattle.std.proofs.lemmas.Int.{to_z-of_z}
use Rattle.base_moment.specs.MomentOf.{is_time}
use Rattle.base_moment.proofs.Seconds.{seconds_from_parts}
use Rattle.base_moment.proofs.stamp.Stamp.seconds.Goals as goal

pub returns : goal.returns
returns c =
    let day : FitsSigned w32 c.in_ok-day.day = search rules in
    let offset : FitsSigned w32 c.offset.result = search rules in
    let sum : FitsSigned w64 c.seconds_at.result = search rules in
    let time : is_time c.args.self ≡ true = cc in
    let is = simp to_z-of_z at c.seconds_at.ensures in
    simp to_z-of_z (seconds_from_parts c.args.self c.in_ok-day.day c.offset.result c.seconds_at.result c.clock.result c.in_ok-day.ensures.value time c.clock.ensures.value c.offset.ensures.value is)
