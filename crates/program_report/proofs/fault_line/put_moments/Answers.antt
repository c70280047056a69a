-- The words of a wake-up that asks past the entries are written with its number.
use Rattle.std.proofs.Common.{subst, sym}
use Rattle.program_report.specs.{FaultLine.moments_words, Sent.Puts}
use Rattle.base_device.specs.Seen.{change}
use Rattle.program_report.proofs.fault_line.put_moments.Goals as goal

pub returns-in-BadIndex : goal.returns-in-BadIndex
unfolding moments_words
returns-in-BadIndex g c =
    subst (λ f. Puts c.put_number-in-BadIndex.result (moments_words f) (change g.E.Device.is_in_memory (g.E.Device.seen c.args.errors.now) (g.E.Device.seen c.put_number-in-BadIndex.new.errors)))
    (sym c.in-BadIndex.is) c.put_number-in-BadIndex.ensures
