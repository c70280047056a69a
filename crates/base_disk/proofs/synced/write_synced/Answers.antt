use Rattle.std.proofs.Common.{length}
use Rattle.base_disk.specs.{Torn.Torn, Torn.Tears, State.IsAfter}
use Rattle.base_disk.proofs.{Moments.started, Moments.goes_on, Torn.torn_not, Torn.tears_not}
use Rattle.base_disk.proofs.synced.write_synced.Goals as goal

pub returns-in_err-write_at-clause-any_moment : goal.returns-in_err-write_at-clause-any_moment
returns-in_err-write_at-clause-any_moment g c known =
    let s = g.D.Disk.state in
    let P = IsAfter (Tears c.args.path.now (Torn c.args.at (length c.args.bytes.now))) (s c.args.disk.now) in
    let at_start = started (s c.args.disk.now) P (g.met.D.Disk.only_now c.args.disk.now) (λ d now. (d, now, tears_not c.args.path.now (Torn c.args.at (length c.args.bytes.now)) (torn_not c.args.at (length c.args.bytes.now)) d)) in
    goes_on (s c.args.disk.now) (s c.args.disk.now) (s c.write_at.new.self) P at_start (c.write_at.ensures.time known) (c.write_at.ensures.crash known)

pub returns-clause-any_moment : goal.returns-clause-any_moment
returns-clause-any_moment g c known =
    let s = g.D.Disk.state in
    let P = IsAfter (Tears c.args.path.now (Torn c.args.at (length c.args.bytes.now))) (s c.args.disk.now) in
    let at_start = started (s c.args.disk.now) P (g.met.D.Disk.only_now c.args.disk.now) (λ d now. (d, now, tears_not c.args.path.now (Torn c.args.at (length c.args.bytes.now)) (torn_not c.args.at (length c.args.bytes.now)) d)) in
    let written = goes_on (s c.args.disk.now) (s c.args.disk.now) (s c.write_at.new.self) P at_start (c.write_at.ensures.time known) (c.write_at.ensures.crash known) in
    goes_on (s c.args.disk.now) (s c.write_at.new.self) (s c.sync.new.self) P written (c.sync.ensures.time known) (λ d now. c.write_at.ensures.crash known d (c.sync.ensures.crash known d now))
