use Rattle.std.proofs.Common.{inl, refl}
use Rattle.base_disk.specs.{Image.File, State.IsAfter, Torn.MovesFile}
use Rattle.base_disk.proofs.Moments.{started, goes_on}
use Rattle.base_disk.proofs.replacing.replace.Goals as goal

pub returns-in_err-move_beside-clause-any_moment : goal.returns-in_err-move_beside-clause-any_moment
returns-in_err-move_beside-clause-any_moment g c known =
    let s = g.D.Disk.state in
    let file : File = record { mode = c.args.mode; bytes = c.args.bytes.now } in
    let P = IsAfter (MovesFile c.args.path.now file) (s c.args.disk.now) in
    let at_start = started (s c.args.disk.now) P (g.met.D.Disk.only_now c.args.disk.now) (λ d now. (d, now, inl refl)) in
    let beside = goes_on (s c.args.disk.now) (s c.args.disk.now) (s c.write_beside.new.self) P at_start (c.write_beside.ensures.time known) (λ d now. (d, (c.write_beside.ensures.alone known).crash d now, inl refl)) in
    let synced = goes_on (s c.args.disk.now) (s c.write_beside.new.self) (s c.sync_beside.new.self) P beside (c.sync_beside.ensures.time known)
    (λ d now. (d, (c.write_beside.ensures.alone known).crash d ((c.sync_beside.ensures.alone known).crash d now), inl refl)) in
    let is_ready = c.in_ok-sync_beside.ensures.synced known file (c.in_ok-write_beside.ensures.beside known) in
    goes_on (s c.args.disk.now) (s c.sync_beside.new.self) (s c.move_beside.new.self) P synced (c.move_beside.ensures.time known)
    (λ d now. let from = c.move_beside.ensures.crash known file is_ready d now in
    (from.0, (c.write_beside.ensures.alone known).crash from.0 ((c.sync_beside.ensures.alone known).crash from.0 from.1), from.2))

pub returns-clause-any_moment : goal.returns-clause-any_moment
returns-clause-any_moment g c known =
    let s = g.D.Disk.state in
    let file : File = record { mode = c.args.mode; bytes = c.args.bytes.now } in
    let P = IsAfter (MovesFile c.args.path.now file) (s c.args.disk.now) in
    let at_start = started (s c.args.disk.now) P (g.met.D.Disk.only_now c.args.disk.now) (λ d now. (d, now, inl refl)) in
    let beside = goes_on (s c.args.disk.now) (s c.args.disk.now) (s c.write_beside.new.self) P at_start (c.write_beside.ensures.time known) (λ d now. (d, (c.write_beside.ensures.alone known).crash d now, inl refl)) in
    let synced = goes_on (s c.args.disk.now) (s c.write_beside.new.self) (s c.sync_beside.new.self) P beside (c.sync_beside.ensures.time known)
    (λ d now. (d, (c.write_beside.ensures.alone known).crash d ((c.sync_beside.ensures.alone known).crash d now), inl refl)) in
    let is_ready = c.in_ok-sync_beside.ensures.synced known file (c.in_ok-write_beside.ensures.beside known) in
    let moved = goes_on (s c.args.disk.now) (s c.sync_beside.new.self) (s c.move_beside.new.self) P synced (c.move_beside.ensures.time known)
    (λ d now. let from = c.move_beside.ensures.crash known file is_ready d now in
    (from.0, (c.write_beside.ensures.alone known).crash from.0 ((c.sync_beside.ensures.alone known).crash from.0 from.1), from.2)) in
    goes_on (s c.args.disk.now) (s c.move_beside.new.self) (s c.sync.new.self) P moved (c.sync.ensures.time known)
    (λ d now. let from = c.move_beside.ensures.crash known file is_ready d (c.sync.ensures.crash known d now) in
    (from.0, (c.write_beside.ensures.alone known).crash from.0 ((c.sync_beside.ensures.alone known).crash from.0 from.1), from.2))

pub returns-clause-crash : goal.returns-clause-crash
returns-clause-crash g c known d now =
    let s = g.D.Disk.state in
    let run = returns-clause-any_moment g c known in
    run.each d (g.met.D.Disk.counts_now c.sync.new.self (s c.args.disk.now).moment d run.later now)

pub returns-in_err-move_beside-clause-crash : goal.returns-in_err-move_beside-clause-crash
returns-in_err-move_beside-clause-crash g c known d now =
    let s = g.D.Disk.state in
    let run = returns-in_err-move_beside-clause-any_moment g c known in
    run.each d (g.met.D.Disk.counts_now c.move_beside.new.self (s c.args.disk.now).moment d run.later now)
