use Rattle.std.proofs.Common.{◌+◌, length}
use Rattle.base_disk.specs.{Torn.Torn, Torn.Tears, State.IsAfter}
use Rattle.base_disk.proofs.Moments.{weaker, and_then}
use Rattle.base_journal.specs.Records.{IsBeforeOrAfter, StandsFor}
use Rattle.base_journal.specs.Journals.{CrashLeaves, path_of_journal, lines_of_journal}
use Rattle.base_journal.proofs.Steps.{on_both, on_refused}
use Rattle.base_journal.proofs.Writing.{behind_leaves, closed_leaves, appended, gate_leaves}
use Rattle.base_journal.proofs.journal.Journal.append.Goals as goal

pub returns-in_err-write_synced-clause-any_moment : goal.returns-in_err-write_synced-clause-any_moment
returns-in_err-write_synced-clause-any_moment g c known =
    let s = g.D.Disk.state in
    let j = c.args.self.now in
    let line = c.args.line.now in
    let n = length c.args.tail.now in
    weaker (s c.args.disk.now) (s c.write_synced.new.disk) (IsAfter (Tears (path_of_journal j) (Torn (j.size + 1) n)) (s c.args.disk.now))
    (CrashLeaves (path_of_journal j) (IsBeforeOrAfter (lines_of_journal j) line) (s c.args.disk.now)) (c.write_synced.ensures.any_moment known)
    (behind_leaves (path_of_journal j) (lines_of_journal j) j.size (s c.args.disk.now) (c.requires.whole known) line c.requires.line n)

pub returns-in_err-write_synced-clause-gone : goal.returns-in_err-write_synced-clause-gone
returns-in_err-write_synced-clause-gone g c = on_refused c.from_residual.result (λ closed known.
    let s = g.D.Disk.state in
    let j = c.args.self.now in
    let n = length c.args.tail.now in
    weaker (s c.args.disk.now) (s c.write_synced.new.disk) (IsAfter (Tears (path_of_journal j) (Torn (j.size + 1) n)) (s c.args.disk.now))
    (CrashLeaves (path_of_journal j) (λ f. StandsFor f (lines_of_journal j)) (s c.args.disk.now)) (c.write_synced.ensures.any_moment known)
    (closed_leaves (path_of_journal j) (lines_of_journal j) j.size (s c.args.disk.now) (c.requires.whole known) c.args.line.now c.requires.line n))

pub returns-clause-acknowledged : goal.returns-clause-acknowledged
returns-clause-acknowledged g c =
    let s = g.D.Disk.state in
    let j = c.args.self.now in
    on_both c.write_synced-2.result
    (λ opened is_kept known.
    let rest = c.requires.whole known in
    appended (path_of_journal j) (lines_of_journal j) j.size (s c.args.disk.now) rest c.args.line.now c.requires.line c.args.tail.now c.requires.tail (s c.write_synced.new.disk)
    (c.in_ok-write_synced.ensures.written known) (s c.write_synced-2.new.disk) (opened known) (is_kept known (c.in_ok-write_synced.ensures.kept known rest.is_kept.sound).sound))
    c.write_synced-2.ensures.written c.write_synced-2.ensures.kept

pub returns-clause-any_moment : goal.returns-clause-any_moment
returns-clause-any_moment g c known =
    let s = g.D.Disk.state in
    let j = c.args.self.now in
    let line = c.args.line.now in
    let n = length c.args.tail.now in
    let rest = c.requires.whole known in
    and_then (s c.args.disk.now) (s c.write_synced.new.disk) (s c.write_synced-2.new.disk) (CrashLeaves (path_of_journal j) (IsBeforeOrAfter (lines_of_journal j) line) (s c.args.disk.now))
    (IsAfter (Tears (path_of_journal j) (Torn j.size 1)) (s c.write_synced.new.disk))
    (weaker (s c.args.disk.now) (s c.write_synced.new.disk) (IsAfter (Tears (path_of_journal j) (Torn (j.size + 1) n)) (s c.args.disk.now))
    (CrashLeaves (path_of_journal j) (IsBeforeOrAfter (lines_of_journal j) line) (s c.args.disk.now)) (c.write_synced.ensures.any_moment known)
    (behind_leaves (path_of_journal j) (lines_of_journal j) j.size (s c.args.disk.now) rest line c.requires.line n))
    (c.write_synced-2.ensures.any_moment known)
    (gate_leaves (path_of_journal j) (lines_of_journal j) j.size (s c.args.disk.now) rest line c.requires.line c.args.tail.now c.requires.tail (s c.write_synced.new.disk)
    (c.in_ok-write_synced.ensures.written known) (c.in_ok-write_synced.ensures.kept known rest.is_kept.sound) n (c.write_synced.ensures.crash known))
