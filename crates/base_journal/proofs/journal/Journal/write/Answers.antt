use Rattle.std.proofs.Common.{◌≡◌, ◌<◌, List, ℕ, [], ◌∷◌, ◌++◌, length, ap, arith, subst, ◌∙◌}
use Rattle.base_disk.specs.State.{LeavesOnly}
use Rattle.base_journal.specs.declared.journal.TheConstants.{MOST_BYTES}
use Rattle.base_journal.specs.Records.{IsBeforeOrAfter, StandsFor, at_rest, blocks}
use Rattle.base_journal.specs.Journals.{JournalIsAtRest, CrashLeaves, path_of_journal, lines_of_journal}
use Rattle.base_journal.proofs.{Runs.put_leaves, Runs.unput_leaves, Steps.on_refused, Writing.longer}
use Rattle.base_journal.proofs.journal.Journal.write.Goals as goal

pub returns-in_err-append-clause-any_moment : goal.returns-in_err-append-clause-any_moment
returns-in_err-append-clause-any_moment g c known =
    let s = g.D.Disk.state in
    let old = c.args.self.now in
    let mid = c.refresh.new.self in
    let line = c.args.line.now in
    let rest = subst (λ (p : List ℕ). JournalIsAtRest p (lines_of_journal old) mid.size (s c.refresh.new.disk)) c.refresh.ensures.path
    (subst (λ (l : List (List ℕ)). JournalIsAtRest (path_of_journal mid) l mid.size (s c.refresh.new.disk)) c.refresh.ensures.lines (c.in_ok-refresh.ensures.whole known)) in
    let added = subst (λ (p : List ℕ). LeavesOnly (s c.refresh.new.disk) (s c.append.new.disk) (CrashLeaves p (IsBeforeOrAfter (lines_of_journal old) line) (s c.refresh.new.disk))) c.refresh.ensures.path
    (subst (λ (l : List (List ℕ)). LeavesOnly (s c.refresh.new.disk) (s c.append.new.disk) (CrashLeaves (path_of_journal mid) (IsBeforeOrAfter l line) (s c.refresh.new.disk))) c.refresh.ensures.lines (c.append.ensures.any_moment known)) in
    put_leaves (path_of_journal old) (lines_of_journal old) line mid.size (s c.args.disk.now) (s c.refresh.new.disk) (s c.append.new.disk)
    (c.refresh.ensures.any_moment known) (g.met.D.Disk.counts_now c.refresh.new.disk) rest added

pub returns-clause-any_moment : goal.returns-clause-any_moment
returns-clause-any_moment g c known =
    let s = g.D.Disk.state in
    let old = c.args.self.now in
    let mid = c.refresh.new.self in
    let line = c.args.line.now in
    let rest = subst (λ (p : List ℕ). JournalIsAtRest p (lines_of_journal old) mid.size (s c.refresh.new.disk)) c.refresh.ensures.path
    (subst (λ (l : List (List ℕ)). JournalIsAtRest (path_of_journal mid) l mid.size (s c.refresh.new.disk)) c.refresh.ensures.lines (c.in_ok-refresh.ensures.whole known)) in
    let added = subst (λ (p : List ℕ). LeavesOnly (s c.refresh.new.disk) (s c.append.new.disk) (CrashLeaves p (IsBeforeOrAfter (lines_of_journal old) line) (s c.refresh.new.disk))) c.refresh.ensures.path
    (subst (λ (l : List (List ℕ)). LeavesOnly (s c.refresh.new.disk) (s c.append.new.disk) (CrashLeaves (path_of_journal mid) (IsBeforeOrAfter l line) (s c.refresh.new.disk))) c.refresh.ensures.lines (c.append.ensures.any_moment known)) in
    put_leaves (path_of_journal old) (lines_of_journal old) line mid.size (s c.args.disk.now) (s c.refresh.new.disk) (s c.append.new.disk)
    (c.refresh.ensures.any_moment known) (g.met.D.Disk.counts_now c.refresh.new.disk) rest added

pub returns-in_err-append-clause-gone : goal.returns-in_err-append-clause-gone
returns-in_err-append-clause-gone g c = on_refused c.from_residual-in_err-append.result (λ closed known.
    let s = g.D.Disk.state in
    let old = c.args.self.now in
    let mid = c.refresh.new.self in
    let rest = subst (λ (p : List ℕ). JournalIsAtRest p (lines_of_journal old) mid.size (s c.refresh.new.disk)) c.refresh.ensures.path
    (subst (λ (l : List (List ℕ)). JournalIsAtRest (path_of_journal mid) l mid.size (s c.refresh.new.disk)) c.refresh.ensures.lines (c.in_ok-refresh.ensures.whole known)) in
    let left = subst (λ (p : List ℕ). LeavesOnly (s c.refresh.new.disk) (s c.append.new.disk) (CrashLeaves p (λ f. StandsFor f (lines_of_journal old)) (s c.refresh.new.disk))) c.refresh.ensures.path
    (subst (λ (l : List (List ℕ)). LeavesOnly (s c.refresh.new.disk) (s c.append.new.disk) (CrashLeaves (path_of_journal mid) (λ f. StandsFor f l) (s c.refresh.new.disk))) c.refresh.ensures.lines
    (c.in_err-append.ensures.gone closed known)) in
    unput_leaves (path_of_journal old) (lines_of_journal old) mid.size (s c.args.disk.now) (s c.refresh.new.disk) (s c.append.new.disk)
    (c.refresh.ensures.any_moment known) (g.met.D.Disk.counts_now c.refresh.new.disk) rest left)

pub returns-then-size-gt-MOST_BYTES-clause-long : goal.returns-then-size-gt-MOST_BYTES-clause-long
returns-then-size-gt-MOST_BYTES-clause-long g c known =
    let old = c.args.self.now in
    let mid = c.refresh.new.self in
    let line = c.args.line.now in
    let is : mid.size ≡ length (blocks (lines_of_journal old)) = (c.in_ok-refresh.ensures.whole known).size_is ∙ ap (λ (ls : List (List ℕ)). length (blocks ls)) c.refresh.ensures.lines in
    let len_is : length c.list-len.result.now ≡ length line = ap (λ (l : List ℕ). length l) c.list-len.ensures in
    let first = c.saturating_add.ensures in
    let second = c.saturating_add-size.ensures in
    let all = longer (lines_of_journal old) line in
    let more : MOST_BYTES < length (at_rest (lines_of_journal old ++ line ∷ [])) = omega (arith, is, len_is, first, second, all, c.if-size-gt-MOST_BYTES.true) in
    more
