-- The journal is opened, and its damaged lines go aside.
use Rattle.std.proofs.Common.{◌≡◌, ℕ, List, ◌++◌, false, sym, ap, subst, ◌∙◌}
use Rattle.std.specs.Str.{bytes_eq}
use Rattle.base_disk.specs.Image.{File, Image}
use Rattle.base_journal.specs.Records.{lines_taken_out}
use Rattle.base_journal.specs.Journals.{bytes_of_file, lines_of_journal, path_of_journal}
use Rattle.state_store.specs.Compacted.{damages}
use Rattle.state_keeping.proofs.Starting.{begun, lock_is, none_damaged, none_holds, stands_before, then_aside}
use Rattle.state_keeping.proofs.recovering.recover.Goals as goal

pub returns-in_err-journal-clause-any_moment : goal.returns-in_err-journal-clause-any_moment
returns-in_err-journal-clause-any_moment g c known lines stands =
    let s = g.D.Disk.state in
    let p = c.args.paths.now in
    begun lines p (s c.args.disk.now) (s c.lock-2.new.self) (s c.open.new.disk) (g.met.D.Disk.only_now c.args.disk.now) (c.lock-2.ensures.alone known) (c.lock-2.ensures.time known) (c.open.ensures.alone known) (c.open.ensures.time known)

pub returns-in_err-damaged-clause-any_moment : goal.returns-in_err-damaged-clause-any_moment
returns-in_err-damaged-clause-any_moment g c known lines stands =
    let s = g.D.Disk.state in
    let p = c.args.paths.now in
    begun lines p (s c.args.disk.now) (s c.lock-2.new.self) (s c.open.new.disk) (g.met.D.Disk.only_now c.args.disk.now) (c.lock-2.ensures.alone known) (c.lock-2.ensures.time known) (c.open.ensures.alone known) (c.open.ensures.time known)

pub returns-then-damaged-eq0-clause-recovered : goal.returns-then-damaged-eq0-clause-recovered
returns-then-damaged-eq0-clause-recovered g c =
    let s = g.D.Disk.state in
    let p = c.args.paths.now in
    let read = lines_of_journal c.in_ok-journal.journal in
    record {
      lines = read;
      locked = lock_is c.in_ok-lock.field-0 c.in-Some.lock c.lock.result.now p.lock c.in-Some.is c.in_ok-lock.ensures.held c.lock.ensures.value;
      free = λ known. subst (λ q. (s c.args.disk.now).taken q ≡ false) c.lock.ensures.value (none_holds c.in_ok-lock.field-0 c.in-Some.lock ((s c.args.disk.now).taken c.lock.result.now) c.in-Some.is (c.in_ok-lock.ensures.taken known));
      read = λ known. stands_before c.journal.result.now p.journal read (s c.args.disk.now) (s c.lock-2.new.self) c.journal.ensures.value (c.lock-2.ensures.alone known) (c.in_ok-journal.ensures.read known);
      damaged = c.in_ok-damaged.ensures;
      aside = none_damaged read (sym c.in_ok-damaged.ensures ∙ c.if-damaged-eq0.true);
      put = λ known none some. absurd (some c.if-damaged-eq0.true);
      path = c.in_ok-journal.ensures.path ∙ c.journal.ensures.value;
      held = c.in_ok-journal.ensures.held;
    }

pub returns-then-damaged-eq0-clause-any_moment : goal.returns-then-damaged-eq0-clause-any_moment
returns-then-damaged-eq0-clause-any_moment g c known lines stands =
    let s = g.D.Disk.state in
    let p = c.args.paths.now in
    begun lines p (s c.args.disk.now) (s c.lock-2.new.self) (s c.open.new.disk) (g.met.D.Disk.only_now c.args.disk.now) (c.lock-2.ensures.alone known) (c.lock-2.ensures.time known) (c.open.ensures.alone known) (c.open.ensures.time known)

pub returns-clause-any_moment : goal.returns-clause-any_moment
returns-clause-any_moment g c known lines stands =
    let s = g.D.Disk.state in
    let p = c.args.paths.now in
    let read = lines_of_journal c.in_ok-journal.journal in
    let file : File = record { mode = 384; bytes = bytes_of_file ((s c.open.new.disk).seen c.aside.result.now) ++ lines_taken_out read (damages read) } in
    let run = begun lines p (s c.args.disk.now) (s c.lock-2.new.self) (s c.open.new.disk) (g.met.D.Disk.only_now c.args.disk.now) (c.lock-2.ensures.alone known) (c.lock-2.ensures.time known) (c.open.ensures.alone known) (c.open.ensures.time known) in
    let is = stands_before c.journal.result.now p.journal read (s c.args.disk.now) (s c.lock-2.new.self) c.journal.ensures.value (c.lock-2.ensures.alone known) (c.in_ok-journal.ensures.read known) in
    let same : read ≡ lines = c.records_are_read_back.ensures.one (bytes_of_file ((s c.args.disk.now).seen p.journal)) read lines is stands in
    then_aside lines p (s c.args.disk.now) (s c.open.new.disk) (s c.set_damaged_aside.new.disk) run (g.met.D.Disk.counts_now c.open.new.disk) (path_of_journal c.in_ok-journal.journal) c.aside.result.now read (c.in_ok-journal.ensures.path ∙ c.journal.ensures.value) c.aside.ensures.value same file
    (c.set_damaged_aside.ensures.any_moment known)

pub returns-in_err-journal-clause-others : goal.returns-in_err-journal-clause-others
returns-in_err-journal-clause-others g c known other a b = ap (λ (image : Image). image other) ((c.open.ensures.alone known).seen ∙ (c.lock-2.ensures.alone known).seen)

pub returns-in_err-damaged-clause-others : goal.returns-in_err-damaged-clause-others
returns-in_err-damaged-clause-others g c known other a b = ap (λ (image : Image). image other) ((c.open.ensures.alone known).seen ∙ (c.lock-2.ensures.alone known).seen)

pub returns-then-damaged-eq0-clause-others : goal.returns-then-damaged-eq0-clause-others
returns-then-damaged-eq0-clause-others g c known other a b = ap (λ (image : Image). image other) ((c.open.ensures.alone known).seen ∙ (c.lock-2.ensures.alone known).seen)

pub returns-clause-others : goal.returns-clause-others
returns-clause-others g c known other a b =
    let journal = c.in_ok-journal.ensures.path ∙ c.journal.ensures.value in
    (c.set_damaged_aside.ensures.others known other (ap (λ (p : List ℕ). bytes_eq p other) journal ∙ a) (ap (λ (p : List ℕ). bytes_eq p other) c.aside.ensures.value ∙ b)).0
    ∙ ap (λ (image : Image). image other) ((c.open.ensures.alone known).seen ∙ (c.lock-2.ensures.alone known).seen)
