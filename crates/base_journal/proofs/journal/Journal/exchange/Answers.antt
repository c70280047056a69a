use Rattle.base_disk.specs.{Image.File, Torn.MovesFile, State.IsAfter}
use Rattle.base_disk.proofs.Moments.{weaker}
use Rattle.base_journal.specs.{Records.StandsFor, Journals.Exchanging, Journals.path_of_journal}
use Rattle.std.proofs.Common.{◌∙◌}
use Rattle.base_journal.proofs.Runs.{in_place, there_past}
use Rattle.base_journal.proofs.Steps.{first_in_place, moves_elsewhere, on_any}
use Rattle.base_journal.proofs.journal.Journal.exchange.Goals as goal

pub returns-in_err-replace-clause-any_moment : goal.returns-in_err-replace-clause-any_moment
returns-in_err-replace-clause-any_moment g c known =
    let s = g.D.Disk.state in
    let path = path_of_journal c.args.self.now in
    let target = c.args.target.now in
    let file : File = record { mode = c.args.mode; bytes = c.args.bytes.now } in
    weaker (s c.args.disk.now) (s c.replace.new.disk) (IsAfter (MovesFile target file) (s c.args.disk.now)) (Exchanging path target file (λ f. StandsFor f c.args.lines.items) (s c.args.disk.now))
    (c.replace.ensures.any_moment known)
    (first_in_place path target file (λ f. StandsFor f c.args.lines.items) c.requires.apart (s c.args.disk.now))

pub returns-clause-there : goal.returns-clause-there
returns-clause-there g c = on_any c.rewrite.result (λ known.
    let s = g.D.Disk.state in
    let path = path_of_journal c.args.self.now in
    let target = c.args.target.now in
    let file : File = record { mode = c.args.mode; bytes = c.args.bytes.now } in
    let placed = c.in_ok-replace.ensures.replaced known in
    there_past path target file c.requires.apart (s c.args.disk.now) (s c.replace.new.disk) (λ f. StandsFor f c.args.lines.items) (s c.rewrite.new.disk)
    (in_place path target file c.requires.apart (s c.args.disk.now) (s c.replace.new.disk) placed.0 placed.1)
    (c.rewrite.ensures.others known) (c.rewrite.ensures.any_moment known) (g.met.D.Disk.counts_now c.rewrite.new.disk))

pub returns-in_err-replace-clause-others : goal.returns-in_err-replace-clause-others
returns-in_err-replace-clause-others g c known other p q =
    let s = g.D.Disk.state in
    let file : File = record { mode = c.args.mode; bytes = c.args.bytes.now } in (
      moves_elsewhere c.args.target.now file (s c.args.disk.now).seen (s c.replace.new.disk).seen (c.replace.ensures.seen known) other q,
      c.replace.ensures.sound known other q,
    )

pub returns-clause-others : goal.returns-clause-others
returns-clause-others g c known other p q =
    let s = g.D.Disk.state in
    let file : File = record { mode = c.args.mode; bytes = c.args.bytes.now } in (
      (c.rewrite.ensures.others known).seen other p
          ∙ moves_elsewhere c.args.target.now file (s c.args.disk.now).seen (s c.replace.new.disk).seen (c.replace.ensures.seen known) other q,
      (c.rewrite.ensures.others known).sound other p ∙ c.replace.ensures.sound known other q,
    )
