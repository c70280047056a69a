-- The file is in its place; or it is looked at which one is there. The journal is left alone.
use Rattle.std.proofs.Common.{sym, ap, subst, ◌∙◌}
use Rattle.std.proofs.lemmas.Bool.{and_parts, true≢false}
use Rattle.base_disk.specs.{Image.File, Image.Image, State.IsAfter, Torn.MovesFile}
use Rattle.base_disk.proofs.Moments.{goes_on}
use Rattle.base_journal.specs.Journals.{bytes_of_file, lines_of_journal, path_of_journal}
use Rattle.base_journal.proofs.Steps.{at_end}
use Rattle.state_store.proofs.{Copied.in_place, Copied.rest_past, Marking.rest_alone}
use Rattle.state_store.proofs.store.Store.put_in_place.Goals as goal

pub returns-in-Ok-clause-there : goal.returns-in-Ok-clause-there
returns-in-Ok-clause-there g c known =
    let s = g.D.Disk.state in
    let file : File = record { mode = c.args.mode; bytes = c.args.bytes.now } in
    let placed = c.in-Ok.ensures.replaced known in
    in_place c.args.target.now file (s c.args.disk.now) (s c.replace.new.disk) placed.0 placed.1

pub returns-in-Ok-clause-whole : goal.returns-in-Ok-clause-whole
returns-in-Ok-clause-whole g c known =
    let s = g.D.Disk.state in
    let journal = c.args.self.now.journal in
    let file : File = record { mode = c.args.mode; bytes = c.args.bytes.now } in
    rest_past (path_of_journal journal) c.args.target.now file (s c.args.disk.now) (s c.replace.new.disk) (c.replace.ensures.seen known) (c.replace.ensures.sound known) (c.replace.ensures.crash known)
    (lines_of_journal journal) journal.size c.requires.apart (c.requires.whole known)

pub returns-in-Err-clause-whole : goal.returns-in-Err-clause-whole
returns-in-Err-clause-whole g c known =
    let s = g.D.Disk.state in
    let journal = c.args.self.now.journal in
    let file : File = record { mode = c.args.mode; bytes = c.args.bytes.now } in
    rest_alone (path_of_journal journal) (lines_of_journal journal) journal.size (s c.replace.new.disk) (s c.has_still.new.disk) (c.has_still.ensures.alone known)
    (rest_past (path_of_journal journal) c.args.target.now file (s c.args.disk.now) (s c.replace.new.disk) (c.replace.ensures.seen known) (c.replace.ensures.sound known) (c.replace.ensures.crash known)
    (lines_of_journal journal) journal.size c.requires.apart (c.requires.whole known))

pub returns-in-Err-clause-sure : goal.returns-in-Err-clause-sure
returns-in-Err-clause-sure g c sure =
    let both = and_parts c.args.self.now.is_sure c.has_still.result sure in (
      both.0,
      λ known. ap (λ (image : Image). bytes_of_file (image c.args.target.now)) (c.has_still.ensures.alone known).seen ∙ c.has_still.ensures.still known both.1,
    )

pub returns-in-Err-clause-any_moment : goal.returns-in-Err-clause-any_moment
returns-in-Err-clause-any_moment g c known =
    let s = g.D.Disk.state in
    let file : File = record { mode = c.args.mode; bytes = c.args.bytes.now } in
    let P = IsAfter (MovesFile c.args.target.now file) (s c.args.disk.now) in
    goes_on (s c.args.disk.now) (s c.replace.new.disk) (s c.has_still.new.disk) P (c.replace.ensures.any_moment known) (c.has_still.ensures.time known)
    (λ d left. at_end (s c.args.disk.now) (s c.replace.new.disk) P (c.replace.ensures.any_moment known) (g.met.D.Disk.counts_now c.replace.new.disk) d ((c.has_still.ensures.alone known).crash d left))

pub returns-in-Ok-clause-file : goal.returns-in-Ok-clause-file
returns-in-Ok-clause-file g c known kept sound left now = (c.in-Ok.ensures.replaced known).1.durable left now

pub returns-in-Err-clause-file : goal.returns-in-Err-clause-file
returns-in-Err-clause-file g c known kept = absurd (true≢false (sym kept))

pub returns-in-Err-clause-seen : goal.returns-in-Err-clause-seen
returns-in-Err-clause-seen g c known =
    let s = g.D.Disk.state in
    let file : File = record { mode = c.args.mode; bytes = c.args.bytes.now } in
    subst (MovesFile c.args.target.now file (s c.args.disk.now).seen) (sym (c.has_still.ensures.alone known).seen) (c.replace.ensures.seen known)
