-- The copy is in its place, and the journal is left alone.
use Rattle.base_disk.specs.Image.{File}
use Rattle.base_journal.specs.Journals.{lines_of_journal, path_of_journal}
use Rattle.state_store.proofs.Copied.{in_place, moves_elsewhere, on_ok, rest_past}
use Rattle.state_store.proofs.store.Store.keep_copy.Goals as goal

pub returns-clause-there : goal.returns-clause-there
returns-clause-there g c =
    let s = g.D.Disk.state in
    let copy = c.args.copy.now in
    let file : File = record { mode = 384; bytes = c.args.bytes.now } in
    on_ok c.replace.result (λ placed known. in_place copy file (s c.args.disk.now) (s c.replace.new.disk) (placed known).0 (placed known).1) c.replace.ensures.replaced

pub returns-clause-held : goal.returns-clause-held
returns-clause-held g c =
    let s = g.D.Disk.state in
    let journal = c.args.self.now.journal in
    let copy = c.args.copy.now in
    let file : File = record { mode = 384; bytes = c.args.bytes.now } in
    record {
      are_lines = c.requires.held.are_lines;
      whole = λ known yes.
          rest_past (path_of_journal journal) copy file (s c.args.disk.now) (s c.replace.new.disk) (c.replace.ensures.seen known) (c.replace.ensures.sound known) (c.replace.ensures.crash known)
          (lines_of_journal journal) journal.size c.requires.apart (c.requires.held.whole known yes);
    }

pub returns-clause-others : goal.returns-clause-others
returns-clause-others g c known =
    let s = g.D.Disk.state in
    let copy = c.args.copy.now in
    let file : File = record { mode = 384; bytes = c.args.bytes.now } in
    record { seen = moves_elsewhere copy file (s c.args.disk.now).seen (s c.replace.new.disk).seen (c.replace.ensures.seen known); sound = c.replace.ensures.sound known }
