-- What was recovered, and the store over it, with the copy of the file that is served.
use Rattle.std.proofs.Common.{ℕ, IsTrue, List, option_copied, refl, sym, ap, subst, ◌∙◌}
use Rattle.base_disk.specs.{Image.SameElsewhere, State.IsAfter, State.LeavesOnly}
use Rattle.state_changes.specs.declared.change.Record.{Record}
use Rattle.base_journal.specs.{declared.journal.Journal.Journal, Journals.KeepsOthers, Journals.lines_of_journal}
use Rattle.state_store.specs.{Books.Book, Records.records_in}
use Rattle.state_store.specs.Stores.{BookIsFrom, book_of, is_sure, journal_of}
use Rattle.state_keeping.specs.{Opens.IsCopyOf, Recovers.IsAside}
use Rattle.state_keeping.proofs.{Served.aside_records, Served.put_past, Starting.copied}
use Rattle.state_keeping.proofs.state.State.open.Goals as goal

pub returns-clause-opened : goal.returns-clause-opened
returns-clause-opened g c =
    let s = g.D.Disk.state in
    let p = c.args.paths.now in
    let old = s c.args.disk in
    let t = s c.recover.new.disk in
    let u = s c.keep_good-copy.new.disk in
    let file = option_copied c.args.file in
    let copy = option_copied c.args.copy in
    let r = c.in-Ok.ensures.recovered in
    let o = c.in-Ok-open.ensures.opened in
    let run : IsTrue g.D.Disk.is_known → LeavesOnly t u (IsAfter (SameElsewhere p.copy) t) = λ known. subst (λ (q : List ℕ). LeavesOnly t u (IsAfter (SameElsewhere q) t)) c.copy.ensures.value (c.keep_good-copy.ensures.any_moment known) in
    record {
      lines = r.lines;
      locked = r.locked;
      free = r.free;
      read = r.read;
      over = record {
        book = subst (λ (b : Book). BookIsFrom file copy c.in-Ok-open.opened.fault (records_in r.lines) b c.in-Ok-open.opened.notes.items) (sym (ap book_of c.new.ensures.store ∙ c.keep_good-copy.ensures.book))
            (subst (λ (rs : List Record). BookIsFrom file copy c.in-Ok-open.opened.fault rs (book_of c.in-Ok-open.opened.store) c.in-Ok-open.opened.notes.items) (aside_records r.lines _ _ r.aside) o.book);
        damaged = r.damaged;
        aside = subst (λ (j : Journal). IsAside r.lines c.in-Ok.recovered.aside (lines_of_journal j)) (sym (ap journal_of c.new.ensures.store ∙ c.keep_good-copy.ensures.journal ∙ o.journal_is)) r.aside;
        put = λ known none some. put_past p.copy p.aside (record { mode = 384; bytes = _ }) t u c.copy.ensures.apart.copy_aside
            (subst (λ (q : List ℕ). KeepsOthers q t u) c.copy.ensures.value (c.keep_good-copy.ensures.others known)) (run known) (g.met.D.Disk.counts_now c.keep_good-copy.new.disk) (r.put known none some);
        copied = subst (λ (q : List ℕ). IsCopyOf g.D.Disk.is_known q file c.in-Ok-open.opened.fault c.keep_good-copy.result u) c.copy.ensures.value c.keep_good-copy.ensures.copied;
        sure = ap is_sure c.new.ensures.store ∙ c.keep_good-copy.ensures.sure;
        waiting = c.new.ensures.waiting;
        places_are = refl;
      };
      others = λ known other a b e.
          (subst (λ (q : List ℕ). KeepsOthers q t u) c.copy.ensures.value (c.keep_good-copy.ensures.others known)).seen other e ∙ c.recover.ensures.others known other a b;
      any_moment = λ known. copied r.lines p old t u (c.recover.ensures.any_moment known r.lines (r.read known)) (g.met.D.Disk.counts_now c.recover.new.disk) c.copy.ensures.apart.journal_copy (run known);
    }
