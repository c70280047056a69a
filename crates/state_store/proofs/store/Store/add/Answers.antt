-- The file is on the disk, and then the journal has the record, or not.
use Rattle.std.proofs.Common.{◌≡◌, ℕ, List, [], ◌∷◌, ◌++◌, length, false, IsTrue, refl, sym, ap, subst, ◌∙◌}
use Rattle.std.specs.Str.{bytes_eq}
use Rattle.base_disk.specs.State.{LeavesOnly}
use Rattle.base_journal.specs.declared.journal.Journal.{Journal}
use Rattle.base_journal.specs.Journals.{CrashLeaves, JournalHolds, KeepsOthers, TellsLength, lines_of_journal, path_of_journal}
use Rattle.base_journal.specs.Records.{IsBeforeOrAfter, StandsFor, at_rest}
use Rattle.state_store.specs.{declared.fault.TakeFault.TakeFault, declared.store.Store.Store, Entering.FaultTellsLength, Entering.may_hold}
use Rattle.state_store.specs.Stores.{journal_of, lines_in, path_of_store}
use Rattle.state_store.proofs.{Copied.apart_back, Entered.surely, Told.long_told}
use Rattle.state_store.proofs.Kept.{but_others, held_synced, holds_past, still_leaves_all, surely_unput, then_leaves}
use Rattle.state_store.proofs.store.Store.add.Goals as goal

pub put-requires-clause-held : goal.put-requires-clause-held
put-requires-clause-held g c =
    let s = g.D.Disk.state in
    let journal = c.args.self.now.journal in
    subst (λ (j : Journal). JournalHolds g.D.Disk.is_known j (s c.keep_file.new.disk)) (ap journal_of (sym c.keep_file.ensures.rest))
    (held_synced g.D.Disk.is_known journal c.args.target.now (s c.args.disk.now) (s c.keep_file.new.disk) (apart_back (path_of_journal journal) c.args.target.now c.requires.apart)
    c.keep_file.ensures.seen c.keep_file.ensures.sound c.keep_file.ensures.crash c.requires.held)

pub returns-in-Ok-clause-any_moment : goal.returns-in-Ok-clause-any_moment
returns-in-Ok-clause-any_moment g c known =
    let s = g.D.Disk.state in
    let journal = c.args.self.now.journal in
    let path = path_of_journal journal in
    then_leaves path c.args.target.now (apart_back path c.args.target.now c.requires.apart) (s c.args.disk.now) (s c.keep_file.new.disk) (c.keep_file.ensures.seen known) (c.keep_file.ensures.sound known)
    (c.keep_file.ensures.crash known) (s c.put.new.disk) (IsBeforeOrAfter (lines_of_journal journal) c.args.line) (c.keep_file.ensures.any_moment known)
    (subst (λ (j : Journal). LeavesOnly (s c.keep_file.new.disk) (s c.put.new.disk) (CrashLeaves (path_of_journal j) (IsBeforeOrAfter (lines_of_journal j) c.args.line) (s c.keep_file.new.disk)))
    (ap journal_of c.keep_file.ensures.rest) (c.put.ensures.any_moment known))

pub returns-in-Err-clause-any_moment : goal.returns-in-Err-clause-any_moment
returns-in-Err-clause-any_moment g c known =
    let s = g.D.Disk.state in
    let journal = c.args.self.now.journal in
    let path = path_of_journal journal in
    then_leaves path c.args.target.now (apart_back path c.args.target.now c.requires.apart) (s c.args.disk.now) (s c.keep_file.new.disk) (c.keep_file.ensures.seen known) (c.keep_file.ensures.sound known)
    (c.keep_file.ensures.crash known) (s c.put.new.disk) (IsBeforeOrAfter (lines_of_journal journal) c.args.line) (c.keep_file.ensures.any_moment known)
    (subst (λ (j : Journal). LeavesOnly (s c.keep_file.new.disk) (s c.put.new.disk) (CrashLeaves (path_of_journal j) (IsBeforeOrAfter (lines_of_journal j) c.args.line) (s c.keep_file.new.disk)))
    (ap journal_of c.keep_file.ensures.rest) (c.put.ensures.any_moment known))

pub returns-in-Err-clause-gone : goal.returns-in-Err-clause-gone
returns-in-Err-clause-gone g c sure known =
    let s = g.D.Disk.state in
    let journal = c.args.self.now.journal in
    let path = path_of_journal journal in
    let gone = c.in-Err.ensures.gone (sym c.may_have.ensures ∙ surely c.in-Err.fault c.may_have.result (subst (λ (f : TakeFault). may_hold f ≡ false) c.unkept.ensures sure)) known in
    then_leaves path c.args.target.now (apart_back path c.args.target.now c.requires.apart) (s c.args.disk.now) (s c.keep_file.new.disk) (c.keep_file.ensures.seen known) (c.keep_file.ensures.sound known)
    (c.keep_file.ensures.crash known) (s c.put.new.disk) (λ file. StandsFor file (lines_of_journal journal)) (c.keep_file.ensures.any_moment known)
    (subst (λ (j : Journal). LeavesOnly (s c.keep_file.new.disk) (s c.put.new.disk) (CrashLeaves (path_of_journal j) (λ file. StandsFor file (lines_of_journal j)) (s c.keep_file.new.disk)))
    (ap journal_of c.keep_file.ensures.rest) gone)

pub returns-in-Ok-clause-others : goal.returns-in-Ok-clause-others
returns-in-Ok-clause-others g c known =
    let s = g.D.Disk.state in
    let path = path_of_journal c.args.self.now.journal in
    but_others path c.args.target.now (apart_back path c.args.target.now c.requires.apart) (s c.args.disk.now) (s c.keep_file.new.disk) (c.keep_file.ensures.seen known) (c.keep_file.ensures.sound known)
    (c.keep_file.ensures.crash known) (s c.put.new.disk) (λ file. StandsFor file [])
    (subst (λ (j : Journal). KeepsOthers (path_of_journal j) (s c.keep_file.new.disk) (s c.put.new.disk)) (ap journal_of c.keep_file.ensures.rest) (c.put.ensures.others known))

pub returns-in-Err-clause-others : goal.returns-in-Err-clause-others
returns-in-Err-clause-others g c known =
    let s = g.D.Disk.state in
    let path = path_of_journal c.args.self.now.journal in
    but_others path c.args.target.now (apart_back path c.args.target.now c.requires.apart) (s c.args.disk.now) (s c.keep_file.new.disk) (c.keep_file.ensures.seen known) (c.keep_file.ensures.sound known)
    (c.keep_file.ensures.crash known) (s c.put.new.disk) (λ file. StandsFor file [])
    (subst (λ (j : Journal). KeepsOthers (path_of_journal j) (s c.keep_file.new.disk) (s c.put.new.disk)) (ap journal_of c.keep_file.ensures.rest) (c.put.ensures.others known))

pub returns-in-Ok-clause-file : goal.returns-in-Ok-clause-file
returns-in-Ok-clause-file g c =
    let s = g.D.Disk.state in
    let old = c.keep_file.new.self in
    let new : Store = record { alloc = old.alloc; journal = c.put.new.self; book = old.book; is_sure = old.is_sure; is_kept = old.is_kept } in
    let path = path_of_journal old.journal in
    holds_past g.D.Disk.is_known old new path c.args.target.now (IsBeforeOrAfter (lines_of_journal old.journal) c.args.line) (s c.keep_file.new.disk) (s c.put.new.disk)
    (ap (λ (st : Store). bytes_eq (path_of_journal st.journal) c.args.target.now) c.keep_file.ensures.rest ∙ c.requires.apart) c.put.ensures.others c.put.ensures.any_moment (g.met.D.Disk.counts_now c.put.new.disk) refl c.keep_file.ensures.file

pub returns-in-Err-clause-file : goal.returns-in-Err-clause-file
returns-in-Err-clause-file g c =
    let s = g.D.Disk.state in
    let old = c.keep_file.new.self in
    let new : Store = record { alloc = old.alloc; journal = c.put.new.self; book = old.book; is_sure = old.is_sure; is_kept = old.is_kept } in
    let path = path_of_journal old.journal in
    holds_past g.D.Disk.is_known old new path c.args.target.now (IsBeforeOrAfter (lines_of_journal old.journal) c.args.line) (s c.keep_file.new.disk) (s c.put.new.disk)
    (ap (λ (st : Store). bytes_eq (path_of_journal st.journal) c.args.target.now) c.keep_file.ensures.rest ∙ c.requires.apart) c.put.ensures.others c.put.ensures.any_moment (g.met.D.Disk.counts_now c.put.new.disk) refl c.keep_file.ensures.file

pub returns-in_err-keep_file-clause-gone : goal.returns-in_err-keep_file-clause-gone
returns-in_err-keep_file-clause-gone g c =
    let s = g.D.Disk.state in
    let old = c.args.self.now in
    let without : List ℕ → Type 0 = λ file. StandsFor file (lines_in old) in
    surely_unput c.from_residual.result (IsTrue g.D.Disk.is_known → LeavesOnly (s c.args.disk.now) (s c.keep_file.new.disk) (CrashLeaves (path_of_store old) without (s c.args.disk.now)))
    (λ known. still_leaves_all (path_of_store old) without (s c.args.disk.now) (s c.keep_file.new.disk) (c.keep_file.ensures.any_moment known))

pub returns-in-Err-clause-long : goal.returns-in-Err-clause-long
returns-in-Err-clause-long g c known =
    let size = length (at_rest (lines_of_journal c.args.self.now.journal ++ c.args.line ∷ [])) in
    let tells = subst (λ (j : Journal). TellsLength (length (at_rest (lines_of_journal j ++ c.args.line ∷ []))) c.in-Err.fault) (ap journal_of c.keep_file.ensures.rest) (c.in-Err.ensures.long known) in
    subst (FaultTellsLength size) (sym c.unkept.ensures) (long_told size c.in-Err.fault c.may_have.result tells)
