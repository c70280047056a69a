-- Without the records that are void the rows are the same.
use Rattle.std.proofs.Common.{◌≡◌, ℕ, Bool, true, false, List, Vec, refl, sym, ap, ◌∙◌}
use Rattle.std.specs.declared.alloc.Global.{Global}
use Rattle.std.proofs.lemmas.Option.{MatchOption-at_some}
use Rattle.state_changes.specs.Compaction.{voids}
use Rattle.base_journal.specs.Records.{lines_kept}
use Rattle.state_store.specs.{declared.store.Store.Store, Compacted.compacted_lines, Compacted.is_worth, Records.records_in, Stores.lines_in}
use Rattle.state_store.proofs.Undamaged.{compacted_is, compacted_replays}
use Rattle.state_store.proofs.store.Store.compact.Goals as goal

pub returns-clause-replayed : goal.returns-clause-replayed
returns-clause-replayed g c =
    let old = c.args.self.now in
    let lines = lines_in old in
    let new : Store = record { alloc = old.alloc; journal = c.compact.new.self; book = old.book; is_sure = old.is_sure; is_kept = old.is_kept } in
    let read = c.records.result.now in
    let same : read ≡ lines = c.records.ensures in
    let is = MatchOption-at_some (is_worth read ≡ false) (λ (outs : Vec Bool Global). (outs.items ≡ voids (records_in read)) × (is_worth read ≡ true)) c.in-Some.voids c.in-Some.is c.in_ok-voids.ensures in
    let outs : c.in-Some.voids.items ≡ voids (records_in lines) = is.0 ∙ ap (λ (l : List (List ℕ)). voids (records_in l)) same in
    let lined : lines_in new ≡ compacted_lines lines = c.in_ok-compact.ensures.taken_out.0 ∙ ap (lines_kept lines) c.deref.ensures.value ∙ compacted_is lines c.in-Some.voids.items outs in
    compacted_replays old new c.requires.replayed (ap is_worth (sym same) ∙ is.1) refl lined
