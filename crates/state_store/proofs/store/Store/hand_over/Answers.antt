-- The lines that are no records stay; the file gives the rows by itself, and so it does with them.
use Rattle.std.proofs.Common.{◌≡◌, List, ℕ, refl, subst, ap, ◌∙◌}
use Rattle.base_disk.specs.{Image.File, State.LeavesOnly}
use Rattle.base_journal.specs.{Journals.Exchanging, Records.StandsFor, Records.lines_kept}
use Rattle.state_store.specs.{declared.store.Store.Store, Compacted.damaged, Stores.lines_in, Stores.path_of_store, code.Moving.written}
use Rattle.state_store.proofs.{Copied.on_ok, Staying.unwritten_stay, MovedOn.handed_replays}
use Rattle.state_store.proofs.store.Store.hand_over.Goals as goal

pub returns-clause-taken_out : goal.returns-clause-taken_out
returns-clause-taken_out g c =
    let old = c.args.self.now in
    let stay : lines_kept (lines_in old) c.deref.result.now ≡ damaged (lines_in old) =
    ap (lines_kept (lines_in old)) (c.deref.ensures.value ∙ c.in_ok-written.ensures ∙ ap written c.records.ensures) ∙ unwritten_stay (lines_in old) in
    on_ok c.hand_over.result (λ taken. (taken.0 ∙ stay, taken.1)) c.hand_over.ensures.taken_out

pub returns-clause-any_moment : goal.returns-clause-any_moment
returns-clause-any_moment g c known =
    let s = g.D.Disk.state in
    let old = c.args.self.now in
    let file : File = record { mode = 384; bytes = c.args.bytes.now } in
    let stay : lines_kept (lines_in old) c.deref.result.now ≡ damaged (lines_in old) =
    ap (lines_kept (lines_in old)) (c.deref.ensures.value ∙ c.in_ok-written.ensures ∙ ap written c.records.ensures) ∙ unwritten_stay (lines_in old) in
    subst (λ (ls : List (List ℕ)). LeavesOnly (s c.args.disk.now) (s c.hand_over.new.disk) (Exchanging (path_of_store old) c.args.copy.now file (λ f. StandsFor f ls) (s c.args.disk.now))) stay (c.hand_over.ensures.any_moment known)

pub returns-clause-replayed : goal.returns-clause-replayed
returns-clause-replayed g c =
    let old = c.args.self.now in
    let new : Store = record { alloc = old.alloc; journal = c.hand_over.new.self; book = old.book; is_sure = old.is_sure; is_kept = old.is_kept } in
    let stay : lines_kept (lines_in old) c.deref.result.now ≡ damaged (lines_in old) =
    ap (lines_kept (lines_in old)) (c.deref.ensures.value ∙ c.in_ok-written.ensures ∙ ap written c.records.ensures) ∙ unwritten_stay (lines_in old) in
    handed_replays c.hand_over.result old new c.requires.said c.requires.replayed refl (on_ok c.hand_over.result (λ taken. taken.0 ∙ stay) c.hand_over.ensures.taken_out) c.hand_over.ensures.refused
