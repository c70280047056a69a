-- The rows go on being those of a replay; and the disk is the last that can refuse.
use Rattle.std.proofs.Common.{false, sym, ap, ◌∙◌}
use Rattle.std.specs.Prelude.{string_bytes}
use Rattle.std.proofs.lemmas.Bool.{true≢false}
use Rattle.state_store.specs.{declared.store.Store.Store, Books.Book}
use Rattle.state_store.proofs.Taken.{goes_on_replaying, same_replays}
use Rattle.state_store.proofs.store.Store.take.Goals as goal

pub returns-clause-replayed : goal.returns-clause-replayed
returns-clause-replayed g c =
    let add = c.add.new.self in
    let new : Store = record { alloc = add.alloc; journal = add.journal; book = c.turn.new.self; is_sure = add.is_sure; is_kept = add.is_kept } in
    goes_on_replaying c.args.self.now new c.args.name c.args.what c.in_ok-entered.entered c.in_ok-entered.ensures.entered (c.turn.ensures ∙ ap (λ (b : Book). record b { rows = c.in_ok-entered.entered.rows; text = string_bytes c.in_ok-entered.entered.text }) c.add.ensures.book)
    c.in_ok-add.ensures.added.0 c.requires.replayed

pub returns-clause-unsure : goal.returns-clause-unsure
returns-clause-unsure g c unsure = absurd (true≢false (sym c.in_ok-refuse_unread.ensures.sure ∙ unsure))

pub returns-in_err-add-clause-unsure : goal.returns-in_err-add-clause-unsure
returns-in_err-add-clause-unsure g c unsure = absurd (true≢false (sym c.in_ok-refuse_unread.ensures.sure ∙ unsure))

pub returns-in_err-entered-clause-unsure : goal.returns-in_err-entered-clause-unsure
returns-in_err-entered-clause-unsure g c unsure = absurd (true≢false (sym c.in_ok-refuse_unread.ensures.sure ∙ unsure))

pub returns-in_err-add-clause-replayed : goal.returns-in_err-add-clause-replayed
returns-in_err-add-clause-replayed g c = same_replays c.args.self.now c.add.new.self c.requires.replayed c.add.ensures.book c.in_err-add.ensures.lines
