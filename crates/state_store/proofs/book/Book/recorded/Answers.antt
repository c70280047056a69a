-- The change that is read in the line, and that a replay makes.
use Rattle.std.proofs.Common.{rules, ◌≡◌, true, ap}
use Rattle.state_store.specs.Books.{Book}
use Rattle.state_store.proofs.Entered.{recorded_is}
use Rattle.state_store.proofs.book.Book.recorded.Goals as goal

pub returns-clause-recorded : goal.returns-clause-recorded
returns-clause-recorded c =
    let file : c.self.inside.file ≡ c.args.self.now.file = ap (λ (b : Book). b.file) c.self.view_is in
    let same : c.in_ok-is_as_then.field-0 ≡ true = search rules in
    recorded_is c.args.self.now c.args.name c.args.what c.in_ok-line.line c.in-Some.change (cc c.in_ok-line.ensures) (cc (c.in_ok-change.ensures, c.list.ensures)) (cc c.in_ok-is_as_then.ensures)
