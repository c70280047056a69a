-- The row at the place of the name has another need; where there is no place, no row has it.
use Rattle.std.proofs.Common.{◌≡◌, ◌∙◌, List, Some, ap, sym}
use Rattle.std.specs.List.{position}
use Rattle.state_changes.specs.{declared.row.Row.Row, Rows.is_row_named, Rows.with_named}
use Rattle.state_changes.proofs.Places.{need_named, nobody_needs}
use Rattle.state_changes.proofs.rows.Rows.set_need.Goals as goal

pub returns-in-Some : goal.returns-in-Some
returns-in-Some c =
    let rows = c.self.inside.items.items in
    let name = c.args.name.now in
    let there : position (is_row_named name) rows ≡ Some c.in-Some.index = ap (λ (l : List Row). position (is_row_named name) l) c.self.view_is ∙ (sym c.place.ensures ∙ c.in-Some.is) in
    need_named name c.args.until rows c.in-Some.index c.index_mut.result.now there c.index_mut.ensures.value
    ∙ ap (λ (l : List Row). with_named (λ row. record row { need = c.args.until }) name l) c.self.view_is

pub returns-in_default : goal.returns-in_default
returns-in_default c = sym (nobody_needs c.args.name.now c.args.until c.args.self.now (sym c.place.ensures ∙ c.in_default.is))
