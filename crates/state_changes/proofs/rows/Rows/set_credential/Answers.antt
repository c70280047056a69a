-- The row at the place of the name has another credential, which was seen then; where there is no place, no row has it.
use Rattle.std.proofs.Common.{◌≡◌, ◌∙◌, List, Some, ap, sym}
use Rattle.std.specs.List.{position}
use Rattle.state_changes.specs.{declared.row.Row.Row, Rows.is_row_named, Rows.with_named}
use Rattle.state_changes.proofs.{Finding.seen_same, Seen.seen_again}
use Rattle.state_changes.proofs.Places.{credential_named, index_credential, nobody_has, seen_set_credential}
use Rattle.state_changes.proofs.rows.Rows.set_credential.Goals as goal

pub invariant_of-self : goal.invariant_of-self
invariant_of-self c = (c.self.invariant.0, seen_same c.self.inside.credentials c.insert.new.self c.self.inside.items.items c.in_err-insert.ensures.err c.self.invariant.1)

pub invariant_of-self-in-Some : goal.invariant_of-self-in-Some
invariant_of-self-in-Some c =
    let rows = c.self.inside.items.items in
    let name = c.args.name.now in
    let there : position (is_row_named name) rows ≡ Some c.in-Some.place = ap (λ (l : List Row). position (is_row_named name) l) c.self.view_is ∙ (sym c.place-place.ensures ∙ c.in-Some.is) in
    let key : c.in_ok-key.key.items ≡ c.args.credential = cc (c.in_ok-key.ensures.items, c.list.ensures, c.credential.view_is) in (
      index_credential c.self.inside.is_apart c.self.inside.places name c.args.credential rows c.in-Some.place c.index_mut.result.now there c.index_mut.ensures.value c.self.invariant.0,
      seen_set_credential c.self.inside.credentials c.insert.new.self c.in_ok-key.key 0 name c.args.credential rows c.in-Some.place c.index_mut.result.now c.in_ok-insert.ensures.updates key there c.index_mut.ensures.value c.self.invariant.1,
    )

pub invariant_of-self-in-None-1 : goal.invariant_of-self-in-None-1
invariant_of-self-in-None-1 c = (c.self.invariant.0, seen_again c.self.inside.credentials c.insert.new.self c.in_ok-key.key 0 c.self.inside.items.items c.in_ok-insert.ensures.updates c.self.invariant.1)

pub returns-in-Some-clause-set : goal.returns-in-Some-clause-set
returns-in-Some-clause-set c =
    let rows = c.self.inside.items.items in
    let name = c.args.name.now in
    let there : position (is_row_named name) rows ≡ Some c.in-Some.place = ap (λ (l : List Row). position (is_row_named name) l) c.self.view_is ∙ (sym c.place-place.ensures ∙ c.in-Some.is) in
    credential_named name c.args.credential rows c.in-Some.place c.index_mut.result.now there c.index_mut.ensures.value
    ∙ ap (λ (l : List Row). with_named (λ row. record row { credential = c.args.credential }) name l) c.self.view_is

pub returns-in_default-clause-set : goal.returns-in_default-clause-set
returns-in_default-clause-set c = c.self.view_is ∙ sym (nobody_has c.args.name.now c.args.credential c.args.self.now (sym c.place-place.ensures ∙ c.in_default.is))
