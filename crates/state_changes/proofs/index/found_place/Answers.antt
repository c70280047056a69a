-- Going back from the place that the map has, the row of the name is found, or none has it.
use Rattle.std.proofs.Common.{◌≡◌, List, None, IfSome, drop, sym, subst, true}
use Rattle.state_changes.specs.{declared.row.Row.Row, Rows.named, code.Index.begins_with}
use Rattle.state_changes.proofs.Finding.{placed}
use Rattle.state_changes.proofs.index.found_place.Goals as goal

pub returns-in-Some : goal.returns-in-Some
returns-in-Some c =
    placed c.args.places.now c.args.name.now c.args.rows.now c.in-Some.place.now c.last_place.result c.requires (sym c.in-Some.ensures.value)
    (λ e. subst (λ (l : List Row). named l c.args.name.now ≡ None) c.up_to.ensures (c.last_place.ensures.none e))
    (subst (λ (l : List Row). IfSome c.last_place.result (λ i. begins_with c.args.name.now (drop i l) ≡ true)) c.up_to.ensures c.last_place.ensures.some)
