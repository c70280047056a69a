-- What counts for an entry is read where it is noted, and else it is what the entry carries.
use Rattle.std.proofs.Common.{◌∙◌, ◌<◌, ◌≤◌, ap, arith, length, sym}
use Rattle.std.proofs.lemmas.List.{get_or_past, get_or_read}
use Rattle.plan_needs.specs.Carried.{load_at}
use Rattle.watch_machine.specs.code.View.{Loads, need_at}
use Rattle.watch_machine.proofs.needs.Needs.need.Goals as goal

pub returns-then-at-many : goal.returns-then-at-many
returns-then-at-many c =
    let w = c.self.inside in
    let i = c.args.index in
    let low : i < length w.last.items = omega (arith, c.if-at-many.true, c.len-many.ensures) in
    get_or_read w.last.items i c.index.result.now low c.index.ensures (load_at w.cut i).need ∙ ap (λ (n : Loads). need_at n i) c.self.view_is

pub returns-else-at-many : goal.returns-else-at-many
returns-else-at-many c =
    let w = c.self.inside in
    let i = c.args.index in
    let high : length w.last.items ≤ i = omega (arith, c.if-at-many.false, c.len-many.ensures) in
    c.need.ensures ∙ sym (get_or_past w.last.items i (load_at w.cut i).need high) ∙ ap (λ (n : Loads). need_at n i) c.self.view_is
