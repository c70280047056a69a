-- No more go out than are left.
use Rattle.std.proofs.Common.{◌∙◌, arith}
use Rattle.std.proofs.lemmas.List.{length-drop}
use Rattle.watch_machine.proofs.line.Line.moved.Goals as goal

pub overflow_add-line : goal.overflow_add-line
overflow_add-line c =
    let left = length-drop c.args.self.from c.args.self.places.items in
    let most = c.requires in
    let count = c.len.ensures ∙ c.args.self.places.ok.0 in
    let low = c.len.type_inv in
    let least = c.min.ensures in
    omega (arith, left, most, count, low, least)
