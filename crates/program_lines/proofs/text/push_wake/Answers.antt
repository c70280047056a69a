-- The line of a round is that of its parts.
use Rattle.std.proofs.Common.{◌∙◌, ◌++◌, ◌∷◌, [], ap, codes, decimal, flat_map, sym}
use Rattle.program_lines.specs.Text.{name_of}
use Rattle.program_lines.proofs.Wording.{five, named_line}
use Rattle.program_lines.proofs.text.push_wake.Goals as goal

pub returns : goal.returns
returns c =
    let text = c.args.text.now.items in
    let word = decimal c.args.t in
    let names = flat_map (λ i. 32 ∷ name_of c.args.forest.now i) c.args.asked.now in
    c.in_ok-push.ensures.items
    ∙ ap (λ xs. xs ++ 10 ∷ []) c.in_ok-push_names.ensures
    ∙ ap (λ xs. (xs ++ names) ++ 10 ∷ []) (c.in_ok-push_number.ensures.appended ∙ ap (λ xs. xs ++ word) c.in_ok-extend_from_slice.ensures.items)
    ∙ five text (codes "wake ") word names (10 ∷ [])
    ∙ ap (λ xs. text ++ (codes "wake " ++ xs)) (sym (named_line c.args.forest.now word c.args.asked.now))
