-- Three texts that are appended one after another are appended as one.
use Rattle.std.proofs.Common.{◌∙◌, ◌++◌, ◌∷◌, [], ℕ, List, ap, append_assoc}
use Rattle.std.specs.Prelude.{codes, decimal}
use Rattle.state_keeping.proofs.table.push_system_max.Goals as goal

pub returns : goal.returns
returns c =
    let text = c.args.text.now.items in
    let key = codes "system_max = " in
    let most = decimal c.args.most in
    c.in_ok-push.ensures.items
    ∙ ap (λ (l : List ℕ). l ++ 10 ∷ []) (c.in_ok-push_number.ensures.appended ∙ ap (λ (l : List ℕ). l ++ most) c.in_ok-extend_from_slice.ensures.items)
    ∙ append_assoc (text ++ key) most (10 ∷ [])
    ∙ append_assoc text key (most ++ 10 ∷ [])
