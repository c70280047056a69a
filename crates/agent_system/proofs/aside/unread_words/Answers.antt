-- The pieces are written one after another.
use Rattle.std.proofs.Common.{◌∙◌, ◌++◌, List, ℕ, ap, append_assoc}
use Rattle.std.specs.Prelude.{codes, decimal}
use Rattle.agent_system.proofs.aside.unread_words.Goals as goal

pub returns : goal.returns
returns c =
    let number = decimal c.args.count in
    let words = codes " bytes cannot be read: they are kept in " in
    c.in_ok-extend_from_slice-2.ensures.items
    ∙ ap (λ (l : List ℕ). l ++ c.as_bytes.result.now)
    (c.in_ok-extend_from_slice.ensures.items ∙ ap (λ (l : List ℕ). l ++ words) (c.in_ok-push_number.ensures.appended ∙ ap (λ (l : List ℕ). l ++ number) c.new-text.ensures.items))
    ∙ append_assoc number words c.as_bytes.result.now
    ∙ ap (λ (l : List ℕ). number ++ (words ++ l)) c.as_bytes.ensures.value
