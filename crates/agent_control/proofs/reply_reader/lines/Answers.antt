-- A line more is read of what is left, which gets shorter.
use Rattle.std.proofs.Common.{◌≡◌, ◌∙◌, ◌++◌, ◌∷◌, [], List, ℕ, ap, option_map, sym}
use Rattle.base_words.specs.Pieces.{pieces}
use Rattle.agent_control.specs.Replies.{closed_lines}
use Rattle.agent_control.proofs.Replied.{line_read, shorter}
use Rattle.agent_control.proofs.reply_reader.lines.Goals as goal

pub loop-line-smaller : goal.loop-line-smaller
loop-line-smaller c = shorter c.loop-line.rest.now c.in-Some.line.now c.in-Some.after.now c.in-Some.ensures

pub loop-line-preserved : goal.loop-line-preserved
loop-line-preserved c =
    let lines = c.loop-line.lines.items in
    let line = c.in-Some.line.now in
    let after = c.in-Some.after.now in
    let items : c.push.new.self.items ≡ lines ++ line ∷ [] = cc (c.in_ok-push.ensures.items, c.in_ok-of.ensures) in
    c.loop-line.invariant
    ∙ ap (λ ps. option_map (λ ls. lines ++ ls) (closed_lines ps)) c.in-Some.ensures
    ∙ line_read lines line after
    ∙ ap (λ (l : List (List ℕ)). option_map (λ ls. l ++ ls) (closed_lines (pieces 10 after))) (sym items)
