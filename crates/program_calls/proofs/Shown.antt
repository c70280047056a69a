-- Shown: the lines of an answer are what stands after its first line.
use Rattle.std.proofs.Common.{◌≡◌, ℕ, List, Some, drop, length, min, ap, ◌∙◌, arith}
use Rattle.agent_control.specs.{Laws.ReplyOnly, declared.reply.ControlReply.ControlReply}
use Rattle.agent_control.specs.Replies.{control_reply_text, lines_text, reply_in_text}
use Rattle.agent_control.specs.declared.reply.ControlReply.TheVariants as replies

done_text : (text : List ℕ) (lines : List (List ℕ)) → text ≡ control_reply_text (replies.Done lines) → drop 3 text ≡ lines_text lines
unfolding control_reply_text
done_text text lines is = ap (drop 3) is

long_enough : (text : List ℕ) (lines : List (List ℕ)) → text ≡ control_reply_text (replies.Done lines) → min (length text) 3 ≡ 3
unfolding control_reply_text
long_enough text lines is = let n = ap length is in grind (arith, n)

pub lines_after : ReplyOnly → (text : List ℕ) (reply : ControlReply) (lines : List (List ℕ)) → reply_in_text text ≡ Some reply → reply ≡ replies.Done lines → drop (min (length text) 3) text ≡ lines_text lines
lines_after only text reply lines is done =
    let whole = (only text reply is).1 ∙ ap control_reply_text done in
    ap (λ n. drop n text) (long_enough text lines whole) ∙ done_text text lines whole
