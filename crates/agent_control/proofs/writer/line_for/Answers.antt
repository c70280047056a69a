-- There is no float in the array of the words, so its text is compact.
use Rattle.std.proofs.Common.{◌∙◌, Ok, ap, sym}
use Rattle.serde_json.specs.Written.{compact_text}
use Rattle.agent_control.specs.Answer.{◌>>=◌}
use Rattle.agent_control.specs.{Words.tree_of_words, declared.fault.RequestFault.TheVariants.NotWords}
use Rattle.agent_control.specs.Requests.{is_request_text, line_for, tree_for, words_for}
use Rattle.agent_control.proofs.{Chosen.granted, Chosen.ok_same, WordTrees.without_floats}
use Rattle.agent_control.proofs.writer.line_for.Goals as goal

pub returns : goal.returns
unfolding line_for tree_for
returns c =
    let r = c.args.request.now in
    let p = granted (is_request_text r) (Ok (tree_of_words (words_for r))) NotWords _ c.in_ok-tree.ensures in
    let whole = without_floats (words_for r) _ (ok_same _ _ p.1) in
    ap (λ a. a >>= (λ d. Ok (compact_text d))) c.in_ok-tree.ensures ∙ ap (λ t. Ok t) (sym (c.in_ok-to_vec.ensures.text whole))
