-- There is no float in the array of the words, so its text is compact.
use Rattle.std.proofs.Common.{◌∙◌, Ok, ap, sym}
use Rattle.serde_json.specs.Written.{compact_text}
use Rattle.agent_control.specs.Answer.{◌>>=◌}
use Rattle.agent_control.specs.{Words.tree_of_words, declared.fault.RequestFault.TheVariants.NotWords}
use Rattle.agent_control.proofs.{Chosen.granted, Chosen.ok_same, WordTrees.without_floats}
use Rattle.program_calls.specs.Asking.{is_ask_text, tree_for_ask, words_for_ask, words_line}
use Rattle.program_calls.proofs.words.words_line.Goals as goal

pub returns : goal.returns
unfolding words_line tree_for_ask
returns c =
    let ws = words_for_ask c.args.ask.now c.args.input.now in
    let p = granted (is_ask_text c.args.ask.now c.args.input.now) (Ok (tree_of_words ws)) NotWords _ c.in_ok-tree.ensures in
    let whole = without_floats ws _ (ok_same _ _ p.1) in
    ap (λ a. a >>= (λ d. Ok (compact_text d))) c.in_ok-tree.ensures ∙ ap (λ t. Ok t) (sym (c.in_ok-to_vec.ensures.text whole))
