-- Bytes that are not UTF-8 are no tree, and others are what serde_json reads.
use Rattle.std.proofs.Common.{◌≡◌, ◌∙◌, ap, sym}
use Rattle.serde_json.specs.Read.{read}
use Rattle.vault_json.specs.Body.{json_tree}
use Rattle.vault_json.proofs.Bodies.{tree_of_text, tree_of_no_text}
use Rattle.agent_control.specs.Words.{or_not_words}
use Rattle.agent_control.proofs.Trees.{as_read}
use Rattle.agent_control.proofs.tree.tree.Goals as goal

pub returns-in_default : goal.returns-in_default
returns-in_default c = ap or_not_words (tree_of_no_text c.args.bytes.now c.in_default.ensures.cases.0)

pub returns : goal.returns
returns c =
    let text : json_tree c.args.bytes.now ≡ read c.in-Ok.text.now = tree_of_text c.args.bytes.now c.in-Ok.ensures.cases.1 ∙ ap read (sym c.in-Ok.ensures.cases.0) in
    rw text (as_read c.judged.result (read c.in-Ok.text.now) c.from_str.result c.from_str.ensures.ok c.from_str.ensures.err c.judged.ensures.tree c.judged.ensures.memory c.judged.ensures.malformed)
