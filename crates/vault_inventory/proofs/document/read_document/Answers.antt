-- Bytes that are not UTF-8 have no tree, and others have the tree of their text.
use Rattle.toml.specs.Parse.{parse_document}
use Rattle.vault_inventory.proofs.Trees.{as_read, tree_of_bytes, tree_of_text}
use Rattle.vault_inventory.proofs.document.read_document.Goals as goal

pub returns-in_default : goal.returns-in_default
returns-in_default c = tree_of_bytes c.args.bytes.now c.in_default.ensures.cases.0

pub returns : goal.returns
returns c =
    let text = c.in-Ok.text.now in
    let is = tree_of_text c.args.bytes.now text c.in-Ok.ensures.cases.0 c.in-Ok.ensures.cases.1 in
    rw is (as_read c.judged.result (parse_document text) c.table_from_str.result c.table_from_str.ensures.ok c.table_from_str.ensures.refused c.judged.ensures.tree c.judged.ensures.none)
