-- What is written of `lookup_tree`, whose id is the text of the bytes, is `lookup_text`: the body of a request to look up a lease.
use Rattle.std.proofs.Common.{refl, ap, ◌∙◌}
use Rattle.vault_json.specs.Trees.{lookup_tree}
use Rattle.vault_json.proofs.Texts.{spelled, lookup_text_is}
use Rattle.vault_json.proofs.request_body.lookup_body.Goals as goal

pub returns : goal.returns
returns c =
    let id = c.args.id.now in
    let same = c.in_ok-lookup_value.ensures ∙ ap lookup_tree c.text_of.ensures in
    spelled c.written.result _ (lookup_tree id) _ same refl (lookup_text_is id) c.written.ensures
