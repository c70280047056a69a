-- What is written of `lease_tree`, whose id is the text of the bytes, is `lease_text`: the body of a request to renew a lease.
use Rattle.std.proofs.Common.{refl, ap, ◌∙◌}
use Rattle.vault_json.specs.Trees.{lease_tree}
use Rattle.vault_json.proofs.Texts.{spelled, lease_text_is}
use Rattle.vault_json.proofs.request_body.lease_body.Goals as goal

pub returns : goal.returns
returns c =
    let id = c.args.id.now in
    let same = c.in_ok-lease_value.ensures ∙ ap (λ i. lease_tree i c.args.step) c.text_of.ensures in
    spelled c.written.result _ (lease_tree id c.args.step) _ same refl (lease_text_is id c.args.step) c.written.ensures
