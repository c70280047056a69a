-- What is written of `renewed_lease_tree`, whose id is the text of the bytes, is `renewed_lease_text`: the body of a reply to a lease's renewal.
use Rattle.std.proofs.Common.{refl, ap, ◌∙◌}
use Rattle.vault_json.specs.Trees.{renewed_lease_tree}
use Rattle.vault_json.proofs.Texts.{spelled, renewed_lease_text_is}
use Rattle.vault_json.proofs.reply_body.renewed_lease.Goals as goal

pub returns : goal.returns
returns c =
    let id = c.args.id.now in
    let seconds = c.args.seconds in
    let renewable = c.args.renewable in
    let same = c.in_ok-renewed_lease_value.ensures ∙ ap (λ i. renewed_lease_tree i seconds renewable) c.text_of.ensures in
    spelled c.written.result _ (renewed_lease_tree id seconds renewable) _ same refl (renewed_lease_text_is id seconds renewable) c.written.ensures
