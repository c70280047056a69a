-- What is written of `renewed_self_tree` is `renewed_self_text`: the body of a reply to a token's renewal.
use Rattle.std.proofs.Common.{refl}
use Rattle.vault_json.specs.Trees.{renewed_self_tree}
use Rattle.vault_json.proofs.Texts.{spelled, renewed_self_text_is}
use Rattle.vault_json.proofs.reply_body.renewed_self.Goals as goal

pub returns : goal.returns
returns c =
    let seconds = c.args.seconds in
    let renewable = c.args.renewable in
    spelled c.written.result _ (renewed_self_tree seconds renewable) _ c.in_ok-renewed_self_value.ensures refl (renewed_self_text_is seconds renewable) c.written.ensures
