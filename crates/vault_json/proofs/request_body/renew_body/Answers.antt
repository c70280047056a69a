-- What is written of `renew_tree` is `renew_text`: the body of a request to renew the own token.
use Rattle.std.proofs.Common.{refl}
use Rattle.vault_json.specs.Trees.{renew_tree}
use Rattle.vault_json.proofs.Texts.{spelled, renew_text_is}
use Rattle.vault_json.proofs.request_body.renew_body.Goals as goal

pub returns : goal.returns
returns c =
    spelled c.written.result _ (renew_tree c.args.step) _ c.in_ok-renew_value.ensures refl (renew_text_is c.args.step) c.written.ensures
