-- What is written of `errors_tree` is `errors_text`: the body of a reply that refuses a request.
use Rattle.std.proofs.Common.{refl}
use Rattle.vault_json.specs.Trees.{errors_tree}
use Rattle.vault_json.proofs.Texts.{spelled, errors_text_is}
use Rattle.vault_json.proofs.reply_body.errors.Goals as goal

pub returns : goal.returns
returns c =
    spelled c.written.result _ (errors_tree c.args.text.now) _ c.in_ok-errors_value.ensures refl (errors_text_is c.args.text.now) c.written.ensures
