-- The date is ASCII; then the value that is written is the tree, and the tree's text is the body.
use Rattle.std.proofs.Common.{IsUtf8, refl, sym, subst, ap, ◌∙◌}
use Rattle.std.proofs.lemmas.Result.{IfOk-weaker}
use Rattle.vault_json.specs.Trees.{looked_lease_tree}
use Rattle.vault_json.proofs.{Dates.date_utf8, Texts.spelled, Texts.looked_lease_text_is}
use Rattle.vault_json.proofs.reply_body.looked_lease.Goals as goal

pub text_of-date-requires : goal.text_of-date-requires
text_of-date-requires c = subst IsUtf8 (sym c.list.ensures) (date_utf8 c.in-Ok.issue_time c.args.issued c.in-Ok.ensures.text)

pub returns : goal.returns
returns c =
    let a = c.args in
    let date = c.in-Ok.issue_time in
    let dated = c.text_of-date.ensures ∙ c.list.ensures in
    let same = c.in_ok-lease_value.ensures
    ∙ ap (λ i. looked_lease_tree i c.text_of-date.result.now a.renewable a.ttl) c.text_of.ensures
    ∙ ap (λ d. looked_lease_tree a.id.now d a.renewable a.ttl) dated in
    let body = spelled c.written.result _ (looked_lease_tree a.id.now date a.renewable a.ttl) _ same refl (looked_lease_text_is a.id.now date a.renewable a.ttl) c.written.ensures in
    IfOk-weaker c.written.result _ _ (λ t is. (date, c.in-Ok.ensures.text, is)) body
