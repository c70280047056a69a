-- The value that is written is the tree, and the tree's text is the body: with a period, or without one.
use Rattle.std.proofs.Common.{◌≡◌, ◌≢◌, refl, sym, ap, ◌∙◌, arith}
use Rattle.vault_json.specs.{Trees.looked_plain_tree, Trees.looked_periodic_tree, Written.looked_self_text}
use Rattle.vault_json.proofs.Texts.{spelled, looked_plain_text_is, looked_periodic_text_is}
use Rattle.vault_json.proofs.reply_body.looked_self.Goals as goal

pub returns-in_ok-plain_value : goal.returns-in_ok-plain_value
returns-in_ok-plain_value c =
    let a = c.args.token in
    let none : a.period ≡ 0 = c.if-token-eq0.true in
    let is = looked_plain_text_is a.ttl a.created a.explicit_max a.orphan a.renewable
    ∙ ap (looked_self_text a.ttl a.created a.explicit_max a.orphan a.renewable) (sym none) in
    spelled c.written.result _ (looked_plain_tree a.ttl a.created a.explicit_max a.orphan a.renewable) _ c.in_ok-plain_value.ensures refl is c.written.ensures

pub returns-in_ok-periodic_value : goal.returns-in_ok-periodic_value
returns-in_ok-periodic_value c =
    let a = c.args.token in
    let some : a.period ≢ 0 = omega arith in
    let is = looked_periodic_text_is a.ttl a.created a.explicit_max a.orphan a.renewable a.period some in
    spelled c.written-else-token-eq0.result _ (looked_periodic_tree a.ttl a.created a.explicit_max a.orphan a.renewable a.period) _ c.in_ok-periodic_value.ensures refl is
    c.written-else-token-eq0.ensures
