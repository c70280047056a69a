-- By a credential the index finds the place of the listed token row, and none where it is listed no more.
use Rattle.std.proofs.Common.{◌≡◌, ◌<◌, ◌∙◌, IfSome, ap, length, option_map, subst, sym, true}
use Rattle.broker_table.specs.{Index.if_listed, Slots.listed_rows, Slots.slot_at}
use Rattle.broker_rule.specs.Subject.{is_token_with, token_with}
use Rattle.broker_table.proofs.Indexed.{listed_by_index, place_is_within, row_by_index}
use Rattle.broker_table.proofs.slots.Slots.token.Goals as goal

pub if_listed-requires : goal.if_listed-requires
if_listed-requires c =
    subst (λ us. IfSome c.token.result (λ p. p < length us)) (sym c.deref.ensures.value)
    (place_is_within is_token_with c.self.inside.all.items c.self.inside.index.tokens c.args.credential.now c.token.result c.token.ensures c.self.invariant.1.tokens)

pub returns-clause-row : goal.returns-clause-row
unfolding token_with
returns-clause-row c =
    let slots = c.self.inside.all.items in
    subst (λ us. option_map (λ i. (slot_at us i).row) c.if_listed.result ≡ token_with (listed_rows us) c.args.credential.now) c.self.view_is
    (ap (option_map (λ i. (slot_at slots i).row)) (c.if_listed.ensures ∙ ap (λ us. if_listed us c.token.result) c.deref.ensures.value)
    ∙ row_by_index is_token_with slots c.self.inside.index.tokens c.args.credential.now c.token.result c.token.ensures c.self.invariant.1.tokens)

pub returns-clause-within : goal.returns-clause-within
returns-clause-within c =
    let slots = c.self.inside.all.items in
    subst (λ us. IfSome c.if_listed.result (λ i. (i < length us) × ((slot_at us i).listed ≡ true))) c.self.view_is
    (subst (λ o. IfSome o (λ i. (i < length slots) × ((slot_at slots i).listed ≡ true))) (sym (c.if_listed.ensures ∙ ap (λ us. if_listed us c.token.result) c.deref.ensures.value))
    (listed_by_index slots c.token.result (place_is_within is_token_with slots c.self.inside.index.tokens c.args.credential.now c.token.result c.token.ensures c.self.invariant.1.tokens)))
