-- By a lease id the index finds the place of the listed lease row, and none where it is listed no more.
use Rattle.std.proofs.Common.{◌≡◌, ◌<◌, ◌∙◌, IfSome, ap, length, option_map, subst, sym, true}
use Rattle.broker_table.specs.{Index.if_listed, Slots.listed_rows, Slots.slot_at}
use Rattle.broker_rule.specs.Subject.{is_lease_with, lease_with}
use Rattle.broker_table.proofs.Indexed.{listed_by_index, place_is_within, row_by_index}
use Rattle.broker_table.proofs.slots.Slots.lease.Goals as goal

pub if_listed-requires : goal.if_listed-requires
if_listed-requires c =
    subst (λ us. IfSome c.lease.result (λ p. p < length us)) (sym c.deref.ensures.value)
    (place_is_within is_lease_with c.self.inside.all.items c.self.inside.index.leases c.args.id.now c.lease.result c.lease.ensures c.self.invariant.1.leases)

pub returns-clause-row : goal.returns-clause-row
unfolding lease_with
returns-clause-row c =
    let slots = c.self.inside.all.items in
    subst (λ us. option_map (λ i. (slot_at us i).row) c.if_listed.result ≡ lease_with (listed_rows us) c.args.id.now) c.self.view_is
    (ap (option_map (λ i. (slot_at slots i).row)) (c.if_listed.ensures ∙ ap (λ us. if_listed us c.lease.result) c.deref.ensures.value)
    ∙ row_by_index is_lease_with slots c.self.inside.index.leases c.args.id.now c.lease.result c.lease.ensures c.self.invariant.1.leases)

pub returns-clause-within : goal.returns-clause-within
returns-clause-within c =
    let slots = c.self.inside.all.items in
    subst (λ us. IfSome c.if_listed.result (λ i. (i < length us) × ((slot_at us i).listed ≡ true))) c.self.view_is
    (subst (λ o. IfSome o (λ i. (i < length slots) × ((slot_at slots i).listed ≡ true))) (sym (c.if_listed.ensures ∙ ap (λ us. if_listed us c.lease.result) c.deref.ensures.value))
    (listed_by_index slots c.lease.result (place_is_within is_lease_with slots c.self.inside.index.leases c.args.id.now c.lease.result c.lease.ensures c.self.invariant.1.leases)))
