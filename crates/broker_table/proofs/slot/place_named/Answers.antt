-- The place that a name finds is that of a listed row, the one of that name.
use Rattle.std.proofs.Common.{◌∙◌, ap, bytes_eq, option_map}
use Rattle.broker_rule.specs.{declared.row.BrokerRow.BrokerRow, Rows.row_named}
use Rattle.broker_table.specs.Slots.{slot_at}
use Rattle.broker_table.proofs.Listed.{place_found, place_within}
use Rattle.broker_table.proofs.slot.place_named.Goals as goal

pub returns-clause-row : goal.returns-clause-row
unfolding row_named
returns-clause-row c =
    ap (option_map (λ i. (slot_at c.args.slots.now i).row)) c.first_named.ensures ∙ place_found (λ (r : BrokerRow). bytes_eq r.name c.args.name.now) c.args.slots.now

pub returns-clause-within : goal.returns-clause-within
returns-clause-within c = place_within (λ (r : BrokerRow). bytes_eq r.name c.args.name.now) c.args.slots.now c.first_named.result c.first_named.ensures
