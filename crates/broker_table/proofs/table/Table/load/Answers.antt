-- The slots of an inventory make a table of its rows, with no faults and no request counted.
use Rattle.std.proofs.Common.{◌≡◌, ◌∙◌, ap, List, []}
use Rattle.broker_rule.specs.{declared.row.BrokerRow.BrokerRow, Faults.Faults, Table.BrokerTable}
use Rattle.broker_table.specs.Slots.{listed_rows}
use Rattle.broker_table.proofs.Loaded.{rows_of_slots}
use Rattle.broker_table.proofs.table.Table.load.Goals as goal

tables : (rows rows' : List BrokerRow) (f g : Faults) → rows ≡ rows' → f ≡ g → ◌≡◌ {A = BrokerTable} (record { rows = rows; faults = f.faults; count = f.count }) (record { rows = rows'; faults = g.faults; count = g.count })
tables rows rows' f g e same = ap (λ rs. record { rows = rs; faults = f.faults; count = f.count }) e ∙ ap (λ (h : Faults). record { rows = rows'; faults = h.faults; count = h.count }) same

pub returns : goal.returns
returns c =
    tables _ _ _ (record { faults = []; count = 0 }) (ap listed_rows c.in_ok-load.ensures ∙ rows_of_slots c.args.inventory.now) c.new.ensures
