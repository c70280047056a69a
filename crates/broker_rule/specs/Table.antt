-- What a broker's table is: its rows, its faults, and how many renewal requests it has counted.
use Rattle.std.specs.Prelude.{ℕ, List}
use Rattle.broker_rule.specs.{declared.row.BrokerRow.BrokerRow, declared.fault.NumberedFault.NumberedFault}

pub record BrokerTable : Type 0 where
  pub rows : List BrokerRow
  pub faults : List NumberedFault
  pub count : ℕ
