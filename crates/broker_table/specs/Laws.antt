-- Laws of the definitions alone.
use Rattle.std.specs.Prelude.{◌≡◌, ℕ, ◌<◌, ◌≤◌, true, false, List, None, length}
use Rattle.std.specs.List.{list_all}
use Rattle.plan_forest.specs.{Forest.end_of, Forest.entry_at, Push.IsForest, Renewal.is_granted}
use Rattle.vault_inventory.specs.Inventories.{IsInventory, Inventory}
use Rattle.vault_http.specs.declared.request.Request.{Request}
use Rattle.broker_rule.specs.{declared.row.BrokerRow.BrokerRow, declared.refusal.Refusal.Refusal, Table.BrokerTable, Listed.rows_listed, Renewing.with_row, Rows.broker_rows, Sweep.lives, Sweep.swept}
use Rattle.broker_rule.specs.Faults.{fault_at, next_number, without_fault}
use Rattle.broker_rule.specs.Granted.{AsksRenewal, call_for, renewed_row}
use Rattle.broker_rule.specs.Step.{broker_step, refuses, tells}

-- every row that a sweep has kept lives among those that it has kept: each row over it is listed and ends later, which is
-- what the renewal rule asks with a margin of one second
abbrev pub SweptRowsLive : Type 0
SweptRowsLive = (rows : List BrokerRow) (t : ℕ) → list_all (lives (swept t rows) t) (swept t rows) ≡ true

-- a later sweep takes in an earlier one
abbrev pub SweptLater : Type 0
SweptLater = (rows : List BrokerRow) (t m : ℕ) → t ≤ m → swept m (swept t rows) ≡ swept m rows

-- of the rows of an inventory a sweep leaves exactly those of the entries that are alive
abbrev pub SweptInventory : Type 0
SweptInventory = (s : Inventory) → IsForest s.forest → (t : ℕ) → swept t (broker_rows s) ≡ rows_listed s t

-- where a sweep leaves the rows of the entries that are alive, and the request has no fault: one for the renewal of an entry
-- that the renewal rule grants with a margin of one second is granted, to the end that the rule gives, which is told and listed
abbrev pub RenewalIsByTheRule : Type 0
RenewalIsByTheRule =
    (s : Inventory) → IsInventory s → (t i : ℕ) → i < length s.forest.entries → is_granted s.forest.entries 1 (end_of s.forest.entries) t i ≡ true →
    (l : BrokerTable) → swept t l.rows ≡ rows_listed s t → fault_at l.faults (next_number l.count) ≡ None →
    (r : Request) → AsksRenewal s i r →
    broker_step l t r ≡ record {
      answer = tells (call_for (entry_at s.forest.entries i).kind) (renewed_row s t i);
      table = record { rows = with_row (rows_listed s t) (renewed_row s t i); faults = without_fault l.faults (next_number l.count); count = next_number l.count };
    }

-- and one for an entry that the rule does not grant is refused, and no row changes
abbrev pub UngrantedIsRefused : Type 0
UngrantedIsRefused =
    (s : Inventory) → IsInventory s → (t i : ℕ) → i < length s.forest.entries → is_granted s.forest.entries 1 (end_of s.forest.entries) t i ≡ false →
    (l : BrokerTable) → swept t l.rows ≡ rows_listed s t → fault_at l.faults (next_number l.count) ≡ None →
    (r : Request) → AsksRenewal s i r →
    (refusal : Refusal) × (broker_step l t r ≡ record {
      answer = refuses refusal;
      table = record { rows = rows_listed s t; faults = without_fault l.faults (next_number l.count); count = next_number l.count };
    })
