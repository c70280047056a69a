-- What the Asks ask for is granted by the broker, to exactly the renewal rule's end.
use Rattle.std.proofs.Common.{◌≡◌, ℕ, ◌+◌, ◌<◌, true, [], None, length, refl, sym, ap, ◌∙◌}
use Rattle.std.proofs.lemmas.Bool.{and_from}
use Rattle.plan_forest.specs.Forest.{end_of, entry_at}
use Rattle.plan_forest.specs.Renewal.{all_last, is_granted, renewal}
use Rattle.vault_inventory.specs.Inventories.{IsInventory, Inventory}
use Rattle.broker_rule.specs.{declared.row.BrokerRow.BrokerRow, Granted.call_for, Table.BrokerTable, Listed.is_entry_alive, Listed.rows_listed, Renewing.with_row, Rows.broker_row, Step.broker_step, Step.tells, Sweep.swept}
use Rattle.broker_rule.specs.Faults.{fault_at, next_number, without_fault}
use Rattle.broker_table.proofs.Granting.{by_the_rule, renewed_by}
use Rattle.vault_exchange.specs.Requests.{renewal_request}
use Rattle.broker_alike.proofs.Asking.{asks_renewal}

-- the row of i, renewed at t
abbrev pub renewed_row : Inventory → ℕ → ℕ → BrokerRow
renewed_row s t i = record (broker_row s i) { end = renewal (entry_at s.forest.entries i) t }

-- ---- what is granted

grants : (s : Inventory) (t i : ℕ) → (entry_at s.forest.entries i).renewable ≡ true → is_entry_alive s.forest t i ≡ true → is_granted s.forest.entries 1 (end_of s.forest.entries) t i ≡ true
unfolding is_granted is_entry_alive
grants s t i able alive = and_from (entry_at s.forest.entries i).renewable (all_last s.forest.entries (end_of s.forest.entries) (t + 1) i) able alive

no_fault : (n : ℕ) → fault_at [] n ≡ None
unfolding fault_at
no_fault n = refl

none_left : (n : ℕ) → without_fault [] n ≡ []
unfolding without_fault
none_left n = refl

-- the table and the answer after the request of an entry that is alive and renewable
pub serves :
    (s : Inventory) → IsInventory s → (port t i : ℕ) (l : BrokerTable) → i < length s.forest.entries → (entry_at s.forest.entries i).renewable ≡ true → is_entry_alive s.forest t i ≡ true →
    l.faults ≡ [] → swept t l.rows ≡ rows_listed s t →
    broker_step l t (renewal_request port s.credentials s.forest i)
    ≡ record { answer = tells (call_for (entry_at s.forest.entries i).kind) (renewed_row s t i); table = record { rows = with_row (rows_listed s t) (renewed_row s t i); faults = []; count = next_number l.count } }
serves s inventory port t i l within able alive none same =
    let grant = grants s t i able alive in
    let call = call_for (entry_at s.forest.entries i).kind in
    let n = next_number l.count in
    by_the_rule s inventory t i within grant l same (ap (λ faults. fault_at faults n) none ∙ no_fault n) (renewal_request port s.credentials s.forest i) (asks_renewal s inventory port i within)
    ∙ ap (λ (row : BrokerRow). record { answer = tells call row; table = record { rows = with_row (rows_listed s t) row; faults = without_fault l.faults n; count = n } }) (sym (renewed_by s t i grant))
    ∙ ap (λ faults. record { answer = tells call (renewed_row s t i); table = record { rows = with_row (rows_listed s t) (renewed_row s t i); faults = faults; count = n } }) (ap (λ faults. without_fault faults n) none ∙ none_left n)
