-- Laws: a broker's step tells no credential from another. The contract of a public function without a body.
-- Source: this project's own.
use Rattle.std.specs.Prelude.{ℕ, ◌<◌, List, length}
use Rattle.vault_exchange.specs.Requests.{lookup_of, renewal_request}
use Rattle.vault_inventory.specs.{Inventories.IsInventory, Inventories.Inventory, declared.terms.Terms.Terms}
use Rattle.plan_forest.specs.Forest.{Forest, entry_at}
use Rattle.broker_rule.specs.{Granted.call_for, Step.broker_step, Table.BrokerTable}
use Rattle.vault_http.specs.declared.request.Request.{Request}
use Rattle.broker_alike.specs.Alike.{AreDated, AreTablesAlike, KeepsSupplied}
use Rattle.broker_alike.specs.Answers.{OutcomesOf, Speaks, look_for}

-- an inventory by its parts
abbrev pub inventory_of : Forest → List (List ℕ) → List Terms → Inventory
inventory_of g cs ts = record { forest = g; credentials = cs; terms = ts }

-- of two inventories with one forest, which differ in their credentials, and two brokers whose tables differ in no more: to the
-- renewal of an entry, by a forest as lookups and renewals leave that one, at whatever ports, the brokers say the same, and are alike
-- after it
abbrev pub RenewalLaw : Type 0
RenewalLaw =
    (g : Forest) (cs ds : List (List ℕ)) (ts : List Terms) → IsInventory (inventory_of g cs ts) → IsInventory (inventory_of g ds ts) → (port other t i : ℕ) (h : Forest) (l m : BrokerTable) → i < length g.entries → KeepsSupplied g h →
    AreTablesAlike g cs ds l m → OutcomesOf g cs ds (call_for (entry_at g.entries i).kind) i (broker_step l t (renewal_request port cs h i)) (broker_step m t (renewal_request other ds h i))

-- and so they do to its lookup
abbrev pub AlikeLookupLaw : Type 0
AlikeLookupLaw =
    (g : Forest) (cs ds : List (List ℕ)) (ts : List Terms) → IsInventory (inventory_of g cs ts) → IsInventory (inventory_of g ds ts) → (port other t i : ℕ) (l m : BrokerTable) → i < length g.entries →
    AreTablesAlike g cs ds l m → OutcomesOf g cs ds (look_for (entry_at g.entries i).kind) i (broker_step l t (lookup_of port cs g i)) (broker_step m t (lookup_of other ds g i))

-- whatever is asked, a step leaves each row issued when it was, and speaks of one of them
abbrev pub DatedLaw : Type 0
DatedLaw = (l : BrokerTable) → AreDated l → (t : ℕ) (r : Request) → Speaks (broker_step l t r).answer × AreDated (broker_step l t r).table
