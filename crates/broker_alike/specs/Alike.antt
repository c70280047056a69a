-- Alike: tables of two brokers that differ in credentials alone, where one has the credential of an entry the other has its own
-- for the same entry; and what a forest keeps, whatever a broker tells of it.
-- Source: this project's own.
use Rattle.std.specs.Prelude.{◌≡◌, ◌↔◌, ℕ, ◌<◌, ◌≤◌, All, List, Option, Some, length}
use Rattle.std.specs.List.{AllZip}
use Rattle.vault_exchange.specs.Exchanges.{Behind}
use Rattle.plan_forest.specs.{declared.entry.Kind.TheVariants.Lease, Forest.Forest, Forest.entry_at}
use Rattle.vault_inventory.specs.Inventories.{credential_at}
use Rattle.base_moment.specs.declared.moment.TheConstants.{LAST}
use Rattle.broker_rule.specs.{declared.row.BrokerRow.BrokerRow, Table.BrokerTable}

-- what a forest keeps of the one that was supplied, whatever lookups and renewals tell: as many entries, each of its kind, and
-- of a lease its token and its step
pub record KeepsSupplied (g h : Forest) : Type 0 where
  pub count : length h.entries ≡ length g.entries
  pub kinds : (i : ℕ) → (entry_at h.entries i).kind ≡ (entry_at g.entries i).kind
  pub owners : (i : ℕ) → (entry_at g.entries i).kind ≡ Lease → (entry_at h.entries i).parent ≡ (entry_at g.entries i).parent
  pub steps : (i : ℕ) → (entry_at g.entries i).kind ≡ Lease → (entry_at h.entries i).step ≡ (entry_at g.entries i).step

-- two rows that differ in their credentials alone; the one has the credential of an entry of its kind by these credentials
-- exactly where the other has it by those
pub record AreRowsAlike (g : Forest) (cs ds : List (List ℕ)) (r q : BrokerRow) : Type 0 where
  pub same : q ≡ record r { credential = q.credential }
  pub found : (i : ℕ) → i < length g.entries → (entry_at g.entries i).kind ≡ r.kind → (r.credential ≡ credential_at cs i) ↔ (q.credential ≡ credential_at ds i)

-- two tables of such rows, in one order, with the same faults and counts
pub record AreTablesAlike (g : Forest) (cs ds : List (List ℕ)) (l m : BrokerTable) : Type 0 where
  pub rows : AllZip (AreRowsAlike g cs ds) l.rows m.rows
  pub faults : m.faults ≡ l.faults
  pub count : m.count ≡ l.count

-- two exchanges whose tables are known, and are such
pub record AreBrokersAlike (g : Forest) (cs ds : List (List ℕ)) (old other : Option Behind) : Type 0 where
  pub behind : Behind
  pub known : old ≡ Some behind
  pub other_behind : Behind
  pub other_known : other ≡ Some other_behind
  pub tables : AreTablesAlike g cs ds behind.table other_behind.table

-- each row was issued at a moment that a date can tell
abbrev pub AreDated : BrokerTable → Type 0
AreDated l = All (λ row. row.issued ≤ LAST) l.rows
