-- Tables: the entry of one table `[[token]]` or `[[lease]]` that stands alone, as an inventory would read it.
-- Source: this project's own.
use Rattle.std.specs.Prelude.{◌≡◌, ℕ, List, [], ◌∷◌, ◌++◌, Option, Some, None, Result, Ok, Err, codes, if◌then◌else◌, slice_get, decimal}
use Rattle.toml.specs.Data.{Data, string, table, array, item, no_items, Items, Members, get_member}
use Rattle.plan_forest.specs.Push.{is_name}
use Rattle.vault_inventory.specs.{declared.fault.InvFault.InvFault, declared.key.Key.Key, Inventory.document_tree, Inventory.read_served, Served.Served}
use Rattle.vault_inventory.specs.declared.key.Key.TheVariants.{Lease, Parent, Token}
use Rattle.vault_inventory.specs.Keys.{all_keys, is_one_of, key_text}
use Rattle.vault_inventory.specs.declared.fault.InvFault.TheVariants as inventories
use Rattle.state_changes.specs.{declared.row.Row.Row, Listed.rows_of_served}
use Rattle.state_keeping.specs.declared.fault.TableFault.{TableFault}
use Rattle.state_keeping.specs.declared.fault.TableFault.TheVariants.{NotToml, NotOne, Missing, Unknown, Bad, Tree, OutOfMemory}

-- the fault of a table that stands alone has no index
abbrev pub table_fault : InvFault → TableFault
table_fault inventories.NotToml = NotToml
table_fault (inventories.MissingKey i key) = Missing key
table_fault (inventories.UnknownKey i) = Unknown
table_fault (inventories.BadValue i key) = Bad key
table_fault (inventories.Tree i fault) = Tree fault
table_fault inventories.OutOfMemory = OutOfMemory

-- ---- the token over it

-- a name that an entry may have
abbrev pub if_name : List ℕ → Option (List ℕ)
if_name s = if is_name s then Some s else None

abbrev pub name_in : Option Data → Option (List ℕ)
name_in (Some (string s)) = if_name s
name_in d = None

-- the name at this key of the one table of an array
abbrev pub over_item : Key → Data → Result (Option (List ℕ)) TableFault
over_item key (table ms) = Ok (name_in (get_member (key_text key) ms))
over_item key d = Err NotOne

abbrev pub over_items : Key → Items → Result (Option (List ℕ)) TableFault
over_items key (item d no_items) = over_item key d
over_items key ds = Err NotOne

abbrev pub over_in : Key → Data → Result (Option (List ℕ)) TableFault
over_in key (array ds) = over_items key ds
over_in key d = Err NotOne

abbrev pub over_of : Option Data → Option Data → Result (Option (List ℕ)) TableFault
over_of (Some tokens) None = over_in Parent tokens
over_of None (Some leases) = over_in Token leases
over_of tokens leases = Err NotOne

-- the name of the token over the one entry of a document
unfoldable pub over_entry : Members → Result (Option (List ℕ)) TableFault
over_entry ms = if all_keys (is_one_of (Token ∷ Lease ∷ [])) ms then over_of (get_member (key_text Token) ms) (get_member (key_text Lease) ms) else Err NotOne

-- ---- the entry under it

-- a token of that name, as the table over another one
abbrev pub token_text : List ℕ → List ℕ
token_text name = codes "[[token]]" ++ 10 ∷ (codes "name = '" ++ (name ++ 39 ∷ 10 ∷ (codes "secret = '-'" ++ 10 ∷ [])))

-- the maximum TTL of the system, where one is written
abbrev pub most_text : Option ℕ → List ℕ
most_text None = []
most_text (Some n) = codes "system_max = " ++ (decimal n ++ 10 ∷ [])

abbrev pub over_text : Option (List ℕ) → List ℕ
over_text None = []
over_text (Some name) = token_text name

-- the table in an inventory: after the maximum TTL of the system and the token over it
unfoldable pub beside : Option ℕ → Option (List ℕ) → List ℕ → List ℕ
beside most over bytes = most_text most ++ (over_text over ++ bytes)

abbrev pub place_after_parent : Option (List ℕ) → ℕ
place_after_parent None = 0
place_after_parent (Some name) = 1

abbrev pub or_not_one : Option Row → Result Row TableFault
or_not_one None = Err NotOne
or_not_one (Some row) = Ok row

abbrev pub row_at_place : ℕ → Result Served InvFault → Result Row TableFault
row_at_place place (Err fault) = Err (table_fault fault)
row_at_place place (Ok v) = or_not_one (slice_get (rows_of_served v) place)

abbrev pub entry_under : Option ℕ → List ℕ → Result (Option (List ℕ)) TableFault → Result Row TableFault
entry_under most bytes (Err fault) = Err fault
entry_under most bytes (Ok over) = row_at_place (place_after_parent over) (read_served (beside most over bytes))

abbrev pub entry_in : Option ℕ → List ℕ → Result Members InvFault → Result Row TableFault
entry_in most bytes (Err fault) = Err (table_fault fault)
entry_in most bytes (Ok ms) = entry_under most bytes (over_entry ms)

-- the row of the one table of a text, in an inventory with that maximum TTL of the system; or why it has none
unfoldable pub row_of_table : Option ℕ → List ℕ → Result Row TableFault
row_of_table most bytes = entry_in most bytes (document_tree bytes)

-- the call gives that, unless memory was refused
abbrev pub GivesOr : {X : Type 0} → Result X TableFault → Result X TableFault → Type 0
GivesOr (Err OutOfMemory) answer = Unit {0}
GivesOr result answer = result ≡ answer
