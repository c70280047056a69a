-- FaultNames: what an entry of a text that is no inventory is called.
-- Source: this project's own; docs/commands/lint.md.
use Rattle.std.specs.Prelude.{ℕ, ◌+◌, ◌-◌, ◌==◌, ◌&&◌, Bool, not, nat_le, nat_lt, if◌then◌else◌, List, ◌++◌, Option, Some, None, Result, Ok, Err, codes, decimal, length}
use Rattle.std.specs.{Char.is_ascii_graphic, List.list_all}
use Rattle.toml.specs.Data.{Data, array, string, table, Items, no_items, Members, get_item, get_member}
use Rattle.vault_inventory.specs.{Keys.key_text, Written.count_of, declared.fault.InvFault.InvFault, declared.key.Key.Key}
use Rattle.vault_inventory.specs.declared.key.Key.TheVariants.{Name, Token, Lease}
use Rattle.vault_lint.specs.Judging.{is_token_like}

abbrev pub items_in : Option Data → Items
items_in (Some (array ds)) = ds
items_in other = no_items

-- the tables at a key of a document
abbrev pub tables_at : Key → Members → Items
tables_at key ms = items_in (get_member (key_text key) ms)

abbrev pub text_in : Option Data → Option (List ℕ)
text_in (Some (string s)) = Some s
text_in other = None

-- the name that a table writes
abbrev pub name_in : Option Data → Option (List ℕ)
name_in (Some (table ms)) = text_in (get_member (key_text Name) ms)
name_in other = None

-- a name that can be shown: 1 to 64 printable ASCII characters without blanks
abbrev pub is_shown_name : List ℕ → Bool
is_shown_name name = not (length name == 0) && nat_le (length name) 64 && list_all is_ascii_graphic name

-- a name, unless it may be a token's value
abbrev pub label : List ℕ → List ℕ
label name = if is_token_like name then codes "(a name like a token's value)" else name

-- the kind and the place among those of that kind, from 1 on
abbrev pub numbered : List ℕ → ℕ → List ℕ
numbered kind place = kind ++ (codes " " ++ decimal (place + 1))

-- the name, where it is written and can be shown
abbrev pub called : List ℕ → ℕ → Option (List ℕ) → List ℕ
called kind place None = numbered kind place
called kind place (Some name) = if is_shown_name name then label name else numbered kind place

abbrev pub called_at : List ℕ → Items → ℕ → List ℕ
called_at kind tables place = called kind place (name_in (get_item place tables))

-- the entry at an index of a document: all tokens first
unfoldable pub called_in : Members → ℕ → List ℕ
called_in ms i =
    let tokens = count_of (tables_at Token ms) in
    if nat_lt i tokens then called_at (codes "token") (tables_at Token ms) i else called_at (codes "lease") (tables_at Lease ms) (i - tokens)

abbrev pub called_if : Result Members InvFault → ℕ → List ℕ
called_if (Ok ms) i = called_in ms i
called_if (Err fault) i = codes "an entry"
