-- Laws of inventories. Each is the contract of a public function without a body.
use Rattle.std.specs.Prelude.{◌≡◌, ℕ, true, false, List, Ok, None, IsUtf8}
use Rattle.std.specs.List.{All}
use Rattle.toml.specs.Data.{Members}
use Rattle.vault_inventory.specs.{declared.note.EntryNote.EntryNote, Bare.DocumentsAreAlike, Served.IsServedInventory, Served.Served, Written.DocumentWrites}
use Rattle.vault_inventory.specs.Inventories.{IsSendableText, IsInventory, Inventory}
use Rattle.vault_inventory.specs.Inventory.{document_tree, read_inventory, read_served, read_strict}

-- what is read of a text is an inventory, a forest with what else an inventory always keeps, with a note for each entry
abbrev pub ServedLaw : Type 0
ServedLaw = (bytes : List ℕ) (v : Served) → read_served bytes ≡ Ok v → IsServedInventory v

-- and one that leaves nothing open is an inventory
abbrev pub InventoryLaw : Type 0
InventoryLaw = (bytes : List ℕ) (inventory : Inventory) → read_inventory bytes ≡ Ok inventory → IsInventory inventory

-- each credential of the inventory of a text can be sent in the head of a message
abbrev pub SendableLaw : Type 0
SendableLaw = (bytes : List ℕ) (v : Served) → read_served bytes ≡ Ok v → All IsSendableText v.inventory.credentials

-- what can be sent is a text in UTF-8
abbrev pub TextLaw : Type 0
TextLaw = (text : List ℕ) → IsSendableText text → IsUtf8 text

-- two inventories are the same but for their credentials: the forest, with its margin, and the terms
abbrev pub DifferInCredentials : Inventory → Inventory → Type 0
DifferInCredentials inventory other = (inventory.forest ≡ other.forest) × (inventory.terms ≡ other.terms)

-- two texts that are the same but for the keys `secret` and `lease_id` and their values are read as the same but for
-- credentials, with the same notes
abbrev pub ServedSecrecyLaw : Type 0
ServedSecrecyLaw =
    (bytes other : List ℕ) (v w : Served) → DocumentsAreAlike bytes other → read_served bytes ≡ Ok v → read_served other ≡ Ok w →
    DifferInCredentials v.inventory w.inventory × (v.notes ≡ w.notes)

abbrev pub ReadSecrecyLaw : Type 0
ReadSecrecyLaw =
    (bytes other : List ℕ) (inventory other_inventory : Inventory) → DocumentsAreAlike bytes other → read_inventory bytes ≡ Ok inventory → read_inventory other ≡ Ok other_inventory →
    DifferInCredentials inventory other_inventory

-- where a text is read, what is read is what its document writes
abbrev pub WrittenLaw : Type 0
WrittenLaw = (bytes : List ℕ) (v : Served) → read_served bytes ≡ Ok v → (ms : Members) × (document_tree bytes ≡ Ok ms) × DocumentWrites ms v

-- a table that leaves nothing open
pub record IsClosed (note : EntryNote) : Type 0 where
  pub told : note.is_told ≡ true
  pub until : note.is_always ≡ false
  pub file : note.file ≡ None

-- a text of the strict language is read, means the same, and leaves nothing open
abbrev pub StrictLaw : Type 0
StrictLaw = (bytes : List ℕ) (v : Served) → read_strict bytes ≡ Ok v → (read_served bytes ≡ Ok v) × (read_inventory bytes ≡ Ok v.inventory) × All IsClosed v.notes
