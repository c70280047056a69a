-- Inventory: what a text of TOML 1.1 holds as an inventory, or its first fault. It is read in the full language.
-- Source: TOML 1.1, as the library `toml` states its reading; the keys are this project's own.
use Rattle.std.specs.Prelude.{ℕ, List, Option, Some, None, Result, Ok, Err, unwrap_or, if◌then◌else◌}
use Rattle.std.specs.Str.{is_utf8}
use Rattle.toml.specs.Parse.{parse_document}
use Rattle.toml.specs.Data.{Items, no_items, item, table, Members}
use Rattle.plan_forest.specs.declared.forest.TheConstants.{MARGIN_MAX}
use Rattle.vault_inventory.specs.{declared.limits.TheConstants.SPAN_MAX, declared.limits.TheConstants.SYSTEM_MAX, declared.fault.InvFault.InvFault, declared.key.Key.Key, Keys.top_keys, Inventories.Inventory, Rows.token_row, Rows.lease_row}
use Rattle.vault_inventory.specs.declared.fault.InvFault.TheVariants.{NotToml, BadValue}
use Rattle.vault_inventory.specs.declared.key.Key.TheVariants.{SystemMax, Margin, Token, Lease}
use Rattle.vault_inventory.specs.Languages.{Language, strict, full}
use Rattle.vault_inventory.specs.Values.{is_key_there, only, span, tables, value_at}
use Rattle.vault_inventory.specs.Served.{Served, inventory_if_whole, served_if_told}
use Rattle.vault_inventory.specs.Intake.{Intake, empty_intake, inventory_of_intake, with_token, with_lease}
use Rattle.vault_inventory.specs.Answers.{◌>>=◌}

-- the table of one token more, and of one lease more
unfoldable pub token_entered : Language → ℕ → Intake → Members → Result Intake InvFault
token_entered l system_max s ms = token_row l system_max s.forest ms >>= λ row. with_token s row

unfoldable pub lease_entered : Language → ℕ → Intake → Members → Result Intake InvFault
lease_entered l system_max s ms = lease_row l system_max s.forest ms >>= λ row. with_lease s row

-- the tables of one kind, each entered by this step
abbrev pub entered_by : (Intake → Members → Result Intake InvFault) → Key → Intake → Items → Result Intake InvFault
entered_by step key s no_items = Ok s
entered_by step key s (item (table ms) ds) = step s ms >>= λ t. entered_by step key t ds
entered_by step key s (item _ ds) = Err (BadValue None key)

-- the entries of a document's tree
unfoldable pub intake_of : Language → Members → Result Intake InvFault
intake_of l ms = do
  known ← only top_keys None ms
  system_max ← value_at (span l 1 SPAN_MAX) None SystemMax ms
  margin ← value_at (span l 1 MARGIN_MAX) None Margin ms
  tokens ← value_at tables None Token ms
  leases ← value_at tables None Lease ms
  with_tokens ← entered_by (token_entered l (unwrap_or system_max SYSTEM_MAX)) Token (empty_intake (unwrap_or margin 1)) (unwrap_or tokens no_items)
  entered_by (lease_entered l (unwrap_or system_max SYSTEM_MAX)) Lease with_tokens (unwrap_or leases no_items)

abbrev pub if_read : Result (Option ℕ) InvFault → Option ℕ
if_read (Ok n) = n
if_read (Err fault) = None

-- the maximum TTL of the system that a document's tree writes
unfoldable pub system_max_in : Members → Option ℕ
system_max_in ms = if_read (value_at (span full 1 SPAN_MAX) None SystemMax ms)

-- what is served by a document's tree
unfoldable pub served_of : Language → Members → Result Served InvFault
served_of l ms = intake_of l ms >>= λ s. Ok (record { inventory = inventory_of_intake s; notes = s.notes; has_margin = is_key_there Margin ms; system_max = system_max_in ms })

abbrev pub or_not_toml : Option Members → Result Members InvFault
or_not_toml None = Err NotToml
or_not_toml (Some ms) = Ok ms

-- the tree of a document
unfoldable pub document_tree : List ℕ → Result Members InvFault
document_tree bytes = if is_utf8 bytes then or_not_toml (parse_document bytes) else Err NotToml

-- what is served by a text
unfoldable pub read_served : List ℕ → Result Served InvFault
read_served bytes = document_tree bytes >>= served_of full

-- what a text of the strict language is read as
unfoldable pub read_strict : List ℕ → Result Served InvFault
read_strict bytes = document_tree bytes >>= served_of strict

-- what is served by a text, each of whose tables writes its end
unfoldable pub read_known : List ℕ → Result Served InvFault
read_known bytes = read_served bytes >>= served_if_told

-- the inventory of a text that leaves nothing open
unfoldable pub read_inventory : List ℕ → Result Inventory InvFault
read_inventory bytes = read_served bytes >>= inventory_if_whole
