-- First fault: the faults that a document can have, each by itself and in their order. What is told of a document is the first.
-- Source: this project's own.
use Rattle.std.specs.Prelude.{◌≡◌, ◌⊎◌, ℕ, zero, suc, ◌+◌, Bool, true, ◌&&◌, not, if◌then◌else◌, List, [], ◌∷◌, Option, Some, None, is_some, Result, Ok, Err, length, option_map}
use Rattle.toml.specs.Data.{Data, table, Items, no_items, item, Members, get_item, get_member}
use Rattle.plan_forest.specs.{declared.forest.TheConstants.MARGIN_MAX, Forest.Forest, Push.entry_refusal}
use Rattle.vault_inventory.specs.{declared.fault.InvFault.InvFault, declared.key.Key.Key, declared.limits.TheConstants.SPAN_MAX, declared.limits.TheConstants.SYSTEM_MAX, declared.row.TableRow.TableRow, Languages.full}
use Rattle.vault_inventory.specs.{Rows.lease_row, Rows.token_row, Written.WritesOr}
use Rattle.vault_inventory.specs.declared.fault.InvFault.TheVariants.{NotToml, MissingKey, UnknownKey, BadValue, Tree}
use Rattle.vault_inventory.specs.declared.key.Key.TheVariants.{SystemMax, Margin, Token, Lease, Name, Parent, Issued, End, Renewable, Increment, Period, MaxTtl, ExplicitMaxTtl, Reissued, Need, Secret, SecretFile, LeaseId, LeaseIdFile}
use Rattle.vault_inventory.specs.Intake.{Intake, empty_intake, has_text, key_written}
use Rattle.vault_inventory.specs.Inventory.{document_tree, entered_by, lease_entered, read_served, token_entered}
use Rattle.vault_inventory.specs.Keys.{all_keys, is_one_of, key_text, lease_keys, token_keys, top_keys}
use Rattle.vault_inventory.specs.Values.{credential, end_value, flag_value, is_key_there, moment_value, need, path, span, tables, text}

-- the first of these that there is
abbrev pub first_fault_of : List (Option InvFault) → Option InvFault
first_fault_of [] = None
first_fault_of (Some fault ∷ rest) = Some fault
first_fault_of (None ∷ rest) = first_fault_of rest

abbrev pub fault_if : Bool → InvFault → Option InvFault
fault_if at_fault fault = if at_fault then Some fault else None

-- ---- one fault by itself

-- a table has another key than these
abbrev pub unknown : List Key → Option ℕ → Members → Option InvFault
unknown keys place ms = fault_if (not (all_keys (is_one_of keys) ms)) (UnknownKey place)

abbrev pub bad_if : {A : Type 0} → (Data → Option A) → Option ℕ → Key → Option Data → Option InvFault
bad_if f place key None = None
bad_if f place key (Some d) = fault_if (not (is_some (f d))) (BadValue place key)

-- the key is there, and its value does not read so
abbrev pub bad : {A : Type 0} → (Data → Option A) → Option ℕ → Key → Members → Option InvFault
bad f place key ms = bad_if f place key (get_member (key_text key) ms)

-- a key that has to be there is not
abbrev pub missing_key : Bool → ℕ → Key → Members → Option InvFault
missing_key must i key ms = fault_if (must && not (is_key_there key ms)) (MissingKey i key)

-- a key stands beside one that excludes it
abbrev pub excluded_beside : Key → ℕ → Key → Members → Option InvFault
excluded_beside other i key ms = fault_if (is_key_there other ms && is_key_there key ms) (BadValue (Some i) key)

-- ---- all faults, in their order

-- of the top level
abbrev pub top_faults : Members → List (Option InvFault)
top_faults ms =
    unknown top_keys None ms
    ∷ bad (span full 1 SPAN_MAX) None SystemMax ms
    ∷ bad (span full 1 MARGIN_MAX) None Margin ms
    ∷ bad tables None Token ms
    ∷ bad tables None Lease ms
    ∷ []

-- of the table of the token that is the entry at an index
abbrev pub token_faults : ℕ → Members → List (Option InvFault)
token_faults i ms =
    unknown (token_keys full) (Some i) ms
    ∷ bad text (Some i) Name ms
    ∷ missing_key true i Name ms
    ∷ bad text (Some i) Parent ms
    ∷ bad moment_value (Some i) Issued ms
    ∷ missing_key (is_key_there End ms) i Issued ms
    ∷ bad end_value (Some i) End ms
    ∷ missing_key (is_key_there Issued ms) i End ms
    ∷ bad flag_value (Some i) Renewable ms
    ∷ bad (span full 0 SPAN_MAX) (Some i) Increment ms
    ∷ bad (span full 0 SPAN_MAX) (Some i) Period ms
    ∷ bad (span full 0 SPAN_MAX) (Some i) MaxTtl ms
    ∷ bad (span full 0 SPAN_MAX) (Some i) ExplicitMaxTtl ms
    ∷ bad flag_value (Some i) Reissued ms
    ∷ bad (need full) (Some i) Need ms
    ∷ bad credential (Some i) Secret ms
    ∷ bad path (Some i) SecretFile ms
    ∷ excluded_beside Secret i SecretFile ms
    ∷ []

-- and of the lease
abbrev pub lease_faults : ℕ → Members → List (Option InvFault)
lease_faults i ms =
    unknown (lease_keys full) (Some i) ms
    ∷ bad text (Some i) Name ms
    ∷ missing_key true i Name ms
    ∷ bad text (Some i) Token ms
    ∷ missing_key true i Token ms
    ∷ bad moment_value (Some i) Issued ms
    ∷ missing_key (is_key_there End ms) i Issued ms
    ∷ bad end_value (Some i) End ms
    ∷ missing_key (is_key_there Issued ms) i End ms
    ∷ bad flag_value (Some i) Renewable ms
    ∷ bad (span full 0 SPAN_MAX) (Some i) Increment ms
    ∷ bad (span full 0 SPAN_MAX) (Some i) MaxTtl ms
    ∷ bad flag_value (Some i) Reissued ms
    ∷ bad (need full) (Some i) Need ms
    ∷ bad credential (Some i) LeaseId ms
    ∷ bad path (Some i) LeaseIdFile ms
    ∷ excluded_beside LeaseId i LeaseIdFile ms
    ∷ []

-- of the row of a table that has none of these: why the forest refuses the entry, and that an earlier one has its credential
abbrev pub row_faults : Key → Forest → List (List ℕ) → TableRow → List (Option InvFault)
row_faults key g texts row =
    option_map (Tree (length g.entries)) (entry_refusal g row.entry)
    ∷ fault_if (has_text texts row.credential) (BadValue (Some (length g.entries)) key)
    ∷ []

-- ---- the first of them

-- the first fault of the table of a token, or else of its row, where these entries stand before it
abbrev pub TokenFails : ℕ → Intake → Members → InvFault → Type 0
TokenFails system_max s ms fault =
    (first_fault_of (token_faults (length s.forest.entries) ms) ≡ Some fault)
    ⊎ ((row : TableRow) × (token_row full system_max s.forest ms ≡ Ok row) × (first_fault_of (row_faults (key_written Secret SecretFile row.note.file) s.forest s.secrets row) ≡ Some fault))

abbrev pub LeaseFails : ℕ → Intake → Members → InvFault → Type 0
LeaseFails system_max s ms fault =
    (first_fault_of (lease_faults (length s.forest.entries) ms) ≡ Some fault)
    ⊎ ((row : TableRow) × (lease_row full system_max s.forest ms ≡ Ok row) × (first_fault_of (row_faults (key_written LeaseId LeaseIdFile row.note.file) s.forest s.lease_ids row) ≡ Some fault))

-- the first n tables
abbrev pub front : ℕ → Items → Items
front n no_items = no_items
front zero (item d ds) = no_items
front (suc n) (item d ds) = item d (front n ds)

-- the first table at fault: all before it are taken, and it has this fault, whatever stands after it
pub record IsFirstIn (step : Intake → Members → Result Intake InvFault) (Fails : Intake → Members → InvFault → Type 0) (key : Key) (s : Intake) (ds : Items) (fault : InvFault) : Type 0 where
  pub place : ℕ
  pub members : Members
  pub stands : get_item place ds ≡ Some (table members)
  pub taken : Intake
  pub before : entered_by step key s (front place ds) ≡ Ok taken
  pub index : length taken.forest.entries ≡ length s.forest.entries + place
  pub fails : Fails taken members fault

abbrev pub IsFirstToken : ℕ → Intake → Items → InvFault → Type 0
IsFirstToken system_max s ds fault = IsFirstIn (token_entered full system_max) (TokenFails system_max) Token s ds fault

abbrev pub IsFirstLease : ℕ → Intake → Items → InvFault → Type 0
IsFirstLease system_max s ds fault = IsFirstIn (lease_entered full system_max) (LeaseFails system_max) Lease s ds fault

-- the first table at fault of a document whose top level has no fault: that of a token, or where all of them are taken, of a lease
pub record IsInTables (ms : Members) (fault : InvFault) : Type 0 where
  pub system_max : ℕ
  pub system_max_written : WritesOr (span full 1 SPAN_MAX) SystemMax ms SYSTEM_MAX system_max
  pub margin : ℕ
  pub margin_written : WritesOr (span full 1 MARGIN_MAX) Margin ms 1 margin
  pub tokens : Items
  pub tokens_written : WritesOr tables Token ms no_items tokens
  pub leases : Items
  pub leases_written : WritesOr tables Lease ms no_items leases
  pub first : IsFirstToken system_max (empty_intake margin) tokens fault
      ⊎ ((s : Intake) × (entered_by (token_entered full system_max) Token (empty_intake margin) tokens ≡ Ok s) × IsFirstLease system_max s leases fault)

-- the first fault of a document's tree
abbrev pub IsFirstFault : Members → InvFault → Type 0
IsFirstFault ms fault = (first_fault_of (top_faults ms) ≡ Some fault) ⊎ ((first_fault_of (top_faults ms) ≡ None) × IsInTables ms fault)

-- the fault that is told of a text is its first: it has no tree, or that is the first of its tree
abbrev pub FirstFaultLaw : Type 0
FirstFaultLaw =
    (bytes : List ℕ) (fault : InvFault) → read_served bytes ≡ Err fault →
    ((document_tree bytes ≡ Err fault) × (fault ≡ NotToml)) ⊎ ((ms : Members) × (document_tree bytes ≡ Ok ms) × IsFirstFault ms fault)
