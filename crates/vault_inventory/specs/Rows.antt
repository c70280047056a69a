-- A table `[[token]]` or `[[lease]]` of an inventory as an entry, in either language.
-- Source: Vault, "Tokens"; Vault, "Lease, renew, and revoke"; the keys are this project's own.
use Rattle.std.specs.Prelude.{ℕ, Bool, true, false, ◌==◌, ◌&&◌, ◌||◌, List, Option, Some, is_some, Result, Ok, unwrap_or, length, if◌then◌else◌, option_map}
use Rattle.toml.specs.Data.{Members}
use Rattle.plan_forest.specs.declared.entry.Kind.TheVariants as kind
use Rattle.plan_forest.specs.Forest.{Forest, index_named}
use Rattle.vault_inventory.specs.{declared.fault.InvFault.InvFault, declared.key.Key.Key, declared.limits.TheConstants.SPAN_MAX, declared.limits.TheConstants.STEP_ABSENT, declared.note.EntryNote.EntryNote, declared.row.Life.Life}
use Rattle.vault_inventory.specs.{declared.row.TableRow.TableRow, declared.terms.Terms.Terms, Languages.Language, Languages.is_strict, Needs.is_for_good, Needs.until_of, Keys.token_keys, Keys.lease_keys}
use Rattle.vault_inventory.specs.declared.key.Key.TheVariants.{Token, Name, Parent, Issued, End, Renewable, Increment, Period, MaxTtl, ExplicitMaxTtl, Reissued, Need, Secret, SecretFile, LeaseId, LeaseIdFile}
use Rattle.vault_inventory.specs.Values.{only, span, moment_value, end_value, need, flag_value, text, credential, path, value_at, is_key_there, has_if, alone_if, needed_value}
use Rattle.vault_inventory.specs.Terms.{step_of, ceiling_of, max_ttl_of}
use Rattle.vault_inventory.specs.Answers.{◌>>=◌}
use Rattle.vault_inventory.specs.declared.need.Need as needs

-- the index of the entry of that name, or that of no entry
unfoldable pub index_or_none : Forest → List ℕ → ℕ
index_or_none g name = unwrap_or (index_named g.entries name) (length g.entries)

-- issue, end, and whether it can be renewed. In the full language issue and end may both be left out: a lookup tells them
unfoldable pub life_of_table : Language → ℕ → Members → Result Life InvFault
life_of_table l index ms = do
  issued ← value_at moment_value (Some index) Issued ms
  issue_there ← has_if (is_strict l || is_key_there End ms) index Issued (is_some issued)
  ends ← value_at end_value (Some index) End ms
  end_there ← has_if (is_strict l || is_some issued) index End (is_some ends)
  renewable ← value_at flag_value (Some index) Renewable ms
  Ok (record { issued = unwrap_or issued 0; end = unwrap_or ends 0; renewable = unwrap_or renewable true; is_told = is_some issued })

-- what is asked for where there is no period: the increment, or an hour where none is written
abbrev pub step_or : Option ℕ → ℕ → Option ℕ
step_or increment period = if period == 0 then Some (unwrap_or increment STEP_ABSENT) else increment

-- the strict language wants an increment where there is no period
unfoldable pub token_terms : Language → ℕ → ℕ → ℕ → Members → Result Terms InvFault
token_terms l system_max index issued ms = do
  increment ← value_at (span l 0 SPAN_MAX) (Some index) Increment ms
  period ← value_at (span l 0 SPAN_MAX) (Some index) Period ms
  step_there ← has_if (is_strict l && (unwrap_or period 0 == 0)) index Increment (is_some increment)
  max_ttl ← value_at (span l 0 SPAN_MAX) (Some index) MaxTtl ms
  explicit_max ← value_at (span l 0 SPAN_MAX) (Some index) ExplicitMaxTtl ms
  reissued ← value_at flag_value (Some index) Reissued ms
  Ok (record { issued = issued; increment = step_or increment (unwrap_or period 0); period = unwrap_or period 0; max_ttl = max_ttl_of system_max max_ttl; explicit_max = unwrap_or explicit_max 0; reissued = unwrap_or reissued false })

unfoldable pub lease_terms : Language → ℕ → ℕ → ℕ → Members → Result Terms InvFault
lease_terms l system_max index issued ms = do
  increment ← value_at (span l 0 SPAN_MAX) (Some index) Increment ms
  step_there ← has_if (is_strict l) index Increment (is_some increment)
  max_ttl ← value_at (span l 0 SPAN_MAX) (Some index) MaxTtl ms
  reissued ← value_at flag_value (Some index) Reissued ms
  Ok (record { issued = issued; increment = Some (unwrap_or increment STEP_ABSENT); period = 0; max_ttl = max_ttl_of system_max max_ttl; explicit_max = 0; reissued = unwrap_or reissued false })

-- the path of the file that holds a credential, which may not be written beside the credential itself
abbrev pub file_at : ℕ → Key → Bool → Members → Result (Option (List ℕ)) InvFault
file_at index key has_credential ms = do
  file ← value_at path (Some index) key ms
  alone ← alone_if has_credential index key (is_some file)
  Ok file

-- what a table leaves open
abbrev pub note_of : Life → Option needs.Need → Option (List ℕ) → EntryNote
note_of life need_if file = record { is_told = life.is_told; is_always = is_for_good need_if; file = file }

-- the entry, the credential, the terms and the note that the table of the next token writes, or its first fault
unfoldable pub token_row : Language → ℕ → Forest → Members → Result TableRow InvFault
token_row l system_max g ms = do
  known ← only (token_keys l) (Some (length g.entries)) ms
  name_if ← value_at text (Some (length g.entries)) Name ms
  name ← needed_value (length g.entries) Name name_if
  parent ← value_at text (Some (length g.entries)) Parent ms
  life ← life_of_table l (length g.entries) ms
  terms ← token_terms l system_max (length g.entries) life.issued ms
  need_if ← value_at (need l) (Some (length g.entries)) Need ms
  secret ← value_at credential (Some (length g.entries)) Secret ms
  file ← file_at (length g.entries) SecretFile (is_some secret) ms
  Ok (record { entry = record { name = name; kind = kind.Token; parent = option_map (index_or_none g) parent; end = life.end; renewable = life.renewable; step = step_of terms; ceiling = ceiling_of terms; need = until_of need_if }; credential = unwrap_or secret name; terms = terms; note = note_of life need_if file })

-- the same of the next lease
unfoldable pub lease_row : Language → ℕ → Forest → Members → Result TableRow InvFault
lease_row l system_max g ms = do
  known ← only (lease_keys l) (Some (length g.entries)) ms
  name_if ← value_at text (Some (length g.entries)) Name ms
  name ← needed_value (length g.entries) Name name_if
  token_if ← value_at text (Some (length g.entries)) Token ms
  token ← needed_value (length g.entries) Token token_if
  life ← life_of_table l (length g.entries) ms
  terms ← lease_terms l system_max (length g.entries) life.issued ms
  need_if ← value_at (need l) (Some (length g.entries)) Need ms
  lease_id ← value_at credential (Some (length g.entries)) LeaseId ms
  file ← file_at (length g.entries) LeaseIdFile (is_some lease_id) ms
  Ok (record { entry = record { name = name; kind = kind.Lease; parent = Some (index_or_none g token); end = life.end; renewable = life.renewable; step = step_of terms; ceiling = ceiling_of terms; need = until_of need_if }; credential = unwrap_or lease_id name; terms = terms; note = note_of life need_if file })
