-- Written: what a document writes of each entry of its inventory, table by table, in the words of its keys.
-- Source: Vault, "Tokens"; Vault, "Lease, renew, and revoke"; the keys are this project's own.
use Rattle.std.specs.Prelude.{◌≡◌, ℕ, suc, ◌+◌, ◌<◌, ◌&&◌, Bool, true, false, List, Option, Some, None, is_some, length, unwrap_or}
use Rattle.toml.specs.Data.{Data, table, Items, no_items, item, Members, get_item, get_member}
use Rattle.plan_forest.specs.{declared.entry.Entry.Entry, declared.forest.TheConstants.MARGIN_MAX, Forest.entry_at}
use Rattle.plan_forest.specs.declared.entry.Kind.TheVariants as kind
use Rattle.vault_inventory.specs.{declared.key.Key.Key, declared.note.EntryNote.EntryNote, declared.terms.Terms.Terms, Inventories.credential_at, Inventories.terms_at, Languages.full, Needs.is_for_good, Needs.until_of, Rows.step_or}
use Rattle.vault_inventory.specs.{Served.Served, Served.note_at}
use Rattle.vault_inventory.specs.declared.key.Key.TheVariants.{SystemMax, Margin, Token, Lease, Name, Parent, Issued, End, Renewable, Increment, Period, MaxTtl, ExplicitMaxTtl, Reissued, Need, Secret, SecretFile, LeaseId, LeaseIdFile}
use Rattle.vault_inventory.specs.declared.limits.TheConstants.{SPAN_MAX, STEP_ABSENT, SYSTEM_MAX}
use Rattle.vault_inventory.specs.Keys.{all_keys, is_one_of, key_text, lease_keys, token_keys, top_keys}
use Rattle.vault_inventory.specs.Terms.{ceiling_of, max_ttl_of, step_of}
use Rattle.vault_inventory.specs.Values.{credential, end_value, flag_value, is_key_there, moment_value, need, path, span, tables, text}
use Rattle.vault_inventory.specs.declared.need.Need as needs

-- the key is absent, or its value reads so
abbrev pub WritesKey : {A : Type 0} → (Data → Option A) → Key → Members → Option A → Type 0
WritesKey f key ms None = get_member (key_text key) ms ≡ None
WritesKey f key ms (Some x) = (d : Data) × (get_member (key_text key) ms ≡ Some d) × (f d ≡ Some x)

-- what is written at a key, or what stands for it where the key is absent
abbrev pub WritesOr : {A : Type 0} → (Data → Option A) → Key → Members → A → A → Type 0
WritesOr {A = A} f key ms absent x = (o : Option A) × WritesKey f key ms o × (x ≡ unwrap_or o absent)

-- the maximum TTL: what is written, or the system's where that is 0 or absent
abbrev pub WritesMost : ℕ → Members → ℕ → Type 0
WritesMost system_max ms n = (o : Option ℕ) × WritesKey (span full 0 SPAN_MAX) MaxTtl ms o × (n ≡ max_ttl_of system_max o)

-- the parent of the entry at an index is an earlier entry of that name
abbrev pub ParentIsNamed : List Entry → ℕ → List ℕ → Option ℕ → Type 0
ParentIsNamed es i name None = ⊥
ParentIsNamed es i name (Some p) = (p < i) × ((entry_at es p).name ≡ name)

-- and there is none where no name is written
abbrev pub IsParent : List Entry → ℕ → Option (List ℕ) → Option ℕ → Type 0
IsParent es i None parent = parent ≡ None
IsParent es i (Some name) parent = ParentIsNamed es i name parent

-- issue and end are both written, or neither is, and then both are 0
abbrev pub EndIsTold : Members → Entry → Terms → Bool → Type 0
EndIsTold ms e t true = WritesKey moment_value Issued ms (Some t.issued) × WritesKey end_value End ms (Some e.end)
EndIsTold ms e t false = WritesKey moment_value Issued ms None × WritesKey end_value End ms None × (t.issued ≡ 0) × (e.end ≡ 0)

-- a table of either kind: when its entry was issued, its end, whether it can be renewed, and until when it is needed
pub record IsLife (ms : Members) (e : Entry) (t : Terms) (note : EntryNote) : Type 0 where
  pub name : WritesKey text Name ms (Some e.name)
  pub told : EndIsTold ms e t note.is_told
  pub renewable : WritesOr flag_value Renewable ms true e.renewable
  pub until : Option needs.Need
  pub need : WritesKey (need full) Need ms until
  pub need_is : e.need ≡ until_of until
  pub always_is : note.is_always ≡ is_for_good until
  pub step : e.step ≡ step_of t
  pub ceiling : e.ceiling ≡ ceiling_of t

-- the credential that is written, or the name; or, and then no credential is written, the file that holds it
pub record IsSecret (key file_key : Key) (ms : Members) (name sent : List ℕ) (file : Option (List ℕ)) : Type 0 where
  pub secret : Option (List ℕ)
  pub written : WritesKey credential key ms secret
  pub sent_is : sent ≡ unwrap_or secret name
  pub file_written : WritesKey path file_key ms file
  pub alone : is_some secret && is_some file ≡ false

-- the entry at an index, its credential, its terms and its note are those of a table `[[token]]`
pub record IsToken (system_max : ℕ) (es : List Entry) (i : ℕ) (ms : Members) (e : Entry) (sent : List ℕ) (t : Terms) (note : EntryNote) : Type 0 where
  pub keys : all_keys (is_one_of (token_keys full)) ms ≡ true
  pub kind : e.kind ≡ kind.Token
  pub life : IsLife ms e t note
  pub name : Option (List ℕ)
  pub parent : WritesKey text Parent ms name
  pub parent_is : IsParent es i name e.parent
  pub increment : Option ℕ
  pub increment_written : WritesKey (span full 0 SPAN_MAX) Increment ms increment
  pub increment_is : t.increment ≡ step_or increment t.period
  pub period : WritesOr (span full 0 SPAN_MAX) Period ms 0 t.period
  pub max_ttl : WritesMost system_max ms t.max_ttl
  pub explicit_max : WritesOr (span full 0 SPAN_MAX) ExplicitMaxTtl ms 0 t.explicit_max
  pub reissued : WritesOr flag_value Reissued ms false t.reissued
  pub secret : IsSecret Secret SecretFile ms e.name sent note.file

-- and those of a table `[[lease]]`
pub record IsLease (system_max : ℕ) (es : List Entry) (i : ℕ) (ms : Members) (e : Entry) (sent : List ℕ) (t : Terms) (note : EntryNote) : Type 0 where
  pub keys : all_keys (is_one_of (lease_keys full)) ms ≡ true
  pub kind : e.kind ≡ kind.Lease
  pub life : IsLife ms e t note
  pub token : List ℕ
  pub token_written : WritesKey text Token ms (Some token)
  pub token_is : ParentIsNamed es i token e.parent
  pub increment : Option ℕ
  pub increment_written : WritesKey (span full 0 SPAN_MAX) Increment ms increment
  pub increment_is : t.increment ≡ Some (unwrap_or increment STEP_ABSENT)
  pub period : t.period ≡ 0
  pub max_ttl : WritesMost system_max ms t.max_ttl
  pub explicit_max : t.explicit_max ≡ 0
  pub reissued : WritesOr flag_value Reissued ms false t.reissued
  pub lease_id : IsSecret LeaseId LeaseIdFile ms e.name sent note.file

abbrev pub IsTokenAt : ℕ → Served → ℕ → Members → Type 0
IsTokenAt system_max v i ms = IsToken system_max v.inventory.forest.entries i ms (entry_at v.inventory.forest.entries i) (credential_at v.inventory.credentials i) (terms_at v.inventory.terms i) (note_at v.notes i)

abbrev pub IsLeaseAt : ℕ → Served → ℕ → Members → Type 0
IsLeaseAt system_max v i ms = IsLease system_max v.inventory.forest.entries i ms (entry_at v.inventory.forest.entries i) (credential_at v.inventory.credentials i) (terms_at v.inventory.terms i) (note_at v.notes i)

abbrev pub count_of : Items → ℕ
count_of no_items = 0
count_of (item d ds) = suc (count_of ds)

-- what is served has the margin and the maximum TTL of the system that a document writes, and one entry for each of its tables and no
-- other: the tokens in their order, then the leases in theirs
pub record DocumentWrites (ms : Members) (v : Served) : Type 0 where
  pub keys : all_keys (is_one_of top_keys) ms ≡ true
  pub system_max : WritesKey (span full 1 SPAN_MAX) SystemMax ms v.system_max
  pub margin : WritesOr (span full 1 MARGIN_MAX) Margin ms 1 v.inventory.forest.margin
  pub has_margin : v.has_margin ≡ is_key_there Margin ms
  pub tokens : Items
  pub tokens_written : WritesOr tables Token ms no_items tokens
  pub leases : Items
  pub leases_written : WritesOr tables Lease ms no_items leases
  pub count : length v.inventory.forest.entries ≡ count_of tokens + count_of leases
  pub each_token : (i : ℕ) (ns : Members) → get_item i tokens ≡ Some (table ns) → IsTokenAt (unwrap_or v.system_max SYSTEM_MAX) v i ns
  pub each_lease : (i : ℕ) (ns : Members) → get_item i leases ≡ Some (table ns) → IsLeaseAt (unwrap_or v.system_max SYSTEM_MAX) v (count_of tokens + i) ns
