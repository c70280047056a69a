-- Lookup: what an inventory is once a broker has said of an entry what it knows of it, or why that was not said of this entry.
-- Source: Vault, HTTP API: `auth/token`, "Lookup a token (self)"; `sys/leases`, "Read lease"; Vault, "Tokens"; Vault, "Lease,
-- renew, and revoke".
use Rattle.std.specs.Prelude.{ℕ, ◌+◌, ◌&&◌, Option, Some, None, is_some, nat_lt, bytes_eq, slice_set, if◌then◌else◌}
use Rattle.plan_forest.specs.{declared.entry.Entry.Entry, Forest.entry_at, Push.is_lease}
use Rattle.vault_json.specs.declared.lookup.Lookup.{Lookup}
use Rattle.vault_json.specs.declared.lookup.Lookup.TheVariants.{Token, Lease}
use Rattle.vault_inventory.specs.{declared.lookup.LookupFault.LookupFault, declared.terms.Terms.Terms, Terms.ceiling_of, Terms.step_of}
use Rattle.vault_inventory.specs.declared.lookup.LookupFault.TheVariants.{OtherKind, OtherEntry, OtherTree, NoStep}
use Rattle.vault_inventory.specs.Inventories.{Inventory, credential_at, terms_at}

-- the terms as they then are: of a token its issue, its period and its explicit max TTL are told, of a lease its issue. The
-- increment and the maximum TTL stay those that are written
abbrev pub told_terms : Lookup → Terms → Terms
told_terms (Token ttl created explicit_max orphan renewable period) t = record t { issued = created; period = period; explicit_max = explicit_max }
told_terms (Lease id issued renewable ttl) t = record t { issued = issued }

-- the entry as it then is, on those terms: a lease keeps its step
abbrev pub told_entry : ℕ → Lookup → Terms → Entry → Entry
told_entry now (Token ttl created explicit_max orphan renewable period) t e =
    record e { end = now + ttl; renewable = renewable; step = step_of t; ceiling = ceiling_of t }
told_entry now (Lease id issued renewable ttl) t e = record e { end = now + ttl; renewable = renewable; ceiling = ceiling_of t }

-- the inventory as it then is
unfoldable pub told : Inventory → ℕ → Lookup → ℕ → Inventory
told s i lookup now = record s {
  forest = record s.forest { entries = slice_set s.forest.entries i (told_entry now lookup (told_terms lookup (terms_at s.terms i)) (entry_at s.forest.entries i)) };
  terms = slice_set s.terms i (told_terms lookup (terms_at s.terms i));
}

-- why a lookup is not applied to an entry: the first that holds of the other kind, of a lease with another id, of an orphan
-- where a parent is named, and of a step that is not past the margin (0 where there is no period and no increment)
unfoldable pub lookup_fault : Inventory → ℕ → Lookup → Option LookupFault
lookup_fault s i (Token ttl created explicit_max orphan renewable period) =
    if is_lease (entry_at s.forest.entries i).kind then Some OtherKind
    else (if orphan && is_some (entry_at s.forest.entries i).parent then Some OtherTree
    else (if nat_lt (step_of (told_terms (Token ttl created explicit_max orphan renewable period) (terms_at s.terms i))) (s.forest.margin + 1) then Some NoStep
    else None))
lookup_fault s i (Lease id issued renewable ttl) =
    if is_lease (entry_at s.forest.entries i).kind then (if bytes_eq (credential_at s.credentials i) id then None else Some OtherEntry)
    else Some OtherKind
