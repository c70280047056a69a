-- The replies to a lookup.
-- Vault, HTTP API: `auth/token`, "Lookup a token (self)"; `sys/leases`, "Read lease".
use Rattle.std.specs.Prelude.{ℕ, ◌==◌, List, Bool, false, ◌&&◌, is_none, Result, Ok}
use Rattle.serde_json.specs.{Data.Data, Find.as_bool, Find.as_str}
use Rattle.vault_json.specs.Answer.{◌>>=◌}
use Rattle.vault_json.specs.{Body.reply_object, Duration.duration_of_value, Field.member_of, Field.required, Field.optional, Field.object_of, Field.timestamp_of, Field.date_in_text}
use Rattle.vault_json.specs.{declared.field.Field.TheVariants.CreationTime, declared.field.Field.TheVariants.Data as DataField, declared.field.Field.TheVariants.ExpireTime, declared.field.Field.TheVariants.ExplicitMaxTtl, declared.field.Field.TheVariants.Id, declared.field.Field.TheVariants.IssueTime, declared.field.Field.TheVariants.Orphan, declared.field.Field.TheVariants.Period, declared.field.Field.TheVariants.Renewable, declared.field.Field.TheVariants.Ttl}
use Rattle.vault_json.specs.{declared.fault.ReplyFault.ReplyFault, declared.lookup.Lookup.Lookup, declared.lookup.Lookup.TheVariants.Token, declared.lookup.Lookup.TheVariants.Lease}

-- what an object says of a token, in its object `data`
unfoldable pub looked_self_in : Data → Result Lookup ReplyFault
looked_self_in body = do
  about ← required DataField object_of body
  ttl ← required Ttl duration_of_value about
  created ← required CreationTime timestamp_of about
  explicit_max ← optional ExplicitMaxTtl 0 duration_of_value about
  orphan ← optional Orphan false as_bool about
  renewable ← optional Renewable false as_bool about
  period ← optional Period 0 duration_of_value about
  Ok (Token ttl created explicit_max orphan renewable period)

-- Body and answer, of the reply to a token's lookup
unfoldable pub lookup_self_answer : List ℕ → Result Lookup ReplyFault
lookup_self_answer bytes = reply_object bytes >>= looked_self_in

-- whether an object says of a token, in its object `data`, that it never ends: 0 seconds are left of it, and no moment at
-- which it ends is told. Vault tells an ended token's lookup with 403, so nothing but a token without an end, as its first
-- root token, is told so.
unfoldable pub never_ends_in : Data → Result Bool ReplyFault
never_ends_in body = do
  about ← required DataField object_of body
  ttl ← required Ttl duration_of_value about
  Ok (ttl == 0 && is_none (member_of ExpireTime about))

-- Body and answer, of the reply to a token's lookup
unfoldable pub never_ends_answer : List ℕ → Result Bool ReplyFault
never_ends_answer bytes = reply_object bytes >>= never_ends_in

-- what an object says of a lease, in its object `data`, or at its top level where it has none
unfoldable pub looked_lease_in : Data → Result Lookup ReplyFault
looked_lease_in body = do
  about ← optional DataField body object_of body
  id ← required Id as_str about
  issued ← required IssueTime date_in_text about
  renewable ← optional Renewable false as_bool about
  ttl ← required Ttl duration_of_value about
  Ok (Lease id issued renewable ttl)

-- Body and answer, of the reply to a lease's lookup
unfoldable pub lookup_lease_answer : List ℕ → Result Lookup ReplyFault
lookup_lease_answer bytes = reply_object bytes >>= looked_lease_in
