-- The replies to a renewal.
-- Vault, HTTP API: `auth/token`, "Renew a token (self)"; `sys/leases`, "Renew lease".
use Rattle.std.specs.Prelude.{ℕ, List, false, Result, Ok}
use Rattle.serde_json.specs.{Data.Data, Find.as_bool, Find.as_str}
use Rattle.vault_json.specs.Answer.{◌>>=◌}
use Rattle.vault_json.specs.{Body.reply_object, Duration.duration_of_value, Field.required, Field.optional, Field.object_of}
use Rattle.vault_json.specs.{declared.field.Field.TheVariants.Auth, declared.field.Field.TheVariants.LeaseDuration, declared.field.Field.TheVariants.LeaseId, declared.field.Field.TheVariants.Renewable, declared.fault.ReplyFault.ReplyFault}
use Rattle.vault_json.specs.{declared.renewed.Renewed.Renewed, declared.renewed.RenewedLease.RenewedLease}

-- what an object says of a token's renewal, in its object `auth`
unfoldable pub renewed_in_object : Data → Result Renewed ReplyFault
renewed_in_object body = do
  auth ← required Auth object_of body
  seconds ← required LeaseDuration duration_of_value auth
  renewable ← optional Renewable false as_bool auth
  Ok (record { seconds = seconds; renewable = renewable })

-- what an object says of a lease's renewal, at its top level
unfoldable pub renewed_lease_in : Data → Result RenewedLease ReplyFault
renewed_lease_in body = do
  lease_id ← required LeaseId as_str body
  seconds ← required LeaseDuration duration_of_value body
  renewable ← optional Renewable false as_bool body
  Ok (record { lease_id = lease_id; seconds = seconds; renewable = renewable })

-- Body and answer, of the reply to a token's renewal
unfoldable pub renew_self_answer : List ℕ → Result Renewed ReplyFault
renew_self_answer bytes = reply_object bytes >>= renewed_in_object

-- Body and answer, of the reply to a lease's renewal
unfoldable pub renew_lease_answer : List ℕ → Result RenewedLease ReplyFault
renew_lease_answer bytes = reply_object bytes >>= renewed_lease_in
