-- The bodies of requests, as a broker reads them.
-- Vault, HTTP API: `auth/token`, "Renew a token (self)"; `sys/leases`, "Renew lease" and "Read lease".
use Rattle.std.specs.Prelude.{ℕ, ◌==◌, List, length, if◌then◌else◌, Result, Ok, Option, Some, None, option_map}
use Rattle.serde_json.specs.{Data.Data, Find.as_str}
use Rattle.vault_json.specs.Answer.{◌>>=◌}
use Rattle.vault_json.specs.{Body.object_of_bytes, Duration.duration_of_value, Field.required, Field.optional, declared.field.Field.TheVariants.Increment, declared.field.Field.TheVariants.LeaseId, declared.fault.ReplyFault.ReplyFault}

-- a duration that is there
abbrev pub asked_duration : Data → Option (Option ℕ)
asked_duration d = option_map Some (duration_of_value d)

-- the increment that a request's bytes ask for: none where they are no bytes, or the field is absent or null
unfoldable pub increment_answer : List ℕ → Result (Option ℕ) ReplyFault
increment_answer bytes = if length bytes == 0 then Ok None else (object_of_bytes bytes >>= optional Increment None asked_duration)

-- the lease id that a request's bytes name
unfoldable pub lease_id_answer : List ℕ → Result (List ℕ) ReplyFault
lease_id_answer bytes = object_of_bytes bytes >>= required LeaseId as_str
