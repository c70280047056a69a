-- The fields of bodies, and how one is read from an object.
-- Vault, HTTP API `auth/token` and `sys/leases`: the names of the fields. Which are read, and that null is as good as
-- absent, is this project's profile.
use Rattle.std.specs.Prelude.{ℕ, List, codes, nat_le, if◌then◌else◌, Result, Ok, Err, Option, Some, None}
use Rattle.base_moment.specs.{declared.moment.TheConstants.LAST, MomentOf.moment_of}
use Rattle.std.specs.Result.{result_ok}
use Rattle.serde_json.specs.{Data.Num, Data.unsigned, Data.negative, Data.float, Data.Data, Data.null, Data.boolean, Data.number, Data.string, Data.array, Data.object, Find.get}
use Rattle.vault_json.specs.{Answer.or_bad, declared.field.Field.Field}
use Rattle.vault_json.specs.{declared.field.Field.TheVariants.Auth, declared.field.Field.TheVariants.CreationTime, declared.field.Field.TheVariants.Data as DataField, declared.field.Field.TheVariants.ExpireTime, declared.field.Field.TheVariants.ExplicitMaxTtl, declared.field.Field.TheVariants.Id, declared.field.Field.TheVariants.Increment, declared.field.Field.TheVariants.IssueTime, declared.field.Field.TheVariants.LeaseDuration, declared.field.Field.TheVariants.LeaseId, declared.field.Field.TheVariants.Orphan, declared.field.Field.TheVariants.Period, declared.field.Field.TheVariants.Renewable, declared.field.Field.TheVariants.Ttl}
use Rattle.vault_json.specs.{declared.fault.ReplyFault.ReplyFault, declared.fault.ReplyFault.TheVariants.Missing}

-- a field's key
unfoldable pub key_of : Field → List ℕ
key_of Auth = codes "auth"
key_of CreationTime = codes "creation_time"
key_of DataField = codes "data"
key_of ExpireTime = codes "expire_time"
key_of ExplicitMaxTtl = codes "explicit_max_ttl"
key_of Id = codes "id"
key_of Increment = codes "increment"
key_of IssueTime = codes "issue_time"
key_of LeaseDuration = codes "lease_duration"
key_of LeaseId = codes "lease_id"
key_of Orphan = codes "orphan"
key_of Period = codes "period"
key_of Renewable = codes "renewable"
key_of Ttl = codes "ttl"

-- what is there, null being as good as absent
abbrev pub present : Option Data → Option Data
present None = None
present (Some null) = None
present (Some (boolean b)) = Some (boolean b)
present (Some (number n)) = Some (number n)
present (Some (string s)) = Some (string s)
present (Some (array ds)) = Some (array ds)
present (Some (object ms)) = Some (object ms)

-- the value of a field of an object
unfoldable pub member_of : Field → Data → Option Data
member_of field d = present (get (key_of field) d)

abbrev pub or_missing : {A : Type 0} → Field → (Data → Option A) → Option Data → Result A ReplyFault
or_missing field reading None = Err (Missing field)
or_missing field reading (Some d) = or_bad field (reading d)

abbrev pub or_default : {A : Type 0} → Field → A → (Data → Option A) → Option Data → Result A ReplyFault
or_default field default reading None = Ok default
or_default field default reading (Some d) = or_bad field (reading d)

-- a field that must be there: else Missing, and BadField where its value has no such reading
unfoldable pub required : {A : Type 0} → Field → (Data → Option A) → Data → Result A ReplyFault
required field reading d = or_missing field reading (member_of field d)

-- a field that may be absent, and then has a default
unfoldable pub optional : {A : Type 0} → Field → A → (Data → Option A) → Data → Result A ReplyFault
optional field default reading d = or_default field default reading (member_of field d)

-- ---- readings, beside serde_json's `as_bool` and `as_str`

-- an object, as a tree again
abbrev pub object_of : Data → Option Data
object_of null = None
object_of (boolean b) = None
object_of (number n) = None
object_of (string s) = None
object_of (array ds) = None
object_of (object ms) = Some (object ms)

-- a whole number of seconds since 1970-01-01T00:00:00Z, up to the last moment
abbrev pub timestamp_of_number : Num → Option ℕ
timestamp_of_number (unsigned n) = if nat_le n LAST then Some n else None
timestamp_of_number (negative z) = None
timestamp_of_number (float x) = None

abbrev pub timestamp_of : Data → Option ℕ
timestamp_of null = None
timestamp_of (boolean b) = None
timestamp_of (number n) = timestamp_of_number n
timestamp_of (string s) = None
timestamp_of (array ds) = None
timestamp_of (object ms) = None

-- a text by RFC 3339, section 5.6, as base_moment reads it, of a moment from 1970 to the last
abbrev pub date_in_text : Data → Option ℕ
date_in_text null = None
date_in_text (boolean b) = None
date_in_text (number n) = None
date_in_text (string s) = result_ok (moment_of s)
date_in_text (array ds) = None
date_in_text (object ms) = None
