-- The bodies that this crate writes, byte for byte: compact, keys in byte order.
-- RFC 8259, section 7: a text is written between quotation marks, with its escapes (`quoted`).
-- Vault, HTTP API `auth/token` and `sys/leases`: the names of the fields. A broker writes `period` only where it is not 0.
use Rattle.std.specs.Prelude.{◌≡◌, ℕ, ◌==◌, List, [], ◌++◌, Bool, true, false, codes, decimal, if◌then◌else◌}
use Rattle.json.specs.Print.{quoted}
use Rattle.base_moment.specs.Rfc3339.{IsDateText}

abbrev pub flag_text : Bool → List ℕ
flag_text true = codes "true"
flag_text false = codes "false"

-- ---- of the agent's requests

unfoldable pub renew_text : ℕ → List ℕ
renew_text step = codes "{\"increment\":" ++ decimal step ++ codes "}"

unfoldable pub lease_text : List ℕ → ℕ → List ℕ
lease_text id step = codes "{\"increment\":" ++ decimal step ++ codes ",\"lease_id\":" ++ quoted id ++ codes "}"

unfoldable pub lookup_text : List ℕ → List ℕ
lookup_text id = codes "{\"lease_id\":" ++ quoted id ++ codes "}"

-- ---- of a broker's replies

unfoldable pub renewed_self_text : ℕ → Bool → List ℕ
renewed_self_text seconds renewable =
    codes "{\"auth\":{\"lease_duration\":" ++ decimal seconds ++ codes ",\"renewable\":" ++ flag_text renewable ++ codes "}}"

unfoldable pub renewed_lease_text : List ℕ → ℕ → Bool → List ℕ
renewed_lease_text id seconds renewable =
    codes "{\"lease_duration\":" ++ decimal seconds ++ codes ",\"lease_id\":" ++ quoted id ++ codes ",\"renewable\":" ++ flag_text renewable ++ codes "}"

abbrev pub period_text : ℕ → List ℕ
period_text period = if period == 0 then [] else codes ",\"period\":" ++ decimal period

unfoldable pub looked_self_text : ℕ → ℕ → ℕ → Bool → Bool → ℕ → List ℕ
looked_self_text ttl created explicit_max orphan renewable period =
    codes "{\"data\":{\"creation_time\":" ++ decimal created ++ codes ",\"explicit_max_ttl\":" ++ decimal explicit_max ++ codes ",\"orphan\":" ++ flag_text orphan
    ++ period_text period ++ codes ",\"renewable\":" ++ flag_text renewable ++ codes ",\"ttl\":" ++ decimal ttl ++ codes "}}"

-- `issue_time` is a text of the lease's issue
unfoldable pub looked_lease_text : List ℕ → List ℕ → Bool → ℕ → List ℕ
looked_lease_text id issue_time renewable ttl =
    codes "{\"data\":{\"id\":" ++ quoted id ++ codes ",\"issue_time\":" ++ quoted issue_time ++ codes ",\"renewable\":" ++ flag_text renewable
    ++ codes ",\"ttl\":" ++ decimal ttl ++ codes "}}"

-- the body is that of a lease's lookup, with the date by RFC 3339 of the moment at which it was issued
abbrev pub IsLookedLease : List ℕ → List ℕ → ℕ → Bool → ℕ → Type 0
IsLookedLease body id issued renewable ttl = (date : List ℕ) × IsDateText date issued × (body ≡ looked_lease_text id date renewable ttl)

unfoldable pub errors_text : List ℕ → List ℕ
errors_text text = codes "{\"errors\":[" ++ quoted text ++ codes "]}"
