-- What a request asks: which of four calls, with which method, and what its body says.
-- Source: Vault, HTTP API: `auth/token`, "Renew a token (self)" and "Lookup a token (self)"; `sys/leases`, "Renew lease"
-- and "Read lease".
use Rattle.std.specs.Prelude.{ℕ, Bool, true, false, ◌||◌, List, Option, Some, None, Result, Ok, Err, codes, bytes_eq, if◌then◌else◌}
use Rattle.std.specs.Str.{is_utf8}
use Rattle.vault_json.specs.{Request.increment_answer, Request.lease_id_answer, declared.fault.ReplyFault.ReplyFault}
use Rattle.vault_http.specs.Written.{is_get}
use Rattle.broker_rule.specs.{declared.call.ApiCall.ApiCall, declared.asked.AskedBody.AskedBody, declared.refusal.Refusal.Refusal}
use Rattle.broker_rule.specs.declared.call.ApiCall.TheVariants.{RenewSelf, RenewLease, LookupSelf, LookupLease}
use Rattle.broker_rule.specs.declared.refusal.Refusal.TheVariants.{UnsupportedPath, UnsupportedMethod, PermissionDenied, BadRequest, UnknownLease, NotRenewable}

-- ---- the path and the method

unfoldable pub call_of : List ℕ → Option ApiCall
call_of path =
    if bytes_eq path (codes "/v1/auth/token/renew-self") then Some RenewSelf
    else (if bytes_eq path (codes "/v1/sys/leases/renew") then Some RenewLease
    else (if bytes_eq path (codes "/v1/auth/token/lookup-self") then Some LookupSelf
    else (if bytes_eq path (codes "/v1/sys/leases/lookup") then Some LookupLease else None)))

unfoldable pub is_write : List ℕ → Bool
is_write method = bytes_eq method (codes "POST") || bytes_eq method (codes "PUT")

-- the method is listed for the call
abbrev pub allows : ApiCall → List ℕ → Bool
allows RenewSelf method = is_write method
allows RenewLease method = is_write method
allows LookupSelf method = is_get method
allows LookupLease method = is_write method

abbrev pub is_renewal : ApiCall → Bool
is_renewal RenewSelf = true
is_renewal RenewLease = true
is_renewal LookupSelf = false
is_renewal LookupLease = false

-- ---- the body

abbrev pub read_or_none : {X : Type 0} → Result X ReplyFault → Option X
read_or_none (Ok x) = Some x
read_or_none (Err fault) = None

abbrev pub a_text : Option (List ℕ) → Option (List ℕ)
a_text None = None
a_text (Some id) = if is_utf8 id then Some id else None

-- the increment that a body asks for, if it can be read
unfoldable pub increment_in : List ℕ → Option (Option ℕ)
increment_in body = read_or_none (increment_answer body)

-- the lease id that a body names, a text, if it can be read
unfoldable pub lease_id_in : List ℕ → Option (List ℕ)
lease_id_in body = a_text (read_or_none (lease_id_answer body))

abbrev pub asked_of_token : Option (Option ℕ) → Option AskedBody
asked_of_token None = None
asked_of_token (Some increment) = Some (record { lease_id = None; increment = increment })

abbrev pub asked_of_lease : Option (List ℕ) → Option (Option ℕ) → Option AskedBody
asked_of_lease None increment = None
asked_of_lease (Some id) None = None
asked_of_lease (Some id) (Some increment) = Some (record { lease_id = Some id; increment = increment })

-- what the body of a call asks; none where it is not as the call wants it
unfoldable pub asked : ApiCall → List ℕ → Option AskedBody
asked RenewSelf body = asked_of_token (increment_in body)
asked RenewLease body = asked_of_lease (lease_id_in body) (increment_in body)
asked LookupSelf body = asked_of_token (Some None)
asked LookupLease body = asked_of_lease (lease_id_in body) (Some None)

-- ---- refusals

abbrev pub status_of_refusal : Refusal → ℕ
status_of_refusal UnsupportedPath = 404
status_of_refusal UnsupportedMethod = 405
status_of_refusal PermissionDenied = 403
status_of_refusal BadRequest = 400
status_of_refusal UnknownLease = 400
status_of_refusal NotRenewable = 400

-- the error texts are this project's own
unfoldable pub text_of_refusal : Refusal → List ℕ
text_of_refusal UnsupportedPath = codes "unsupported path"
text_of_refusal UnsupportedMethod = codes "unsupported method"
text_of_refusal PermissionDenied = codes "permission denied"
text_of_refusal BadRequest = codes "bad request"
text_of_refusal UnknownLease = codes "unknown lease"
text_of_refusal NotRenewable = codes "not renewable"
