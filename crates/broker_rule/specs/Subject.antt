-- Of which row a request speaks, or why it is refused. In Vault a policy decides which leases a token may renew; here
-- each token may renew and look up its own.
use Rattle.std.specs.Prelude.{ℕ, Bool, false, not, ◌&&◌, List, Option, Some, None, Result, Ok, Err, bytes_eq, if◌then◌else◌}
use Rattle.std.specs.List.{find}
use Rattle.plan_forest.specs.Push.{is_lease}
use Rattle.vault_http.specs.declared.request.Request.{Request}
use Rattle.broker_rule.specs.{declared.row.BrokerRow.BrokerRow, declared.asked.AskedBody.AskedBody, declared.call.ApiCall.ApiCall, declared.refusal.Refusal.Refusal, Request.asked}
use Rattle.broker_rule.specs.declared.refusal.Refusal.TheVariants.{PermissionDenied, BadRequest, UnknownLease}

-- a row, and the increment that is asked for it
pub record Subject : Type 0 where
  pub row : BrokerRow
  pub increment : Option ℕ

unfoldable pub is_token_with : List ℕ → BrokerRow → Bool
is_token_with credential r = not (is_lease r.kind) && bytes_eq r.credential credential

unfoldable pub is_lease_with : List ℕ → BrokerRow → Bool
is_lease_with id r = is_lease r.kind && bytes_eq r.credential id

-- the token row with that credential
unfoldable pub token_with : List BrokerRow → List ℕ → Option BrokerRow
token_with rows credential = find (λ r. is_token_with credential r) rows

-- the lease row with that id
unfoldable pub lease_with : List BrokerRow → List ℕ → Option BrokerRow
lease_with rows id = find (λ r. is_lease_with id r) rows

-- the token row that a request's token names
abbrev pub bearer : List BrokerRow → Option (List ℕ) → Option BrokerRow
bearer rows None = None
bearer rows (Some credential) = token_with rows credential

-- the row belongs to the token of that name
abbrev pub belongs : Option (List ℕ) → List ℕ → Bool
belongs None name = false
belongs (Some parent) name = bytes_eq parent name

abbrev pub owned : BrokerRow → Option ℕ → Option BrokerRow → Result Subject Refusal
owned token increment None = Err UnknownLease
owned token increment (Some lease) = if belongs lease.parent token.name then Ok (record { row = lease; increment = increment }) else Err PermissionDenied

abbrev pub named_subject : List BrokerRow → BrokerRow → Option ℕ → Option (List ℕ) → Result Subject Refusal
named_subject rows token increment None = Ok (record { row = token; increment = increment })
named_subject rows token increment (Some id) = owned token increment (lease_with rows id)

abbrev pub with_asked : List BrokerRow → BrokerRow → Option AskedBody → Result Subject Refusal
with_asked rows token None = Err BadRequest
with_asked rows token (Some a) = named_subject rows token a.increment a.lease_id

abbrev pub with_bearer : List BrokerRow → ApiCall → List ℕ → Option BrokerRow → Result Subject Refusal
with_bearer rows call body None = Err PermissionDenied
with_bearer rows call body (Some token) = with_asked rows token (asked call body)

-- no token, or no token row with that credential; a body that is not as it must be; a lease id of no lease row; a lease of
-- another token: the first of these that applies. Else the row
unfoldable pub subject : List BrokerRow → ApiCall → Request → Result Subject Refusal
subject rows call r = with_bearer rows call r.body (bearer rows r.token)
