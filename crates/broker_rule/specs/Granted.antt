-- Granted: which request asks for the renewal of an entry, and the row that a renewal by the rule leaves.
-- Source: Vault, HTTP API: `auth/token`, "Renew a token (self)"; `sys/leases`, "Renew lease".
use Rattle.std.specs.Prelude.{◌≡◌, ℕ, true, List, Option, Some, None, option_map}
use Rattle.plan_forest.specs.{declared.entry.Kind.Kind, Forest.end_of, Forest.entry_at, Renewal.renewed}
use Rattle.plan_forest.specs.declared.entry.Kind.TheVariants.{Token, Lease}
use Rattle.vault_inventory.specs.Inventories.{Inventory, credential_at}
use Rattle.vault_http.specs.declared.request.Request.{Request}
use Rattle.broker_rule.specs.{declared.row.BrokerRow.BrokerRow, declared.asked.AskedBody.AskedBody, declared.call.ApiCall.ApiCall, Rows.broker_row}
use Rattle.broker_rule.specs.declared.call.ApiCall.TheVariants.{RenewSelf, RenewLease}
use Rattle.broker_rule.specs.Request.{asked, call_of, is_write}

-- the call that renews an entry of that kind
abbrev pub call_for : Kind → ApiCall
call_for Token = RenewSelf
call_for Lease = RenewLease

-- a token is renewed with its own credential, a lease with that of the token it belongs to
abbrev pub bearer_for : Kind → Inventory → ℕ → Option (List ℕ)
bearer_for Token s i = Some (credential_at s.credentials i)
bearer_for Lease s i = option_map (credential_at s.credentials) (entry_at s.forest.entries i).parent

-- and the body asks for the entry's step, of a lease with its id
abbrev pub asked_for : Kind → List ℕ → ℕ → AskedBody
asked_for Token credential step = record { lease_id = None; increment = Some step }
asked_for Lease credential step = record { lease_id = Some credential; increment = Some step }

-- the request asks for the renewal of the entry i by its own step
pub record AsksRenewal (s : Inventory) (i : ℕ) (r : Request) : Type 0 where
  pub call : call_of r.path ≡ Some (call_for (entry_at s.forest.entries i).kind)
  pub method : is_write r.method ≡ true
  pub token : r.token ≡ bearer_for (entry_at s.forest.entries i).kind s i
  pub body : asked (call_for (entry_at s.forest.entries i).kind) r.body
      ≡ Some (asked_for (entry_at s.forest.entries i).kind (credential_at s.credentials i) (entry_at s.forest.entries i).step)

-- the row of the entry i with the end that the renewal rule gives at t, with a margin of one second
unfoldable pub renewed_row : Inventory → ℕ → ℕ → BrokerRow
renewed_row s t i = record (broker_row s i) { end = renewed s.forest.entries 1 (end_of s.forest.entries) t i }
