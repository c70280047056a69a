-- Requests: what is asked for an entry, what comes back of it, and that it can be sent and answered.
-- Source: Vault, HTTP API: `auth/token`, "Renew a token (self)" and "Lookup a token (self)"; `sys/leases`, "Renew lease" and
-- "Read lease".
use Rattle.std.specs.Prelude.{◌≡◌, ℕ, ◌≤◌, ◌⊎◌, List, [], Option, Some, None, Result, Ok, Err, codes, length, option_map}
use Rattle.vault_exchange.specs.Exchanges.{Behind, IsGivenUp, wire_of}
use Rattle.vault_inventory.specs.Inventories.{credential_at}
use Rattle.plan_forest.specs.{declared.entry.Entry.Entry, declared.entry.Kind.Kind, Forest.Forest, Forest.entry_at}
use Rattle.plan_forest.specs.declared.entry.Kind.TheVariants.{Token, Lease}
use Rattle.broker_rule.specs.{declared.served.Served.Served, Table.BrokerTable, Step.SaysAnswer, Step.broker_step}
use Rattle.broker_rule.specs.declared.served.Served.TheVariants as served
use Rattle.vault_http.specs.{declared.known.TheConstants.MOST_MESSAGE, declared.reply.Reply.Reply, declared.request.Request.Request, RoundTripRequest.IsWritable, Written.reply_text, Written.request_text}
use Rattle.vault_json.specs.Written.{lease_text, lookup_text, renew_text}

-- ---- the requests, to a broker at that port

-- a token is renewed with its own credential
abbrev pub token_renewal : ℕ → List ℕ → ℕ → Request
token_renewal port credential step = record { method = codes "POST"; path = codes "/v1/auth/token/renew-self"; token = Some credential; body = renew_text step; port = port }

-- a lease with that of the token it belongs to
abbrev pub lease_renewal : ℕ → Option (List ℕ) → List ℕ → ℕ → Request
lease_renewal port owner id step = record { method = codes "POST"; path = codes "/v1/sys/leases/renew"; token = owner; body = lease_text id step; port = port }

-- an entry is asked for its fixed step
abbrev pub asked_as : Kind → ℕ → List (List ℕ) → ℕ → Entry → Request
asked_as Token port cs i e = token_renewal port (credential_at cs i) e.step
asked_as Lease port cs i e = lease_renewal port (option_map (credential_at cs) e.parent) (credential_at cs i) e.step

-- the request that renews the entry i
unfoldable pub renewal_request : ℕ → List (List ℕ) → Forest → ℕ → Request
renewal_request port cs g i = asked_as (entry_at g.entries i).kind port cs i (entry_at g.entries i)

-- a token is looked up with its own credential, a lease with that of the token it belongs to
abbrev pub token_looked : ℕ → List ℕ → Request
token_looked port credential = record { method = codes "GET"; path = codes "/v1/auth/token/lookup-self"; token = Some credential; body = []; port = port }

abbrev pub lease_looked : ℕ → Option (List ℕ) → List ℕ → Request
lease_looked port owner id = record { method = codes "POST"; path = codes "/v1/sys/leases/lookup"; token = owner; body = lookup_text id; port = port }

abbrev pub looked_as : Kind → ℕ → List (List ℕ) → ℕ → Entry → Request
looked_as Token port cs i e = token_looked port (credential_at cs i)
looked_as Lease port cs i e = lease_looked port (option_map (credential_at cs) e.parent) (credential_at cs i)

-- the request that looks the entry i up
unfoldable pub lookup_of : ℕ → List (List ℕ) → Forest → ℕ → Request
lookup_of port cs g i = looked_as (entry_at g.entries i).kind port cs i (entry_at g.entries i)

-- ---- what comes back

-- what of that is a reply
abbrev pub reply_in_served : Served → Option Reply
reply_in_served (served.Reply reply) = Some reply
reply_in_served served.Dropped = None

-- a reply, if it is one, that is not longer than is read
abbrev pub ReplyFits : Served → Type 0
ReplyFits (served.Reply reply) = length (reply_text reply) ≤ MOST_MESSAGE
ReplyFits served.Dropped = Unit {0}

-- a request of at most 1 MiB
abbrev pub IsShortRequest : Request → Type 0
IsShortRequest r = length (request_text r) ≤ MOST_MESSAGE

-- a request that can be written and read, and whose replies can be read
pub record RequestIsFit (r : Request) : Type 0 where
  pub writable : IsWritable r
  pub short : IsShortRequest r
  pub answered : (l : BrokerTable) (t : ℕ) (sent : Served) → SaysAnswer t (broker_step l t r).answer sent → ReplyFits sent

-- the request was served at t, and its reply read, if there was one
pub record RequestIsAsked (old : BrokerTable) (t : ℕ) (r : Request) (reply : Option Reply) (new : Option Behind) : Type 0 where
  pub sent : Served
  pub says : SaysAnswer t (broker_step old t r).answer sent
  pub reply_is : reply ≡ reply_in_served sent
  pub is : new ≡ Some (record { table = (broker_step old t r).table; wire = wire_of r reply })

-- what asking comes to; where memory was wanting there may have been no exchange
abbrev pub ExchangeAsks : {E : Type 0} → Behind → ℕ → Request → Result (Option Reply) E → Option Behind → Type 0
ExchangeAsks old t r (Ok reply) new = RequestIsAsked old.table t r reply new
ExchangeAsks old t r (Err fault) new = (new ≡ Some old) ⊎ IsGivenUp old.table t r new
