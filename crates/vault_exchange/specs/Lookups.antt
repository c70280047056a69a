-- Lookups: what a broker's reply to a lookup makes of an inventory.
-- Source: Vault, HTTP API: `auth/token`, "Lookup a token (self)"; `sys/leases`, "Read lease". That nothing but a 200 is taken
-- is this project's own.
use Rattle.std.specs.Prelude.{◌≡◌, ℕ, ◌==◌, ◌⊎◌, List, Bool, Option, Some, None, Result, Ok, Err, IfSome, is_none, if◌then◌else◌}
use Rattle.vault_exchange.specs.{declared.fault.ExchangeFault.ExchangeFault, Requests.lookup_of}
use Rattle.vault_exchange.specs.Exchanges.{Behind, IsExchanged, IsGivenUp}
use Rattle.vault_inventory.specs.{Lookup.lookup_fault, Lookup.told, Inventories.Inventory}
use Rattle.plan_forest.specs.{declared.entry.Kind.Kind, Forest.entry_at}
use Rattle.plan_forest.specs.declared.entry.Kind.TheVariants.{Token, Lease}
use Rattle.broker_rule.specs.Table.{BrokerTable}
use Rattle.vault_http.specs.{declared.reply.Reply.Reply, declared.request.Request.Request}
use Rattle.vault_json.specs.{declared.fault.ReplyFault.ReplyFault, declared.lookup.Lookup.Lookup, Lookup.lookup_lease_answer, Lookup.lookup_self_answer}

-- what the body of a reply says of an entry of that kind
abbrev pub lookup_in : Kind → List ℕ → Result Lookup ReplyFault
lookup_in Token body = lookup_self_answer body
lookup_in Lease body = lookup_lease_answer body

-- the inventory once it is applied, if it can be
abbrev pub applied : Inventory → ℕ → ℕ → Result Lookup ReplyFault → Option Inventory
applied s i t (Ok lookup) = if is_none (lookup_fault s i lookup) then Some (told s i lookup t) else None
applied s i t (Err fault) = None

-- of the reply to a lookup at t, which is nothing but a 200
abbrev pub inventory_after_lookup : Inventory → ℕ → ℕ → Result Reply ExchangeFault → Option Inventory
inventory_after_lookup s i t (Ok r) = if r.status == 200 then applied s i t (lookup_in (entry_at s.forest.entries i).kind r.body) else None
inventory_after_lookup s i t (Err fault) = None

-- the inventory after it, where there is one
abbrev pub behind_if : Bool → Inventory → Option Inventory
behind_if is s = if is then Some s else None

-- the entry i is looked up at t, and what came of it is applied, if it can be. Where the broker's table is known, that is what is
-- received of the answer of its step
pub record EntryIsLookedUp (port : ℕ) (old : Option Behind) (t : ℕ) (s : Inventory) (i : ℕ) (is_applied : Bool) (after : Inventory) (new : Option Behind) : Type 0 where
  pub came : Result Reply ExchangeFault
  pub exchanged : IfSome old (λ b. IsExchanged b.table t (lookup_of port s.credentials s.forest i) came new)
  pub applied_is : inventory_after_lookup s i t came ≡ behind_if is_applied after

-- the request was served, and a reply came
abbrev pub LookupIsServed : BrokerTable → ℕ → Request → Option Behind → Type 0
LookupIsServed old t r new = (reply : Reply) × IsExchanged old t r (Ok reply) new

-- where memory was wanting, and the table is known, there may have been no exchange, or one whose reply was not read
abbrev pub IsLookupLeft : ℕ → Option Behind → ℕ → Inventory → ℕ → Option Behind → Type 0
IsLookupLeft port old t s i new =
    IfSome old (λ b. (new ≡ Some b) ⊎ (IsGivenUp b.table t (lookup_of port s.credentials s.forest i) new ⊎ LookupIsServed b.table t (lookup_of port s.credentials s.forest i) new))

-- what a lookup comes to
abbrev pub LooksUp : {E : Type 0} → ℕ → Option Behind → ℕ → Inventory → ℕ → Result Bool E → Inventory → Option Behind → Type 0
LooksUp port old t s i (Ok is_applied) after new = EntryIsLookedUp port old t s i is_applied after new
LooksUp port old t s i (Err fault) after new = IsLookupLeft port old t s i new
