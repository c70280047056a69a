-- What a lookup comes to, by what the exchange answers: for `look_up` and `apply`.
use Rattle.std.proofs.Common.{◌≡◌, ℕ, length, inr, Bool, refl, subst, ap, ◌∙◌, Option, Some, None, IfSome, IfOk, Result, Ok, Err}
use Rattle.std.proofs.lemmas.List.{length-set}
use Rattle.vault_exchange.specs.{Exchanges.Behind, Exchanges.IsExchanged, Requests.lookup_of}
use Rattle.vault_exchange.specs.Lookups.{LooksUp, behind_if, inventory_after_lookup}
use Rattle.vault_inventory.specs.{declared.lookup.LookupFault.LookupFault, Lookup.lookup_fault, Lookup.told, Inventories.Inventory}
use Rattle.vault_http.specs.{declared.reply.Reply.Reply, declared.request.Request.Request}
use Rattle.vault_json.specs.declared.lookup.Lookup.{Lookup}

of_lookup :
    {E : Type 0} (before new : Option Behind) (port t i : ℕ) (s after : Inventory) (reply : Reply) (result : Result Bool E) →
    IfSome before (λ old. IsExchanged old.table t (lookup_of port s.credentials s.forest i) (Ok reply) new) → IfOk result (λ is. inventory_after_lookup s i t (Ok reply) ≡ behind_if is after) →
    LooksUp port before t s i result after new
of_lookup before new port t i s after reply (Ok is) done applied = record { came = Ok reply; exchanged = done; applied_is = applied }
of_lookup None new port t i s after reply (Err fault) done applied = tt
of_lookup (Some old) new port t i s after reply (Err fault) done applied = inr (inr (reply, done))

pub looked_up :
    {E : Type 0} (before new : Option Behind) (port t i : ℕ) (s after : Inventory) (request : Request) (reply : Reply) (result : Result Bool E) → request ≡ lookup_of port s.credentials s.forest i →
    IfSome before (λ old. IsExchanged old.table t request (Ok reply) new) → IfOk result (λ is. inventory_after_lookup s i t (Ok reply) ≡ behind_if is after) →
    LooksUp port before t s i result after new
looked_up before new port t i s after request reply result same done applied =
    of_lookup before new port t i s after reply result (subst (λ (r : Request). IfSome before (λ old. IsExchanged old.table t r (Ok reply) new)) same done) applied

-- ---- a lookup changes no number of entries

told_count : (s : Inventory) (i t : ℕ) (lookup : Lookup) → length (told s i lookup t).forest.entries ≡ length s.forest.entries
unfolding told
told_count s i t lookup = length-set s.forest.entries i _

pub same_count :
    (s new : Inventory) (i t : ℕ) (lookup : Lookup) (result : Result (Unit {0}) LookupFault) → IfSome (lookup_fault s i lookup) (λ fault. (result ≡ Err fault) × (new ≡ s)) →
    (lookup_fault s i lookup ≡ None → (result ≡ Ok tt) × (new ≡ told s i lookup t)) → length new.forest.entries ≡ length s.forest.entries
same_count s new i t lookup result refused applied = by_fault (lookup_fault s i lookup) refl where
  by_fault : (fault : Option LookupFault) → lookup_fault s i lookup ≡ fault → length new.forest.entries ≡ length s.forest.entries
  by_fault None is = ap (λ (u : Inventory). length u.forest.entries) (applied is).1 ∙ told_count s i t lookup
  by_fault (Some fault) is = ap (λ (u : Inventory). length u.forest.entries) (subst (λ (o : Option LookupFault). IfSome o (λ fault. (result ≡ Err fault) × (new ≡ s))) is refused).1
