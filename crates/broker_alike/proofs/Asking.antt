-- Asking: the request for an entry asks the broker for its renewal.
use Rattle.std.proofs.Common.{◌≡◌, ℕ, ◌<◌, ◌≤◌, true, List, Some, None, IsUtf8, length, refl, ap, ◌∙◌, arith}
use Rattle.std.proofs.lemmas.{Bool.cond-true, Str.is_utf8-from_IsUtf8}
use Rattle.std.specs.Str.{is_utf8}
use Rattle.plan_forest.specs.{declared.entry.Entry.Entry, declared.entry.Kind.Kind, Forest.entry_at}
use Rattle.plan_forest.specs.declared.entry.Kind.TheVariants.{Token, Lease}
use Rattle.vault_inventory.specs.Inventories.{IsInventory, Inventory, credential_at}
use Rattle.vault_inventory.proofs.Inventories.{credential_text}
use Rattle.vault_json.specs.{Request.increment_answer, Written.lease_text, Written.renew_text}
use Rattle.vault_json.proofs.ReadBack.{lease_body_is_read, renew_body_is_read}
use Rattle.broker_rule.specs.declared.call.ApiCall.TheVariants.{RenewSelf, RenewLease}
use Rattle.broker_rule.specs.Granted.{AsksRenewal, asked_for, bearer_for, call_for}
use Rattle.broker_rule.specs.Request.{a_text, asked, asked_of_lease as lease_asked, asked_of_token as token_asked, call_of, increment_in, is_write, lease_id_in, read_or_none}
use Rattle.vault_exchange.specs.Requests.{asked_as, renewal_request}

renew_asked : (n : ℕ) → n ≤ 4294967295 → asked RenewSelf (renew_text n) ≡ Some (record { lease_id = None; increment = Some n })
unfolding asked increment_in
renew_asked n small = ap (λ a. token_asked (read_or_none a)) (renew_body_is_read n (omega arith))

utf8_text : (id : List ℕ) → IsUtf8 id → a_text (Some id) ≡ Some id
utf8_text id utf8 = cond-true (is_utf8 id) (Some id) None (is_utf8-from_IsUtf8 id utf8)

lease_renew_asked : (id : List ℕ) (n : ℕ) → IsUtf8 id → n ≤ 4294967295 → asked RenewLease (lease_text id n) ≡ Some (record { lease_id = Some id; increment = Some n })
unfolding asked increment_in lease_id_in
lease_renew_asked id n utf8 small =
    let read = lease_body_is_read id n utf8 (omega arith) in
    ap (λ a. lease_asked (a_text (read_or_none a)) (read_or_none (increment_answer (lease_text id n)))) read.0
    ∙ ap (λ a. lease_asked (a_text (Some id)) (read_or_none a)) read.1
    ∙ ap (λ a. lease_asked a (Some (Some n))) (utf8_text id utf8)

-- ---- the request

call_as : (k : Kind) (port : ℕ) (cs : List (List ℕ)) (i : ℕ) (e : Entry) → call_of (asked_as k port cs i e).path ≡ Some (call_for k)
unfolding call_of
call_as Token port cs i e = refl
call_as Lease port cs i e = refl

method_as : (k : Kind) (port : ℕ) (cs : List (List ℕ)) (i : ℕ) (e : Entry) → is_write (asked_as k port cs i e).method ≡ true
unfolding is_write
method_as Token port cs i e = refl
method_as Lease port cs i e = refl

token_as : (k : Kind) (port : ℕ) (s : Inventory) (i : ℕ) → (asked_as k port s.credentials i (entry_at s.forest.entries i)).token ≡ bearer_for k s i
token_as Token port s i = refl
token_as Lease port s i = refl

body_as : (k : Kind) (port : ℕ) (cs : List (List ℕ)) (i : ℕ) (e : Entry) → IsUtf8 (credential_at cs i) → e.step ≤ 4294967295 →
    asked (call_for k) (asked_as k port cs i e).body ≡ Some (asked_for k (credential_at cs i) e.step)
body_as Token port cs i e utf8 small = renew_asked e.step small
body_as Lease port cs i e utf8 small = lease_renew_asked (credential_at cs i) e.step utf8 small

-- the request for an entry asks for its renewal
pub asks_renewal : (s : Inventory) → IsInventory s → (port i : ℕ) → i < length s.forest.entries → AsksRenewal s i (renewal_request port s.credentials s.forest i)
unfolding renewal_request
asks_renewal s inventory port i within =
    let e = entry_at s.forest.entries i in
    record {
      call = call_as e.kind port s.credentials i e;
      method = method_as e.kind port s.credentials i e;
      token = token_as e.kind port s i;
      body = body_as e.kind port s.credentials i e (credential_text s inventory i within) (inventory.steps i within);
    }
