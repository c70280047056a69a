-- The requests for entries can be sent and answered.
use Rattle.std.proofs.Common.{◌≡◌, ℕ, ◌<◌, ◌≤◌, ◌^◌, ◌&&◌, true, List, length, codes, refl, arith, IsTrue, nat_le, Option, Some, None, IfSome}
use Rattle.std.specs.List.{All, list_all}
use Rattle.std.proofs.lemmas.{List.Elements.All-from_get_or, List.Elements.All-get_or, List.Sums.AllPass-from_list_all}
use Rattle.vault_inventory.specs.Inventories.{IsSendableText}
use Rattle.vault_inventory.proofs.Inventories.{text_law}
use Rattle.vault_exchange.specs.Requests.{RequestIsFit, lease_looked, lease_renewal, token_looked, token_renewal}
use Rattle.vault_exchange.proofs.Answered.{lease_fits, token_fits}
use Rattle.vault_exchange.proofs.Lengths.{lease_short, lookup_short, renew_short, request_short}
use Rattle.vault_http.specs.{declared.request.Request.Request, Written.request_text}
use Rattle.vault_http.specs.RoundTripRequest.{IsSentToken, IsWritable, is_path_byte, is_token_value_byte}
use Rattle.vault_http.proofs.Writable.{method_short}

both_bounds : (b : ℕ) → 33 ≤ b → b ≤ 126 → IsTrue (nat_le 33 b && nat_le b 126)
both_bounds b low high = grind (arith, low, high)

-- a credential is a token that is sent
pub sent_token : (credential : List ℕ) → IsSendableText credential → IsSentToken (Some credential)
sent_token credential sendable = (
  sendable.0,
  sendable.1,
  All-from_get_or (λ b. IsTrue (is_token_value_byte b)) credential 0
      (λ i h. let fine = All-get_or (λ b. (0x21 ≤ b) × (b ≤ 0x7E)) credential i 0 h sendable.2 in both_bounds _ fine.0 fine.1),
)

path_bytes : (path : List ℕ) → list_all is_path_byte path ≡ true → All (λ b. IsTrue (is_path_byte b)) path
path_bytes path all = AllPass-from_list_all is_path_byte path all

pub token_fit : (port : ℕ) (credential : List ℕ) (step : ℕ) → port < 2 ^ 16 → step < 2 ^ 32 → IsSendableText credential → RequestIsFit (token_renewal port credential step)
token_fit port credential step small span sendable = record {
  writable = record { method = refl; slash = (codes "v1/auth/token/renew-self", refl); path = (omega arith, omega arith, path_bytes (codes "/v1/auth/token/renew-self") refl); token = sent_token credential sendable; body = λ get. absurd cc };
  short = request_short (token_renewal port credential step) (omega arith) (omega arith) sendable.1 small (renew_short step span);
  answered = token_fits port credential step;
}

some_sent : (owner : Option (List ℕ)) → IfSome owner IsSendableText → IsSentToken owner
some_sent None sendable = tt
some_sent (Some credential) sendable = sent_token credential sendable

some_short : (owner : Option (List ℕ)) → IfSome owner IsSendableText → IfSome owner (λ t. length t ≤ 256)
some_short None sendable = tt
some_short (Some credential) sendable = sendable.1

pub lease_fit :
    (port : ℕ) (owner : Option (List ℕ)) (id : List ℕ) (step : ℕ) → port < 2 ^ 16 → step < 2 ^ 32 → IfSome owner IsSendableText → IsSendableText id → RequestIsFit (lease_renewal port owner id step)
lease_fit port owner id step small span owned sendable = record {
  writable = record { method = refl; slash = (codes "v1/sys/leases/renew", refl); path = (omega arith, omega arith, path_bytes (codes "/v1/sys/leases/renew") refl); token = some_sent owner owned; body = λ get. absurd cc };
  short = request_short (lease_renewal port owner id step) (omega arith) (omega arith) (some_short owner owned) small (lease_short id step sendable.1 span);
  answered = lease_fits port owner id step sendable.1 (text_law id sendable) span;
}

-- ---- lookups

pub token_look : (port : ℕ) (credential : List ℕ) → IsSendableText credential → IsWritable (token_looked port credential)
token_look port credential sendable = record { method = refl; slash = (codes "v1/auth/token/lookup-self", refl); path = (omega arith, omega arith, path_bytes (codes "/v1/auth/token/lookup-self") refl); token = sent_token credential sendable; body = λ get. refl }

pub token_look_short : (port : ℕ) (credential : List ℕ) → port < 2 ^ 16 → IsSendableText credential → length (request_text (token_looked port credential)) ≤ 1048576
token_look_short port credential small sendable = request_short (token_looked port credential) (omega arith) (omega arith) sendable.1 small (omega arith)

pub lease_look : (port : ℕ) (owner : Option (List ℕ)) (id : List ℕ) → IfSome owner IsSendableText → IsWritable (lease_looked port owner id)
lease_look port owner id owned = record { method = refl; slash = (codes "v1/sys/leases/lookup", refl); path = (omega arith, omega arith, path_bytes (codes "/v1/sys/leases/lookup") refl); token = some_sent owner owned; body = λ get. absurd cc }

pub lease_look_short : (port : ℕ) (owner : Option (List ℕ)) (id : List ℕ) → port < 2 ^ 16 → IfSome owner IsSendableText → IsSendableText id → length (request_text (lease_looked port owner id)) ≤ 1048576
lease_look_short port owner id small owned sendable = request_short (lease_looked port owner id) (omega arith) (omega arith) (some_short owner owned) small (lookup_short id sendable.1)

-- ---- any request

sent_short : (token : Option (List ℕ)) → IsSentToken token → IfSome token (λ t. length t ≤ 256)
sent_short None sent = tt
sent_short (Some t) sent = sent.1

pub carried : (r : Request) → IsWritable r → r.port < 2 ^ 16 → length r.body ≤ 2000 → length (request_text r) ≤ 1048576
carried r writable port body = request_short r (method_short r.method writable.method) writable.path.1 (sent_short r.token writable.token) port body
