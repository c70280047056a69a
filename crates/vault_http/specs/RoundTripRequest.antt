-- A request that was written is read back as the same request, the port left out, whatever follows it.
use Rattle.std.specs.Prelude.{◌≡◌, ℕ, ◌^◌, ◌<◌, ◌≤◌, ◌==◌, Bool, true, ◌&&◌, ◌||◌, nat_le, List, [], ◌∷◌, ◌++◌, length, IsTrue, Option, None, Some, Result, Ok, codes, bytes_eq, All}
use Rattle.std.specs.{List.list_any, Char.is_ascii_alphanumeric}
use Rattle.vault_http.specs.{declared.http_fault.HttpFault.HttpFault, declared.request.Request.Request, Messages.IsHttpRequest, Written.is_get, Written.request_text}

-- the methods that requests are written with
abbrev pub is_sent_method : List ℕ → Bool
is_sent_method method = list_any (λ m. bytes_eq method m) (codes "GET" ∷ codes "POST" ∷ codes "PUT" ∷ [])

-- a byte of a path: a letter, a digit, or one of `/`, `-`, `_` and `.`
abbrev pub is_path_byte : ℕ → Bool
is_path_byte b = is_ascii_alphanumeric b || list_any (λ c. b == c) (codes "/-_.")

-- a byte of a token: visible ASCII
abbrev pub is_token_value_byte : ℕ → Bool
is_token_value_byte b = nat_le 33 b && nat_le b 126

-- a token that may be sent, if there is one
abbrev pub IsSentToken : Option (List ℕ) → Type 0
IsSentToken None = Unit {0}
IsSentToken (Some token) = (0 < length token) × (length token ≤ 256) × All (λ b. IsTrue (is_token_value_byte b)) token

-- a request that may be written
pub record IsWritable (r : Request) : Type 0 where
  pub method : IsTrue (is_sent_method r.method)
  pub slash : (rest : List ℕ) × (r.path ≡ 47 ∷ rest)
  pub path : (0 < length r.path) × (length r.path ≤ 256) × All (λ b. IsTrue (is_path_byte b)) r.path
  pub token : IsSentToken r.token
  pub body : is_get r.method ≡ true → r.body ≡ []

-- a request that may be written, with a body that may be read
pub record IsSendableRequest (r : Request) : Type 0 where
  pub writable : IsWritable r
  pub short : length r.body < 10 ^ 15
  pub port : r.port < 2 ^ 16

-- the request as it is read: the port is no part of the message
abbrev pub without_port : Request → Request
without_port r = record { method = r.method; path = r.path; token = r.token; body = r.body; port = 0 }

-- a request that was written is the only answer to its bytes, whatever follows them
abbrev pub ReadsBackRequest : Request → Type 0
ReadsBackRequest r = IsSendableRequest r → (more : List ℕ) (max : ℕ) → length (request_text r) ≤ max
    → (answer : Result Request HttpFault) → IsHttpRequest max (request_text r ++ more) answer → answer ≡ Ok (without_port r)
