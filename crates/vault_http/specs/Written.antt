-- The bytes of a request and of a reply as they are written: a start line, fields, an empty line and the body
-- (RFC 9112, sections 2, 3, 4 and 6.2; the token's field is that of the Vault documentation, HTTP API, "Authentication").
use Rattle.std.specs.Prelude.{ℕ, List, [], ◌++◌, length, Option, None, Some, Bool, codes, decimal, bytes_eq, nat_lt, if◌then◌else◌}
use Rattle.std.specs.Option.{unwrap_or}
use Rattle.http.specs.StatusCode.{reason_phrase}
use Rattle.vault_http.specs.{declared.request.Request.Request, declared.reply.Reply.Reply}

-- what stands between the path and the fields that follow `Host`
unfoldable pub host_lines : ℕ → List ℕ
host_lines port = codes " HTTP/1.1\r\nHost: 127.0.0.1:" ++ (decimal port ++ codes "\r\n")

-- the line of the token, if there is one
unfoldable pub token_line : Option (List ℕ) → List ℕ
token_line None = []
token_line (Some token) = codes "X-Vault-Token: " ++ token ++ codes "\r\n"

-- the lines that say what the body is
unfoldable pub length_lines : ℕ → List ℕ
length_lines n = codes "Content-Type: application/json\r\nContent-Length: " ++ (decimal n ++ codes "\r\n")

-- the last field, and the empty line after it
unfoldable pub last_lines : List ℕ
last_lines = codes "Connection: close\r\n\r\n"

-- the method that has no body
abbrev pub is_get : List ℕ → Bool
is_get method = bytes_eq method (codes "GET")

-- the lines that say what the body is, which a request without a body lacks
unfoldable pub body_lines : List ℕ → ℕ → List ℕ
body_lines method n = if is_get method then [] else length_lines n

-- a request as it is written
unfoldable pub request_text : Request → List ℕ
request_text r = r.method ++ codes " " ++ r.path ++ host_lines r.port ++ token_line r.token ++ body_lines r.method (length r.body) ++ last_lines ++ r.body

-- the phrase, of a number of three digits
abbrev pub phrase_in : ℕ → Option (List ℕ) → List ℕ
phrase_in status known = if nat_lt status 100 then [] else (if nat_lt status 1000 then unwrap_or known [] else [])

-- the phrase that goes with a status, empty where it is no number of three digits or has none
unfoldable pub phrase : ℕ → List ℕ
phrase status = phrase_in status (reason_phrase status)

-- the start line of a reply
unfoldable pub status_line : ℕ → List ℕ
status_line status = codes "HTTP/1.1 " ++ (decimal status ++ (codes " " ++ (phrase status ++ codes "\r\n")))

-- a reply as it is written
unfoldable pub reply_text : Reply → List ℕ
reply_text r = status_line r.status ++ length_lines (length r.body) ++ last_lines ++ r.body
