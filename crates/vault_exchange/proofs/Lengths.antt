-- How long the texts of requests and replies are at most: for what can be sent and read.
use Rattle.std.proofs.Common.{◌≡◌, ℕ, ◌+◌, ◌*◌, ◌/◌, ◌%◌, nat_lt, ◌<◌, ◌≤◌, ◌^◌, Bool, true, false, cond, List, [], ◌∷◌, ◌++◌, length, codes, decimal, refl, sym, subst, arith, length-append, Option, Some, None, IfSome}
use Rattle.std.proofs.lemmas.Fmt.{length-decimal-le}
use Rattle.std.specs.Char.{digit_char}
use Rattle.json.specs.Print.{escape, escape_byte, escape_letter, quoted}
use Rattle.broker_rule.specs.{declared.refusal.Refusal.Refusal, Request.status_of_refusal, Request.text_of_refusal}
use Rattle.broker_rule.specs.declared.refusal.Refusal.TheVariants as refusals
use Rattle.vault_http.specs.{declared.reply.Reply.Reply, declared.request.Request.Request}
use Rattle.vault_http.specs.Written.{body_lines, host_lines, is_get, last_lines, length_lines, phrase, reply_text, request_text, status_line, token_line}
use Rattle.vault_json.specs.Written.{errors_text, flag_text, lease_text, looked_lease_text, lookup_text, renew_text, renewed_lease_text, renewed_self_text}

-- ---- parts

sum2 : (a b : List ℕ) → length (a ++ b) ≡ length a + length b
sum2 a b = let s2 = length-append a b in omega (arith, s2)

sum3 : (a b c : List ℕ) → length (a ++ b ++ c) ≡ length a + length b + length c
sum3 a b c = let s2 = length-append a b in let s3 = length-append (a ++ b) c in omega (arith, s2, s3)

sum5 : (a b c d e : List ℕ) → length (a ++ b ++ c ++ d ++ e) ≡ length a + length b + length c + length d + length e
sum5 a b c d e = let s2 = length-append a b in let s3 = length-append (a ++ b) c in let s4 = length-append (a ++ b ++ c) d in let s5 = length-append (a ++ b ++ c ++ d) e in omega (arith, s2, s3, s4, s5)

sum7 : (a b c d e f g : List ℕ) → length (a ++ b ++ c ++ d ++ e ++ f ++ g) ≡ length a + length b + length c + length d + length e + length f + length g
sum7 a b c d e f g = let s2 = length-append a b in let s3 = length-append (a ++ b) c in let s4 = length-append (a ++ b ++ c) d in let s5 = length-append (a ++ b ++ c ++ d) e in let s6 = length-append (a ++ b ++ c ++ d ++ e) f in let s7 = length-append (a ++ b ++ c ++ d ++ e ++ f) g in omega (arith, s2, s3, s4, s5, s6, s7)

sum8 : (a b c d e f g h : List ℕ) → length (a ++ b ++ c ++ d ++ e ++ f ++ g ++ h) ≡ length a + length b + length c + length d + length e + length f + length g + length h
sum8 a b c d e f g h = let s2 = length-append a b in let s3 = length-append (a ++ b) c in let s4 = length-append (a ++ b ++ c) d in let s5 = length-append (a ++ b ++ c ++ d) e in let s6 = length-append (a ++ b ++ c ++ d ++ e) f in let s7 = length-append (a ++ b ++ c ++ d ++ e ++ f) g in let s8 = length-append (a ++ b ++ c ++ d ++ e ++ f ++ g) h in omega (arith, s2, s3, s4, s5, s6, s7, s8)

sum9 : (a b c d e f g h i : List ℕ) → length (a ++ b ++ c ++ d ++ e ++ f ++ g ++ h ++ i) ≡ length a + length b + length c + length d + length e + length f + length g + length h + length i
sum9 a b c d e f g h i = let s8 = sum8 a b c d e f g h in let s9 = length-append (a ++ b ++ c ++ d ++ e ++ f ++ g ++ h) i in omega (arith, s8, s9)

digits : (n : ℕ) → n < 2 ^ 32 → length (decimal n) ≤ 10
digits n small = length-decimal-le 10 n (omega arith) (omega arith) (omega arith)

either : (b : Bool) (xs ys : List ℕ) → length xs ≤ 6 → length ys ≤ 6 → length (cond b xs ys) ≤ 6
either true xs ys a b = a
either false xs ys a b = b

byte_short : (x : ℕ) → length (escape_byte x) ≤ 6
unfolding escape_byte
byte_short x =
    either (nat_lt 0 (escape_letter x)) (92 ∷ escape_letter x ∷ []) (cond (nat_lt x 32) (92 ∷ 117 ∷ 48 ∷ 48 ∷ digit_char (x / 16) ∷ digit_char (x % 16) ∷ []) (x ∷ [])) (omega arith)
    (either (nat_lt x 32) (92 ∷ 117 ∷ 48 ∷ 48 ∷ digit_char (x / 16) ∷ digit_char (x % 16) ∷ []) (x ∷ []) (omega arith) (omega arith))

escape_short : (s : List ℕ) → length (escape s) ≤ 6 * length s
escape_short [] = omega arith
escape_short (x ∷ s) = let long = length-append (escape_byte x) (escape s) in let one = byte_short x in let more = escape_short s in omega (arith, long, one, more)

quoted_short : (s : List ℕ) → length s ≤ 256 → length (quoted s) ≤ 1538
quoted_short s small = let long = length-append (escape s) (34 ∷ []) in let short = escape_short s in omega (arith, long, short, small)

flag_short : (b : Bool) → length (flag_text b) ≤ 5
flag_short true = omega arith
flag_short false = omega arith

-- ---- bodies

pub renew_short : (step : ℕ) → step < 2 ^ 32 → length (renew_text step) ≤ 2000
unfolding renew_text
renew_short step small =
    let l0 : length (codes "{\"increment\":") ≡ 13 = refl in
    let l2 : length (codes "}") ≡ 1 = refl in
    let long : length (renew_text step) ≡ length (codes "{\"increment\":") + length (decimal step) + length (codes "}") = sum3 (codes "{\"increment\":") (decimal step) (codes "}") in
    let h0 = digits step small in
    omega (arith, l0, l2, long, h0)

pub lease_short : (id : List ℕ) (step : ℕ) → length id ≤ 256 → step < 2 ^ 32 → length (lease_text id step) ≤ 2000
unfolding lease_text
lease_short id step fits small =
    let l0 : length (codes "{\"increment\":") ≡ 13 = refl in
    let l2 : length (codes ",\"lease_id\":") ≡ 12 = refl in
    let l4 : length (codes "}") ≡ 1 = refl in
    let long : length (lease_text id step) ≡ length (codes "{\"increment\":") + length (decimal step) + length (codes ",\"lease_id\":") + length (quoted id) + length (codes "}") = sum5 (codes "{\"increment\":") (decimal step) (codes ",\"lease_id\":") (quoted id) (codes "}") in
    let h0 = digits step small in
    let h1 = quoted_short id fits in
    omega (arith, l0, l2, l4, long, h0, h1)

pub lookup_short : (id : List ℕ) → length id ≤ 256 → length (lookup_text id) ≤ 2000
unfolding lookup_text
lookup_short id fits =
    let l0 : length (codes "{\"lease_id\":") ≡ 12 = refl in
    let l2 : length (codes "}") ≡ 1 = refl in
    let long : length (lookup_text id) ≡ length (codes "{\"lease_id\":") + length (quoted id) + length (codes "}") = sum3 (codes "{\"lease_id\":") (quoted id) (codes "}") in
    let h0 = quoted_short id fits in
    omega (arith, l0, l2, long, h0)

pub renewed_self_short : (seconds : ℕ) (flag : Bool) → seconds < 2 ^ 32 → length (renewed_self_text seconds flag) ≤ 2000
unfolding renewed_self_text
renewed_self_short seconds flag small =
    let l0 : length (codes "{\"auth\":{\"lease_duration\":") ≡ 26 = refl in
    let l2 : length (codes ",\"renewable\":") ≡ 13 = refl in
    let l4 : length (codes "}}") ≡ 2 = refl in
    let long : length (renewed_self_text seconds flag) ≡ length (codes "{\"auth\":{\"lease_duration\":") + length (decimal seconds) + length (codes ",\"renewable\":") + length (flag_text flag) + length (codes "}}") = sum5 (codes "{\"auth\":{\"lease_duration\":") (decimal seconds) (codes ",\"renewable\":") (flag_text flag) (codes "}}") in
    let h0 = digits seconds small in
    let h1 = flag_short flag in
    omega (arith, l0, l2, l4, long, h0, h1)

pub renewed_lease_short : (id : List ℕ) (seconds : ℕ) (flag : Bool) → length id ≤ 256 → seconds < 2 ^ 32 → length (renewed_lease_text id seconds flag) ≤ 2000
unfolding renewed_lease_text
renewed_lease_short id seconds flag fits small =
    let l0 : length (codes "{\"lease_duration\":") ≡ 18 = refl in
    let l2 : length (codes ",\"lease_id\":") ≡ 12 = refl in
    let l4 : length (codes ",\"renewable\":") ≡ 13 = refl in
    let l6 : length (codes "}") ≡ 1 = refl in
    let long : length (renewed_lease_text id seconds flag) ≡ length (codes "{\"lease_duration\":") + length (decimal seconds) + length (codes ",\"lease_id\":") + length (quoted id) + length (codes ",\"renewable\":") + length (flag_text flag) + length (codes "}") = sum7 (codes "{\"lease_duration\":") (decimal seconds) (codes ",\"lease_id\":") (quoted id) (codes ",\"renewable\":") (flag_text flag) (codes "}") in
    let h0 = digits seconds small in
    let h1 = quoted_short id fits in
    let h2 = flag_short flag in
    omega (arith, l0, l2, l4, l6, long, h0, h1, h2)

pub looked_lease_short : (id date : List ℕ) (flag : Bool) (seconds : ℕ) → length id ≤ 256 → length date ≤ 20 → seconds < 2 ^ 32 → length (looked_lease_text id date flag seconds) ≤ 2000
unfolding looked_lease_text
looked_lease_short id date flag seconds fits brief small =
    let l0 : length (codes "{\"data\":{\"id\":") ≡ 14 = refl in
    let l2 : length (codes ",\"issue_time\":") ≡ 14 = refl in
    let l4 : length (codes ",\"renewable\":") ≡ 13 = refl in
    let l6 : length (codes ",\"ttl\":") ≡ 7 = refl in
    let l8 : length (codes "}}") ≡ 2 = refl in
    let long : length (looked_lease_text id date flag seconds) ≡ length (codes "{\"data\":{\"id\":") + length (quoted id) + length (codes ",\"issue_time\":") + length (quoted date) + length (codes ",\"renewable\":") + length (flag_text flag) + length (codes ",\"ttl\":") + length (decimal seconds) + length (codes "}}") =
    sum9 (codes "{\"data\":{\"id\":") (quoted id) (codes ",\"issue_time\":") (quoted date) (codes ",\"renewable\":") (flag_text flag) (codes ",\"ttl\":") (decimal seconds) (codes "}}") in
    let h0 = quoted_short id fits in
    let h1 = length-append (escape date) (34 ∷ []) in
    let h2 = escape_short date in
    let h3 = flag_short flag in
    let h4 = digits seconds small in
    omega (arith, l0, l2, l4, l6, l8, long, h0, h1, h2, h3, h4, brief)

pub errors_short : (text : List ℕ) → length text ≤ 256 → length (errors_text text) ≤ 2000
unfolding errors_text
errors_short text fits =
    let l0 : length (codes "{\"errors\":[") ≡ 11 = refl in
    let l2 : length (codes "]}") ≡ 2 = refl in
    let long : length (errors_text text) ≡ length (codes "{\"errors\":[") + length (quoted text) + length (codes "]}") = sum3 (codes "{\"errors\":[") (quoted text) (codes "]}") in
    let h0 = quoted_short text fits in
    omega (arith, l0, l2, long, h0)

pub refusal_short : (refusal : Refusal) → length (text_of_refusal refusal) ≤ 256
unfolding text_of_refusal
refusal_short refusals.UnsupportedPath = omega arith
refusal_short _ = omega arith

-- ---- heads

length_lines_short : (n : ℕ) → n ≤ 2000 → length (length_lines n) ≤ 60
unfolding length_lines
length_lines_short n small =
    let front : length (codes "Content-Type: application/json\r\nContent-Length: ") ≡ 48 = refl in
    let long : length (length_lines n) ≡ length (codes "Content-Type: application/json\r\nContent-Length: ") + length (decimal n ++ codes "\r\n") =
    sum2 (codes "Content-Type: application/json\r\nContent-Length: ") (decimal n ++ codes "\r\n") in
    let end : length (decimal n ++ codes "\r\n") ≡ length (decimal n) + 2 = sum2 (decimal n) (codes "\r\n") in
    let short = digits n (omega (arith, small)) in
    omega (arith, front, long, end, short)

last_short : length last_lines ≤ 21
unfolding last_lines
last_short = omega arith

host_short : (port : ℕ) → port < 2 ^ 16 → length (host_lines port) ≤ 39
unfolding host_lines
host_short port small =
    let front : length (codes " HTTP/1.1\r\nHost: 127.0.0.1:") ≡ 27 = refl in
    let long : length (host_lines port) ≡ length (codes " HTTP/1.1\r\nHost: 127.0.0.1:") + length (decimal port ++ codes "\r\n") =
    sum2 (codes " HTTP/1.1\r\nHost: 127.0.0.1:") (decimal port ++ codes "\r\n") in
    let end : length (decimal port ++ codes "\r\n") ≡ length (decimal port) + 2 = sum2 (decimal port) (codes "\r\n") in
    let short = digits port (omega (arith, small)) in
    omega (arith, front, long, end, short)

token_short : (token : Option (List ℕ)) → IfSome token (λ t. length t ≤ 256) → length (token_line token) ≤ 273
unfolding token_line
token_short None fits = omega arith
token_short (Some t) fits =
    let front : length (codes "X-Vault-Token: ") ≡ 15 = refl in
    let long : length (token_line (Some t)) ≡ length (codes "X-Vault-Token: ") + length t + 2 = sum3 (codes "X-Vault-Token: ") t (codes "\r\n") in
    omega (arith, front, long, fits)

by_method : (b : Bool) (n : ℕ) → length (length_lines n) ≤ 60 → length (cond b [] (length_lines n)) ≤ 60
by_method true n short = omega arith
by_method false n short = short

body_lines_short : (method : List ℕ) (n : ℕ) → n ≤ 2000 → length (body_lines method n) ≤ 60
unfolding body_lines
body_lines_short method n small = by_method (is_get method) n (length_lines_short n small)

pub status_short : (status refused : ℕ) → status ≡ refused → length (status_line refused) ≤ 40 → length (status_line status) ≤ 40
status_short status refused same short = subst (λ s. length (status_line s) ≤ 40) (sym same) short

line_short : (status : ℕ) → status < 2 ^ 32 → length (phrase status) ≤ 18 → length (status_line status) ≤ 40
unfolding status_line
line_short status small words =
    let front : length (codes "HTTP/1.1 ") ≡ 9 = refl in
    let long : length (status_line status) ≡ length (codes "HTTP/1.1 ") + length (decimal status ++ (codes " " ++ (phrase status ++ codes "\r\n"))) =
    sum2 (codes "HTTP/1.1 ") (decimal status ++ (codes " " ++ (phrase status ++ codes "\r\n"))) in
    let long1 = length-append (decimal status) (codes " " ++ (phrase status ++ codes "\r\n")) in
    let long2 : length (codes " " ++ (phrase status ++ codes "\r\n")) ≡ 1 + length (phrase status ++ codes "\r\n") = sum2 (codes " ") (phrase status ++ codes "\r\n") in
    let long3 : length (phrase status ++ codes "\r\n") ≡ length (phrase status) + 2 = sum2 (phrase status) (codes "\r\n") in
    let short = digits status small in
    omega (arith, front, long, long1, long2, long3, short, words)

ok_phrase : length (phrase 200) ≡ 2
unfolding phrase
ok_phrase = refl

pub ok_short : length (status_line 200) ≤ 40
ok_short = line_short 200 (omega arith) (let is = ok_phrase in omega (arith, is))

refused_phrase : (refusal : Refusal) → length (phrase (status_of_refusal refusal)) ≤ 18
unfolding phrase
refused_phrase refusals.UnsupportedPath = let is : length (phrase 404) ≡ 9 = refl in omega (arith, is)
refused_phrase refusals.UnsupportedMethod = let is : length (phrase 405) ≡ 18 = refl in omega (arith, is)
refused_phrase refusals.PermissionDenied = let is : length (phrase 403) ≡ 9 = refl in omega (arith, is)
refused_phrase _ = let is : length (phrase 400) ≡ 11 = refl in omega (arith, is)

small_status : (refusal : Refusal) → status_of_refusal refusal < 2 ^ 32
small_status refusals.UnsupportedPath = omega arith
small_status _ = omega arith

pub refused_short : (refusal : Refusal) → length (status_line (status_of_refusal refusal)) ≤ 40
refused_short refusal = line_short (status_of_refusal refusal) (small_status refusal) (refused_phrase refusal)

-- ---- whole texts

pub reply_short : (r : Reply) → length (status_line r.status) ≤ 40 → length r.body ≤ 2000 → length (reply_text r) ≤ 1048576
unfolding reply_text
reply_short r status body =
    let lines = length_lines_short (length r.body) body in
    let long1 = length-append (status_line r.status) (length_lines (length r.body)) in
    let long2 = length-append (status_line r.status ++ length_lines (length r.body)) last_lines in
    let long : length (reply_text r) ≡ length (status_line r.status ++ length_lines (length r.body) ++ last_lines) + length r.body =
    length-append (status_line r.status ++ length_lines (length r.body) ++ last_lines) r.body in
    omega (arith, lines, long1, long2, long, last_short, status, body)

pub request_short :
    (r : Request) → length r.method ≤ 4 → length r.path ≤ 256 → IfSome r.token (λ t. length t ≤ 256) → r.port < 2 ^ 16 → length r.body ≤ 2000 → length (request_text r) ≤ 1048576
unfolding request_text
request_short r method path token port body =
    let long : length (request_text r) ≡ length r.method + length (codes " ") + length r.path + length (host_lines r.port) + length (token_line r.token) + length (body_lines r.method (length r.body)) + length last_lines + length r.body =
    sum8 r.method (codes " ") r.path (host_lines r.port) (token_line r.token) (body_lines r.method (length r.body)) last_lines r.body in
    let space : length (codes " ") ≡ 1 = refl in
    let host = host_short r.port port in
    let line = token_short r.token token in
    let lines = body_lines_short r.method (length r.body) body in
    omega (arith, long, space, host, line, lines, last_short, method, path, body)
