-- The law that a request which was written is read back.
use Rattle.std.proofs.Common.{◌≡◌, ℕ, ◌+◌, ◌-◌, ◌^◌, ◌<◌, ◌≤◌, ◌⊎◌, inl, inr, Bool, true, false, IsTrue, List, [], ◌∷◌, ◌++◌, length, take, drop, get_or, map, flat_map, decimal, codes, reverse, refl, sym, ap, ◌∙◌, arith, subst, All, Option, None, Some, Result, Ok, append_assoc, append-nil, length-append, take-append-drop, cond, IsUtf8}
use Rattle.std.specs.Cmp.Lexicographic.{bytes_decides}
use Rattle.std.proofs.lemmas.{Bool.or_cases, Bool.cond-true, Bool.cond-false, Bool.both_ways, Bool.cases_lt, Bool.Decides.nat_tests, List.take_all, List.reverse-append, List.get_or_past, List.Concat.flat_map-append}
use Rattle.std.proofs.lemmas.{List.Elements.All-nil, List.Elements.All-cons, List.Elements.All-head, List.Elements.All-tail, List.Elements.All-push, List.Elements.All-weaker, List.Elements.All-append, List.Elements.All-get_or}
use Rattle.std.proofs.lemmas.{List.Sums.AllPass-from_list_all, Str.IsUtf8-from_ascii}
use Rattle.httparse.specs.Grammar.{crlf, Field, IsField, IsToken, is_token_byte, is_value_byte, is_uri_byte, is_ows, skip_ows, trim_ows, print_field, RequestHead, IsRequestHead, print_request, print_section, ReadsRequest}
use Rattle.httparse.specs.Spans.{name_and_value}
use Rattle.httparse.proofs.{GrammarLemmas.print_request-append, GrammarLemmas.request_unique, TrimLemmas.trim_ows_space}
use Rattle.vault_http.specs.{declared.framing.Framing.TheVariants.Empty, declared.framing.Framing.TheVariants.Counted, declared.http_fault.HttpFault.HttpFault}
use Rattle.vault_http.specs.{declared.http_fault.HttpFault.TheVariants.BadHead, declared.http_fault.HttpFault.TheVariants.Truncated, declared.http_fault.HttpFault.TheVariants.TooLong, declared.request.Request.Request}
use Rattle.vault_http.specs.{Framing.framing, Framing.framing_by, Framing.counted_framing, Framing.transfer_encoding, Framing.content_length, Heads.framing_of_request, Heads.token_of, Heads.token_name}
use Rattle.vault_http.specs.{Messages.IsHeadless, Messages.IsOpenRequest, Messages.IsFramed, Messages.request_from_parts, Messages.IsHttpRequest}
use Rattle.vault_http.specs.{RoundTripRequest.is_sent_method, RoundTripRequest.is_path_byte, RoundTripRequest.is_token_value_byte, RoundTripRequest.IsSentToken, RoundTripRequest.IsSendableRequest, RoundTripRequest.without_port, RoundTripRequest.ReadsBackRequest}
use Rattle.vault_http.specs.{Written.request_text, Written.host_lines, Written.token_line, Written.body_lines, Written.length_lines, Written.last_lines, Written.is_get, declared.found_head.TheConstants.MOST_FIELDS}
use Rattle.vault_http.proofs.{DecimalLemmas.IsDigitByte, DecimalLemmas.decimal_digits, DecimalLemmas.digits_trimmed, DecimalLemmas.length_known, DecimalLemmas.value_byte, Fronts.take-grows}
use Rattle.vault_http.proofs.{ReplyRoundTrip.type_field, ReplyRoundTrip.length_field, ReplyRoundTrip.close_field, ReplyRoundTrip.type_is, ReplyRoundTrip.length_is, ReplyRoundTrip.close_is, ReplyRoundTrip.counted_whole}

-- ---- the head as a tree

abbrev host_field : ℕ → Field
host_field port = record { name = codes "Host"; raw = 32 ∷ (codes "127.0.0.1:" ++ decimal port); end = crlf }

abbrev token_field : List ℕ → Field
token_field token = record { name = codes "X-Vault-Token"; raw = 32 ∷ token; end = crlf }

abbrev token_fields : Option (List ℕ) → List Field
token_fields None = []
token_fields (Some token) = token_field token ∷ []

abbrev body_fields : Bool → ℕ → List Field
body_fields true n = []
body_fields false n = type_field ∷ length_field n ∷ []

abbrev fields_of : Bool → ℕ → Option (List ℕ) → ℕ → List Field
fields_of get port token n = host_field port ∷ (token_fields token ++ (body_fields get n ++ close_field ∷ []))

abbrev head_of : Bool → Request → RequestHead
head_of get r = record { blank = []; method = r.method; target = r.path; minor = 1; line_end = crlf; fields = fields_of get r.port r.token (length r.body); last = crlf }

token_text : (token : Option (List ℕ)) → flat_map print_field (token_fields token) ≡ token_line token
unfolding token_line
token_text None = refl
token_text (Some token) = append-nil _

body_text : (get : Bool) (method : List ℕ) (n : ℕ) → is_get method ≡ get → flat_map print_field (body_fields get n) ≡ body_lines method n
unfolding body_lines length_lines
body_text true method n e = sym (cond-true _ _ _ e)
body_text false method n e =
    ap (λ t. codes "Content-Type: application/json\r\nContent-Length: " ++ t) (append-nil (decimal n ++ 13 ∷ 10 ∷ [])) ∙ sym (cond-false _ _ _ e)

close_text : flat_map print_field (close_field ∷ []) ++ 13 ∷ 10 ∷ [] ≡ last_lines
unfolding last_lines
close_text = refl

section_text : (get : Bool) (r : Request) → is_get r.method ≡ get → (rest : List ℕ)
    → print_section (fields_of get r.port r.token (length r.body)) crlf ++ rest
    ≡ codes "Host: 127.0.0.1:" ++ (decimal r.port ++ (13 ∷ 10 ∷ (token_line r.token ++ (body_lines r.method (length r.body) ++ (last_lines ++ rest)))))
section_text get r e rest =
    let n = length r.body in
    let tokens = token_fields r.token in
    let bodies = body_fields get n in
    let others : flat_map print_field (tokens ++ (bodies ++ close_field ∷ [])) ≡ token_line r.token ++ (body_lines r.method n ++ flat_map print_field (close_field ∷ [])) =
    flat_map-append print_field tokens (bodies ++ close_field ∷ [])
    ∙ ap (λ t. t ++ flat_map print_field (bodies ++ close_field ∷ [])) (token_text r.token)
    ∙ ap (λ t. token_line r.token ++ t) (flat_map-append print_field bodies (close_field ∷ []) ∙ ap (λ t. t ++ flat_map print_field (close_field ∷ [])) (body_text get r.method n e)) in
    let tail : (flat_map print_field (tokens ++ (bodies ++ close_field ∷ [])) ++ 13 ∷ 10 ∷ []) ++ rest ≡ token_line r.token ++ (body_lines r.method n ++ (last_lines ++ rest)) =
    ap (λ t. (t ++ 13 ∷ 10 ∷ []) ++ rest) others
    ∙ ap (λ t. t ++ rest) (append_assoc (token_line r.token) (body_lines r.method n ++ flat_map print_field (close_field ∷ [])) (13 ∷ 10 ∷ [])
    ∙ ap (λ t. token_line r.token ++ t) (append_assoc (body_lines r.method n) (flat_map print_field (close_field ∷ [])) (13 ∷ 10 ∷ [])
    ∙ ap (λ t. body_lines r.method n ++ t) close_text))
    ∙ append_assoc (token_line r.token) (body_lines r.method n ++ last_lines) rest
    ∙ ap (λ t. token_line r.token ++ t) (append_assoc (body_lines r.method n) last_lines rest) in
    let first = flat_map print_field (tokens ++ (bodies ++ close_field ∷ [])) in
    ap (λ t. codes "Host: 127.0.0.1:" ++ (t ++ rest)) (append_assoc (decimal r.port ++ 13 ∷ 10 ∷ []) first (13 ∷ 10 ∷ []))
    ∙ ap (λ t. codes "Host: 127.0.0.1:" ++ t) (append_assoc (decimal r.port ++ 13 ∷ 10 ∷ []) (first ++ 13 ∷ 10 ∷ []) rest
    ∙ append_assoc (decimal r.port) (13 ∷ 10 ∷ []) ((first ++ 13 ∷ 10 ∷ []) ++ rest)
    ∙ ap (λ t. decimal r.port ++ (13 ∷ 10 ∷ t)) tail)

host_text : (port : ℕ) (rest : List ℕ) → host_lines port ++ rest ≡ codes " HTTP/1.1\r\nHost: 127.0.0.1:" ++ (decimal port ++ (13 ∷ 10 ∷ rest))
unfolding host_lines
host_text port rest = ap (λ t. codes " HTTP/1.1\r\nHost: 127.0.0.1:" ++ t) (append_assoc (decimal port) (13 ∷ 10 ∷ []) rest)

head_text : (get : Bool) (r : Request) (more : List ℕ) → is_get r.method ≡ get → request_text r ++ more ≡ print_request (head_of get r) ++ (r.body ++ more)
unfolding request_text
head_text get r more e =
    let n = length r.body in
    let rest = r.body ++ more in
    let lines = body_lines r.method n in
    regroup r.method r.path (host_lines r.port) (token_line r.token) lines last_lines r.body more
    ∙ ap (λ t. r.method ++ (32 ∷ (r.path ++ t))) (host_text r.port (token_line r.token ++ (lines ++ (last_lines ++ rest)))
    ∙ ap (λ t. codes " HTTP/1.1\r\n" ++ t) (sym (section_text get r e rest)))
    ∙ sym (print_request-append (head_of get r) rest)
  where
    regroup : (a p h t l z b m : List ℕ) → (((((((a ++ codes " ") ++ p) ++ h) ++ t) ++ l) ++ z) ++ b) ++ m ≡ a ++ (32 ∷ (p ++ (h ++ (t ++ (l ++ (z ++ (b ++ m)))))))
    regroup a p h t l z b m =
        append_assoc ((((((a ++ codes " ") ++ p) ++ h) ++ t) ++ l) ++ z) b m
        ∙ append_assoc (((((a ++ codes " ") ++ p) ++ h) ++ t) ++ l) z (b ++ m)
        ∙ append_assoc ((((a ++ codes " ") ++ p) ++ h) ++ t) l (z ++ (b ++ m))
        ∙ append_assoc (((a ++ codes " ") ++ p) ++ h) t (l ++ (z ++ (b ++ m)))
        ∙ append_assoc ((a ++ codes " ") ++ p) h (t ++ (l ++ (z ++ (b ++ m))))
        ∙ append_assoc (a ++ codes " ") p (h ++ (t ++ (l ++ (z ++ (b ++ m)))))
        ∙ append_assoc a (codes " ") (p ++ (h ++ (t ++ (l ++ (z ++ (b ++ m))))))

-- ---- the bytes of its parts

path_range : (b : ℕ) → IsTrue (is_path_byte b) → (33 ≤ b) × (b ≤ 126)
path_range b h = grind (arith, nat_tests)

uri_byte : (b : ℕ) → (33 ≤ b) × (b ≤ 126) → IsTrue (is_uri_byte b)
uri_byte b h = grind (arith, nat_tests)

token_range : (b : ℕ) → IsTrue (is_token_value_byte b) → (33 ≤ b) × (b ≤ 126)
token_range b h = grind (arith, nat_tests)

visible_value : (b : ℕ) → (33 ≤ b) × (b ≤ 126) → IsTrue (is_value_byte b)
visible_value b h = grind (arith, nat_tests)

visible_plain : (b : ℕ) → (33 ≤ b) × (b ≤ 126) → is_ows b ≡ false
visible_plain b h = grind (arith, nat_tests)

abbrev IsVisible : ℕ → Type 0
IsVisible b = (33 ≤ b) × (b ≤ 126)

skip_none : (ds : List ℕ) → All IsVisible ds → skip_ows ds ≡ ds
skip_none [] all = refl
skip_none (d ∷ ds) all = cond-false _ _ _ (visible_plain d (All-head IsVisible d ds all))

all_reversed : (ds : List ℕ) → All IsVisible ds → All IsVisible (reverse ds)
all_reversed [] all = all
all_reversed (d ∷ ds) all =
    subst (All IsVisible) (sym (reverse-append (d ∷ []) ds)) (All-push IsVisible (reverse ds) d (all_reversed ds (All-tail IsVisible d ds all)) (All-head IsVisible d ds all))

trimmed : (ds : List ℕ) → All IsVisible ds → trim_ows (32 ∷ ds) ≡ ds
trimmed ds all = trim_ows_space ds (skip_none ds all) (skip_none (reverse ds) (all_reversed ds all))

text_of_ascii : (bs : List ℕ) → All IsVisible bs → IsUtf8 bs
text_of_ascii bs all = IsUtf8-from_ascii bs (λ i. by_place i (cases_lt i (length bs)))
  where
    by_place : (i : ℕ) → (i < length bs) ⊎ (length bs ≤ i) → get_or bs i 0 < 128
    by_place i (inl inside) = let b = All-get_or IsVisible bs i 0 inside all in omega (arith, b)
    by_place i (inr past) = let e = get_or_past bs i 0 past in omega (arith, e)

method_is : (m : List ℕ) → IsTrue (is_sent_method m) → IsToken m
unfolding is_token_byte
method_is m h =
    elim (or_cases _ _ h) [
      | inl e ↦ subst IsToken (sym ((bytes_decides m (codes "GET")).0 e)) (omega arith, AllPass-from_list_all is_token_byte (codes "GET") refl)
      | inr h1 ↦ elim (or_cases _ _ h1) [
        | inl e ↦ subst IsToken (sym ((bytes_decides m (codes "POST")).0 e)) (omega arith, AllPass-from_list_all is_token_byte (codes "POST") refl)
        | inr h2 ↦ elim (or_cases _ _ h2) [
          | inl e ↦ subst IsToken (sym ((bytes_decides m (codes "PUT")).0 e)) (omega arith, AllPass-from_list_all is_token_byte (codes "PUT") refl)
          | inr h3 ↦ absurd (both_ways false refl h3)
        ]
      ]
    ]

host_is : (port : ℕ) → port < 2 ^ 64 → IsField (host_field port)
unfolding is_token_byte
host_is port few = record {
  name = (omega arith, AllPass-from_list_all is_token_byte (codes "Host") refl);
  raw = All-append (λ b. IsTrue (is_value_byte b)) (codes " 127.0.0.1:") (decimal port) (AllPass-from_list_all is_value_byte (codes " 127.0.0.1:") refl)
      (All-weaker IsDigitByte (λ b. IsTrue (is_value_byte b)) value_byte (decimal port) (decimal_digits port few));
}

token_field_is : (token : List ℕ) → All IsVisible token → IsField (token_field token)
unfolding is_token_byte
token_field_is token all = record {
  name = (omega arith, AllPass-from_list_all is_token_byte (codes "X-Vault-Token") refl);
  raw = All-cons (λ b. IsTrue (is_value_byte b)) 32 token refl (All-weaker IsVisible (λ b. IsTrue (is_value_byte b)) visible_value token all);
}

token_visible : (token : List ℕ) → IsSentToken (Some token) → All IsVisible token
token_visible token h = All-weaker (λ b. IsTrue (is_token_value_byte b)) IsVisible token_range token h.2

token_fields_are : (token : Option (List ℕ)) → IsSentToken token → All IsField (token_fields token)
token_fields_are None h = All-nil IsField
token_fields_are (Some token) h = All-cons IsField (token_field token) [] (token_field_is token (token_visible token h)) (All-nil IsField)

body_fields_are : (get : Bool) (n : ℕ) → n < 2 ^ 64 → All IsField (body_fields get n)
body_fields_are true n few = All-nil IsField
body_fields_are false n few = All-cons IsField type_field (length_field n ∷ []) type_is (All-cons IsField (length_field n) [] (length_is n few) (All-nil IsField))

head_is : (get : Bool) (r : Request) → IsSendableRequest r → IsRequestHead (head_of get r)
head_is get r s =
    let n = length r.body in
    let visible = All-weaker (λ b. IsTrue (is_path_byte b)) IsVisible path_range r.path s.writable.path.2 in
    let small : n < 2 ^ 64 = omega (arith, s.short) in
    let low : r.port < 2 ^ 64 = omega (arith, s.port) in
    record {
      method = method_is r.method s.writable.method;
      target = (s.writable.path.0, All-weaker IsVisible (λ b. IsTrue (is_uri_byte b)) uri_byte r.path visible);
      target_text = text_of_ascii r.path visible;
      minor = omega arith;
      fields = All-cons IsField (host_field r.port) (token_fields r.token ++ (body_fields get n ++ close_field ∷ [])) (host_is r.port low)
          (All-append IsField (token_fields r.token) (body_fields get n ++ close_field ∷ []) (token_fields_are r.token s.writable.token)
          (All-append IsField (body_fields get n) (close_field ∷ []) (body_fields_are get n small) (All-cons IsField close_field [] close_is (All-nil IsField))));
    }

-- ---- what its fields say

said_length : (n : ℕ) → n < 10 ^ 15 → framing_by Empty [] (trim_ows (32 ∷ decimal n) ∷ []) ≡ Ok (Counted n)
said_length n few =
    let small : n < 2 ^ 64 = omega arith in
    ap (λ v. framing_by Empty [] (v ∷ [])) (digits_trimmed (decimal n) (decimal_digits n small)) ∙ ap counted_framing (length_known n few)

framing_is : (get : Bool) (port : ℕ) (token : Option (List ℕ)) (n : ℕ) → n < 10 ^ 15 → framing Empty (map name_and_value (fields_of get port token n)) ≡ cond get (Ok Empty) (Ok (Counted n))
unfolding framing transfer_encoding content_length
framing_is true port None n few = refl
framing_is true port (Some token) n few = refl
framing_is false port None n few = said_length n few
framing_is false port (Some token) n few = said_length n few

token_is : (get : Bool) (port : ℕ) (token : Option (List ℕ)) (n : ℕ) → IsSentToken token → token_of (map name_and_value (fields_of get port token n)) ≡ token
unfolding token_name
token_is true port None n h = refl
token_is true port (Some token) n h = ap (λ t. Some t) (trimmed token (token_visible token h))
token_is false port None n h = refl
token_is false port (Some token) n h = ap (λ t. Some t) (trimmed token (token_visible token h))

few_fields : (get : Bool) (port : ℕ) (token : Option (List ℕ)) (n : ℕ) → length (fields_of get port token n) ≤ MOST_FIELDS
few_fields true port None n = omega arith
few_fields true port (Some token) n = omega arith
few_fields false port None n = omega arith
few_fields false port (Some token) n = omega arith

-- ---- the one answer

headless : (max : ℕ) (bytes rest : List ℕ) (head : RequestHead) (fault : HttpFault) → ReadsRequest bytes head rest → length head.fields ≤ MOST_FIELDS → length (print_request head) ≤ max
    → IsHeadless IsOpenRequest (λ b. (more : List ℕ) (h : RequestHead) (left : List ℕ) → ReadsRequest (b ++ more) h left → MOST_FIELDS < length h.fields) max bytes fault → ⊥
headless max bytes rest head BadHead reads few within h =
    let over = h (drop max bytes) head rest (subst (λ b. ReadsRequest b head rest) (sym (take-append-drop max bytes)) reads) in
    omega (arith, over, few)
headless max bytes rest head Truncated reads few within h = h.1.0 head rest reads
headless max bytes rest head TooLong reads few within h =
    let printed = print_request head in
    let front : take max bytes ≡ printed ++ take (max - length printed) rest =
    ap (take max) reads.1 ∙ take-grows max printed rest ∙ ap (λ t. t ++ take (max - length printed) rest) (take_all max printed within) in
    h.1.0 head (take (max - length printed) rest) (reads.0, front)
headless max bytes rest head _ reads few within h = h

behind_is : (get : Bool) (r : Request) (more : List ℕ) (room : ℕ) (answer : Result Request HttpFault) → (get ≡ true → r.body ≡ []) → length r.body ≤ room
    → IsFramed (request_from_parts r.method r.path r.token) (cond get (Ok Empty) (Ok (Counted (length r.body)))) room (r.body ++ more) answer → answer ≡ Ok (without_port r)
behind_is true r more room answer none fits h = h.2 ∙ ap (request_from_parts r.method r.path r.token) (h.1 ∙ ap (λ b. Ok b) (sym (none refl)))
behind_is false r more room answer none fits h = h.2 ∙ ap (request_from_parts r.method r.path r.token) (h.1 ∙ counted_whole r.body more room fits)

one_answer : (get : Bool) (r : Request) (more : List ℕ) (max : ℕ) (answer : Result Request HttpFault) → is_get r.method ≡ get → IsSendableRequest r → length (request_text r) ≤ max
    → IsHttpRequest max (request_text r ++ more) answer → answer ≡ Ok (without_port r)
one_answer get r more max answer e s fits is =
    let n = length r.body in
    let head = head_of get r in
    let reads : ReadsRequest (request_text r ++ more) head (r.body ++ more) = (head_is get r s, head_text get r more e) in
    let whole : request_text r ≡ print_request head ++ r.body =
    sym (append-nil (request_text r)) ∙ head_text get r [] e ∙ ap (λ t. print_request head ++ t) (append-nil r.body) in
    let long : length (request_text r) ≡ length (print_request head) + n = ap length whole ∙ length-append (print_request head) r.body in
    let within : length (print_request head) ≤ max = omega (arith, long, fits) in
    let room : n ≤ max - length (print_request head) = omega (arith, long, fits) in
    elim is [
      | inl h ↦ absurd (headless max (request_text r ++ more) (r.body ++ more) head h.0 reads (few_fields get r.port r.token n) within h.1)
      | inr h ↦
          let same = request_unique (request_text r ++ more) h.head head h.rest (r.body ++ more) h.reads reads in
          let by_head = subst (λ k. IsFramed (request_from_parts k.method k.target (token_of (map name_and_value k.fields))) (framing_of_request k) (max - length (print_request k)) h.rest answer) same.0 h.behind in
          let by_rest = subst (λ t. IsFramed (request_from_parts r.method r.path (token_of (map name_and_value head.fields))) (framing_of_request head) (max - length (print_request head)) t answer) same.1 by_head in
          let by_token = subst (λ t. IsFramed (request_from_parts r.method r.path t) (framing_of_request head) (max - length (print_request head)) (r.body ++ more) answer) (token_is get r.port r.token n s.writable.token) by_rest in
          let by_framing = subst (λ f. IsFramed (request_from_parts r.method r.path r.token) f (max - length (print_request head)) (r.body ++ more) answer) (framing_is get r.port r.token n s.short) by_token in
          behind_is get r more (max - length (print_request head)) answer (λ g. s.writable.body (e ∙ g)) room by_framing
    ]

pub reads_back : (r : Request) → ReadsBackRequest r
reads_back r s more max fits answer is = one_answer (is_get r.method) r more max answer refl s fits is
