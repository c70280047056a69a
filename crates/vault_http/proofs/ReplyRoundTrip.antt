-- The law that a reply which was written is read back.
use Rattle.std.proofs.Common.{◌≡◌, ℕ, ◌+◌, ◌-◌, ◌/◌, ◌%◌, ◌^◌, ◌<◌, ◌≤◌, ◌⊎◌, inl, inr, Bool, true, false, ◌||◌, ◌==◌, IsTrue, List, [], ◌∷◌, ◌++◌, length, take, drop, map, decimal, codes, refl, sym, ap, ◌∙◌, arith, subst, Some, Result, Ok, append_assoc, append-nil, length-append, take-append-drop}
use Rattle.std.specs.{List.list_all, Char.is_ascii_digit, Str.Parse.digits_value}
use Rattle.std.proofs.lemmas.{Bool.or_cases, Bool.eqb-true, Bool.cond-false, Bool.le-ltb, Fmt.decimal_step, Fmt.decimal_digit, List.take_all, List.Elements.All-nil, List.Elements.All-cons, List.Sums.AllPass-from_list_all}
use Rattle.std.proofs.Math.Seq.{take-append_seam}
use Rattle.httparse.specs.Grammar.{crlf, Field, IsField, AllPass, is_token_byte, is_value_byte, trim_ows, ResponseHead, IsResponseHead, print_response, print_section, ReadsResponse, status_code}
use Rattle.httparse.specs.Spans.{name_and_value}
use Rattle.httparse.proofs.GrammarLemmas.{print_response-append, response_unique}
use Rattle.vault_http.specs.{declared.framing.Framing.Framing, declared.framing.Framing.TheVariants.Counted, declared.framing.Framing.TheVariants.ToEnd, declared.framing.LengthFault.LengthFault, declared.http_fault.HttpFault.HttpFault}
use Rattle.vault_http.specs.{declared.http_fault.HttpFault.TheVariants.BadHead, declared.http_fault.HttpFault.TheVariants.Truncated, declared.http_fault.HttpFault.TheVariants.TooLong, declared.reply.Reply.Reply, Body.counted_body}
use Rattle.vault_http.specs.{Framing.framing, Framing.framing_by, Framing.counted_framing, Framing.transfer_encoding, Framing.content_length, Framing.reply_framing, Heads.framing_of_response}
use Rattle.vault_http.specs.{Messages.IsHeadless, Messages.IsOpenReply, Messages.IsFramed, Messages.IsBehind, Messages.is_informational, Messages.reply_from_parts, Messages.IsHttpReply, RoundTrip.is_sent, RoundTrip.ReadsBackReply}
use Rattle.vault_http.specs.{Written.reply_text, Written.status_line, Written.length_lines, Written.last_lines, Written.phrase, declared.found_head.TheConstants.MOST_FIELDS}
use Rattle.vault_http.proofs.{DecimalLemmas.decimal_digits, DecimalLemmas.digits_pass, DecimalLemmas.digits_trimmed, DecimalLemmas.length_known, Fronts.take-grows}

-- ---- the head as a tree

abbrev pub type_field : Field
type_field = record { name = codes "Content-Type"; raw = codes " application/json"; end = crlf }

abbrev pub length_field : ℕ → Field
length_field n = record { name = codes "Content-Length"; raw = 32 ∷ decimal n; end = crlf }

abbrev pub close_field : Field
close_field = record { name = codes "Connection"; raw = codes " close"; end = crlf }

abbrev pub written_fields : ℕ → List Field
written_fields n = type_field ∷ length_field n ∷ close_field ∷ []

abbrev pub written : ℕ → ℕ → ResponseHead
written status n = record { blank = []; minor = 1; digits = decimal status; reason = Some (phrase status); line_end = crlf; fields = written_fields n; last = crlf }

-- what a status has to be for its head to be read
pub record IsWritable (status : ℕ) : Type 0 where
  three : length (decimal status) ≡ 3
  digits : AllPass is_ascii_digit (decimal status)
  value : digits_value 10 (decimal status) ≡ status
  words : AllPass is_value_byte (phrase status)
  final : is_informational status ≡ false
  bodied : ((status == 204) || (status == 304)) ≡ false

section_text : (n : ℕ) → print_section (written_fields n) crlf ≡ length_lines n ++ last_lines
unfolding length_lines last_lines
section_text n =
    ap (λ t. codes "Content-Type: application/json\r\nContent-Length: " ++ t) (append_assoc (decimal n ++ 13 ∷ 10 ∷ []) (codes "Connection: close\r\n") (13 ∷ 10 ∷ []))

start_text : (status : ℕ) (rest : List ℕ) → status_line status ++ rest ≡ codes "HTTP/1.1 " ++ (decimal status ++ (32 ∷ (phrase status ++ (13 ∷ 10 ∷ rest))))
unfolding status_line
start_text status rest =
    ap (λ t. codes "HTTP/1.1 " ++ t) (append_assoc (decimal status) (32 ∷ (phrase status ++ 13 ∷ 10 ∷ [])) rest
    ∙ ap (λ t. decimal status ++ (32 ∷ t)) (append_assoc (phrase status) (13 ∷ 10 ∷ []) rest))

pub written_text : (r : Reply) (more : List ℕ) → reply_text r ++ more ≡ print_response (written r.status (length r.body)) ++ (r.body ++ more)
unfolding reply_text
written_text r more =
    let n = length r.body in
    let head = written r.status n in
    let section = print_section (written_fields n) crlf in
    let tail : ((length_lines n ++ last_lines) ++ (r.body ++ more)) ≡ section ++ (r.body ++ more) = ap (λ t. t ++ (r.body ++ more)) (sym (section_text n)) in
    append_assoc (status_line r.status ++ length_lines n ++ last_lines) r.body more
    ∙ ap (λ t. t ++ (r.body ++ more)) (append_assoc (status_line r.status) (length_lines n) last_lines)
    ∙ append_assoc (status_line r.status) (length_lines n ++ last_lines) (r.body ++ more)
    ∙ ap (λ t. status_line r.status ++ t) tail ∙ start_text r.status (section ++ (r.body ++ more))
    ∙ sym (print_response-append head (r.body ++ more))

pub type_is : IsField type_field
unfolding is_token_byte
type_is = record { name = (omega arith, AllPass-from_list_all is_token_byte (codes "Content-Type") refl); raw = AllPass-from_list_all is_value_byte (codes " application/json") refl }

pub length_is : (n : ℕ) → n < 2 ^ 64 → IsField (length_field n)
unfolding is_token_byte
length_is n few = record { name = (omega arith, AllPass-from_list_all is_token_byte (codes "Content-Length") refl); raw = digits_pass (decimal n) (decimal_digits n few) }

pub close_is : IsField close_field
unfolding is_token_byte
close_is = record { name = (omega arith, AllPass-from_list_all is_token_byte (codes "Connection") refl); raw = AllPass-from_list_all is_value_byte (codes " close") refl }

pub written_is : (status n : ℕ) → IsWritable status → n < 2 ^ 64 → IsResponseHead (written status n)
written_is status n w few = record {
  minor = omega arith;
  digits = (w.three, w.digits);
  reason = w.words;
  fields = All-cons IsField type_field (length_field n ∷ close_field ∷ []) type_is
      (All-cons IsField (length_field n) (close_field ∷ []) (length_is n few) (All-cons IsField close_field [] close_is (All-nil IsField)));
}

written_framing : (status n : ℕ) → IsWritable status → n < 10 ^ 15 → framing_of_response (written status n) ≡ Ok (Counted n)
unfolding framing transfer_encoding content_length
written_framing status n w few =
    let small : n < 2 ^ 64 = omega arith in
    let value : trim_ows (32 ∷ decimal n) ≡ decimal n = digits_trimmed (decimal n) (decimal_digits n small) in
    let said : framing ToEnd (map name_and_value (written_fields n)) ≡ Ok (Counted n) =
    ap (λ v. framing_by ToEnd [] (v ∷ [])) value ∙ ap counted_framing (length_known n few) in
    ap (reply_framing (status_code (written status n))) said
    ∙ ap (λ s. reply_framing s (Ok (Counted n))) w.value
    ∙ ap (λ f. Ok f) (cond-false _ _ _ w.bodied)

-- ---- the one answer

headless : (max : ℕ) (bytes rest : List ℕ) (head : ResponseHead) (fault : HttpFault) → ReadsResponse bytes head rest → length head.fields ≤ MOST_FIELDS → length (print_response head) ≤ max
    → IsHeadless IsOpenReply (λ b. (more : List ℕ) (h : ResponseHead) (left : List ℕ) → ReadsResponse (b ++ more) h left → MOST_FIELDS < length h.fields) max bytes fault → ⊥
headless max bytes rest head BadHead reads few within h =
    let over = h (drop max bytes) head rest (subst (λ b. ReadsResponse b head rest) (sym (take-append-drop max bytes)) reads) in
    omega (arith, over, few)
headless max bytes rest head Truncated reads few within h = h.1.0 head rest reads
headless max bytes rest head TooLong reads few within h =
    let printed = print_response head in
    let front : take max bytes ≡ printed ++ take (max - length printed) rest =
    ap (take max) reads.1 ∙ take-grows max printed rest ∙ ap (λ t. t ++ take (max - length printed) rest) (take_all max printed within) in
    h.1.0 head (take (max - length printed) rest) (reads.0, front)
headless max bytes rest head _ reads few within h = h

pub counted_whole : (body more : List ℕ) (room : ℕ) → length body ≤ room → counted_body (length body) room (body ++ more) ≡ Ok body
counted_whole body more room fits =
    let long : length body ≤ length (body ++ more) = omega (arith, length-append body more) in
    cond-false _ _ _ (le-ltb _ _ fits) ∙ cond-false _ _ _ (le-ltb _ _ long) ∙ ap (λ b. Ok b) (take-append_seam body more)

behind_is : (r : Reply) (more : List ℕ) (room : ℕ) (answer : Result Reply HttpFault) (informational : Bool) (status : ℕ) (framed : Result Framing LengthFault)
    → informational ≡ false → status ≡ r.status → framed ≡ Ok (Counted (length r.body)) → length r.body ≤ room
    → IsBehind informational status framed room (r.body ++ more) answer → answer ≡ Ok r
behind_is r more room answer informational status framed final same said fits behind =
    let b1 = subst (λ b. IsBehind b status framed room (r.body ++ more) answer) final behind in
    let b2 = subst (λ s. IsFramed (reply_from_parts s) framed room (r.body ++ more) answer) same b1 in
    let b3 = subst (λ f. IsFramed (reply_from_parts r.status) f room (r.body ++ more) answer) said b2 in
    b3.2 ∙ ap (reply_from_parts r.status) (b3.1 ∙ counted_whole r.body more room fits)

one_answer : (r : Reply) (more : List ℕ) (max : ℕ) (answer : Result Reply HttpFault) → IsWritable r.status → length r.body < 10 ^ 15 → length (reply_text r) ≤ max
    → IsHttpReply max (reply_text r ++ more) answer → answer ≡ Ok r
one_answer r more max answer w few fits is =
    let n = length r.body in
    let head = written r.status n in
    let reads : ReadsResponse (reply_text r ++ more) head (r.body ++ more) = (written_is r.status n w (omega arith), written_text r more) in
    let whole : reply_text r ≡ print_response head ++ r.body =
    sym (append-nil (reply_text r)) ∙ written_text r [] ∙ ap (λ t. print_response head ++ t) (append-nil r.body) in
    let long : length (reply_text r) ≡ length (print_response head) + n = ap length whole ∙ length-append (print_response head) r.body in
    let within : length (print_response head) ≤ max = omega (arith, long, fits) in
    let room : n ≤ max - length (print_response head) = omega (arith, long, fits) in
    elim is [
      | inl h ↦ absurd (headless max (reply_text r ++ more) (r.body ++ more) head h.0 reads (omega arith) within h.1)
      | inr h ↦
          let same = response_unique (reply_text r ++ more) h.head head h.rest (r.body ++ more) h.reads reads in
          let by_head = subst (λ k. IsBehind (is_informational (status_code k)) (status_code k) (framing_of_response k) (max - length (print_response k)) h.rest answer) same.0 h.behind in
          let by_rest = subst (λ t. IsBehind (is_informational (status_code head)) (status_code head) (framing_of_response head) (max - length (print_response head)) t answer) same.1 by_head in
          behind_is r more (max - length (print_response head)) answer (is_informational (status_code head)) (status_code head) (framing_of_response head)
          (ap is_informational w.value ∙ w.final) w.value (written_framing r.status n w few) room by_rest
    ]

-- ---- the statuses

three : (n : ℕ) → 100 ≤ n → n < 1000 → decimal n ≡ (48 + n / 10 / 10) ∷ (48 + n / 10 % 10) ∷ (48 + n % 10) ∷ []
three n low high =
    decimal_step n (omega arith) (omega arith)
    ∙ ap (λ t. t ++ (48 + n % 10) ∷ []) (decimal_step (n / 10) (omega arith) (omega arith) ∙ ap (λ t. t ++ (48 + n / 10 % 10) ∷ []) (decimal_digit (n / 10 / 10) (omega arith)))

by_digits : (status : ℕ) (ds : List ℕ) → decimal status ≡ ds → length ds ≡ 3 → list_all is_ascii_digit ds ≡ true → digits_value 10 ds ≡ status
    → list_all is_value_byte (phrase status) ≡ true → is_informational status ≡ false → ((status == 204) || (status == 304)) ≡ false → IsWritable status
by_digits status ds e long pass value words final bodied = record {
  three = ap length e ∙ long;
  digits = subst (AllPass is_ascii_digit) (sym e) (AllPass-from_list_all is_ascii_digit ds pass);
  value = ap (digits_value 10) e ∙ value;
  words = AllPass-from_list_all is_value_byte (phrase status) words;
  final = final;
  bodied = bodied;
}

false_true : false ≡ true → ⊥
false_true e = cc

sent_case : (status s : ℕ) (rest : Bool) → ((status == s) || rest) ≡ true → (status ≡ s) ⊎ (rest ≡ true)
sent_case status s rest h = elim (or_cases (status == s) rest h) [ inl e ↦ inl (eqb-true status s e) | inr e ↦ inr e ]

writable_200 : IsWritable 200
unfolding phrase
writable_200 = by_digits 200 (50 ∷ 48 ∷ 48 ∷ []) (three 200 (omega arith) (omega arith)) refl refl refl refl refl refl

writable_400 : IsWritable 400
unfolding phrase
writable_400 = by_digits 400 (52 ∷ 48 ∷ 48 ∷ []) (three 400 (omega arith) (omega arith)) refl refl refl refl refl refl

writable_403 : IsWritable 403
unfolding phrase
writable_403 = by_digits 403 (52 ∷ 48 ∷ 51 ∷ []) (three 403 (omega arith) (omega arith)) refl refl refl refl refl refl

writable_404 : IsWritable 404
unfolding phrase
writable_404 = by_digits 404 (52 ∷ 48 ∷ 52 ∷ []) (three 404 (omega arith) (omega arith)) refl refl refl refl refl refl

writable_405 : IsWritable 405
unfolding phrase
writable_405 = by_digits 405 (52 ∷ 48 ∷ 53 ∷ []) (three 405 (omega arith) (omega arith)) refl refl refl refl refl refl

writable_429 : IsWritable 429
unfolding phrase
writable_429 = by_digits 429 (52 ∷ 50 ∷ 57 ∷ []) (three 429 (omega arith) (omega arith)) refl refl refl refl refl refl

writable_500 : IsWritable 500
unfolding phrase
writable_500 = by_digits 500 (53 ∷ 48 ∷ 48 ∷ []) (three 500 (omega arith) (omega arith)) refl refl refl refl refl refl

writable_503 : IsWritable 503
unfolding phrase
writable_503 = by_digits 503 (53 ∷ 48 ∷ 51 ∷ []) (three 503 (omega arith) (omega arith)) refl refl refl refl refl refl

pub writable : (status : ℕ) → IsTrue (is_sent status) → IsWritable status
writable status h = elim (sent_case status 200 _ h) [
  | inl e ↦ subst IsWritable (sym e) writable_200
  | inr h0 ↦ elim (sent_case status 400 _ h0) [
    | inl e ↦ subst IsWritable (sym e) writable_400
    | inr h1 ↦ elim (sent_case status 403 _ h1) [
      | inl e ↦ subst IsWritable (sym e) writable_403
      | inr h2 ↦ elim (sent_case status 404 _ h2) [
        | inl e ↦ subst IsWritable (sym e) writable_404
        | inr h3 ↦ elim (sent_case status 405 _ h3) [
          | inl e ↦ subst IsWritable (sym e) writable_405
          | inr h4 ↦ elim (sent_case status 429 _ h4) [
            | inl e ↦ subst IsWritable (sym e) writable_429
            | inr h5 ↦ elim (sent_case status 500 _ h5) [
              | inl e ↦ subst IsWritable (sym e) writable_500
              | inr h6 ↦ elim (sent_case status 503 _ h6) [
                | inl e ↦ subst IsWritable (sym e) writable_503
                | inr h7 ↦ absurd (false_true h7)
              ]
            ]
          ]
        ]
      ]
    ]
  ]
]

pub reads_back : (r : Reply) → ReadsBackReply r
reads_back r sent few more max fits answer is = one_answer r more max answer (writable r.status sent) few fits is
