-- The laws of replies as messages, and what the head of one says of it.
use Rattle.std.proofs.Common.{◌≡◌, ℕ, ◌-◌, ◌<◌, ◌≤◌, ◌⊎◌, inl, inr, Bool, true, false, nat_le, nat_lt, ◌&&◌, List, ◌++◌, ◌∷◌, [], length, take, drop, IsTrue, refl, sym, ap, ◌∙◌, arith, subst, Result, Ok, Err}
use Rattle.std.proofs.lemmas.Bool.{cases_lt, and_from, lt-ltb, le-ltb, le-leb, lt-leb}
use Rattle.std.specs.List.{list_all}
use Rattle.httparse.specs.Grammar.{print_response, print_blank, print_version, print_reason, print_end, print_section, HasNoResponse, status_code}
use Rattle.httparse.proofs.GrammarLemmas.{print_response-append, response_unique}
use Rattle.vault_http.specs.{declared.body.BodyFault.BodyFault, declared.framing.Framing.Framing, declared.framing.LengthFault.LengthFault, declared.http_fault.HttpFault.TheVariants.BadHead, declared.reply.Reply.Reply}
use Rattle.vault_http.specs.{EmptyLine.HasLineBehind, EmptyLine.is_line_end_byte, Heads.FoundReply, Heads.framing_of_response, Known.IsHeaded, Known.message_with_body}
use Rattle.vault_http.specs.{Messages.IsBehind, Messages.IsHttpReply, Messages.is_informational, Messages.length_fault, Messages.reply_from_parts, Messages.reply_with}
use Rattle.vault_http.proofs.{EmptyLines.front_split, EmptyLines.line_behind, EmptyLines.response_ends, EmptyLines.not_blank, MessageLemmas.HasBodyOf, MessageLemmas.head_on, MessageLemmas.headed_reply}

pub blank_has_no_head : (bytes : List ℕ) → IsTrue (list_all is_line_end_byte bytes) → HasNoResponse bytes
blank_has_no_head bytes all h rest reads =
    let e : bytes ≡ print_blank h.blank ++ (print_version h.minor ++ (32 ∷ (h.digits ++ (print_reason h.reason ++ (print_end h.line_end ++ (print_section h.fields h.last ++ rest)))))) =
    reads.1 ∙ print_response-append h rest in
    not_blank (print_blank h.blank) (print_version h.minor) (h.digits ++ (print_reason h.reason ++ (print_end h.line_end ++ (print_section h.fields h.last ++ rest))))
    (sym (ap (list_all is_line_end_byte) e) ∙ all)

pub line_ends_head : (bytes more : List ℕ) → HasNoResponse bytes → (HasLineBehind (length bytes) (bytes ++ more) → ⊥) → HasNoResponse (bytes ++ more)
line_ends_head bytes more none quiet h rest reads = elim (cases_lt (length bytes) (length (print_response h))) [
  | inl past ↦ quiet (line_behind h.last bytes more (print_response h) rest reads.1 (response_ends h) past)
  | inr within ↦ none h (drop (length (print_response h)) bytes) (reads.0, front_split bytes more (print_response h) rest reads.1 within)
]

-- ---- after a head

informational : (status : ℕ) (framed : Result Framing LengthFault) (room : ℕ) (rest : List ℕ) → 100 ≤ status → status < 200 → IsBehind (is_informational status) status framed room rest (Err BadHead)
informational status framed room rest least most =
    let e : is_informational status ≡ true = and_from (nat_le 100 status) (nat_lt status 200) (le-leb 100 status least) (lt-ltb status 200 most) in
    subst (λ b. IsBehind b status framed room rest (Err BadHead)) (sym e) refl

and_false : (b c : Bool) → c ≡ false → (b && c) ≡ false
and_false true c e = e
and_false false c e = refl

pub final : (status : ℕ) → ((100 ≤ status) × (200 ≤ status)) ⊎ (status < 100) → is_informational status ≡ false
final status (inl h) = and_false (nat_le 100 status) (nat_lt status 200) (le-ltb status 200 h.1)
final status (inr h) = ap (λ b. b && nat_lt status 200) (lt-leb 100 status h)

pub informational_reply : (max : ℕ) (bytes more : List ℕ) (len status : ℕ) (framed : Result Framing LengthFault) → FoundReply (take max bytes) len status framed → 100 ≤ status → status < 200
    → IsHttpReply max (bytes ++ more) (Err BadHead)
informational_reply max bytes more len status framed f least most =
    headed_reply max bytes more len status framed (Err BadHead) f (informational status framed (max - len) (drop len bytes ++ more) least most)

pub lengthless_reply : (max : ℕ) (bytes more : List ℕ) (len status : ℕ) (fault : LengthFault) → FoundReply (take max bytes) len status (Err fault) → is_informational status ≡ false
    → IsHttpReply max (bytes ++ more) (Err (length_fault fault))
lengthless_reply max bytes more len status fault f e =
    headed_reply max bytes more len status (Err fault) (Err (length_fault fault)) f
    (subst (λ b. IsBehind b status (Err fault) (max - len) (drop len bytes ++ more) (Err (length_fault fault))) (sym e) refl)

reply_body : (b : Bool) (status : ℕ) (framed : Result Framing LengthFault) (room : ℕ) (rest : List ℕ) (message : Reply) → IsBehind b status framed room rest (Ok message) → HasBodyOf framed room rest
reply_body true status framed room rest message e = absurd (cc (e))
reply_body false status (Err fault) room rest message e = absurd (cc (e))
reply_body false status (Ok framed) room rest message (Ok body, is, e) = (body, is)
reply_body false status (Ok framed) room rest message (Err fault, is, e) = absurd (cc (e))

found_body : (max : ℕ) (bytes : List ℕ) (len status : ℕ) (framed : Result Framing LengthFault) → FoundReply (take max bytes) len status framed
    → (more : List ℕ) (message : Reply) → IsHttpReply max (bytes ++ more) (Ok message) → HasBodyOf framed (max - len) (drop len bytes ++ more)
found_body max bytes len status framed f more message (inl h) = absurd (cc (h.2))
found_body max bytes len status framed f more message (inr h) =
    let on = head_on max bytes more (print_response f.head) f.rest len f.reads.1 f.len_is in
    let rest = drop len bytes ++ more in
    let same = response_unique (bytes ++ more) h.head f.head h.rest rest h.reads (f.reads.0, on.0) in
    let body = reply_body (is_informational (status_code h.head)) (status_code h.head) (framing_of_response h.head) (max - length (print_response h.head)) h.rest message h.behind in
    let by_rest = subst (λ r. HasBodyOf (framing_of_response h.head) (max - length (print_response h.head)) r) same.1 body in
    let by_head = subst (λ g. HasBodyOf (framing_of_response g) (max - length (print_response g)) rest) same.0 by_rest in
    let by_len = subst (λ k. HasBodyOf (framing_of_response f.head) (max - k) rest) (sym f.len_is) by_head in
    subst (λ g. HasBodyOf g (max - len) rest) (sym f.framing_is) by_len

same_reply : (status : ℕ) (none : List ℕ) (body : Result (List ℕ) BodyFault) → message_with_body reply_with (record { status = status; body = none }) body ≡ reply_from_parts status body
same_reply status none (Ok body) = refl
same_reply status none (Err fault) = refl

pub headed : (max : ℕ) (bytes : List ℕ) (len status : ℕ) (framed : Framing) (none : List ℕ) → FoundReply (take max bytes) len status (Ok framed) → is_informational status ≡ false
    → IsHeaded (IsHttpReply max) reply_with max bytes len (record { status = status; body = none }) framed
headed max bytes len status framed none f e =
    let on = head_on max bytes [] (print_response f.head) f.rest len f.reads.1 f.len_is in record {
      within = omega (arith, on.1, f.len_is);
      there = omega (arith, on.2, f.len_is);
      answers = λ more body is.
          let answer = message_with_body reply_with (record { status = status; body = none }) body in
          headed_reply max bytes more len status (Ok framed) answer f
          (subst (λ b. IsBehind b status (Ok framed) (max - len) (drop len bytes ++ more) answer) (sym e) (body, is, same_reply status none body));
      has_body = λ more message is. found_body max bytes len status (Ok framed) f more message is;
    }
