-- Replies: the text of a reply is read as that reply, and no other text is.
use Rattle.std.proofs.Common.{◌≡◌, ◌≢◌, inl, inr, ℕ, zero, suc, ◌<◌, Bool, true, false, not, cond, ◌==◌, List, [], ◌∷◌, ◌++◌, length, take, drop, bytes_eq, codes, Option, Some, None, option_map, refl, sym, ap, ◌∙◌, subst, arith, append_assoc, length-append}
use Rattle.std.proofs.lemmas.List.Splits.{slice_split_at}
use Rattle.std.proofs.lemmas.Bool.{and_from, and_parts, cases_Bool, cond-true, cond-false, eqb-true, eq-eqb, not_from_false}
use Rattle.std.specs.{Cmp.Lexicographic.bytes_decides, List.join_with_byte, List.onto_first}
use Rattle.base_words.specs.{Laws.AllLack, Laws.Lacks, Pieces.pieces}
use Rattle.base_words.proofs.Cutting.{has_piece}
use Rattle.base_words.proofs.Joined.{joined_back, lacks_append, lacks_each}
use Rattle.agent_control.specs.declared.reply.ControlReply.{ControlReply}
use Rattle.agent_control.specs.Laws.{ReplyFound, ReplyOnly, WhyIsLine}
use Rattle.agent_control.specs.Replies.{IsControlReply, closed_lines, control_reply_text, lines_of_text, lines_text, refusal_of, refused_in, reply_if, reply_in_lines, reply_in_text, reply_lines, request_fault_text}
use Rattle.agent_control.specs.declared.reply.ControlReply.TheVariants.{Done, Refused}
use Rattle.agent_control.specs.declared.fault.RequestFault.TheVariants as faults
use Rattle.agent_control.proofs.Chosen.{mapped, passed, some_same}

-- ---- for the reader of lines

pub closed_more : (piece : List ℕ) (ps : List (List ℕ)) → ps ≢ [] → closed_lines (piece ∷ ps) ≡ option_map (λ lines. piece ∷ lines) (closed_lines ps)
closed_more piece [] some = absurd (some refl)
closed_more piece (p ∷ ps) some = refl

mapped_twice : (xs : List (List ℕ)) (x : List ℕ) (o : Option (List (List ℕ)))
    → option_map (λ ls. xs ++ ls) (option_map (λ ls. x ∷ ls) o) ≡ option_map (λ ls. (xs ++ x ∷ []) ++ ls) o
mapped_twice xs x None = refl
mapped_twice xs x (Some ls) = ap (λ l. Some l) (sym (append_assoc xs (x ∷ []) ls))

joined_more : (line : List ℕ) (ps : List (List ℕ)) → ps ≢ [] → join_with_byte 10 (line ∷ ps) ≡ line ++ 10 ∷ join_with_byte 10 ps
joined_more line [] some = absurd (some refl)
joined_more line (p ∷ ps) some = refl

-- one line more was read
pub line_read : (read : List (List ℕ)) (line : List ℕ) (after : List ℕ)
    → option_map (λ ls. read ++ ls) (closed_lines (line ∷ pieces 10 after)) ≡ option_map (λ ls. (read ++ line ∷ []) ++ ls) (closed_lines (pieces 10 after))
line_read read line after =
    ap (option_map (λ ls. read ++ ls)) (closed_more line (pieces 10 after) (has_piece 10 after)) ∙ mapped_twice read line (closed_lines (pieces 10 after))

pub shorter : (rest line after : List ℕ) → pieces 10 rest ≡ line ∷ pieces 10 after → length after < length rest
shorter rest line after e =
    let is : rest ≡ line ++ 10 ∷ after = sym (joined_back 10 rest) ∙ ap (join_with_byte 10) e ∙ joined_more line (pieces 10 after) (has_piece 10 after) ∙ ap (λ t. line ++ 10 ∷ t) (joined_back 10 after) in
    omega (arith, ap length is, length-append line (10 ∷ after))

-- ---- lines

lines_back : (lines : List (List ℕ)) → AllLack 10 lines → lines_of_text (lines_text lines) ≡ Some lines
unfolding lines_of_text pieces
lines_back [] h = refl
lines_back (l ∷ ls) h =
    ap closed_lines (slice_split_at (λ c. c == 10) l 10 (lines_text ls) (lacks_each 10 l h.0) (eq-eqb 10 10 refl))
    ∙ closed_more l (pieces 10 (lines_text ls)) (has_piece 10 (lines_text ls))
    ∙ ap (option_map (λ us. l ∷ us)) (lines_back ls h.1)

-- the byte at which a text is cut stands in no piece
first_lacks : (x : ℕ) (ps : List (List ℕ)) → (x == 10) ≡ false → AllLack 10 ps → AllLack 10 (onto_first x ps)
first_lacks x [] other h = (and_from _ true (not_from_false _ other) refl, tt)
first_lacks x (p ∷ ps) other h = (and_from _ _ (not_from_false _ other) h.0, h.1)

next_lacks : (x : ℕ) (ps : List (List ℕ)) (b : Bool) → (x == 10) ≡ b → AllLack 10 ps → AllLack 10 (cond b ([] ∷ ps) (onto_first x ps))
next_lacks x ps true e h = (refl, h)
next_lacks x ps false e h = first_lacks x ps e h

pieces_lack : (text : List ℕ) → AllLack 10 (pieces 10 text)
unfolding pieces
pieces_lack [] = (refl, tt)
pieces_lack (x ∷ text) = next_lacks x (pieces 10 text) (x == 10) refl (pieces_lack text)

nil_is : (xs : List ℕ) → length xs ≡ 0 → xs ≡ []
nil_is [] e = refl
nil_is (x ∷ xs) e = absurd (omega (arith, e))

-- the lines, and the nothing after the last
closed_is : (ps lines : List (List ℕ)) → closed_lines ps ≡ Some lines → AllLack 10 ps → AllLack 10 lines × (join_with_byte 10 ps ≡ lines_text lines)
closed_is [] lines e h = cc
closed_is (p ∷ []) lines e h =
    let c = passed (length p == 0) (Some []) lines e in
    let is : [] ≡ lines = some_same _ _ c.1 in
    rw (sym is) (tt, nil_is p (eqb-true _ _ c.0))
closed_is (p ∷ q ∷ ps) lines e h =
    let m = mapped (λ ls. p ∷ ls) (closed_lines (q ∷ ps)) lines e in
    let rest = closed_is (q ∷ ps) m.0 m.1 h.1 in
    rw m.2 ((h.0, rest.0), ap (λ t. p ++ 10 ∷ t) rest.1)

pub lines_only : (text : List ℕ) (lines : List (List ℕ)) → lines_of_text text ≡ Some lines → AllLack 10 lines × (text ≡ lines_text lines)
unfolding lines_of_text
lines_only text lines e =
    let c = closed_is (pieces 10 text) lines e (pieces_lack text) in
    (c.0, sym (joined_back 10 text) ∙ c.1)

-- ---- replies

reply_lines_lack : (reply : ControlReply) → IsControlReply reply → AllLack 10 (reply_lines reply)
reply_lines_lack (Done lines) h = (refl, h)
reply_lines_lack (Refused why more) h = (lacks_append 10 (codes "error: ") why refl h.0, h.1)

lines_are_reply : (reply : ControlReply) → reply_in_lines (reply_lines reply) ≡ Some reply
unfolding refusal_of
lines_are_reply (Done lines) = refl
lines_are_reply (Refused why more) = refl

pub reply_found : ReplyFound
unfolding reply_in_text control_reply_text
reply_found reply h = ap reply_if (lines_back (reply_lines reply) (reply_lines_lack reply h)) ∙ lines_are_reply reply

append_lacks : (xs ys : List ℕ) → Lacks 10 (xs ++ ys) → Lacks 10 ys
append_lacks [] ys h = h
append_lacks (x ∷ xs) ys h = append_lacks xs ys (and_parts (not (x == 10)) _ h).1

taken_apart : (n : ℕ) (xs : List ℕ) → take n xs ++ drop n xs ≡ xs
taken_apart zero xs = refl
taken_apart (suc n) [] = refl
taken_apart (suc n) (x ∷ xs) = ap (λ l. x ∷ l) (taken_apart n xs)

refusal_is : (line why : List ℕ) → refusal_of line ≡ Some why → line ≡ codes "error: " ++ why
unfolding refusal_of
refusal_is line why e =
    let p = passed (bytes_eq (take 7 line) (codes "error: ")) (Some (drop 7 line)) why e in
    let front : take 7 line ≡ codes "error: " = (bytes_decides (take 7 line) (codes "error: ")).0 p.0 in
    let rest : drop 7 line ≡ why = some_same _ _ p.1 in
    sym (taken_apart 7 line) ∙ ap (λ l. l ++ drop 7 line) front ∙ ap (λ l. codes "error: " ++ l) rest

refused_is : (line : List ℕ) (more : List (List ℕ)) (reply : ControlReply) → AllLack 10 (line ∷ more) → refused_in line more ≡ Some reply → IsControlReply reply × (line ∷ more ≡ reply_lines reply)
refused_is line more reply h e =
    let m = mapped (λ why. Refused why more) (refusal_of line) reply e in
    let is = refusal_is line m.0 m.1 in
    rw m.2 ((append_lacks (codes "error: ") m.0 (subst (Lacks 10) is h.0), h.1), ap (λ l. l ∷ more) is)

reply_is : (lines : List (List ℕ)) (reply : ControlReply) → AllLack 10 lines → reply_in_lines lines ≡ Some reply → IsControlReply reply × (lines ≡ reply_lines reply)
reply_is [] reply h e = cc
reply_is (line ∷ lines) reply h e =
    elim (cases_Bool (bytes_eq line (codes "ok"))) [
      | inl holds ↦
          let is : Done lines ≡ reply = some_same _ _ (sym (cond-true (bytes_eq line (codes "ok")) _ _ holds) ∙ e) in
          rw (sym is) (h.1, ap (λ l. l ∷ lines) ((bytes_decides line (codes "ok")).0 holds))
      | inr fails ↦ refused_is line lines reply h (sym (cond-false (bytes_eq line (codes "ok")) _ _ fails) ∙ e)
    ]

lines_there : (o : Option (List (List ℕ))) (reply : ControlReply) → reply_if o ≡ Some reply → (lines : List (List ℕ)) × (o ≡ Some lines) × (reply_in_lines lines ≡ Some reply)
lines_there None reply e = cc
lines_there (Some lines) reply e = (lines, refl, e)

pub reply_only : ReplyOnly
unfolding reply_in_text control_reply_text
reply_only text reply e =
    let l = lines_there (lines_of_text text) reply e in
    let o = lines_only text l.0 l.1 in
    let r = reply_is l.0 reply o.0 l.2 in
    (r.0, o.1 ∙ ap lines_text r.1)

pub why_is_line : WhyIsLine
unfolding request_fault_text
why_is_line faults.TooLong = (refl, tt)
why_is_line _ = (refl, tt)
