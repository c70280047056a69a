-- What is written is read: all lines of a certificate.
use Rattle.std.proofs.Common.{◌≡◌, ℕ, ◌+◌, ◌<◌, ◌≤◌, false, List, [], ◌∷◌, ◌++◌, append_assoc, bytes_eq, codes, decimal, flat_map, length, length-append, Ok, refl, sym, ap, ◌∙◌, subst, arith}
use Rattle.std.proofs.lemmas.List.{append-nil}
use Rattle.std.proofs.lemmas.Bool.{cond-false, cond-true, eq-eqb}
use Rattle.std.specs.{Option.ok_or, List.join_with_byte}
use Rattle.base_moment.specs.declared.moment.TheConstants.{LAST}
use Rattle.plan_forest.specs.{declared.entry.Entry.Entry, Forest.Forest, Push.IsForest}
use Rattle.plan_rule.specs.{declared.run.Run.Run, declared.limit.TheConstants.LIMIT, Runs.wake_count}
use Rattle.plan_certificate.specs.{declared.cert.Body.Body, declared.cert.Cert.Cert, declared.cert.Version.Version, declared.cert.TheConstants.MAX_LINES, declared.fault.CertFault.TheVariants.BadLine}
use Rattle.plan_certificate.specs.declared.cert.Body.TheVariants.{Runs, Unkeepable}
use Rattle.plan_certificate.specs.declared.cert.Version.TheVariants.{One, Two}
use Rattle.plan_certificate.specs.CertificateText.{AreRunsOf, IsCertificateBody, IsRunOf, WritesCertificate, body_text, certificate_text, end_line_text, header_text, line_text, name_of_entry, run_text, start_text, unkeepable_text}
use Rattle.plan_certificate.specs.Lines.{line_at, number_at, three_words, two_words}
use Rattle.plan_certificate.specs.Reading.{body_of, certificate_of, end_of_runs, ending, entry_named, header_of, nothing_behind, right, run_keyword, runs_of, start_of, unkeepable_of, version_of}
use Rattle.base_words.specs.Pieces.{keyword, pieces, three, two}
use Rattle.plan_certificate.proofs.Cutting.{whole_line}
use Rattle.plan_certificate.proofs.ReadBack.{entry_back, name_word, number_back, run_as_line, run_is_not, run_keyword_back, run_line_back, run_text_is, run_words, run_words_are}
use Rattle.plan_certificate.proofs.Turns.{Behind, behind_nothing, header_line, other_done, run_more, value_on}
use Rattle.plan_certificate.proofs.Words.{AreWords, decimal_is_word, feed_back, keyword_back, keyword_test, line_back, words_back}

-- ---- the line `end`

abbrev end_words : ℕ → List (List ℕ)
end_words count = codes "end" ∷ decimal count ∷ []

abbrev end_line : ℕ → List ℕ
end_line count = join_with_byte 32 (end_words count)

end_words_are : (count : ℕ) → count ≤ LIMIT → AreWords (end_words count)
end_words_are count few = (record { spaces = refl; feeds = refl }, (decimal_is_word count (omega (arith, few)), tt))

end_pieces : (count : ℕ) → count ≤ LIMIT → pieces 10 (end_line_text count) ≡ end_line count ∷ pieces 10 []
unfolding end_line_text
end_pieces count few = ap (pieces 10) (sym (append-nil (line_text (end_words count)))) ∙ line_back (end_words count) [] (end_words_are count few)

end_back : (n count : ℕ) → count ≤ LIMIT → ending n count (end_line count) (pieces 10 []) ≡ Ok tt
unfolding ending end_of_runs two_words
end_back n count few =
    let words = words_back (codes "end") (decimal count ∷ []) (end_words_are count few) in
    let last : end_of_runs n count (end_line count) ≡ Ok tt =
    cond-true _ _ _ (keyword_test (end_line count) (codes "end") _ words)
    ∙ value_on (two_words n (end_line count)) _ (codes "end", decimal count) (ap (λ ws. ok_or (two ws) (BadLine n)) words)
    ∙ value_on (number_at n (decimal count)) _ count (number_back n count (omega (arith, few)))
    ∙ ap (right n) (eq-eqb count count refl) in
    value_on (end_of_runs n count (end_line count)) _ tt last ∙ behind_nothing [] refl

end_is_not_run : (v : Version) → bytes_eq (codes "end") (run_keyword v) ≡ false
unfolding run_keyword
end_is_not_run One = refl
end_is_not_run Two = refl

end_keyword : (count : ℕ) → count ≤ LIMIT → keyword (end_line count) ≡ codes "end"
end_keyword count few = keyword_back (end_line count) (codes "end") _ (words_back (codes "end") (decimal count ∷ []) (end_words_are count few))

-- ---- runs

counted_append : (xs ys : List Run) → wake_count (xs ++ ys) ≡ wake_count xs + wake_count ys
counted_append [] ys = omega arith
counted_append (x ∷ xs) ys = omega (arith, counted_append xs ys)

runs_text : Version → List Entry → List Run → ℕ → List ℕ
runs_text v es rs total = flat_map (run_text v es) rs ++ end_line_text total

runs_text_more : (v : Version) (es : List Entry) (r : Run) (rs : List Run) (total : ℕ) → runs_text v es (r ∷ rs) total ≡ line_text (run_words v es r) ++ runs_text v es rs total
unfolding runs_text
runs_text_more v es r rs total = append_assoc (run_text v es r) (flat_map (run_text v es) rs) (end_line_text total) ∙ ap (λ l. l ++ (flat_map (run_text v es) rs ++ end_line_text total)) (run_text_is v es r)

module _ (g : Forest) (f : IsForest g) (v : Version) where
  run_pieces : (r : Run) (rs : List Run) (total : ℕ) → IsRunOf v g.entries r → r.count ≤ LIMIT → pieces 10 (runs_text v g.entries (r ∷ rs) total) ≡ run_as_line v g.entries r ∷ pieces 10 (runs_text v g.entries rs total)
  run_pieces r rs total h few = ap (pieces 10) (runs_text_more v g.entries r rs total) ∙ line_back (run_words v g.entries r) (runs_text v g.entries rs total) (run_words_are g f v r h few)

  runs_back : (found new : List Run) (total : ℕ) → AreRunsOf v g.entries new → length (found ++ new) ≤ MAX_LINES → wake_count (found ++ new) ≤ LIMIT → total ≡ wake_count (found ++ new)
      → runs_of v g.entries found (pieces 10 (runs_text v g.entries new total)) ≡ Ok (found ++ new)
  unfolding runs_text
  runs_back found [] total each few wakes is =
      let es = g.entries in
      let total_is : total ≡ wake_count found = is ∙ ap wake_count (append-nil found) in
      let small : total ≤ LIMIT = omega (arith, is, wakes) in
      let ls = end_line total ∷ pieces 10 [] in
      let all = runs_of v es found ls in
      let b : Behind v es found (length found + 3) total ls all = record { place = refl; counts = total_is; same = refl } in
      ap (runs_of v es found) (end_pieces total small)
      ∙ other_done v es found (length found + 3) total ls all b (end_line total) (pieces 10 []) (whole_line (length found + 3) (end_line total) [])
      (ap (λ w. bytes_eq w (run_keyword v)) (end_keyword total small) ∙ end_is_not_run v) tt (end_back (length found + 3) total small)
      ∙ ap Ok (sym (append-nil found))
  runs_back found (r ∷ rs) total each few wakes is =
      let es = g.entries in
      let split = counted_append found (r ∷ rs) in
      let room : wake_count found + r.count ≤ LIMIT = omega (arith, split, wakes) in
      let count_few : r.count ≤ LIMIT = omega (arith, room) in
      let n = length found + 3 in
      let line = run_as_line v es r in
      let rest = pieces 10 (runs_text v es rs total) in
      let ls = line ∷ rest in
      let all = runs_of v es found ls in
      let b : Behind v es found n (wake_count found) ls all = record { place = refl; counts = refl; same = refl } in
      let place : length found < MAX_LINES = omega (arith, few, length-append found (r ∷ rs)) in
      let regrouped : (found ++ r ∷ []) ++ rs ≡ found ++ r ∷ rs = append_assoc found (r ∷ []) rs in
      let more = run_more v es found n (wake_count found) ls all b line rest (whole_line n line (runs_text v es rs total))
      (run_keyword_back g f v r each.0 count_few) place r (run_line_back g f v n (wake_count found) r each.0 room) in
      ap (runs_of v es found) (run_pieces r rs total each.0 count_few)
      ∙ sym more
      ∙ runs_back (found ++ r ∷ []) rs total each.1 (subst (λ x. length x ≤ MAX_LINES) (sym regrouped) few) (subst (λ x. wake_count x ≤ LIMIT) (sym regrouped) wakes) (is ∙ ap wake_count (sym regrouped))
      ∙ ap Ok regrouped

  -- the first line of runs does not begin with `unkeepable`
  record IsOther (text : List ℕ) : Type 0 where
    line : List ℕ
    rest : List ℕ
    parts : pieces 10 text ≡ line ∷ pieces 10 rest
    other : bytes_eq (keyword line) (codes "unkeepable") ≡ false

  first_is_other : (rs : List Run) (total : ℕ) → AreRunsOf v g.entries rs → wake_count rs ≤ LIMIT → total ≤ LIMIT → IsOther (runs_text v g.entries rs total)
  unfolding runs_text
  first_is_other [] total each few small =
      record { line = end_line total; rest = []; parts = end_pieces total small; other = ap (λ w. bytes_eq w (codes "unkeepable")) (end_keyword total small) }
  first_is_other (r ∷ rs) total each few small =
      let count_few : r.count ≤ LIMIT = omega (arith, few) in
      record {
        line = run_as_line v g.entries r;
        rest = runs_text v g.entries rs total;
        parts = run_pieces r rs total each.0 count_few;
        other = run_is_not g f v r each.0 count_few;
      }

  pair_words : ℕ → ℕ → List (List ℕ)
  pair_words entry needed = codes "unkeepable" ∷ name_of_entry g.entries entry ∷ name_of_entry g.entries needed ∷ []

  pub body_back : (body : Body) → IsCertificateBody v g.entries body → body_of v g.entries (pieces 10 (body_text v g.entries body)) ≡ Ok body
  unfolding body_of body_text runs_text unkeepable_text unkeepable_of three_words pair_words
  body_back (Runs rs) h =
      let es = g.entries in
      let total = wake_count rs in
      let text = runs_text v es rs total in
      let o = first_is_other rs total h.0 h.1.1 h.1.1 in
      let first : line_at 3 (pieces 10 text) ≡ Ok (o.line, pieces 10 o.rest) = ap (line_at 3) o.parts ∙ whole_line 3 o.line o.rest in
      value_on (line_at 3 (pieces 10 text)) _ (o.line, pieces 10 o.rest) first
      ∙ cond-false _ _ _ o.other
      ∙ value_on (runs_of v es [] (pieces 10 text)) _ rs (runs_back [] rs total h.0 h.1.0 h.1.1 refl)
  body_back (Unkeepable entry needed) h =
      let es = g.entries in
      let ws = pair_words entry needed in
      let line = join_with_byte 32 ws in
      let are : AreWords ws = (record { spaces = refl; feeds = refl }, (name_word g f entry h.0, (name_word g f needed h.1, tt))) in
      let words : pieces 32 line ≡ ws = words_back (codes "unkeepable") (name_of_entry es entry ∷ name_of_entry es needed ∷ []) are in
      let parts : pieces 10 (line_text ws) ≡ line ∷ pieces 10 [] = ap (pieces 10) (sym (append-nil (line_text ws))) ∙ line_back ws [] are in
      let first : line_at 3 (pieces 10 (line_text ws)) ≡ Ok (line, pieces 10 []) = ap (line_at 3) parts ∙ whole_line 3 line [] in
      let pair : unkeepable_of es line ≡ Ok (Unkeepable entry needed) =
      value_on (three_words 3 line) _ (codes "unkeepable", name_of_entry es entry, name_of_entry es needed) (ap (λ x. ok_or (three x) (BadLine 3)) words)
      ∙ value_on (entry_named 3 es (name_of_entry es entry)) _ entry (entry_back g f 3 entry h.0)
      ∙ value_on (entry_named 3 es (name_of_entry es needed)) _ needed (entry_back g f 3 needed h.1) in
      value_on (line_at 3 (pieces 10 (line_text ws))) _ (line, pieces 10 []) first
      ∙ cond-true _ _ _ (keyword_test line (codes "unkeepable") (name_of_entry es entry ∷ name_of_entry es needed ∷ []) words)
      ∙ value_on (unkeepable_of es line) _ (Unkeepable entry needed) pair
      ∙ value_on (nothing_behind (pieces 10 [])) _ tt (behind_nothing [] refl)

-- ---- the first two lines

header_back : (v : Version) (rest : List ℕ) → header_of (pieces 10 (header_text v ++ rest)) ≡ Ok (v, pieces 10 rest)
unfolding header_text version_of
header_back One rest = ap header_of (feed_back (codes "leasekeep-plan 1") rest refl) ∙ header_line (codes "leasekeep-plan 1") rest
header_back Two rest = ap header_of (feed_back (codes "leasekeep-plan 2") rest refl) ∙ header_line (codes "leasekeep-plan 2") rest

start_words : ℕ → List (List ℕ)
start_words start = codes "start" ∷ decimal start ∷ []

start_words_are : (start : ℕ) → start ≤ LAST → AreWords (start_words start)
unfolding start_words
start_words_are start within = (record { spaces = refl; feeds = refl }, (decimal_is_word start (omega (arith, within)), tt))

start_pieces : (start : ℕ) (rest : List ℕ) → start ≤ LAST → pieces 10 (start_text start ++ rest) ≡ join_with_byte 32 (start_words start) ∷ pieces 10 rest
unfolding start_text start_words
start_pieces start rest within = line_back (start_words start) rest (start_words_are start within)

start_back : (start : ℕ) → start ≤ LAST → start_of (join_with_byte 32 (start_words start)) ≡ Ok start
unfolding start_of two_words start_words
start_back start within =
    let line = join_with_byte 32 (start_words start) in
    let words = words_back (codes "start") (decimal start ∷ []) (start_words_are start within) in
    cond-true _ _ _ (keyword_test line (codes "start") (decimal start ∷ []) words)
    ∙ value_on (two_words 2 line) _ (codes "start", decimal start) (ap (λ ws. ok_or (two ws) (BadLine 2)) words)
    ∙ number_back 2 start within

-- ---- all of it

pub written_is_read : (g : Forest) → IsForest g → (text : List ℕ) (c : Cert) → WritesCertificate g.entries text c → certificate_of g.entries text ≡ Ok c
unfolding certificate_of certificate_text
written_is_read g f text c w =
    let es = g.entries in
    let body = body_text c.version es c.body in
    let second = join_with_byte 32 (start_words c.start) in
    let rest = start_text c.start ++ body in
    let within : c.start ≤ LAST = w.certificate.0 in
    let header : header_of (pieces 10 text) ≡ Ok (c.version, pieces 10 rest) = ap (λ t. header_of (pieces 10 t)) w.spelled ∙ header_back c.version rest in
    let line : line_at 2 (pieces 10 rest) ≡ Ok (second, pieces 10 body) = ap (line_at 2) (start_pieces c.start body within) ∙ whole_line 2 second body in
    value_on (header_of (pieces 10 text)) _ (c.version, pieces 10 rest) header
    ∙ value_on (line_at 2 (pieces 10 rest)) _ (second, pieces 10 body) line
    ∙ value_on (start_of second) _ c.start (start_back c.start within)
    ∙ value_on (body_of c.version es (pieces 10 body)) _ c.body (body_back g f c.version c.body w.certificate.1)
