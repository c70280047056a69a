-- The inmost level of reading: the lines of runs. Where it stops, the lines before are those of runs. For the law of the first fault.
use Rattle.std.proofs.Common.{◌≡◌, ◌≢◌, ℕ, suc, ◌+◌, ◌≤◌, false, ◌&&◌, List, [], ◌∷◌, ◌++◌, append_assoc, bytes_eq, codes, decimal, flat_map, length, length-append, nat_lt, Result, Ok, Err, refl, sym, ap, ◌∙◌, subst, arith, inl, inr, ltb-true}
use Rattle.std.proofs.lemmas.List.{append-nil}
use Rattle.std.proofs.lemmas.Bool.{and_parts, cases_Bool, cond-false, cond-true}
use Rattle.std.specs.List.{join_with_byte}
use Rattle.plan_forest.specs.declared.entry.Entry.{Entry}
use Rattle.plan_rule.specs.{declared.run.Run.Run, Runs.wake_count}
use Rattle.plan_certificate.specs.{declared.cert.TheConstants.MAX_LINES, declared.cert.Version.Version, declared.fault.CertFault.CertFault, FirstFault.whole_lines, Lines.cut_off}
use Rattle.plan_certificate.specs.CertificateText.{AreRunsOf, IsRunOf, end_line_text, line_text, run_text}
use Rattle.plan_certificate.specs.Reading.{end_of_runs, ending, nothing_behind, run_in_line, run_keyword, runs_of}
use Rattle.base_words.specs.Pieces.{keyword}
use Rattle.plan_certificate.proofs.{FoundLines.end_found, FoundLines.run_line_found, FoundRuns.AreFew, FoundRuns.few_more}
use Rattle.plan_certificate.proofs.Turns.{fault_on, turn, value_on}
use Rattle.plan_certificate.proofs.LineFaults.{end_fault, err_same, not_err, run_line_fault, step_err, trailing_fault}
use Rattle.plan_certificate.proofs.ReadingLevels.{Faulty, HasText, cut_here, one_line_more, stops_here, with_feed}

pub no_line_is_none : (ls : List (List ℕ)) (l : List ℕ) → l ∷ ls ≢ []
no_line_is_none ls l = λ no. cc

-- runs after those that were found, and the line `end`
abbrev pub RunsText : Version → List Entry → List Run → List ℕ → Type 0
RunsText v es found text =
    (new : List Run) × AreRunsOf v es new × (length (found ++ new) ≤ MAX_LINES) × AreFew v (found ++ new) × (text ≡ flat_map (run_text v es) new ++ end_line_text (wake_count (found ++ new)))

end_goes_on : (count : ℕ) → end_line_text count ≢ []
unfolding end_line_text line_text
end_goes_on count = λ no. absurd (let none : length (end_line_text count) ≡ 0 = ap length no in omega (arith, none, length-append (join_with_byte 32 (codes "end" ∷ decimal count ∷ [])) (10 ∷ [])))

module _ (v : Version) (es : List Entry) (found : List Run) (few_lines : length found ≤ MAX_LINES) (few : AreFew v found) where
  pub no_runs_more : HasText (RunsText v es found)
  no_runs_more =
      let same : found ≡ found ++ [] = sym (append-nil found) in
      record {
        text = end_line_text (wake_count (found ++ []));
        is = ([], tt, subst (λ x. length x ≤ MAX_LINES) same few_lines, subst (AreFew v) same few, refl);
        some = end_goes_on (wake_count (found ++ []));
      }

  end_is_text : (line : List ℕ) → line ++ 10 ∷ [] ≡ end_line_text (wake_count found) → RunsText v es found (whole_lines (line ∷ []))
  end_is_text line e =
      let same : found ≡ found ++ [] = sym (append-nil found) in
      ([], tt, subst (λ x. length x ≤ MAX_LINES) same few_lines, subst (AreFew v) same few, e ∙ ap (λ x. end_line_text (wake_count x)) same)

  one_run_more : (r : Run) → IsRunOf v es r → (text : List ℕ) → RunsText v es (found ++ r ∷ []) text → RunsText v es found (run_text v es r ++ text)
  one_run_more r is text h =
      let same : (found ++ r ∷ []) ++ h.0 ≡ found ++ r ∷ h.0 = append_assoc found (r ∷ []) h.0 in (
        r ∷ h.0,
        (is, h.1),
        subst (λ x. length x ≤ MAX_LINES) same h.2,
        subst (AreFew v) same h.3,
        ap (λ t. run_text v es r ++ t) h.4 ∙ sym (append_assoc (run_text v es r) (flat_map (run_text v es) h.0) (end_line_text (wake_count ((found ++ r ∷ []) ++ h.0))))
            ∙ ap (λ x. (run_text v es r ++ flat_map (run_text v es) h.0) ++ end_line_text (wake_count x)) same,
      )

turns : (v : Version) (es : List Entry) (found : List Run) (line : List ℕ) (ls : List (List ℕ)) → ls ≢ [] → runs_of v es found (line ∷ ls) ≡ turn v es found line ls
unfolding runs_of
turns v es found line [] some = absurd (some refl)
turns v es found line (next ∷ more) some = refl

pub trails : {A : Type 0} (read : List (List ℕ) → Result A CertFault) (n : ℕ) (Text : List ℕ → Type 0) (line next : List ℕ) (more : List (List ℕ)) (e : CertFault)
    → Text (whole_lines (line ∷ [])) → nothing_behind (next ∷ more) ≡ Err e → Faulty read n Text (line ∷ next ∷ more) e
trails read n Text line next more e is h =
    let t = trailing_fault (next ∷ more) e h in
    subst (Faulty read n Text (line ∷ next ∷ more)) (sym t.0) (line ∷ [], next ∷ more, refl, no_line_is_none more next, t.1, is)

-- the line of another kind, or one too many
end_faulty : (v : Version) (es : List Entry) (found : List Run) → length found ≤ MAX_LINES → AreFew v found → (line next : List ℕ) (more : List (List ℕ)) (e : CertFault)
    → (bytes_eq (keyword line) (run_keyword v) && nat_lt (length found) MAX_LINES) ≡ false → ending (length found + 3) (wake_count found) line (next ∷ more) ≡ Err e
    → Faulty (runs_of v es found) (length found + 3) (RunsText v es found) (line ∷ next ∷ more) e
unfolding ending nothing_behind
end_faulty v es found few_lines few line next more e other h =
    let n = length found + 3 in
    let count = wake_count found in
    step_err (end_of_runs n count line) _ e h
    (λ bad. stops_here (runs_of v es found) n (RunsText v es found) (no_runs_more v es found few_lines few) line (next ∷ more) e (end_fault n es line e count bad)
    (with_feed e (next ∷ more) (no_line_is_none more next))
    (λ fed others o. turns v es found line others o ∙ cond-false _ _ _ other ∙ fault_on (ending n count line others) _ e (fault_on (end_of_runs n count line) _ e bad)))
    (λ u hu h1.
    let whole_end : ending n count line ([] ∷ []) ≡ Ok tt = value_on (end_of_runs n count line) _ u hu in
    trails (runs_of v es found) n (RunsText v es found) line next more e (end_is_text v es found few_lines few line (end_found n count line ([] ∷ []) tt whole_end).0) h1)

pub runs_faulty : (v : Version) (es : List Entry) (found : List Run) (ls : List (List ℕ)) (e : CertFault) → ls ≢ [] → length found ≤ MAX_LINES → AreFew v found
    → runs_of v es found ls ≡ Err e → Faulty (runs_of v es found) (length found + 3) (RunsText v es found) ls e
unfolding runs_of
runs_faulty v es found [] e some few_lines few h = absurd (some refl)
runs_faulty v es found (last ∷ []) e some few_lines few h =
    cut_here (runs_of v es found) (length found + 3) (RunsText v es found) (no_runs_more v es found few_lines few) last e (err_same {A = List Run} (cut_off (length found + 3) last) e h)
runs_faulty v es found (line ∷ next ∷ more) e some few_lines few h =
    let n = length found + 3 in
    let text = RunsText v es found in
    let has = no_runs_more v es found few_lines few in
    elim (cases_Bool (bytes_eq (keyword line) (run_keyword v) && nat_lt (length found) MAX_LINES)) [
      | inl t ↦
          let p = and_parts (bytes_eq (keyword line) (run_keyword v)) (nat_lt (length found) MAX_LINES) t in
          step_err (run_in_line v n es (wake_count found) line) _ e (sym (cond-true _ _ _ t) ∙ h)
          (λ bad. stops_here (runs_of v es found) n text has line (next ∷ more) e (run_line_fault n es line e v (wake_count found) bad) (with_feed e (next ∷ more) (no_line_is_none more next))
          (λ fed others o. turns v es found line others o ∙ cond-true _ _ _ t ∙ fault_on (run_in_line v n es (wake_count found) line) _ e bad))
          (λ r hr h1.
          let is_line = run_line_found v n es (wake_count found) line r p.0 hr in
          let room : length (found ++ r ∷ []) ≤ MAX_LINES = omega (arith, length-append found (r ∷ []), ltb-true _ _ p.1) in
          let later = runs_faulty v es (found ++ r ∷ []) (next ∷ more) e (no_line_is_none more next) room (few_more v es found r few is_line.run is_line.room) h1 in
          let place : length (found ++ r ∷ []) + 3 ≡ suc n = omega (arith, length-append found (r ∷ [])) in
          one_line_more (runs_of v es (found ++ r ∷ [])) (runs_of v es found) n (RunsText v es (found ++ r ∷ [])) text line (run_text v es r) is_line.text
          (one_run_more v es found few_lines few r is_line.run)
          (λ others fault o bad. turns v es found line others o ∙ cond-true _ _ _ t ∙ value_on (run_in_line v n es (wake_count found) line) _ r hr ∙ bad)
          (next ∷ more) e (subst (λ k. Faulty (runs_of v es (found ++ r ∷ [])) k (RunsText v es (found ++ r ∷ [])) (next ∷ more) e) place later))
      | inr f ↦
          step_err (ending n (wake_count found) line (next ∷ more)) _ e (sym (cond-false _ _ _ f) ∙ h)
          (λ bad. end_faulty v es found few_lines few line next more e f bad)
          (λ u hu h1. not_err found e h1)
    ]
