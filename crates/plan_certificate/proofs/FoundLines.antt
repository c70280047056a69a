-- What is read is written: the lines of runs and wake-ups, and the last line.
use Rattle.std.proofs.Common.{◌≡◌, ℕ, ◌+◌, ◌≤◌, ◌↔◌, Bool, true, false, ◌==◌, List, [], ◌∷◌, ◌++◌, bytes_eq, codes, decimal, nat_le, nat_lt, if◌then◌else◌, Result, Ok, Err, refl, ap, ◌∙◌, subst, arith, ltb-true}
use Rattle.std.proofs.lemmas.Bool.{and_parts, eq-eqb, eqb-true, leb-true}
use Rattle.std.specs.Bool.{beq}
use Rattle.plan_forest.specs.declared.entry.Entry.{Entry}
use Rattle.plan_rule.specs.{declared.run.Run.Run, declared.limit.TheConstants.LIMIT}
use Rattle.plan_certificate.specs.{declared.cert.Version.Version, declared.fault.CertFault.CertFault}
use Rattle.plan_certificate.specs.declared.cert.Version.TheVariants.{One, Two}
use Rattle.plan_certificate.specs.CertificateText.{IsRunOf, end_line_text, name_of_entry, run_text}
use Rattle.plan_certificate.specs.Lines.{four_words, number_at, six_words, two_words}
use Rattle.plan_certificate.specs.Reading.{end_of_runs, ending, entry_named, is_run, nothing_behind, right, run_in_line, run_keyword, run_of, wake_of}
use Rattle.base_words.specs.Pieces.{four, keyword, pieces, six, two}
use Rattle.plan_certificate.proofs.Turns.{ok_same}
use Rattle.plan_certificate.proofs.Found.{entry_found, four_is, keyword_is, line_from_words, number_spelled, six_is, some_from_ok, step_ok, two_is}

-- in version 2 the wake-ups before a run leave room for it
abbrev pub RoomFor : Version → ℕ → Run → Type 0
RoomFor One before r = Unit {0}
RoomFor Two before r = before + r.count ≤ LIMIT

-- a line that is read as a run is the line of that run, and the wake-ups before it leave room for it
pub record IsRunLine (v : Version) (es : List Entry) (before : ℕ) (line : List ℕ) (r : Run) : Type 0 where
  pub text : line ++ 10 ∷ [] ≡ run_text v es r
  pub run : IsRunOf v es r
  pub room : RoomFor v before r

wake_found : (n : ℕ) (es : List Entry) (before : ℕ) (line : List ℕ) (r : Run) → bytes_eq (keyword line) (run_keyword One) ≡ true → wake_of n es line ≡ Ok r → IsRunLine One es before line r
unfolding wake_of four_words run_text run_keyword
wake_found n es before line r key e =
    step_ok (four_words n line) _ r e (λ w hw e1.
    step_ok (number_at n w.1) _ r e1 (λ k hk e2.
    step_ok (entry_named n es w.2) _ r e2 (λ i hi e3.
    step_ok (entry_named n es w.3) _ r e3 (λ j hj e4.
    let words = four_is (pieces 32 line) w (some_from_ok (four (pieces 32 line)) _ w hw) in
    let front : w.0 ≡ codes "wake" = keyword_is line (codes "wake") w.0 _ words key in
    let number = number_spelled n w.1 k hk in
    let entry = entry_found n es w.2 i hi in
    let needed = entry_found n es w.3 j hj in
    let same : pieces 32 line ≡ codes "wake" ∷ decimal k ∷ name_of_entry es i ∷ name_of_entry es j ∷ [] = words
    ∙ ap (λ x. x ∷ w.1 ∷ w.2 ∷ w.3 ∷ []) front ∙ ap (λ x. codes "wake" ∷ x ∷ w.2 ∷ w.3 ∷ []) number.0
    ∙ ap (λ x. codes "wake" ∷ decimal k ∷ x ∷ w.3 ∷ []) entry.1 ∙ ap (λ x. codes "wake" ∷ decimal k ∷ name_of_entry es i ∷ x ∷ []) needed.1 in
    subst (IsRunLine One es before line) (ok_same {A = Run} (record { first = k; step = 0; count = 1; entry = i; needed = j }) r e4)
    (record {
      text = line_from_words line _ same;
      run = record { among = record { entry = entry.0; needed = needed.0 }; run = record { moments = record { some = omega arith; last = omega (arith, number.1) }; lone = (λ h. refl, λ h. refl) }; form = refl };
      room = tt;
    })))))

right_is : (n : ℕ) (b : Bool) (u : Unit {0}) → right n b ≡ Ok u → b ≡ true
right_is n true u e = refl
right_is n false u e = cc

both_or_none : (a b : Bool) → beq a b ≡ true → (a ≡ true) ↔ (b ≡ true)
both_or_none true true e = (λ h. refl, λ h. refl)
both_or_none false false e = (λ h. h, λ h. h)
both_or_none _ _ e = cc

run_found : (n : ℕ) (es : List Entry) (before : ℕ) (line : List ℕ) (r : Run) → bytes_eq (keyword line) (run_keyword Two) ≡ true → run_of n es before line ≡ Ok r → IsRunLine Two es before line r
unfolding run_of six_words run_text run_keyword is_run
run_found n es before line r key e =
    step_ok (six_words n line) _ r e (λ w hw e1.
    step_ok (number_at n w.1) _ r e1 (λ k hk e2.
    step_ok (number_at n w.2) _ r e2 (λ s hs e3.
    step_ok (number_at n w.3) _ r e3 (λ m hm e4.
    step_ok (right n (is_run before k s m)) _ r e4 (λ u hu e5.
    step_ok (entry_named n es w.4) _ r e5 (λ i hi e6.
    step_ok (entry_named n es w.5) _ r e6 (λ j hj e7.
    let words = six_is (pieces 32 line) w (some_from_ok (six (pieces 32 line)) _ w hw) in
    let front : w.0 ≡ codes "run" = keyword_is line (codes "run") w.0 _ words key in
    let first = number_spelled n w.1 k hk in
    let step = number_spelled n w.2 s hs in
    let count = number_spelled n w.3 m hm in
    let entry = entry_found n es w.4 i hi in
    let needed = entry_found n es w.5 j hj in
    let fits = right_is n (is_run before k s m) u hu in
    let p = and_parts (nat_le (before + m) LIMIT) _ fits in
    let q = and_parts (nat_lt 0 m) _ p.1 in
    let o = and_parts (beq (s == 0) (m == 1)) _ q.1 in
    let lone = both_or_none (s == 0) (m == 1) o.0 in
    let same : pieces 32 line ≡ codes "run" ∷ decimal k ∷ decimal s ∷ decimal m ∷ name_of_entry es i ∷ name_of_entry es j ∷ [] = words
    ∙ ap (λ x. x ∷ w.1 ∷ w.2 ∷ w.3 ∷ w.4 ∷ w.5 ∷ []) front ∙ ap (λ x. codes "run" ∷ x ∷ w.2 ∷ w.3 ∷ w.4 ∷ w.5 ∷ []) first.0
    ∙ ap (λ x. codes "run" ∷ decimal k ∷ x ∷ w.3 ∷ w.4 ∷ w.5 ∷ []) step.0 ∙ ap (λ x. codes "run" ∷ decimal k ∷ decimal s ∷ x ∷ w.4 ∷ w.5 ∷ []) count.0
    ∙ ap (λ x. codes "run" ∷ decimal k ∷ decimal s ∷ decimal m ∷ x ∷ w.5 ∷ []) entry.1 ∙ ap (λ x. codes "run" ∷ decimal k ∷ decimal s ∷ decimal m ∷ name_of_entry es i ∷ x ∷ []) needed.1 in
    subst (IsRunLine Two es before line) (ok_same {A = Run} (record { first = k; step = s; count = m; entry = i; needed = j }) r e7)
    (record {
      text = line_from_words line _ same;
      run = record {
        among = record { entry = entry.0; needed = needed.0 };
        run = record { moments = record { some = ltb-true _ _ q.0; last = leb-true _ _ o.1 }; lone = (λ h. eqb-true _ _ (lone.0 (eq-eqb _ _ h)), λ h. eqb-true _ _ (lone.1 (eq-eqb _ _ h))) };
        form = tt;
      };
      room = leb-true _ _ p.0;
    }))))))))

pub run_line_found : (v : Version) (n : ℕ) (es : List Entry) (before : ℕ) (line : List ℕ) (r : Run)
    → bytes_eq (keyword line) (run_keyword v) ≡ true → run_in_line v n es before line ≡ Ok r → IsRunLine v es before line r
unfolding run_in_line
run_line_found One n es before line r key e = wake_found n es before line r key e
run_line_found Two n es before line r key e = run_found n es before line r key e

-- the last line, after which nothing stands
pub nothing_found : (ls : List (List ℕ)) (u : Unit {0}) → nothing_behind ls ≡ Ok u → ls ≡ [] ∷ []
unfolding nothing_behind
nothing_found [] u e = cc
nothing_found ([] ∷ []) u e = refl
nothing_found ([] ∷ l ∷ ls) u e = cc
nothing_found ((b ∷ bs) ∷ ls) u e = cc

pub if_ok : {A : Type 0} (b : Bool) (x : Result A CertFault) (d : CertFault) (y : A) → (if b then x else Err d) ≡ Ok y → (b ≡ true) × (x ≡ Ok y)
if_ok true x d y e = (refl, e)
if_ok false x d y e = cc

pub end_found : (n count : ℕ) (line : List ℕ) (rest : List (List ℕ)) (u : Unit {0}) → ending n count line rest ≡ Ok u → (line ++ 10 ∷ [] ≡ end_line_text count) × (rest ≡ [] ∷ [])
unfolding ending end_of_runs two_words end_line_text
end_found n count line rest u e =
    step_ok (end_of_runs n count line) _ u e (λ t ht e1.
    let h = if_ok (bytes_eq (keyword line) (codes "end")) _ _ t ht in
    step_ok (two_words n line) _ t h.1 (λ w hw e2.
    step_ok (number_at n w.1) _ t e2 (λ said hsaid e3.
    let words = two_is (pieces 32 line) w (some_from_ok (two (pieces 32 line)) _ w hw) in
    let front : w.0 ≡ codes "end" = keyword_is line (codes "end") w.0 _ words h.0 in
    let number = number_spelled n w.1 said hsaid in
    let right_count : said ≡ count = eqb-true _ _ (right_is n (said == count) t e3) in
    (line_from_words line _ (words ∙ ap (λ x. x ∷ w.1 ∷ []) front ∙ ap (λ x. codes "end" ∷ x ∷ []) (number.0 ∙ ap decimal right_count)), nothing_found rest u e1))))
