-- Faults of a line: each step of reading the nth line that fails has a fault of that line. For the law of the first fault.
use Rattle.std.proofs.Common.{◌≡◌, ◌≢◌, ℕ, Bool, true, false, if◌then◌else◌, List, [], ◌∷◌, bytes_eq, codes, Option, Some, None, Result, Ok, Err, refl, sym, ap, ◌∙◌, subst, inl, inr}
use Rattle.std.proofs.lemmas.Bool.{cases_Bool, cond-false, cond-true}
use Rattle.std.specs.Option.{ok_or}
use Rattle.plan_forest.specs.declared.entry.Entry.{Entry}
use Rattle.plan_certificate.specs.{declared.cert.Version.Version, declared.fault.CertFault.CertFault}
use Rattle.plan_certificate.specs.declared.cert.Version.TheVariants.{One, Two}
use Rattle.plan_certificate.specs.declared.fault.CertFault.TheVariants.{BadHeader, BadLine, UnknownName, BadNumber, Trailing}
use Rattle.plan_certificate.specs.Lines.{four_words, number_at, six_words, three_words, two_words}
use Rattle.plan_certificate.specs.Reading.{end_of_runs, entry_named, is_run, nothing_behind, right, run_in_line, run_of, start_of, unkeepable_of, version_of, wake_of}
use Rattle.plan_certificate.specs.Answers.{◌>>=◌}
use Rattle.base_words.specs.Pieces.{keyword}

-- a fault of the nth line
abbrev pub IsAt : ℕ → CertFault → Type 0
IsAt n BadHeader = n ≡ 1
IsAt n (BadLine k) = k ≡ n
IsAt n (BadNumber k) = k ≡ n
IsAt n (UnknownName k) = k ≡ n
IsAt n fault = ⊥

pub err_same : {A : Type 0} (d e : CertFault) → ◌≡◌ {A = Result A CertFault} (Err d) (Err e) → d ≡ e
err_same d e h = cc

pub not_err : {A P : Type 0} (x : A) (e : CertFault) → ◌≡◌ {A = Result A CertFault} (Ok x) (Err e) → P
not_err x e h = absurd cc

-- a step that gives a fault had it from the step before, or has it itself
pub step_err : {A B P : Type 0} (r : Result A CertFault) (f : A → Result B CertFault) (e : CertFault) → (r >>= f) ≡ Err e → (r ≡ Err e → P) → ((x : A) → r ≡ Ok x → f x ≡ Err e → P) → P
step_err (Ok x) f e h before here = here x refl h
step_err {B = B} (Err d) f e h before here = before (ap Err (err_same {A = B} d e h))

word_at : {A : Type 0} (n : ℕ) (o : Option A) (d e : CertFault) → IsAt n d → ok_or o d ≡ Err e → IsAt n e
word_at {A = A} n None d e at h = subst (IsAt n) (err_same {A = A} d e h) at
word_at n (Some x) d e at h = not_err x e h

right_at : (n : ℕ) (b : Bool) (e : CertFault) → right n b ≡ Err e → IsAt n e
right_at n true e h = not_err tt e h
right_at n false e h = subst (IsAt n) (err_same {A = Unit {0}} (BadNumber n) e h) refl

else_at : {A : Type 0} (n : ℕ) (b : Bool) (r : Result A CertFault) (e : CertFault) → (r ≡ Err e → IsAt n e) → (if b then r else Err (BadLine n)) ≡ Err e → IsAt n e
else_at n true r e at h = at h
else_at {A = A} n false r e at h = subst (IsAt n) (err_same {A = A} (BadLine n) e h) refl

module _ (n : ℕ) (es : List Entry) (line : List ℕ) (e : CertFault) where
  number_fault : (word : List ℕ) → number_at n word ≡ Err e → IsAt n e
  unfolding number_at
  number_fault word h = word_at n _ (BadNumber n) e refl h

  name_fault : (word : List ℕ) → entry_named n es word ≡ Err e → IsAt n e
  unfolding entry_named
  name_fault word h = word_at n _ (UnknownName n) e refl h

  wake_fault : wake_of n es line ≡ Err e → IsAt n e
  unfolding wake_of four_words
  wake_fault h =
      step_err (four_words n line) _ e h (word_at n _ (BadLine n) e refl) (λ w hw h1.
      step_err (number_at n w.1) _ e h1 (number_fault w.1) (λ k hk h2.
      step_err (entry_named n es w.2) _ e h2 (name_fault w.2) (λ i hi h3.
      step_err (entry_named n es w.3) _ e h3 (name_fault w.3) (λ j hj h4. not_err _ e h4))))

  run_fault : (before : ℕ) → run_of n es before line ≡ Err e → IsAt n e
  unfolding run_of six_words
  run_fault before h =
      step_err (six_words n line) _ e h (word_at n _ (BadLine n) e refl) (λ w hw h1.
      step_err (number_at n w.1) _ e h1 (number_fault w.1) (λ k hk h2.
      step_err (number_at n w.2) _ e h2 (number_fault w.2) (λ s hs h3.
      step_err (number_at n w.3) _ e h3 (number_fault w.3) (λ c hc h4.
      step_err (right n (is_run before k s c)) _ e h4 (right_at n _ e) (λ u hu h5.
      step_err (entry_named n es w.4) _ e h5 (name_fault w.4) (λ i hi h6.
      step_err (entry_named n es w.5) _ e h6 (name_fault w.5) (λ j hj h7. not_err _ e h7)))))))

  pub run_line_fault : (v : Version) (before : ℕ) → run_in_line v n es before line ≡ Err e → IsAt n e
  unfolding run_in_line
  run_line_fault One before h = wake_fault h
  run_line_fault Two before h = run_fault before h

  pub end_fault : (count : ℕ) → end_of_runs n count line ≡ Err e → IsAt n e
  unfolding end_of_runs two_words
  end_fault count h =
      else_at n (bytes_eq (keyword line) (codes "end")) _ e (λ h0.
      step_err (two_words n line) _ e h0 (word_at n _ (BadLine n) e refl) (λ w hw h1.
      step_err (number_at n w.1) _ e h1 (number_fault w.1) (λ said hs h2. right_at n _ e h2))) h

pub pair_fault : (es : List Entry) (line : List ℕ) (e : CertFault) → unkeepable_of es line ≡ Err e → IsAt 3 e
unfolding unkeepable_of three_words
pair_fault es line e h =
    step_err (three_words 3 line) _ e h (word_at 3 _ (BadLine 3) e refl) (λ w hw h1.
    step_err (entry_named 3 es w.1) _ e h1 (name_fault 3 es line e w.1) (λ i hi h2.
    step_err (entry_named 3 es w.2) _ e h2 (name_fault 3 es line e w.2) (λ j hj h3. not_err _ e h3)))

pub start_fault : (line : List ℕ) (e : CertFault) → start_of line ≡ Err e → IsAt 2 e
unfolding start_of two_words
start_fault line e h =
    else_at 2 (bytes_eq (keyword line) (codes "start")) _ e (λ h0.
    step_err (two_words 2 line) _ e h0 (word_at 2 _ (BadLine 2) e refl) (λ w hw h1. number_fault 2 [] line e w.1 h1)) h

pub header_fault : (line : List ℕ) (e : CertFault) → version_of line ≡ Err e → e ≡ BadHeader
unfolding version_of
header_fault line e h =
    elim (cases_Bool (bytes_eq line (codes "leasekeep-plan 1"))) [
      | inl t ↦ not_err One e (sym (cond-true _ _ _ t) ∙ h)
      | inr f ↦
          elim (cases_Bool (bytes_eq line (codes "leasekeep-plan 2"))) [
            | inl t ↦ not_err Two e (sym (cond-true _ _ _ t) ∙ sym (cond-false _ _ _ f) ∙ h)
            | inr k ↦ sym (err_same {A = Version} BadHeader e (sym (cond-false _ _ _ k) ∙ sym (cond-false _ _ _ f) ∙ h))
          ]
    ]

pub trailing_fault : (ls : List (List ℕ)) (e : CertFault) → nothing_behind ls ≡ Err e → (e ≡ Trailing) × (ls ≢ [] ∷ [])
unfolding nothing_behind
trailing_fault [] e h = (sym (err_same {A = Unit {0}} Trailing e h), λ no. cc)
trailing_fault ([] ∷ []) e h = not_err tt e h
trailing_fault ([] ∷ l ∷ ls) e h = (sym (err_same {A = Unit {0}} Trailing e h), λ no. cc)
trailing_fault ((b ∷ bs) ∷ ls) e h = (sym (err_same {A = Unit {0}} Trailing e h), λ no. cc)
