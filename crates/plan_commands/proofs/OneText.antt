-- One text: what `ends`, `plan` and `check` write is a function of the forest, the start, the moments and the certificate.
use Rattle.std.proofs.Common.{◌≡◌, ◌∙◌, ◌↔◌, Bool, true, false, IsTrue, ℕ, zero, suc, ◌+◌, ◌-◌, ◌<◌, ◌≤◌, ◌++◌, List, [], ◌∷◌, Option, Some, None, length, refl, sym, ap, subst, arith, inl, inr}
use Rattle.std.proofs.lemmas.{Bool.cases_lt, List.append_cancel_left}
use Rattle.plan_forest.specs.{Carried.IsFrom, Forest.Forest, Forest.end_of, Push.IsForest}
use Rattle.plan_rule.specs.{Ends.ends_after, declared.force.Force.Force, declared.run.Run.Run}
use Rattle.plan_rule.specs.Runs.{AreRuns, IsRun, all_wakes, wakes, wakes_of}
use Rattle.plan_schedule.proofs.{Bridge.one_from, Forces.one_list}
use Rattle.plan_search.specs.Shortfall.{IsShortfall}
use Rattle.plan_search.specs.Decides.{AreBest, AreLongest, NoneKeeps}
use Rattle.plan_search.proofs.Walking.{length_all_cons}
use Rattle.plan_certificate.specs.declared.cert.Body.TheVariants as body
use Rattle.plan_certificate.specs.{declared.cert.Cert.Cert, CertificateText.WritesCertificate, CertificateText.certificate_text, Printing.certified}
use Rattle.plan_certificate.proofs.ReadBackAll.{written_is_read}
use Rattle.plan_check.specs.Answer.{IsCertificateAnswer}
use Rattle.plan_check.specs.declared.answer.Answer.TheVariants.{No, Yes}
use Rattle.plan_check.proofs.Answers.{one_answer}
use Rattle.program_report.specs.declared.exit.Exit.TheVariants as exits
use Rattle.plan_commands.specs.{CheckText.no_line, CheckText.unreadable_line, Laws.OneCheckText, Laws.OnePlanText, PlanRun.IsPairText, PlanRun.IsPlanText}
use Rattle.plan_commands.specs.CheckRun.{CertificateIsUnreadable, IsAccepted, IsJudged, IsRefused, StartsAsAsked, StartsElsewhere}
use Rattle.plan_commands.specs.EndsText.{IsEndsText, all_asked, end_lines, keeps_line}

-- ---- wake-ups have one list of longest runs

head_same : (x y : Force) (xs ys : List Force) → x ∷ xs ≡ y ∷ ys → (x ≡ y) × (xs ≡ ys)
head_same x y xs ys e = (cc, cc)

-- the first wake-ups of two runs that are the same, and what comes after them
first_same : (a b c e n a' b' c' e' n' : ℕ) (xs ys : List Force) → 0 < c → c ≡ c' → wakes_of a b c e n ++ xs ≡ wakes_of a' b' c' e' n' ++ ys
    → (a ≡ a') × (e ≡ e') × (n ≡ n') × (wakes_of (a + b) b (c - 1) e n ++ xs ≡ wakes_of (a' + b') b' (c' - 1) e' n' ++ ys)
unfolding wakes_of
first_same a b zero e n a' b' c' e' n' xs ys some same is = absurd (omega arith)
first_same a b (suc c) e n a' b' zero e' n' xs ys some same is = absurd (omega arith)
first_same a b (suc c) e n a' b' (suc c') e' n' xs ys some same is =
    let rest = wakes_of (a + b) b c e n ++ xs in
    let rest' = wakes_of (a' + b') b' c' e' n' ++ ys in
    let parts = head_same (record { at = a; entry = e; needed = n }) (record { at = a'; entry = e'; needed = n' }) rest rest' is in
    let one : c ≡ suc c - 1 = omega arith in
    let one' : c' ≡ suc c' - 1 = omega arith in
    let later = subst (λ k. rest ≡ wakes_of (a' + b') b' k e' n' ++ ys) one' parts.1 in (
      ap (λ (x : Force). x.at) parts.0,
      ap (λ (x : Force). x.entry) parts.0,
      ap (λ (x : Force). x.needed) parts.0,
      subst (λ k. wakes_of (a + b) b k e n ++ xs ≡ wakes_of (a' + b') b' (suc c' - 1) e' n' ++ ys) one later,
    )

same_run : (r q : Run) → r.first ≡ q.first → r.step ≡ q.step → r.count ≡ q.count → r.entry ≡ q.entry → r.needed ≡ q.needed → r ≡ q
same_run r q a b c d e =
    let X : ℕ → ℕ → ℕ → ℕ → ℕ → Run = λ u v w x y. record { first = u; step = v; count = w; entry = x; needed = y } in
    ap (λ u. X u r.step r.count r.entry r.needed) a ∙ (ap (λ v. X q.first v r.count r.entry r.needed) b
    ∙ (ap (λ w. X q.first q.step w r.entry r.needed) c ∙ (ap (λ x. X q.first q.step q.count x r.needed) d ∙ ap (λ y. X q.first q.step q.count q.entry y) e)))

one_run : (r q : Run) (xs ys : List Force) → IsRun r → IsRun q → r.count ≡ q.count → wakes r ++ xs ≡ wakes q ++ ys → r ≡ q
one_run r q xs ys is is' count same =
    let some = is.moments.some in
    let one = first_same r.first r.step r.count r.entry r.needed q.first q.step q.count q.entry q.needed xs ys is.moments.some count same in
    elim (cases_lt 1 r.count) [
      | inl more ↦
          let two = first_same (r.first + r.step) r.step (r.count - 1) r.entry r.needed (q.first + q.step) q.step (q.count - 1) q.entry q.needed xs ys (omega arith) (omega arith) one.3 in
          let at_first : r.first ≡ q.first = one.0 in
          let second : r.first + r.step ≡ q.first + q.step = two.0 in
          same_run r q one.0 (omega arith) count one.1 one.2
      | inr lone ↦
          let here : r.count ≡ 1 = omega arith in
          let there : q.count ≡ 1 = omega arith in
          same_run r q one.0 (is.lone.1 here ∙ sym (is'.lone.1 there)) count one.1 one.2
    ]

pub one_runs : (rs qs : List Run) → AreRuns rs → AreRuns qs → AreLongest rs → AreLongest qs → all_wakes rs ≡ all_wakes qs → rs ≡ qs
one_runs [] [] are are' long long' same = refl
one_runs [] (q ∷ qs) are are' long long' same = absurd (let some = are'.0.moments.some in let l = length_all_cons q qs in let e : 0 ≡ length (all_wakes (q ∷ qs)) = ap length same in omega arith)
one_runs (r ∷ rs) [] are are' long long' same = absurd (let some = are.0.moments.some in let l = length_all_cons r rs in let e : length (all_wakes (r ∷ rs)) ≡ 0 = ap length same in omega arith)
one_runs (r ∷ rs) (q ∷ qs) are are' long long' same =
    let below : q.count ≤ r.count = long.0 q (all_wakes qs) same in
    let above : r.count ≤ q.count = long'.0 r (all_wakes rs) (sym same) in
    let head : r ≡ q = one_run r q (all_wakes rs) (all_wakes qs) are.0 are'.0 (omega arith) same in
    let rest : all_wakes rs ≡ all_wakes qs = append_cancel_left (wakes q) (all_wakes rs) (all_wakes qs) (subst (λ (x : Run). wakes x ++ all_wakes rs ≡ wakes q ++ all_wakes qs) head same) in
    let tail : rs ≡ qs = one_runs rs qs are.1 are'.1 long.1 long'.1 rest in
    cc

pub one_best : (g : Forest) (s : ℕ) (rs qs : List Run) → AreBest g s rs → AreBest g s qs → rs ≡ qs
one_best g s rs qs a b = one_runs rs qs a.runs b.runs a.longest b.longest (one_list g.entries g.margin s (end_of g.entries) None (all_wakes rs) (all_wakes qs) a.forces b.forces)

-- ---- plan

one_plan : (g : Forest) (s : ℕ) (text other : List ℕ) → IsPlanText g s text → IsPlanText g s other → text ≡ other
one_plan g s text other a b = a.spelled ∙ ap (λ rs. certificate_text g.entries (certified s (body.Runs rs))) (one_best g s a.runs b.runs a.best b.best) ∙ sym b.spelled

-- the lowest entry that falls short, and whose need that is, are one pair
pub one_shortfall : (g : Forest) (s entry needed entry' needed' : ℕ) → IsShortfall g s entry needed → IsShortfall g s entry' needed' → (entry ≡ entry') × (needed ≡ needed')
one_shortfall g s entry needed entry' needed' a b =
    let p = a.lowest entry' needed' b.pair in
    let q = b.lowest entry needed a.pair in
    let same : entry ≡ entry' = omega arith in
    (same, one_from g.entries s entry' needed needed' (subst (λ i. IsFrom g.entries s i needed) same a.from) b.from)

one_pair : (g : Forest) (s : ℕ) (text other : List ℕ) → IsPairText g s text → IsPairText g s other → text ≡ other
one_pair g s text other a b =
    let same = one_shortfall g s a.entry a.needed b.entry b.needed a.short b.short in
    a.spelled ∙ ap (λ i. certificate_text g.entries (certified s (body.Unkeepable i a.needed))) same.0
    ∙ ap (λ i. certificate_text g.entries (certified s (body.Unkeepable b.entry i))) same.1 ∙ sym b.spelled

-- a plan keeps, so no pair is named beside it
pub best_or_none : {X : Type 0} (g : Forest) (s : ℕ) (rs : List Run) → AreBest g s rs → NoneKeeps g s → X
best_or_none g s rs best none = absurd (none best.least.plan best.least.in_order best.least.kept)

plan_or_pair : {X : Type 0} (g : Forest) (s : ℕ) (text other : List ℕ) → IsPlanText g s text → IsPairText g s other → X
plan_or_pair g s text other a b = best_or_none g s a.runs a.best b.none

pub one_plan_text : OnePlanText
one_plan_text g s exits.Done exits.Done text other a b = (refl, one_plan g s text other a b)
one_plan_text g s exits.Unkeepable exits.Unkeepable text other a b = (refl, one_pair g s text other a b)
one_plan_text g s exits.Done exits.Unkeepable text other a b = plan_or_pair g s text other a b
one_plan_text g s exits.Unkeepable exits.Done text other a b = plan_or_pair g s other text b a
one_plan_text g s exits.Done _ text other a b = absurd b
one_plan_text g s exits.Unkeepable _ text other a b = absurd b
one_plan_text g s _ exit text other a b = absurd a

-- ---- check

module _ (asked : Option ℕ) (g : Forest) (forest : IsForest g) (text : List ℕ) where
  one_cert : (c d : Cert) → WritesCertificate g.entries text c → WritesCertificate g.entries text d → c ≡ d
  one_cert c d a b =
      let read = written_is_read g forest text c a in
      let read' = written_is_read g forest text d b in
      cc

  one_yes : (line other : List ℕ) → IsAccepted asked g text line → IsAccepted asked g text other → line ≡ other
  one_yes line other a b = a.spelled ∙ sym b.spelled

  yes_or_no : {X : Type 0} (line other : List ℕ) → IsAccepted asked g text line → IsRefused asked g text other → X
  yes_or_no line other a b =
      let same = one_cert a.cert b.cert a.writes b.writes in
      let answers : Yes ≡ No b.cause = one_answer g b.cert Yes (No b.cause) (subst (λ c. IsCertificateAnswer g c Yes) same a.answer) b.answer in
      absurd cc

  -- one certificate does not start as it is asked for and elsewhere
  one_start : {X : Type 0} (c : Cert) (other : List ℕ) → WritesCertificate g.entries text c → StartsAsAsked asked c → StartsElsewhere asked g text other → X
  one_start c other a starts b = absurd (b.elsewhere (subst (StartsAsAsked asked) (one_cert c b.cert a b.writes) starts))

  read_or_not : {X : Type 0} (c : Cert) (other : List ℕ) → WritesCertificate g.entries text c → CertificateIsUnreadable g text other → X
  read_or_not c other a b =
      let read = written_is_read g forest text c a in
      let fails = b.fails in
      absurd cc

  one_refusal : (line other : List ℕ) → IsRefused asked g text line → IsRefused asked g text other → line ≡ other
  one_refusal line other a b =
      let same = one_cert a.cert b.cert a.writes b.writes in
      let answers : No a.cause ≡ No b.cause = one_answer g b.cert (No a.cause) (No b.cause) (subst (λ c. IsCertificateAnswer g c (No a.cause)) same a.answer) b.answer in
      let cause : a.cause ≡ b.cause = cc in
      a.spelled ∙ ap (no_line g.entries) cause ∙ sym b.spelled

  one_fault : (line other : List ℕ) → CertificateIsUnreadable g text line → CertificateIsUnreadable g text other → line ≡ other
  one_fault line other a b =
      let fails = a.fails in
      let fails' = b.fails in
      let fault : a.fault ≡ b.fault = cc in
      let lines : Some line ≡ Some other = sym a.spelled ∙ ap unreadable_line fault ∙ b.spelled in
      cc

  one_no : (line other : List ℕ) → IsJudged asked g text exits.No line → IsJudged asked g text exits.No other → line ≡ other
  one_no line other (inl a) (inl b) = one_refusal line other a b
  one_no line other (inl a) (inr (inl b)) = one_start a.cert other a.writes a.starts b
  one_no line other (inl a) (inr (inr b)) = read_or_not a.cert other a.writes b
  one_no line other (inr (inl a)) (inl b) = one_start b.cert line b.writes b.starts a
  one_no line other (inr (inl a)) (inr (inl b)) = a.spelled ∙ sym b.spelled
  one_no line other (inr (inl a)) (inr (inr b)) = read_or_not a.cert other a.writes b
  one_no line other (inr (inr a)) (inl b) = read_or_not b.cert line b.writes a
  one_no line other (inr (inr a)) (inr (inl b)) = read_or_not b.cert line b.writes a
  one_no line other (inr (inr a)) (inr (inr b)) = one_fault line other a b

  yes_and_no : {X : Type 0} (line other : List ℕ) → IsAccepted asked g text line → IsJudged asked g text exits.No other → X
  yes_and_no line other a (inl b) = yes_or_no line other a b
  yes_and_no line other a (inr (inl b)) = one_start a.cert other a.writes a.starts b
  yes_and_no line other a (inr (inr b)) = read_or_not a.cert other a.writes b

pub one_check_text : OneCheckText
one_check_text asked g text exits.Done exits.Done line other forest a b = (refl, one_yes asked g forest text line other a b)
one_check_text asked g text exits.No exits.No line other forest a b = (refl, one_no asked g forest text line other a b)
one_check_text asked g text exits.Done exits.No line other forest a b = yes_and_no asked g forest text line other a b
one_check_text asked g text exits.No exits.Done line other forest a b = yes_and_no asked g forest text other line b a
one_check_text asked g text exits.Done _ line other forest a b = absurd b
one_check_text asked g text exits.No _ line other forest a b = absurd b
one_check_text asked g text _ exit line other forest a b = absurd a

-- ---- ends

same_truth : (a b : Bool) (P : Type 0) → (IsTrue a ↔ P) → (IsTrue b ↔ P) → a ≡ b
same_truth true false P f g = absurd (let both : IsTrue false = g.1 (f.0 refl) in cc)
same_truth false true P f g = absurd (let both : IsTrue false = f.1 (g.0 refl) in cc)
same_truth _ _ P f g = refl

pub one_ends_text : (g : Forest) (s : ℕ) (at text other : List ℕ) → IsEndsText g s at text → IsEndsText g s at other → text ≡ other
one_ends_text g s at text other a b =
    a.spelled ∙ ap (λ k. end_lines g.entries (ends_after g.entries g.margin (end_of g.entries) (all_asked (length g.entries) at)) (length g.entries) ++ keeps_line k) (same_truth a.kept b.kept _ a.judged b.judged)
    ∙ sym b.spelled
