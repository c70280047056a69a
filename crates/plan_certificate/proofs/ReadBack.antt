-- What is written is read: numbers, names, and the lines of runs and wake-ups.
use Rattle.std.proofs.Common.{◌≡◌, ℕ, ◌+◌, ◌-◌, ◌*◌, ◌<◌, ◌≤◌, ◌↔◌, Bool, true, false, ◌==◌, List, [], ◌∷◌, bytes_eq, codes, decimal, length, Ok, refl, sym, ap, ◌∙◌, arith, inl, inr, lt-ltb}
use Rattle.std.proofs.Math.Nat.{mul-le-mul_right}
use Rattle.std.proofs.lemmas.Bool.{and_from, cases_eq, eq-eqb, eqb-true, le-leb}
use Rattle.std.specs.{Bool.beq, List.join_with_byte, Option.ok_or}
use Rattle.base_moment.specs.declared.moment.TheConstants.{LAST}
use Rattle.plan_forest.specs.{declared.entry.Entry.Entry, Forest.Forest, Push.IsForest}
use Rattle.plan_rule.specs.{declared.run.Run.Run, declared.limit.TheConstants.LIMIT}
use Rattle.plan_certificate.specs.declared.cert.Version.{Version}
use Rattle.plan_certificate.specs.declared.cert.Version.TheVariants.{One, Two}
use Rattle.plan_certificate.specs.declared.fault.CertFault.TheVariants.{BadLine, BadNumber, UnknownName}
use Rattle.plan_certificate.specs.CertificateText.{IsRunOf, line_text, name_of_entry, run_text}
use Rattle.plan_certificate.specs.Lines.{four_words, number_at, six_words}
use Rattle.plan_certificate.specs.Reading.{entry_named, is_run, right, run_in_line, run_keyword, run_of, wake_of}
use Rattle.base_words.proofs.Numbers as numbers
use Rattle.base_words.specs.Pieces.{four, keyword, six}
use Rattle.plan_certificate.proofs.Turns.{value_on}
use Rattle.plan_certificate.proofs.Words.{AreWords, IsWord, decimal_is_word, keyword_back, keyword_test, name_is_word, words_back}

pub number_back : (n k : ℕ) → k ≤ LAST → number_at n (decimal k) ≡ Ok k
unfolding number_at
number_back n k few = ap (λ o. ok_or o (BadNumber n)) (numbers.number_back LAST (omega arith) k few)

module _ (g : Forest) (f : IsForest g) where
  pub entry_back : (n i : ℕ) → i < length g.entries → entry_named n g.entries (name_of_entry g.entries i) ≡ Ok i
  unfolding entry_named name_of_entry
  entry_back n i inside = ap (λ o. ok_or o (UnknownName n)) ((f.placed i inside).alone)

  pub name_word : (i : ℕ) → i < length g.entries → IsWord (name_of_entry g.entries i)
  unfolding name_of_entry
  name_word i inside = name_is_word _ ((f.placed i inside).named)

-- ---- lines of wake-ups and runs

abbrev wake_tail : List Entry → Run → List (List ℕ)
wake_tail es r = decimal r.first ∷ name_of_entry es r.entry ∷ name_of_entry es r.needed ∷ []

abbrev run_tail : List Entry → Run → List (List ℕ)
run_tail es r = decimal r.first ∷ decimal r.step ∷ decimal r.count ∷ name_of_entry es r.entry ∷ name_of_entry es r.needed ∷ []

abbrev pub run_words : Version → List Entry → Run → List (List ℕ)
run_words One es r = codes "wake" ∷ wake_tail es r
run_words Two es r = codes "run" ∷ run_tail es r

pub run_text_is : (v : Version) (es : List Entry) (r : Run) → run_text v es r ≡ line_text (run_words v es r)
unfolding run_text
run_text_is One es r = refl
run_text_is Two es r = refl

abbrev pub run_as_line : Version → List Entry → Run → List ℕ
run_as_line v es r = join_with_byte 32 (run_words v es r)

-- the numbers of a run that may be
pub record AreSmall (r : Run) : Type 0 where
  pub first : r.first ≤ LAST
  pub step : r.step ≤ LAST
  pub count : r.count ≤ LAST

step_within : (first step count : ℕ) → (step ≡ 0) ↔ (count ≡ 1) → 0 < count → first + (count - 1) * step ≤ LAST → step ≤ LAST
step_within first step count lone some within =
    elim (cases_eq count 1) [
      | inl one ↦ omega (arith, lone.1 one)
      | inr more ↦
          let two : 1 ≤ count - 1 = omega (arith, more, some) in
          let times : 1 * step ≤ (count - 1) * step = mul-le-mul_right step two in
          omega (arith, times, within)
    ]

pub run_small : (v : Version) (es : List Entry) (r : Run) → IsRunOf v es r → r.count ≤ LIMIT → AreSmall r
run_small v es r h few = record { first = omega (arith, h.run.moments.last); step = step_within r.first r.step r.count h.run.lone h.run.moments.some h.run.moments.last; count = omega (arith, few) }

module _ (g : Forest) (f : IsForest g) where
  pub run_words_are : (v : Version) (r : Run) → IsRunOf v g.entries r → r.count ≤ LIMIT → AreWords (run_words v g.entries r)
  run_words_are One r h few =
      let s = run_small One g.entries r h few in
      (record { spaces = refl; feeds = refl }, (decimal_is_word r.first (omega (arith, s.first)), (name_word g f r.entry h.among.entry, (name_word g f r.needed h.among.needed, tt))))
  run_words_are Two r h few =
      let s = run_small Two g.entries r h few in
      (record { spaces = refl; feeds = refl }, (decimal_is_word r.first (omega (arith, s.first)), (decimal_is_word r.step (omega (arith, s.step)), (decimal_is_word r.count (omega (arith, s.count)), (name_word g f r.entry h.among.entry, (name_word g f r.needed h.among.needed, tt))))))

both_same : (a b : Bool) → (a ≡ true) ↔ (b ≡ true) → beq a b ≡ true
both_same true false h = let e = h.0 refl in cc
both_same false true h = let e = h.1 refl in cc
both_same _ _ h = refl

is_run_back : (before first step count : ℕ) → before + count ≤ LIMIT → 0 < count → (step ≡ 0) ↔ (count ≡ 1) → first + (count - 1) * step ≤ LAST → is_run before first step count ≡ true
unfolding is_run
is_run_back before first step count few some lone within =
    and_from _ _ (le-leb _ _ few) (and_from _ _ (lt-ltb _ _ some)
    (and_from _ _ (both_same (step == 0) (count == 1) (λ h. eq-eqb _ _ (lone.0 (eqb-true _ _ h)), λ h. eq-eqb _ _ (lone.1 (eqb-true _ _ h)))) (le-leb _ _ within)))

module _ (g : Forest) (f : IsForest g) (n before : ℕ) (r : Run) where
  wake_back : IsRunOf One g.entries r → r.count ≤ LIMIT → wake_of n g.entries (run_as_line One g.entries r) ≡ Ok r
  unfolding wake_of four_words
  wake_back h few =
      let es = g.entries in
      let s = run_small One es r h few in
      let words = words_back (codes "wake") (wake_tail g.entries r) (run_words_are g f One r h few) in
      let count_is : r.count ≡ 1 = h.form in
      let step_is : r.step ≡ 0 = h.run.lone.1 count_is in
      value_on (four_words n (run_as_line One es r)) _ (codes "wake", decimal r.first, name_of_entry es r.entry, name_of_entry es r.needed) (ap (λ ws. ok_or (four ws) (BadLine n)) words)
      ∙ value_on (number_at n (decimal r.first)) _ r.first (number_back n r.first s.first)
      ∙ value_on (entry_named n es (name_of_entry es r.entry)) _ r.entry (entry_back g f n r.entry h.among.entry)
      ∙ value_on (entry_named n es (name_of_entry es r.needed)) _ r.needed (entry_back g f n r.needed h.among.needed)
      ∙ ap (λ (k : ℕ). Ok (record { first = r.first; step = k; count = 1; entry = r.entry; needed = r.needed })) (sym step_is)
      ∙ ap (λ (k : ℕ). Ok (record { first = r.first; step = r.step; count = k; entry = r.entry; needed = r.needed })) (sym count_is)

  run_back : IsRunOf Two g.entries r → r.count ≤ LIMIT → before + r.count ≤ LIMIT → run_of n g.entries before (run_as_line Two g.entries r) ≡ Ok r
  unfolding run_of six_words
  run_back h few room =
      let es = g.entries in
      let s = run_small Two es r h few in
      let words = words_back (codes "run") (run_tail g.entries r) (run_words_are g f Two r h few) in
      let fits = is_run_back before r.first r.step r.count room h.run.moments.some h.run.lone h.run.moments.last in
      value_on (six_words n (run_as_line Two es r)) _ (codes "run", decimal r.first, decimal r.step, decimal r.count, name_of_entry es r.entry, name_of_entry es r.needed) (ap (λ ws. ok_or (six ws) (BadLine n)) words)
      ∙ value_on (number_at n (decimal r.first)) _ r.first (number_back n r.first s.first)
      ∙ value_on (number_at n (decimal r.step)) _ r.step (number_back n r.step s.step)
      ∙ value_on (number_at n (decimal r.count)) _ r.count (number_back n r.count s.count)
      ∙ value_on (right n (is_run before r.first r.step r.count)) _ tt (ap (right n) fits)
      ∙ value_on (entry_named n es (name_of_entry es r.entry)) _ r.entry (entry_back g f n r.entry h.among.entry)
      ∙ value_on (entry_named n es (name_of_entry es r.needed)) _ r.needed (entry_back g f n r.needed h.among.needed)

pub run_line_back : (g : Forest) → IsForest g → (v : Version) (n before : ℕ) (r : Run) → IsRunOf v g.entries r → before + r.count ≤ LIMIT
    → run_in_line v n g.entries before (run_as_line v g.entries r) ≡ Ok r
unfolding run_in_line
run_line_back g f One n before r h room = wake_back g f n before r h (omega (arith, room))
run_line_back g f Two n before r h room = run_back g f n before r h (omega (arith, room)) room

pub run_keyword_back : (g : Forest) → IsForest g → (v : Version) (r : Run) → IsRunOf v g.entries r → r.count ≤ LIMIT → bytes_eq (keyword (run_as_line v g.entries r)) (run_keyword v) ≡ true
unfolding run_keyword
run_keyword_back g f One r h few = keyword_test _ (codes "wake") _ (words_back (codes "wake") (wake_tail g.entries r) (run_words_are g f One r h few))
run_keyword_back g f Two r h few = keyword_test _ (codes "run") _ (words_back (codes "run") (run_tail g.entries r) (run_words_are g f Two r h few))

-- no line of a run begins with another word
pub run_is_not : (g : Forest) → IsForest g → (v : Version) (r : Run) → IsRunOf v g.entries r → r.count ≤ LIMIT → bytes_eq (keyword (run_as_line v g.entries r)) (codes "unkeepable") ≡ false
run_is_not g f One r h few = ap (λ w. bytes_eq w (codes "unkeepable")) (keyword_back _ (codes "wake") _ (words_back (codes "wake") (wake_tail g.entries r) (run_words_are g f One r h few)))
run_is_not g f Two r h few = ap (λ w. bytes_eq w (codes "unkeepable")) (keyword_back _ (codes "run") _ (words_back (codes "run") (run_tail g.entries r) (run_words_are g f Two r h few)))
