-- What is read is written: each line that the definition of reading takes is the line that the grammar writes.
use Rattle.std.proofs.Common.{◌≡◌, ℕ, suc, ◌<◌, ◌≤◌, true, List, [], ◌∷◌, ◌++◌, bytes_eq, decimal, length, Option, Some, None, Result, Ok, Err, refl, sym, ap, ◌∙◌, subst, arith, inl, inr}
use Rattle.std.proofs.lemmas.List.Splits.{join_with_byte-slice_split}
use Rattle.std.proofs.lemmas.Bool.{cases_Bool, cond-false, cond-true}
use Rattle.std.specs.{Cmp.Lexicographic.bytes_decides, List.join_with_byte, Option.ok_or, Option.option_map}
use Rattle.base_moment.specs.declared.moment.TheConstants.{LAST}
use Rattle.plan_forest.specs.{declared.entry.Entry.Entry, Forest.entry_at, Forest.index_named}
use Rattle.plan_forest.proofs.Entries.{index_named_within}
use Rattle.plan_certificate.specs.{declared.fault.CertFault.CertFault, CertificateText.line_text, CertificateText.name_of_entry, Lines.number_at, Reading.entry_named}
use Rattle.plan_certificate.specs.Answers.{◌>>=◌}
use Rattle.base_words.specs.Numbers.{number_up_to}
use Rattle.base_words.specs.Pieces.{keyword, pieces, two, three, four, six}
use Rattle.base_words.proofs.Numbers as numbers

-- a step that gives a value had one from the step before
pub step_ok : {A B P : Type 0} (r : Result A CertFault) (f : A → Result B CertFault) (y : B) → (r >>= f) ≡ Ok y → ((x : A) → r ≡ Ok x → f x ≡ Ok y → P) → P
step_ok (Ok x) f y e k = k x refl e
step_ok (Err d) f y e k = absurd (let no : ◌≡◌ {A = Result _ CertFault} (Err d) (Ok y) = e in cc)

pub some_from_ok : {A : Type 0} (o : Option A) (d : CertFault) (x : A) → ok_or o d ≡ Ok x → o ≡ Some x
some_from_ok None d x e = absurd (let no : ◌≡◌ {A = Result _ CertFault} (Err d) (Ok x) = e in cc)
some_from_ok (Some y) d x e = ap Some (let same : y ≡ x = cc in same)

-- ---- words

some_same : {A : Type 0} (x y : A) → Some x ≡ Some y → x ≡ y
some_same x y e = cc

pub two_is : (ws : List (List ℕ)) (w : List ℕ × List ℕ) → two ws ≡ Some w → ws ≡ w.0 ∷ w.1 ∷ []
two_is (a ∷ b ∷ []) w e = ap (λ p. p.0 ∷ p.1 ∷ []) (some_same {A = List ℕ × List ℕ} (a, b) w e)
two_is _ w e = cc

pub three_is : (ws : List (List ℕ)) (w : List ℕ × List ℕ × List ℕ) → three ws ≡ Some w → ws ≡ w.0 ∷ w.1 ∷ w.2 ∷ []
three_is (a ∷ b ∷ c ∷ []) w e = ap (λ p. p.0 ∷ p.1 ∷ p.2 ∷ []) (some_same {A = List ℕ × List ℕ × List ℕ} (a, b, c) w e)
three_is _ w e = cc

pub four_is : (ws : List (List ℕ)) (w : List ℕ × List ℕ × List ℕ × List ℕ) → four ws ≡ Some w → ws ≡ w.0 ∷ w.1 ∷ w.2 ∷ w.3 ∷ []
four_is (a ∷ b ∷ c ∷ d ∷ []) w e = ap (λ p. p.0 ∷ p.1 ∷ p.2 ∷ p.3 ∷ []) (some_same {A = List ℕ × List ℕ × List ℕ × List ℕ} (a, b, c, d) w e)
four_is _ w e = cc

pub six_is : (ws : List (List ℕ)) (w : List ℕ × List ℕ × List ℕ × List ℕ × List ℕ × List ℕ) → six ws ≡ Some w → ws ≡ w.0 ∷ w.1 ∷ w.2 ∷ w.3 ∷ w.4 ∷ w.5 ∷ []
six_is (a ∷ b ∷ c ∷ d ∷ x ∷ y ∷ []) w e = ap (λ p. p.0 ∷ p.1 ∷ p.2 ∷ p.3 ∷ p.4 ∷ p.5 ∷ []) (some_same {A = List ℕ × List ℕ × List ℕ × List ℕ × List ℕ × List ℕ} (a, b, c, d, x, y) w e)
six_is _ w e = cc

-- a line is its words, parted by spaces
pub line_from_words : (line : List ℕ) (ws : List (List ℕ)) → pieces 32 line ≡ ws → line ++ 10 ∷ [] ≡ line_text ws
unfolding line_text pieces
line_from_words line ws e = ap (λ l. l ++ 10 ∷ []) (sym (join_with_byte-slice_split 32 line) ∙ ap (join_with_byte 32) e)

-- the first of them is the keyword
pub keyword_is : (line word first : List ℕ) (ws : List (List ℕ)) → pieces 32 line ≡ first ∷ ws → bytes_eq (keyword line) word ≡ true → first ≡ word
unfolding keyword
keyword_is line word first ws e key =
    sym (ap (λ l. Rattle.base_words.specs.Pieces.first l) e) ∙ (bytes_decides (keyword line) word).0 key

-- ---- numbers

pub number_spelled : (n : ℕ) (word : List ℕ) (k : ℕ) → number_at n word ≡ Ok k → (word ≡ decimal k) × (k ≤ LAST)
unfolding number_at
number_spelled n word k e = numbers.number_spelled LAST (omega arith) word k (some_from_ok (number_up_to LAST word) _ k e)

-- ---- names

one_later : (o : Option ℕ) (i : ℕ) → option_map (λ k. suc k) o ≡ Some i → (k : ℕ) × (o ≡ Some k) × (suc k ≡ i)
one_later None i e = cc
one_later (Some k) i e = (k, refl, cc)

index_named_is : (es : List Entry) (word : List ℕ) (i : ℕ) → index_named es word ≡ Some i → name_of_entry es i ≡ word
unfolding index_named name_of_entry entry_at
index_named_is [] word i e = cc
index_named_is (x ∷ es) word i e =
    elim (cases_Bool (bytes_eq x.name word)) [
      | inl t ↦
          let here : Some 0 ≡ Some i = sym (cond-true _ _ _ t) ∙ e in
          let at_0 : 0 ≡ i = cc in
          subst (λ k. name_of_entry (x ∷ es) k ≡ word) at_0 ((bytes_decides x.name word).0 t)
      | inr f ↦
          let later = one_later (index_named es word) i (sym (cond-false _ _ _ f) ∙ e) in
          subst (λ k. name_of_entry (x ∷ es) k ≡ word) later.2 (index_named_is es word later.0 later.1)
    ]

pub entry_found : (n : ℕ) (es : List Entry) (word : List ℕ) (i : ℕ) → entry_named n es word ≡ Ok i → (i < length es) × (word ≡ name_of_entry es i)
unfolding entry_named
entry_found n es word i e =
    let named = some_from_ok (index_named es word) _ i e in
    (index_named_within es word i named, sym (index_named_is es word i named))
