-- Joined pieces are cut into the same pieces; and the bytes that do not stand in a number.
use Rattle.std.proofs.Common.{◌≡◌, ℕ, ◌+◌, ◌%◌, ◌^◌, ◌<◌, ◌⊎◌, true, false, not, ◌==◌, List, [], ◌∷◌, ◌++◌, decimal, refl, ap, ◌∙◌, arith, All}
use Rattle.std.proofs.lemmas.{Bool.and_from, Bool.eq-eqb, Bool.ne_eqb, Bool.not-true, Bool.not_from_false, Fmt.decimal_by_steps, List.Folds.list_all-append}
use Rattle.std.proofs.lemmas.{List.Splits.join_with_byte-slice_split, List.Splits.slice_split_at, List.Splits.slice_split_none, List.Sums.AllPass-from_list_all}
use Rattle.std.specs.List.{join_with_byte}
use Rattle.base_words.specs.{Laws.CutBack, Laws.JoinedBack, Laws.Lacks, Pieces.pieces}

pub lacks_each : (b : ℕ) (text : List ℕ) → Lacks b text → All (λ x. (x == b) ≡ false) text
lacks_each b text h = λ k d l. not-true _ (AllPass-from_list_all (λ x. not (x == b)) text h k d l)

pub lacks_append : (b : ℕ) (xs ys : List ℕ) → Lacks b xs → Lacks b ys → Lacks b (xs ++ ys)
lacks_append b xs ys h k = list_all-append (λ x. not (x == b)) xs ys ∙ and_from _ _ h k

pub joined_back : JoinedBack
unfolding pieces
joined_back b text = join_with_byte-slice_split b text

pub cut_back : CutBack
unfolding pieces
cut_back b w [] h = slice_split_none (λ c. c == b) w (lacks_each b w h.0)
cut_back b w (x ∷ ws) h =
    slice_split_at (λ c. c == b) w b (join_with_byte b (x ∷ ws)) (lacks_each b w h.0) (eq-eqb b b refl)
    ∙ ap (λ rest. w ∷ rest) (cut_back b x ws h.1)

-- ---- numbers

digit_lacks : (b d : ℕ) → (b < 48) ⊎ (57 < b) → d < 10 → Lacks b ((48 + d) ∷ [])
digit_lacks b d other small = and_from _ true (not_from_false _ (ne_eqb (48 + d) b (λ e. omega (arith, e, other)))) refl

-- no byte but a digit stands in a number
pub decimal_lacks : (b : ℕ) → (b < 48) ⊎ (57 < b) → (n : ℕ) → n < 2 ^ 64 → Lacks b (decimal n)
decimal_lacks b other = decimal_by_steps (λ n ds. Lacks b ds)
    (λ n few. digit_lacks b n other few)
    (λ n ds some h. lacks_append b ds ((48 + n % 10) ∷ []) h (digit_lacks b (n % 10) other (omega arith)))
