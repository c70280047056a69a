-- The pieces of a text: what the code that cuts it finds, in the words of `pieces`.
use Rattle.std.proofs.Common.{◌≡◌, ◌≢◌, ℕ, ◌+◌, ◌≤◌, Bool, true, false, cond, List, [], ◌∷◌, length, take, drop, Some, None, refl, ap, subst, arith, ◌==◌, ltb-true, ltb-false}
use Rattle.std.proofs.lemmas.{List.Splits.slice_split_first, List.Splits.slice_split_none, List.Splits.length-slice_split, List.Sums.fails_before_first}
use Rattle.std.specs.{List.position_or_len, List.slice_split, Option.option_map}
use Rattle.base_words.specs.{code.Cutting.first_place, Pieces.pieces, Pieces.two, Pieces.three, Pieces.four, Pieces.six}

chosen : (b : Bool) (m n : ℕ) → cond b (Some m) None ≡ Some n → (b ≡ true) × (m ≡ n)
chosen true m n e = (refl, cc)
chosen false m n e = cc

not_chosen : (b : Bool) (m : ℕ) → cond b (Some m) None ≡ None → b ≡ false
not_chosen true m e = cc
not_chosen false m e = refl

-- where a place is found
pub cut_at : (b : ℕ) (text : List ℕ) (i : ℕ) → first_place b text ≡ Some i → pieces b text ≡ take i text ∷ pieces b (drop (i + 1) text)
unfolding first_place pieces
cut_at b text i e =
    let p : ℕ → Bool = λ c. c == b in
    let h = chosen _ (position_or_len p text) i e in
    subst (λ k. slice_split p text ≡ take k text ∷ slice_split p (drop (k + 1) text)) h.1 (slice_split_first p text 0 (ltb-true _ _ h.0))

-- where none is
pub not_cut : (b : ℕ) (text : List ℕ) → first_place b text ≡ None → pieces b text ≡ text ∷ []
unfolding first_place pieces
not_cut b text e =
    let p : ℕ → Bool = λ c. c == b in
    let far : length text ≤ position_or_len p text = ltb-false _ _ (not_chosen _ (position_or_len p text) e) in
    slice_split_none p text (λ k d l. fails_before_first p text k d (omega arith))

-- a text has a first piece
pub has_piece : (b : ℕ) (text : List ℕ) → pieces b text ≢ []
unfolding pieces
has_piece b text e =
    let p : ℕ → Bool = λ c. c == b in
    omega (arith, length-slice_split p text, ap length e)

more_than_two : (a b : List ℕ) (ws : List (List ℕ)) → ws ≢ [] → two (a ∷ b ∷ ws) ≡ None
more_than_two a b [] some = absurd (some refl)
more_than_two a b (w ∷ ws) some = refl

-- more than two pieces
pub two_of_more : (byte : ℕ) (a b rest : List ℕ) → two (a ∷ b ∷ pieces byte rest) ≡ None
two_of_more byte a b rest = more_than_two a b (pieces byte rest) (has_piece byte rest)

-- one word more in front
pub three_after : (a : List ℕ) (ws : List (List ℕ)) → three (a ∷ ws) ≡ option_map (λ w. (a, w.0, w.1)) (two ws)
three_after a [] = refl
three_after a (b ∷ []) = refl
three_after a (b ∷ c ∷ []) = refl
three_after a (b ∷ c ∷ d ∷ ws) = refl

pub four_after : (a : List ℕ) (ws : List (List ℕ)) → four (a ∷ ws) ≡ option_map (λ w. (a, w.0, w.1, w.2)) (three ws)
four_after a [] = refl
four_after a (b ∷ []) = refl
four_after a (b ∷ c ∷ []) = refl
four_after a (b ∷ c ∷ d ∷ []) = refl
four_after a (b ∷ c ∷ d ∷ e ∷ ws) = refl

pub six_after : (a b : List ℕ) (ws : List (List ℕ)) → six (a ∷ b ∷ ws) ≡ option_map (λ w. (a, b, w.0, w.1, w.2, w.3)) (four ws)
six_after a b [] = refl
six_after a b (c ∷ []) = refl
six_after a b (c ∷ d ∷ []) = refl
six_after a b (c ∷ d ∷ e ∷ []) = refl
six_after a b (c ∷ d ∷ e ∷ f ∷ []) = refl
six_after a b (c ∷ d ∷ e ∷ f ∷ g ∷ ws) = refl
