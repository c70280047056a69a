-- Cut: the pieces of a text that grows, and the text of its pieces.
use Rattle.std.specs.Prelude.{◌≢◌}
use Rattle.std.proofs.Common.{◌≡◌, ◌==◌, ℕ, Bool, false, List, [], ◌∷◌, ◌++◌, length, refl, sym, ap, ◌∙◌, arith, inl, inr}
use Rattle.std.proofs.lemmas.Bool.{cases_Bool}
use Rattle.std.proofs.lemmas.List.Splits.{join_with_byte-slice_split, length-slice_split, slice_split-cons_no, slice_split-cons_yes}
use Rattle.std.specs.List.{join_with_byte, onto_first, slice_split}
use Rattle.base_words.specs.Pieces.{pieces}
use Rattle.base_words.proofs.Cutting.{has_piece}

some_behind : (ls : List (List ℕ)) (r : List ℕ) → ls ++ (r ∷ []) ≢ []
some_behind [] r e = cc
some_behind (l ∷ ls) r e = cc

module _ (p : ℕ → Bool) where
  -- the last piece goes on
  abbrev glued : List (List ℕ) → List ℕ → List (List ℕ)
  glued [] ys = slice_split p ys
  glued (r ∷ []) ys = slice_split p (r ++ ys)
  glued (l ∷ m ∷ ms) ys = l ∷ glued (m ∷ ms) ys

  glued_cons : (l : List ℕ) (parts : List (List ℕ)) (ys : List ℕ) → parts ≢ [] → glued (l ∷ parts) ys ≡ l ∷ glued parts ys
  glued_cons l [] ys some = absurd (some refl)
  glued_cons l (m ∷ ms) ys some = refl

  glued_onto : (x : ℕ) (parts : List (List ℕ)) (ys : List ℕ) → p x ≡ false → parts ≢ [] → glued (onto_first x parts) ys ≡ onto_first x (glued parts ys)
  glued_onto x [] ys lacks some = absurd (some refl)
  glued_onto x (q ∷ []) ys lacks some = slice_split-cons_no p x (q ++ ys) lacks
  glued_onto x (q ∷ m ∷ ms) ys lacks some = refl

  some_piece : (xs : List ℕ) → slice_split p xs ≢ []
  some_piece xs e = omega (arith, length-slice_split p xs, ap length e)

  split_more : (xs ys : List ℕ) → slice_split p (xs ++ ys) ≡ glued (slice_split p xs) ys
  split_more [] ys = refl
  split_more (x ∷ xs) ys =
      elim (cases_Bool (p x)) [
        | inl y ↦
            slice_split-cons_yes p x (xs ++ ys) y
            ∙ ap (λ l. [] ∷ l) (split_more xs ys)
            ∙ sym (glued_cons [] (slice_split p xs) ys (some_piece xs))
            ∙ ap (λ l. glued l ys) (sym (slice_split-cons_yes p x xs y))
        | inr n ↦
            slice_split-cons_no p x (xs ++ ys) n
            ∙ ap (onto_first x) (split_more xs ys)
            ∙ sym (glued_onto x (slice_split p xs) ys n (some_piece xs))
            ∙ ap (λ l. glued l ys) (sym (slice_split-cons_no p x xs n))
      ]

  glued_last : (ls : List (List ℕ)) (r ys : List ℕ) → glued (ls ++ (r ∷ [])) ys ≡ ls ++ slice_split p (r ++ ys)
  glued_last [] r ys = refl
  glued_last (l ∷ ls) r ys = glued_cons l (ls ++ (r ∷ [])) ys (some_behind ls r) ∙ ap (λ t. l ∷ t) (glued_last ls r ys)

-- what stands after the last such byte goes on with what follows
pub pieces_more : (b : ℕ) (xs ys : List ℕ) (ls : List (List ℕ)) (r : List ℕ) → pieces b xs ≡ ls ++ (r ∷ []) → pieces b (xs ++ ys) ≡ ls ++ pieces b (r ++ ys)
unfolding pieces
pieces_more b xs ys ls r e = split_more (λ c. c == b) xs ys ∙ ap (λ l. glued (λ c. c == b) l ys) e ∙ glued_last (λ c. c == b) ls r ys

joined_cons : (b : ℕ) (l : List ℕ) (parts : List (List ℕ)) → parts ≢ [] → join_with_byte b (l ∷ parts) ≡ l ++ (b ∷ join_with_byte b parts)
joined_cons b l [] some = absurd (some refl)
joined_cons b l (m ∷ ms) some = refl

-- the first piece, the byte, and what follows it are the text
pub cut_back : (b : ℕ) (text line rest : List ℕ) → pieces b text ≡ line ∷ pieces b rest → text ≡ line ++ (b ∷ rest)
unfolding pieces
cut_back b text line rest e =
    sym (join_with_byte-slice_split b text)
    ∙ ap (join_with_byte b) e
    ∙ joined_cons b line (pieces b rest) (has_piece b rest)
    ∙ ap (λ l. line ++ (b ∷ l)) (join_with_byte-slice_split b rest)

first_of : (parts : List (List ℕ)) → parts ≢ [] → (next : List ℕ) × ((more : List (List ℕ)) × (parts ≡ next ∷ more))
first_of [] some = absurd (some refl)
first_of (next ∷ more) some = (next, (more, refl))

-- a text has a first piece
pub first_piece : (b : ℕ) (text : List ℕ) → (next : List ℕ) × ((more : List (List ℕ)) × (pieces b text ≡ next ∷ more))
first_piece b text = first_of (pieces b text) (has_piece b text)
