-- A line cut at its first space, and rows written and read word by word.
use Rattle.std.proofs.Common.{◌≡◌, ◌≢◌, ◌==◌, ℕ, List, [], ◌∷◌, ◌++◌, Option, Some, None, refl, sym, ap, ◌∙◌}
use Rattle.std.proofs.lemmas.{Bool.eq-eqb, List.Splits.slice_split_at, List.Splits.slice_split_none}
use Rattle.std.specs.List.{join_with_byte}
use Rattle.base_words.specs.{Laws.Lacks, Pieces.parted, Pieces.pieces}
use Rattle.base_words.proofs.{Cutting.has_piece, Joined.joined_back, Joined.lacks_each}
use Rattle.state_changes.specs.RowText.{one_and_rest, parts}

rest_joined : (w : List ℕ) (ws : List (List ℕ)) → ws ≢ [] → parts (w ∷ ws) ≡ Some (w, join_with_byte 32 ws)
rest_joined w [] some = absurd (some refl)
rest_joined w (x ∷ ws) some = refl

-- one word, and a line
pub parts_of : (w rest : List ℕ) → parts (w ∷ pieces 32 rest) ≡ Some (w, rest)
parts_of w rest = rest_joined w (pieces 32 rest) (has_piece 32 rest) ∙ ap (λ r. Some (w, r)) (joined_back 32 rest)

parted_is : (line : List ℕ) (o : Option (List ℕ × List ℕ)) → parts (parted 32 line o) ≡ o
parted_is line None = refl
parted_is line (Some cut) = parts_of cut.0 cut.1

-- what the code cuts is that
pub cut_is : (line : List ℕ) (o : Option (List ℕ × List ℕ)) → pieces 32 line ≡ parted 32 line o → o ≡ one_and_rest line
unfolding one_and_rest
cut_is line o e = sym (ap parts e ∙ parted_is line o)

-- a word that is written before a space is the first piece
pub pieces_of : (w rest : List ℕ) → Lacks 32 w → pieces 32 (w ++ 32 ∷ rest) ≡ w ∷ pieces 32 rest
unfolding pieces
pieces_of w rest h = slice_split_at (λ c. c == 32) w 32 rest (lacks_each 32 w h) (eq-eqb 32 32 refl)

-- and is cut off
pub cut_back : (w rest : List ℕ) → Lacks 32 w → one_and_rest (w ++ 32 ∷ rest) ≡ Some (w, rest)
unfolding one_and_rest
cut_back w rest h = ap parts (pieces_of w rest h) ∙ parts_of w rest

-- a line without a space is not cut
pub not_cut : (w : List ℕ) → Lacks 32 w → one_and_rest w ≡ None
unfolding one_and_rest pieces
not_cut w h = ap parts (slice_split_none (λ c. c == 32) w (lacks_each 32 w h))

joined_parts : (ws : List (List ℕ)) (w rest : List ℕ) → parts ws ≡ Some (w, rest) → join_with_byte 32 ws ≡ w ++ 32 ∷ rest
joined_parts [] w rest e = cc
joined_parts (a ∷ []) w rest e = cc
joined_parts (a ∷ b ∷ ws) w rest e = ap (λ (p : Option (List ℕ × List ℕ)). elim p [ None ↦ join_with_byte 32 (a ∷ b ∷ ws) | Some q ↦ q.0 ++ 32 ∷ q.1 ]) e

-- and what is cut was written so
pub cut_only : (line w rest : List ℕ) → one_and_rest line ≡ Some (w, rest) → line ≡ w ++ 32 ∷ rest
unfolding one_and_rest
cut_only line w rest e = sym (joined_back 32 line) ∙ joined_parts (pieces 32 line) w rest e
