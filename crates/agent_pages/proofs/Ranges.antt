-- Ranges: whether something holds of some piece of a text, piece by piece.
use Rattle.std.proofs.Common.{◌≡◌, ◌≢◌, ℕ, ◌<◌, Bool, false, ◌||◌, List, [], ◌∷◌, ◌++◌, length, refl, sym, ap, ◌∙◌, arith, length-append}
use Rattle.std.specs.List.{join_with_byte, list_any}
use Rattle.base_words.specs.Pieces.{pieces}
use Rattle.base_words.proofs.{Cutting.has_piece, Joined.joined_back}

joined_more : (b : ℕ) (piece : List ℕ) (ps : List (List ℕ)) → ps ≢ [] → join_with_byte b (piece ∷ ps) ≡ piece ++ b ∷ join_with_byte b ps
joined_more b piece [] some = absurd (some refl)
joined_more b piece (p ∷ ps) some = refl

-- what is left after a piece is shorter
pub shorter : (b : ℕ) (rest piece after : List ℕ) → pieces b rest ≡ piece ∷ pieces b after → length after < length rest
shorter b rest piece after e =
    let is : rest ≡ piece ++ b ∷ after = sym (joined_back b rest) ∙ ap (join_with_byte b) e ∙ joined_more b piece (pieces b after) (has_piece b after) ∙ ap (λ t. piece ++ b ∷ t) (joined_back b after) in
    omega (arith, ap length is, length-append piece (b ∷ after))

-- where it does not hold of the first piece, it holds of some where it does of some later one
pub later : (f : List ℕ → Bool) (b : ℕ) (rest piece after : List ℕ) → pieces b rest ≡ piece ∷ pieces b after → f piece ≡ false
    → list_any f (pieces b rest) ≡ list_any f (pieces b after)
later f b rest piece after e misses = ap (list_any f) e ∙ ap (λ t. t || list_any f (pieces b after)) misses
