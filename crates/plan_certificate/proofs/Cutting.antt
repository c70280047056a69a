-- The lines of a text: what the code that cuts off the first of them finds, in the words of `line_at`.
use Rattle.std.proofs.Common.{◌≡◌, ◌≢◌, ℕ, List, [], ◌∷◌, length, Ok, Err, refl, arith}
use Rattle.base_words.specs.Pieces.{pieces}
use Rattle.base_words.proofs.Cutting.{has_piece}
use Rattle.plan_certificate.specs.Lines.{cut_off, line_at}
use Rattle.plan_certificate.specs.declared.fault.CertFault.TheVariants.{BadLine, Truncated}

whole : (n : ℕ) (line : List ℕ) (ls : List (List ℕ)) → ls ≢ [] → line_at n (line ∷ ls) ≡ Ok (line, ls)
unfolding line_at
whole n line [] some = absurd (some refl)
whole n line (next ∷ more) some = refl

-- a line that a line feed ends
pub whole_line : (n : ℕ) (line rest : List ℕ) → line_at n (line ∷ pieces 10 rest) ≡ Ok (line, pieces 10 rest)
whole_line n line rest = whole n line (pieces 10 rest) (has_piece 10 rest)

-- what no line feed ends
pub no_line : (n : ℕ) (rest : List ℕ) → line_at n (rest ∷ []) ≡ Err (cut_off n rest)
unfolding line_at
no_line n rest = refl

pub cut_off_empty : (n : ℕ) (rest : List ℕ) → length rest ≡ 0 → cut_off n rest ≡ Truncated
cut_off_empty n [] e = refl
cut_off_empty n (b ∷ bs) e = absurd (omega (arith, e))

pub cut_off_line : (n : ℕ) (rest : List ℕ) → length rest ≢ 0 → cut_off n rest ≡ BadLine n
cut_off_line n [] some = absurd (some refl)
cut_off_line n (b ∷ bs) some = refl
