-- Lines: the pieces of a text between its line feeds, and what a line says word by word, or the fault that it has.
-- Source: this project's own.
use Rattle.std.specs.Prelude.{ℕ, List, [], ◌∷◌, Result, Ok, Err}
use Rattle.std.specs.Option.{ok_or}
use Rattle.base_moment.specs.declared.moment.TheConstants.{LAST}
use Rattle.base_words.specs.Numbers.{number_up_to}
use Rattle.base_words.specs.Pieces.{four, pieces, six, three, two, words}
use Rattle.plan_certificate.specs.declared.fault.CertFault.{CertFault}
use Rattle.plan_certificate.specs.declared.fault.CertFault.TheVariants.{BadLine, BadNumber, Truncated}

-- the lines of a text, and after the last line feed what is no whole line
abbrev pub lines : List ℕ → List (List ℕ)
lines text = pieces 10 text

-- what stands after the last line feed is nothing, or a line that is cut off
abbrev pub cut_off : ℕ → List ℕ → CertFault
cut_off n [] = Truncated
cut_off n (b ∷ bs) = BadLine n

-- the nth line, which is the first of these, and what follows its line feed
unfoldable pub line_at : ℕ → List (List ℕ) → Result (List ℕ × List (List ℕ)) CertFault
line_at n [] = Err Truncated
line_at n (rest ∷ []) = Err (cut_off n rest)
line_at n (line ∷ next ∷ more) = Ok (line, next ∷ more)

-- the words of the nth line, where they are just so many
unfoldable pub two_words : ℕ → List ℕ → Result (List ℕ × List ℕ) CertFault
two_words n line = ok_or (two (words line)) (BadLine n)

unfoldable pub three_words : ℕ → List ℕ → Result (List ℕ × List ℕ × List ℕ) CertFault
three_words n line = ok_or (three (words line)) (BadLine n)

unfoldable pub four_words : ℕ → List ℕ → Result (List ℕ × List ℕ × List ℕ × List ℕ) CertFault
four_words n line = ok_or (four (words line)) (BadLine n)

unfoldable pub six_words : ℕ → List ℕ → Result (List ℕ × List ℕ × List ℕ × List ℕ × List ℕ × List ℕ) CertFault
six_words n line = ok_or (six (words line)) (BadLine n)

-- the number of a word in the nth line
unfoldable pub number_at : ℕ → List ℕ → Result ℕ CertFault
number_at n word = ok_or (number_up_to LAST word) (BadNumber n)
