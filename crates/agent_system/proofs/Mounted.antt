-- Mounted: the words of a line about a mount, one after another. For `mounts`.
use Rattle.std.proofs.Common.{◌≡◌, ◌∙◌, ℕ, List, ◌∷◌, true, ap, sym}
use Rattle.std.proofs.lemmas.Bool.{cond-true}
use Rattle.std.specs.Prelude.{bytes_eq, codes}
use Rattle.base_words.specs.Pieces.{first, keyword, pieces, words}
use Rattle.agent_system.specs.Mounts.{second, type_in}

-- the second word is the first of what follows the first
pub second_word : (line word rest : List ℕ) → pieces 32 line ≡ word ∷ pieces 32 rest → keyword rest ≡ second (words line)
unfolding keyword
second_word line word rest e = sym (ap second e)

-- the type is the first word of what follows the dash
pub typed_word : (line rest word after : List ℕ) → type_in (words line) ≡ type_in (words rest) → pieces 32 rest ≡ word ∷ pieces 32 after → bytes_eq word (codes "-") ≡ true
    → keyword after ≡ type_in (words line)
unfolding keyword
typed_word line rest word after same e dash =
    sym (same ∙ ap type_in e ∙ cond-true (bytes_eq word (codes "-")) (first (pieces 32 after)) (type_in (pieces 32 after)) dash)
