-- Judging: what the doubts of one entry go by.
-- Source: this project's own; Vault, "Tokens" (the prefixes of their values).
use Rattle.std.specs.Prelude.{ℕ, ◌&&◌, ◌||◌, Bool, false, nat_le, if◌then◌else◌, List, [], ◌∷◌, Option, Some, None, bytes_eq, codes, length, slice_get}
use Rattle.std.specs.List.{list_all}
use Rattle.base_words.specs.Pieces.{pieces}
use Rattle.vault_lint.specs.{Marks.is_word_byte, declared.subject.Subject.Subject}

-- ---- a name that looks like the value of a token

abbrev pub is_token_front : List ℕ → Bool
is_token_front front = bytes_eq front (codes "hvs") || bytes_eq front (codes "hvb") || bytes_eq front (codes "hvr") || bytes_eq front (codes "s") || bytes_eq front (codes "b")

abbrev pub is_token_pieces : List (List ℕ) → Bool
is_token_pieces (front ∷ rest ∷ []) = is_token_front front && nat_le 8 (length rest) && list_all is_word_byte rest
is_token_pieces ps = false

abbrev pub is_token_like : List ℕ → Bool
is_token_like name = is_token_pieces (pieces 46 name)

-- ---- facts

abbrev pub written_margin : Subject → Option ℕ
written_margin s = if s.served.has_margin then Some s.inventory.forest.margin else None

abbrev pub is_true_at : Option Bool → Bool
is_true_at None = false
is_true_at (Some b) = b

abbrev pub is_open : List Bool → ℕ → Bool
is_open open_files i = is_true_at (slice_get open_files i)
