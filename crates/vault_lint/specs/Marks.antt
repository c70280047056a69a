-- Marks: what each line of an inventory's text begins. A line counts as it stands: one within a text of several lines does, too.
-- Source: TOML 1.1, "Keys", "Table" and "Array of Tables"; that blanks and quotes are passed over is this project's own.
use Rattle.std.specs.Prelude.{ℕ, ◌==◌, ◌&&◌, ◌||◌, Bool, true, false, not, nat_eq, nat_lt, if◌then◌else◌, List, [], ◌∷◌, Option, Some, None, bytes_eq, codes, filter, find, is_some, map}
use Rattle.std.specs.{List.list_all, List.starts_with, Char.is_ascii_alphanumeric}
use Rattle.vault_inventory.specs.{Keys.key_text, declared.key.Key.Key}
use Rattle.plan_forest.specs.declared.entry.Kind.{Kind}
use Rattle.plan_forest.specs.declared.entry.Kind.TheVariants as kinds
use Rattle.base_words.specs.Pieces.{pieces}
use Rattle.vault_lint.specs.declared.mark.Mark.{Mark}
use Rattle.vault_lint.specs.declared.mark.TheConstants.{LEASE_KEYS, TOKEN_KEYS, TOP_KEYS}
use Rattle.vault_lint.specs.declared.mark.Mark.TheVariants as marks

-- all but blanks, quotes and what is not ASCII, such as a byte-order mark
abbrev pub is_shown : ℕ → Bool
is_shown b = nat_lt b 128 && not (b == 32) && not (b == 9) && not (b == 13) && not (b == 34) && not (b == 39)

abbrev pub is_word_byte : ℕ → Bool
is_word_byte b = is_ascii_alphanumeric b || (b == 95) || (b == 45)

abbrev pub is_some_word : List ℕ → Bool
is_some_word [] = false
is_some_word (b ∷ bs) = true

-- the text of a key that is written without quotes
abbrev pub is_key_word : List ℕ → Bool
is_key_word word = is_some_word word && list_all is_word_byte word

abbrev pub key_in : List ℕ → List Key → Option Key
key_in word among = find (λ key. bytes_eq (key_text key) word) among

abbrev pub first_key : Option Key → Option Key → Option Key
first_key (Some key) other = Some key
first_key None other = other

-- the key of that text
abbrev pub key_of : List ℕ → Option Key
key_of word = first_key (key_in word TOP_KEYS) (first_key (key_in word TOKEN_KEYS) (key_in word LEASE_KEYS))

-- the keys of a table of this kind, or of the top level
abbrev pub keys_of : Option Kind → List Key
keys_of None = TOP_KEYS
keys_of (Some kinds.Token) = TOKEN_KEYS
keys_of (Some kinds.Lease) = LEASE_KEYS

abbrev pub is_of_table : Option Kind → Key → Bool
is_of_table table key = is_some (key_in (key_text key) (keys_of table))

abbrev pub mark_by : Option Key → Mark
mark_by (Some key) = marks.Key key
mark_by None = marks.Unknown

abbrev pub mark_of_word : List ℕ → Mark
mark_of_word word = mark_by (key_of word)

-- a line that begins no table: what stands before the first `=` is its key
abbrev pub mark_of_pieces : List (List ℕ) → Mark
mark_of_pieces (word ∷ rest ∷ more) = if is_key_word word then mark_of_word word else marks.Rest
mark_of_pieces text = marks.Rest

abbrev pub mark_of_key : List ℕ → Mark
mark_of_key text = mark_of_pieces (pieces 61 text)

abbrev pub mark_of_shown : List ℕ → Mark
mark_of_shown text =
    if starts_with nat_eq text (codes "[[token]]") then marks.Table kinds.Token
    else (if starts_with nat_eq text (codes "[[lease]]") then marks.Table kinds.Lease
    else (if starts_with nat_eq text (codes "[") then marks.Other else mark_of_key text))

unfoldable pub mark_of : List ℕ → Mark
mark_of line = mark_of_shown (filter is_shown line)

-- of a text, line by line
unfoldable pub marks_of : List ℕ → List Mark
marks_of text = map mark_of (pieces 10 text)
