-- Records: the one line that writes a record, and the record that a line writes.
-- Source: this project's own.
use Rattle.std.specs.Prelude.{◌≡◌, ℕ, true, ◌&&◌, if◌then◌else◌, List, [], ◌∷◌, Option, Some, None, bytes_eq, codes}
use Rattle.std.specs.List.{join_with_byte}
use Rattle.base_words.specs.Pieces.{four, keyword, three, two, words}
use Rattle.plan_forest.specs.Push.{is_name}
use Rattle.vault_inventory.specs.{declared.need.Need.Need, Needs.IsNeed, Needs.need_word}
use Rattle.state_changes.specs.{declared.change.Record.Record, declared.change.ChangeKind.ChangeKind, declared.row.Row.Row, Words.need_in_word, Words.row_text}
use Rattle.state_changes.specs.declared.change.Record.TheVariants.{Made, Settling}
use Rattle.state_changes.specs.RowText.{◌>>=◌, IsRow, is_word, one_and_rest, row_of_line}
use Rattle.state_changes.specs.declared.change.ChangeKind.TheVariants as what

-- ---- as it is written

abbrev pub change_words : List ℕ → List ℕ → ChangeKind → List (List ℕ)
change_words name was (what.Need until) = codes "need" ∷ name ∷ was ∷ need_word until ∷ []
change_words name was (what.Replace credential) = codes "replace" ∷ name ∷ was ∷ credential ∷ []
change_words name was (what.Add row) = codes "add" ∷ was ∷ row_text row ∷ []
change_words name was what.Drop = codes "drop" ∷ name ∷ was ∷ []

-- the keyword, the name, what the file said, and what is said instead; of an entry that is added, its whole row, with its name
abbrev pub record_words : Record → List (List ℕ)
record_words (Made c) = change_words c.name c.was c.what
record_words (Settling mark) = codes "settling" ∷ mark ∷ []

-- its words, parted by one space
unfoldable pub record_text : Record → List ℕ
record_text r = join_with_byte 32 (record_words r)

-- ---- as it is read

unfoldable pub made_of : List ℕ → List ℕ → ChangeKind → Option Record
made_of name was w = if is_name name && is_word was then Some (Made (record { name = name; was = was; what = w })) else None

abbrev pub record_with_need : List ℕ → List ℕ → Option Need → Option Record
record_with_need name was None = None
record_with_need name was (Some until) = made_of name was (what.Need until)

unfoldable pub need_line : List ℕ → Option Record
need_line text = elim (four (words text)) [ None ↦ None | Some w ↦ record_with_need w.1 w.2 (need_in_word w.3) ]

unfoldable pub replace_line : List ℕ → Option Record
replace_line text = elim (four (words text)) [ None ↦ None | Some w ↦ (if is_word w.3 then made_of w.1 w.2 (what.Replace w.3) else None) ]

abbrev pub added_of : List ℕ → Option Row → Option Record
added_of was None = None
added_of was (Some row) = made_of row.name was (what.Add row)

unfoldable pub add_line : List ℕ → Option Record
add_line text = do
  a ← one_and_rest text
  b ← one_and_rest a.1
  added_of b.0 (row_of_line b.1)

unfoldable pub drop_line : List ℕ → Option Record
drop_line text = elim (three (words text)) [ None ↦ None | Some w ↦ made_of w.1 w.2 what.Drop ]

unfoldable pub settling_line : List ℕ → Option Record
settling_line text = elim (two (words text)) [ None ↦ None | Some w ↦ (if is_word w.1 then Some (Settling w.1) else None) ]

-- the record of a line, by its keyword
unfoldable pub record_of : List ℕ → Option Record
record_of text =
    if bytes_eq (keyword text) (codes "need") then need_line text
    else (if bytes_eq (keyword text) (codes "replace") then replace_line text
    else (if bytes_eq (keyword text) (codes "add") then add_line text
    else (if bytes_eq (keyword text) (codes "drop") then drop_line text
    else (if bytes_eq (keyword text) (codes "settling") then settling_line text
    else None))))

-- ---- which records there are

-- a change that a command may make of the entry of that name
abbrev pub IsWhat : List ℕ → ChangeKind → Type 0
IsWhat name (what.Need until) = IsNeed until
IsWhat name (what.Replace credential) = is_word credential ≡ true
IsWhat name (what.Add row) = IsRow row × (row.name ≡ name)
IsWhat name what.Drop = Unit {0}

-- a record that a command may have made
abbrev pub IsRecord : Record → Type 0
IsRecord (Made c) = (is_name c.name ≡ true) × (is_word c.was ≡ true) × IsWhat c.name c.what
IsRecord (Settling mark) = is_word mark ≡ true
