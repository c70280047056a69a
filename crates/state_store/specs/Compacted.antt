-- Compacted: the lines of a journal without those whose records later ones make void; those that write no record, and those that do.
-- Source: this project's own.
use Rattle.std.specs.Prelude.{ℕ, ◌%◌, Bool, ◌&&◌, ◌==◌, List, filter, is_none, length, map, nat_le}
use Rattle.state_changes.specs.{Compaction.voids, Records.record_of}
use Rattle.base_journal.specs.Records.{lines_kept}
use Rattle.state_store.specs.Records.{records_in}

-- each line writes a record
abbrev pub are_records : List (List ℕ) → Bool
are_records lines = length (records_in lines) == length lines

-- the lines without those whose records later ones make void; of lines that are all records
unfoldable pub compacted_lines : List (List ℕ) → List (List ℕ)
compacted_lines lines = lines_kept lines (voids (records_in lines))

-- of how many lines a later one makes the record void; of lines that are all records
abbrev pub void_count : List (List ℕ) → ℕ
void_count lines = length (filter (λ void. void) (voids (records_in lines)))

-- so many lines that it is time to look: once in a thousand, so that a line more costs the same however many there are
abbrev pub is_time_to_look : List (List ℕ) → Bool
is_time_to_look lines = length lines % 1000 == 0

-- it is time to look, each line is a record, and a thousand or more are void
unfoldable pub is_worth : List (List ℕ) → Bool
is_worth lines = is_time_to_look lines && (are_records lines && nat_le 1000 (void_count lines))

-- of each line, whether it writes no record
unfoldable pub damages : List (List ℕ) → List Bool
damages lines = map (λ line. is_none (record_of line)) lines

-- the lines that write no record
unfoldable pub damaged : List (List ℕ) → List (List ℕ)
damaged lines = filter (λ line. is_none (record_of line)) lines

-- the lines that write records
abbrev pub undamaged : List (List ℕ) → List (List ℕ)
undamaged lines = lines_kept lines (damages lines)
