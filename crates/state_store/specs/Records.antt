-- Records: those that the lines of a journal write. A line that writes none is damaged, and the others hold.
-- Source: this project's own.
use Rattle.std.specs.Prelude.{ℕ, List, option_to_list}
use Rattle.std.specs.List.{flat_map}
use Rattle.state_changes.specs.{declared.change.Record.Record, Records.record_of}

abbrev pub record_in : List ℕ → List Record
record_in line = option_to_list (record_of line)

unfoldable pub records_in : List (List ℕ) → List Record
records_in lines = flat_map record_in lines
