-- The lines of the rows before the current one are added.
use Rattle.std.proofs.Common.{string_bytes, take}
use Rattle.std.specs.List.{flat_map}
use Rattle.state_file.specs.FileText.{Adds, row_lines}
use Rattle.state_file.proofs.text.Page.put_rows.Given as goal

abbrev pub invariant-loop-row : goal.invariant-loop-row
invariant-loop-row l = Adds (flat_map (row_lines l.fn.form) (take l.row-index l.rows)) (string_bytes l.initial.self.text) (string_bytes l.self.text)
