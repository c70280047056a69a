-- The names so far.
use Rattle.std.proofs.Common.{◌≡◌, ◌++◌, ◌∷◌, flat_map, take}
use Rattle.program_lines.specs.Text.{name_of}
use Rattle.program_lines.proofs.text.push_names.Given as goal

abbrev pub invariant-loop-entry : goal.invariant-loop-entry
invariant-loop-entry l = l.text.items ≡ l.initial.text.items ++ flat_map (λ i. 32 ∷ name_of l.forest i) (take l.entry-index l.asked)
