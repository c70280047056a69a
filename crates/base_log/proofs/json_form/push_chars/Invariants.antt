-- The characters that came are written.
use Rattle.std.proofs.Common.{◌≡◌, ◌++◌, flat_map}
use Rattle.base_log.specs.Forms.{json_char}
use Rattle.base_log.proofs.json_form.push_chars.Given as goal

abbrev pub invariant-loop-c : goal.invariant-loop-c
invariant-loop-c l = l.text.items ≡ l.initial.text.items ++ flat_map json_char l.yielded
