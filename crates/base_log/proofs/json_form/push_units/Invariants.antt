-- What was written, and the units to come, are the text of all of them.
use Rattle.std.proofs.Common.{◌≡◌, ◌++◌, drop, flat_map}
use Rattle.base_log.specs.Forms.{six_characters}
use Rattle.base_log.proofs.json_form.push_units.Given as goal

abbrev pub invariant-loop-unit : goal.invariant-loop-unit
invariant-loop-unit l = l.text.items ++ flat_map six_characters (drop l.unit-index l.units) ≡ l.initial.text.items ++ flat_map six_characters l.units
