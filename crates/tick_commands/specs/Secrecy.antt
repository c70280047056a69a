-- Secrecy: of two inventories that differ in their credentials alone a rehearsal writes the same.
use Rattle.std.specs.Prelude.{ℕ, List}
use Rattle.base_device.specs.Seen.{Change}
use Rattle.program_report.specs.declared.exit.Exit.{Exit}
use Rattle.plan_commands.specs.Secrecy.{DifferInSecrets, RunAlike}
use Rattle.tick_commands.specs.RehearseFrom.{Rehearses}

abbrev pub RehearseSecrecy : Type 0
RehearseSecrecy =
    (bytes other : List ℕ) (start : ℕ) (words : List (List ℕ)) (exit exit' : Exit) (out out' errors errors' : Change) → DifferInSecrets bytes other →
    Rehearses bytes start words exit out errors → Rehearses other start words exit' out' errors' → RunAlike exit exit' out out' errors errors'
