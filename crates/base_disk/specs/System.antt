-- System: of a real disk contracts know how many calls failed, and nothing of what stands on it.
-- Source: this project's own.
use Rattle.std.specs.Prelude.{ℕ, None, false, Result, Err}
use Rattle.base_disk.specs.{State.DiskState, declared.fault.DiskFault.DiskFault, declared.fault.DiskTrouble.DiskTrouble}

abbrev pub system_state : ℕ → DiskTrouble → DiskState
system_state faults why = record {
  seen = λ path. None;
  beside = None;
  taken = λ path. false;
  is_sound = λ path. false;
  may_leave = λ c. ⊥;
  moment = 0;
  left_since = λ t c. ⊥;
  faults = faults;
  fault = why;
}

-- the answer of a call that met this fault
abbrev pub refused : DiskFault → Result (Unit {0}) DiskFault
refused fault = Err fault
