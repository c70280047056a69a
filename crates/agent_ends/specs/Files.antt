-- Files: when the file of the ends is written while an agent runs, and what it then keeps.
-- Source: this project's own.
use Rattle.std.specs.Prelude.{◌≡◌, ℕ, ◌+◌, Bool, true, false, not, ◌&&◌, IsTrue, List, Option, None, Some, OnOk, Result, is_err, min, nat_lt, string_bytes}
use Rattle.agent_standing.specs.Agent.{Agent}
use Rattle.base_disk.specs.{declared.fault.DiskFault.DiskFault, Image.File, Image.with_file_at, Torn.MovesFile, declared.system.TheConstants.FILE_MODE}
use Rattle.base_disk.specs.State.{DiskKeeps, DiskState, IsAfter, LeavesOnly, TellsFailure}
use Rattle.watch_machine.specs.declared.event.WatchReply.{WatchReply}
use Rattle.watch_machine.specs.declared.event.WatchReply.TheVariants.{Told, Refused, Busy, Lost}
use Rattle.agent_ends.specs.{Ends.ends_of, Ends.ends_text, declared.file.EndsFile.EndsFile}

-- by no other answer does what is known of an end change
abbrev pub tells_of_end : WatchReply → Bool
tells_of_end (Told seconds renewable date) = true
tells_of_end (Refused status date) = false
tells_of_end Busy = false
tells_of_end Lost = false

-- it may not keep all that was told, and was left alone for a second
abbrev pub is_file_due : {D : Type 0} → EndsFile D → ℕ → Bool
is_file_due f now = f.is_stale && not (nat_lt now f.next)

-- a second later, as far as a number of 64 bits leads
abbrev pub a_second_later : ℕ → ℕ
a_second_later now = min (now + 1000) 18446744073709551615

-- the file with what an agent was told in this boot
abbrev pub ends_file : Agent → List ℕ → File
ends_file a boot = record { mode = FILE_MODE; bytes = ends_text (ends_of a boot) }

-- one try: the file is as it was, or keeps that, at each moment; where it succeeds it keeps that, over a crash too, and is not stale
pub record FileIsTried {D : Type 0} (known : Bool) (state : D → DiskState) (agent : Agent) (now : ℕ) (result : Result (Unit {0}) DiskFault) (old new : EndsFile D) : Type 0 where
  pub rest : new ≡ record old { is_stale = is_err result; is_failing = is_err result; next = a_second_later now; disk = new.disk }
  pub kept : OnOk result (IsTrue known → ((state new.disk).seen ≡ with_file_at (string_bytes old.path) (ends_file agent old.boot) (state old.disk).seen) × DiskKeeps (string_bytes old.path) (state new.disk))
  pub any_moment : IsTrue known → LeavesOnly (state old.disk) (state new.disk) (IsAfter (MovesFile (string_bytes old.path) (ends_file agent old.boot)) (state old.disk))
  pub seen : IsTrue known → MovesFile (string_bytes old.path) (ends_file agent old.boot) (state old.disk).seen (state new.disk).seen
  pub cause : TellsFailure (state old.disk) (state new.disk) result

-- where it is due it is tried once; else nothing is done
abbrev pub EndsFileGoesOn : {D : Type 0} → Bool → (D → DiskState) → Agent → ℕ → Option (Result (Unit {0}) DiskFault) → EndsFile D → EndsFile D → Type 0
EndsFileGoesOn known state agent now None old new = (is_file_due old now ≡ false) × (new ≡ old)
EndsFileGoesOn known state agent now (Some kept) old new = (is_file_due old now ≡ true) × FileIsTried known state agent now kept old new
