-- A whole input of at most so many bytes, read in pieces. The limits of bytes and of reads are the project's own.
use Rattle.std.specs.Prelude.{◌≡◌, ℕ, ◌+◌, ◌<◌, ◌≤◌, ◌⊎◌, List, length, Option, Some, None, IfSome, Result, Ok, Err}
use Rattle.std.specs.declared.io.ErrorKind.{ErrorKind}
use Rattle.std.specs.declared.io.ErrorKind.TheVariants as kinds
use Rattle.base_device.specs.{declared.fault.InputFault.InputFault, declared.one_read.MoreFault.MoreFault, declared.limits.TheConstants.MOST_READS, Seen.Input}
use Rattle.base_device.specs.declared.fault.InputFault.TheVariants as faults
use Rattle.base_device.specs.declared.one_read.MoreFault.TheVariants as more

-- where its bytes are known, at most that many reads were made of the input between the two states
abbrev pub MakesAtMost : ℕ → Input → Input → Type 0
MakesAtMost most before now = IfSome before.remaining (λ _. now.reads_made ≤ before.reads_made + most)

-- between the two numbers of reads still needed, as many reads were made as are allowed, and more are needed
abbrev pub PassesReads : ℕ → ℕ → Type 0
PassesReads before now = (MOST_READS + now ≤ before) × (0 < now)

-- what reading `bytes` to their end answers: all of them where they are at most `max`; too long where they are more, or
-- where more reads are needed than are allowed
abbrev pub IsReadToEnd : ℕ → List ℕ → ℕ → ℕ → Result (List ℕ) InputFault → Type 0
IsReadToEnd max bytes before now (Ok all) = (all ≡ bytes) × (length bytes ≤ max)
IsReadToEnd max bytes before now (Err faults.TooLong) = (max < length bytes) ⊎ PassesReads before now
IsReadToEnd max bytes before now (Err faults.ReadFailed) = Unit {0}
IsReadToEnd max bytes before now (Err faults.OutOfMemory) = Unit {0}

-- the input of a file with these bytes to come, where they are known: each read hands out one at least, and one is for the end
abbrev pub file_input : Option (List ℕ) → ℕ → Input
file_input None reads = record { remaining = None; reads_left = 0; reads_made = reads }
file_input (Some bytes) reads = record { remaining = Some bytes; reads_left = length bytes + 1; reads_made = reads }

-- what reading a file of these bytes answers: all of them where they are at most `max`; too long where they are more, or may
-- need more reads than are allowed
abbrev pub IsFile : ℕ → List ℕ → Result (List ℕ) InputFault → Type 0
IsFile max bytes (Ok all) = (all ≡ bytes) × (length bytes ≤ max)
IsFile max bytes (Err faults.TooLong) = (max < length bytes) ⊎ (MOST_READS ≤ length bytes)
IsFile max bytes (Err faults.ReadFailed) = Unit {0}
IsFile max bytes (Err faults.OutOfMemory) = Unit {0}

-- a read that gave nothing, as the fault of the whole input
abbrev pub input_fault : MoreFault → InputFault
input_fault more.ReadFailed = faults.ReadFailed
input_fault more.OutOfMemory = faults.OutOfMemory

-- a file that was not opened, as the fault of the whole input
abbrev pub fault_of_open : ErrorKind → InputFault
fault_of_open kinds.OutOfMemory = faults.OutOfMemory
fault_of_open kind = faults.ReadFailed
