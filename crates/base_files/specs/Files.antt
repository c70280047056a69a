-- Files: the bytes of files by their paths, and what reading one gives.
-- Source: this project's own.
use Rattle.std.specs.Prelude.{◌≡◌, ℕ, ◌<◌, ◌≤◌, List, Option, None, IfSome, Result, Ok, Err, length}
use Rattle.base_device.specs.declared.fault.InputFault.{InputFault}
use Rattle.base_device.specs.declared.fault.InputFault.TheVariants as inputs

-- the bytes at a path, where they are known
abbrev pub Files : Type 0
Files = List ℕ → Option (List ℕ)

-- what reading a file of at most so many bytes gives: all of them where they are known, and a fault else; one that is
-- known is too long only where it is longer
abbrev pub FileIsRead : Option (List ℕ) → ℕ → Result (List ℕ) InputFault → Type 0
FileIsRead known max (Ok text) = (length text ≤ max) × IfSome known (λ bytes. text ≡ bytes)
FileIsRead known max (Err inputs.TooLong) = IfSome known (λ bytes. max < length bytes)
FileIsRead known max (Err inputs.ReadFailed) = known ≡ None
FileIsRead known max (Err inputs.OutOfMemory) = Unit {0}
