-- How a device counts the calls that answered `Failed`. The count stops at the greatest `u64`, and a count that stands
-- there is taken as risen. This is the project's own rule.
use Rattle.std.specs.Prelude.{◌≡◌, ℕ, ◌+◌, ◌-◌, ◌^◌, ◌<◌, ◌≤◌, ◌⊎◌, nat_lt, if◌then◌else◌, Result, Ok, Err}
use Rattle.base_device.specs.{declared.fault.Failed.Failed, declared.fault.SinkFault.SinkFault, declared.one_read.MoreFault.MoreFault, declared.fault.InputFault.InputFault}
use Rattle.base_device.specs.declared.fault.SinkFault.TheVariants as faults
use Rattle.base_device.specs.declared.one_read.MoreFault.TheVariants as more
use Rattle.base_device.specs.declared.fault.InputFault.TheVariants as inputs

-- the count after one more failure
abbrev pub one_more : ℕ → ℕ
one_more n = if nat_lt n (2 ^ 64 - 1) then n + 1 else n

-- between the two counts a call failed
abbrev pub HasFailed : ℕ → ℕ → Type 0
HasFailed before now = (before < now) ⊎ (2 ^ 64 - 1 ≤ now)

-- one failure more where the call of a sink answered `Failed`, and else none
abbrev pub Counts : {X : Type 0} → Result X SinkFault → ℕ → ℕ → Type 0
Counts (Ok x) before now = now ≡ before
Counts (Err faults.Failed) before now = now ≡ one_more before
Counts (Err faults.OutOfMemory) before now = now ≡ before

-- the same of the call of a source
abbrev pub CountsRead : {X : Type 0} → Result X Failed → ℕ → ℕ → Type 0
CountsRead (Ok x) before now = now ≡ before
CountsRead (Err fault) before now = now ≡ one_more before

-- the same of a whole input
abbrev pub CountsInput : {X : Type 0} → Result X InputFault → ℕ → ℕ → Type 0
CountsInput (Ok x) before now = now ≡ before
CountsInput (Err inputs.ReadFailed) before now = now ≡ one_more before
CountsInput (Err inputs.TooLong) before now = now ≡ before
CountsInput (Err inputs.OutOfMemory) before now = now ≡ before

-- the same of one read and its growth
abbrev pub CountsMore : {X : Type 0} → Result X MoreFault → ℕ → ℕ → Type 0
CountsMore (Ok x) before now = now ≡ before
CountsMore (Err more.ReadFailed) before now = now ≡ one_more before
CountsMore (Err more.OutOfMemory) before now = now ≡ before
