-- Faults by number: what is to go wrong at which renewal request. Requests are counted from 1. This project's own.
use Rattle.std.specs.Prelude.{ℕ, ◌+◌, ◌-◌, ◌^◌, ◌==◌, List, Option, Some, None, not, nat_lt, nat_le, is_some, option_map, if◌then◌else◌}
use Rattle.std.specs.List.{find, filter}
use Rattle.broker_rule.specs.{declared.fault.Fault.Fault, declared.fault.NumberedFault.NumberedFault, declared.fault.SetFault.SetFault}
use Rattle.broker_rule.specs.declared.fault.SetFault.TheVariants.{BadNumber, Twice}

-- the faults of the renewal requests to come, in the order in which they were given, and how many requests came
pub record Faults : Type 0 where
  pub faults : List NumberedFault
  pub count : ℕ

-- of the faults those whose request is not counted
unfoldable pub pending : List NumberedFault → ℕ → List NumberedFault
pending faults count = filter (λ f. nat_lt count f.number) faults

-- the number of the next request: the count stays at the greatest u64
unfoldable pub next_number : ℕ → ℕ
next_number count = if nat_lt count (2 ^ 64 - 1) then count + 1 else count

-- the fault of a request
unfoldable pub fault_at : List NumberedFault → ℕ → Option Fault
fault_at faults n = option_map (λ f. f.fault) (find (λ f. f.number == n) faults)

-- the faults without that of a request
unfoldable pub without_fault : List NumberedFault → ℕ → List NumberedFault
without_fault faults n = filter (λ f. not (f.number == n)) faults

-- why a fault is not taken: its number is 0 or counted already, or has a fault
unfoldable pub fault_refusal : List NumberedFault → ℕ → ℕ → Option SetFault
fault_refusal faults count n = if nat_le n count then Some BadNumber else (if is_some (fault_at faults n) then Some Twice else None)
