-- Fault words: `K=short:SECONDS`, `K=drop` and `K=deny` tell what is to go wrong at the renewal request number K, which is from
-- 1 to 1,000,000. Numbers are spelled in decimal, in their one spelling, and SECONDS is a duration.
-- Source: this project's own.
use Rattle.std.specs.Prelude.{◌≡◌, ℕ, ◌+◌, Bool, false, if◌then◌else◌, List, [], ◌∷◌, ◌++◌, Option, Some, None, Result, Ok, Err, bytes_eq, codes, is_none, option_map}
use Rattle.broker_rule.specs.{declared.fault.Fault.Fault, declared.fault.NumberedFault.NumberedFault, declared.fault.SetFault.SetFault, Faults.fault_refusal, Table.BrokerTable}
use Rattle.broker_rule.specs.declared.fault.Fault.TheVariants.{Short, Drop, Deny}
use Rattle.broker_rule.specs.declared.fault.SetFault.TheVariants.{BadNumber, Twice, OutOfMemory}
use Rattle.program_report.specs.declared.stop.Stop.{Stop}
use Rattle.program_report.specs.declared.stop.Stop.TheVariants as stops
use Rattle.vault_inventory.specs.declared.limits.TheConstants.{SPAN_MAX}
use Rattle.tick_runs.specs.declared.rehearse.fault_words.TheConstants.{MOST_NUMBER}
use Rattle.base_words.specs.{Numbers.number_up_to, Pieces.pieces, Pieces.two}

-- `short` and its seconds
abbrev pub short_fault_of : Option (List ℕ × List ℕ) → Option Fault
short_fault_of None = None
short_fault_of (Some cut) = if bytes_eq cut.0 (codes "short") then option_map (λ n. Short n) (number_up_to SPAN_MAX cut.1) else None

-- what goes wrong
unfoldable pub fault_of_text : List ℕ → Option Fault
fault_of_text text = if bytes_eq text (codes "drop") then Some Drop else (if bytes_eq text (codes "deny") then Some Deny else short_fault_of (two (pieces 58 text)))

abbrev pub numbered_fault : Option ℕ → Option Fault → Option NumberedFault
numbered_fault (Some n) (Some fault) = Some (record { number = n; fault = fault })
numbered_fault n fault = None

abbrev pub fault_of : Option (List ℕ × List ℕ) → Option NumberedFault
fault_of None = None
fault_of (Some cut) = numbered_fault (number_up_to MOST_NUMBER cut.0) (fault_of_text cut.1)

-- the fault that a word writes, None where it writes none: a number, `=`, and what goes wrong. The number 0 is refused where
-- the broker's table is given the fault
unfoldable pub fault_word : List ℕ → Option NumberedFault
fault_word word = fault_of (two (pieces 61 word))

-- a word after those that write these faults: it writes one, and the broker's table takes it, since no earlier one has its number
abbrev pub is_fault_taken : List NumberedFault → Option NumberedFault → Bool
is_fault_taken before None = false
is_fault_taken before (Some f) = is_none (fault_refusal before 0 f.number)

abbrev pub as_fault_list : Option NumberedFault → List NumberedFault
as_fault_list None = []
as_fault_list (Some f) = f ∷ []

-- the faults of the words from number n on, after these faults; or the number of the first word that is at fault
unfoldable pub faults_from : List NumberedFault → ℕ → List (List ℕ) → Result (List NumberedFault) ℕ
faults_from before n [] = Ok before
faults_from before n (w ∷ ws) = if is_fault_taken before (fault_word w) then faults_from (before ++ as_fault_list (fault_word w)) (n + 1) ws else Err n

-- the faults that these words write; or the place of the first, from 1 on, that writes none or repeats a number
abbrev pub faults_of : List (List ℕ) → Result (List NumberedFault) ℕ
faults_of words = faults_from [] 1 words

-- why the words are not taken, where the table does not take the fault of the one at this place
abbrev pub stop_at : SetFault → ℕ → Stop
stop_at BadNumber place = stops.FaultWord place
stop_at Twice place = stops.FaultWord place
stop_at OutOfMemory place = stops.Memory

-- giving a table the faults of these words
abbrev pub SetsFaults : List (List ℕ) → BrokerTable → Result (Unit {0}) Stop → BrokerTable → Type 0
SetsFaults words old (Ok u) new = (faults : List NumberedFault) × (faults_of words ≡ Ok faults) × (new ≡ record old { faults = faults })
SetsFaults words old (Err (stops.FaultWord position)) new = faults_of words ≡ Err position
SetsFaults words old (Err stops.Memory) new = Unit {0}
SetsFaults words old (Err stop) new = ⊥
