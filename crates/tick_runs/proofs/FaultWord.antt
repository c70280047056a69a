-- Fault words: one word more.
use Rattle.std.proofs.Common.{◌≡◌, ◌∙◌, ℕ, ◌+◌, List, [], ◌∷◌, ◌++◌, Option, Some, None, Result, Ok, Err, is_none, refl, sym, ap, subst}
use Rattle.std.specs.Prelude.{IfSome, IsOkUnless}
use Rattle.broker_rule.specs.{declared.fault.NumberedFault.NumberedFault, declared.fault.SetFault.SetFault, Faults.fault_refusal, Table.BrokerTable}
use Rattle.broker_rule.specs.declared.fault.SetFault.TheVariants.{BadNumber, Twice, OutOfMemory}
use Rattle.std.proofs.lemmas.Bool.{cond-true, cond-false}
use Rattle.tick_runs.specs.FaultWords.{SetsFaults, as_fault_list, fault_word, faults_from, faults_of, is_fault_taken, stop_at}

pub word_taken :
    (before : List NumberedFault) (n : ℕ) (w : List ℕ) (ws : List (List ℕ)) (f : NumberedFault) → fault_word w ≡ Some f → fault_refusal before 0 f.number ≡ None → faults_from before n (w ∷ ws) ≡ faults_from (before ++ f ∷ []) (n + 1) ws
unfolding faults_from
word_taken before n w ws f is free =
    cond-true (is_fault_taken before (fault_word w)) _ _ (ap (is_fault_taken before) is ∙ ap is_none free) ∙ ap (λ o. faults_from (before ++ as_fault_list o) (n + 1) ws) is

pub word_refused :
    (before : List NumberedFault) (n : ℕ) (w : List ℕ) (ws : List (List ℕ)) (f : NumberedFault) (fault : SetFault) → fault_word w ≡ Some f → fault_refusal before 0 f.number ≡ Some fault → faults_from before n (w ∷ ws) ≡ Err n
unfolding faults_from
word_refused before n w ws f fault is refused = cond-false (is_fault_taken before (fault_word w)) _ _ (ap (is_fault_taken before) is ∙ ap is_none refused)

pub word_bad : (before : List NumberedFault) (n : ℕ) (w : List ℕ) (ws : List (List ℕ)) → fault_word w ≡ None → faults_from before n (w ∷ ws) ≡ Err n
unfolding faults_from
word_bad before n w ws is = cond-false (is_fault_taken before (fault_word w)) _ _ (ap (is_fault_taken before) is)

pub no_more : (before : List NumberedFault) (n : ℕ) → faults_from before n [] ≡ Ok before
unfolding faults_from
no_more before n = refl

-- what the broker's table says of a fault that it takes, and of one that it refuses
pub free : (o : Option SetFault) (result : Result (Unit {0}) SetFault) (u : Unit {0}) → result ≡ Ok u → IfSome o (λ fault. result ≡ Err fault) → o ≡ None
free None result u is refused = refl
free (Some fault) result u is refused = absurd (let bad : ◌≡◌ {A = Result (Unit {0}) SetFault} (Ok u) (Err fault) = sym is ∙ refused in cc)

pub bad_number : (o : Option SetFault) (result : Result (Unit {0}) SetFault) → result ≡ Err BadNumber → (o ≡ None → IsOkUnless result OutOfMemory) → (fault : SetFault) × (o ≡ Some fault)
bad_number None result is memory = absurd (let bad : BadNumber ≡ OutOfMemory = subst (λ r. IsOkUnless r OutOfMemory) is (memory refl) in cc)
bad_number (Some fault) result is memory = (fault, refl)

pub twice : (o : Option SetFault) (result : Result (Unit {0}) SetFault) → result ≡ Err Twice → (o ≡ None → IsOkUnless result OutOfMemory) → (fault : SetFault) × (o ≡ Some fault)
twice None result is memory = absurd (let bad : Twice ≡ OutOfMemory = subst (λ r. IsOkUnless r OutOfMemory) is (memory refl) in cc)
twice (Some fault) result is memory = (fault, refl)

-- the table does not take the fault
pub set_stopped :
    (why : SetFault) (place : ℕ) (words : List (List ℕ)) (old new : BrokerTable) (o : Option SetFault) (result : Result (Unit {0}) SetFault) → result ≡ Err why → (o ≡ None → IsOkUnless result OutOfMemory) →
    ((fault : SetFault) → o ≡ Some fault → faults_of words ≡ Err place) → SetsFaults words old (Err (stop_at why place)) new
set_stopped BadNumber place words old new o result is memory told = let some = bad_number o result is memory in told some.0 some.1
set_stopped Twice place words old new o result is memory told = let some = twice o result is memory in told some.0 some.1
set_stopped OutOfMemory place words old new o result is memory told = tt
