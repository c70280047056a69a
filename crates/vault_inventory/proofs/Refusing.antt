-- Refusing: a forest that refuses an entry never names lack of memory, so that this refusal is told.
use Rattle.std.proofs.Common.{◌≡◌, ◌≢◌, ℕ, Bool, true, false, cond, length, Option, Some, None, IfSome, IsOkUnless, Result, Err, refl, sym, ap, ◌∙◌, subst}
use Rattle.plan_forest.specs.{declared.entry.Entry.Entry, declared.fault.TreeFault.TreeFault, Forest.Forest, Push.entry_refusal}
use Rattle.plan_forest.specs.declared.fault.TreeFault.TheVariants.{BadName, NameTwice, NoParent, ParentIsLease, LeaseWithoutToken, StepTooSmall, OutOfRange, TooDeep, Full, OutOfMemory}
use Rattle.vault_inventory.specs.{declared.fault.InvFault.InvFault, declared.fault.InvFault.TheVariants.Tree, Answers.FailsWithInvFault}
use Rattle.vault_inventory.specs.Intake.{appended, pushed, tree_fault_told}

skip : (b : Bool) (fault : TreeFault) (rest : Option TreeFault) → fault ≢ OutOfMemory → rest ≢ Some OutOfMemory → cond b (Some fault) rest ≢ Some OutOfMemory
skip true fault rest other later e = other cc
skip false fault rest other later e = later e

abbrev is_memory : TreeFault → Bool
is_memory OutOfMemory = true
is_memory fault = false

differs : (fault : TreeFault) → is_memory fault ≡ false → fault ≢ OutOfMemory
differs fault no_memory same = let bad : false ≡ true = sym no_memory ∙ ap is_memory same in cc

none_left : ◌≡◌ {A = Option TreeFault} None (Some OutOfMemory) → ⊥
none_left e = cc

pub never_memory : (g : Forest) (e : Entry) → entry_refusal g e ≢ Some OutOfMemory
never_memory g e =
    skip _ BadName _ (differs BadName refl)
    (skip _ NameTwice _ (differs NameTwice refl)
    (skip _ NoParent _ (differs NoParent refl)
    (skip _ ParentIsLease _ (differs ParentIsLease refl)
    (skip _ LeaseWithoutToken _ (differs LeaseWithoutToken refl)
    (skip _ StepTooSmall _ (differs StepTooSmall refl)
    (skip _ OutOfRange _ (differs OutOfRange refl)
    (skip _ TooDeep _ (differs TooDeep refl)
    (skip _ Full _ (differs Full refl) none_left))))))))

-- a refusal is told as one
told_tree : (index : ℕ) (fault : TreeFault) → fault ≢ OutOfMemory → tree_fault_told index fault ≡ Tree index fault
told_tree index OutOfMemory other = absurd (other refl)
told_tree index _ other = refl

module _ (g : Forest) (e : Entry) (answer : Result ℕ TreeFault) (fault : TreeFault) (index : ℕ) (result : InvFault) (place : index ≡ length g.entries) (failed : answer ≡ Err fault) (is : result ≡ tree_fault_told index fault) where
  abbrev Told : Option TreeFault → Type 0
  Told o = FailsWithInvFault result (appended g e o) × IfSome o (λ f. ◌≡◌ {A = Result (Unit {0}) InvFault} (Err result) (Err (Tree (length g.entries) f)))

  by_refusal : (o : Option TreeFault) → o ≢ Some OutOfMemory → IfSome o (λ f. answer ≡ Err f) → (o ≡ None → IsOkUnless answer OutOfMemory) → Told o
  by_refusal (Some f) other refused memory =
      let same : fault ≡ f = let both : ◌≡◌ {A = Result ℕ TreeFault} (Err fault) (Err f) = sym failed ∙ refused in cc in
      let quiet : fault ≢ OutOfMemory = λ bad. other (ap (λ (x : TreeFault). Some x) (sym same ∙ bad)) in
      let told : result ≡ Tree (length g.entries) f = is ∙ told_tree index fault quiet ∙ ap (λ n. Tree n fault) place ∙ ap (Tree (length g.entries)) same in
      (subst (λ (x : InvFault). FailsWithInvFault x (appended g e (Some f))) (sym told) refl, ap (λ (x : InvFault). Err x) told)
  by_refusal None other refused memory =
      let same : fault ≡ OutOfMemory = subst (λ (r : Result ℕ TreeFault). IsOkUnless r OutOfMemory) failed (memory refl) in
      (subst (λ (x : InvFault). FailsWithInvFault x (appended g e None)) (sym (is ∙ ap (tree_fault_told index) same)) tt, tt)

  pub told_refused : IfSome (entry_refusal g e) (λ f. answer ≡ Err f) → (entry_refusal g e ≡ None → IsOkUnless answer OutOfMemory) →
      FailsWithInvFault result (pushed g e) × IfSome (entry_refusal g e) (λ f. ◌≡◌ {A = Result (Unit {0}) InvFault} (Err result) (Err (Tree (length g.entries) f)))
  unfolding pushed
  told_refused refused memory = by_refusal (entry_refusal g e) (never_memory g e) refused memory
