-- What is made of what serde_json reads, for `tree`.
use Rattle.std.proofs.Common.{◌≡◌, ◌∙◌, Option, None, Some, Result, Ok, Err, IfOk, IfErr, ap, refl, subst, sym}
use Rattle.serde_json.specs.{Data.Data, Errors.IsMemory, View.view, declared.error.Code.Code, declared.error.Error.Error, declared.value.Value.Value}
use Rattle.serde_json.specs.declared.error.Code.TheVariants as codes
use Rattle.agent_control.specs.{Answer.GivesOrRequestFault, Words.or_not_words, declared.fault.RequestFault.RequestFault}
use Rattle.agent_control.specs.declared.fault.RequestFault.TheVariants as faults

module _ (answer : Result Value RequestFault) (tree : Option Data) where
  not_read : (code : Code) (e : Error) → e.code ≡ code → (¬ IsMemory e → tree ≡ None) → (IsMemory e → answer ≡ Err faults.OutOfMemory) →
      (¬ IsMemory e → answer ≡ Err faults.NotWords) → GivesOrRequestFault view answer (or_not_words tree)
  not_read codes.OutOfMemory e is none memory malformed = subst (λ (a : Result Value RequestFault). GivesOrRequestFault view a (or_not_words tree)) (sym (memory is)) tt
  not_read codes.Invalid e is none memory malformed =
      let other : ¬ IsMemory e = λ m. (let both = sym is ∙ m in cc) in
      subst (λ (a : Result Value RequestFault). GivesOrRequestFault view a (or_not_words tree)) (sym (malformed other)) (ap or_not_words (none other))
  not_read codes.NumberOutOfRange e is none memory malformed =
      let other : ¬ IsMemory e = λ m. (let both = sym is ∙ m in cc) in
      subst (λ (a : Result Value RequestFault). GivesOrRequestFault view a (or_not_words tree)) (sym (malformed other)) (ap or_not_words (none other))

  -- the tree that was read, or fails words, or lack of memory where serde_json says so
  pub as_read : (r : Result Value Error) → IfOk r (λ v. tree ≡ Some (view v)) → IfErr r (λ e. ¬ IsMemory e → tree ≡ None) → IfOk r (λ v. answer ≡ Ok v) →
      IfErr r (λ e. IsMemory e → answer ≡ Err faults.OutOfMemory) → IfErr r (λ e. ¬ IsMemory e → answer ≡ Err faults.NotWords) → GivesOrRequestFault view answer (or_not_words tree)
  as_read (Ok v) read none given memory malformed = subst (λ (a : Result Value RequestFault). GivesOrRequestFault view a (or_not_words tree)) (sym given) (ap or_not_words read)
  as_read (Err e) read none given memory malformed = not_read e.code e refl none memory malformed
