-- The tree of bytes that are UTF-8, and of bytes that are not; and what is made of what serde_json reads, for `tree`.
use Rattle.std.proofs.Common.{◌≡◌, ◌∙◌, ℕ, List, Option, None, Some, Result, Ok, Err, IfOk, IfErr, ap, subst, sym, refl, inl, inr, IsUtf8}
use Rattle.std.proofs.lemmas.{Bool.cases_Bool, Str.IsUtf8-from_is_utf8, Str.is_utf8-from_IsUtf8}
use Rattle.std.specs.Str.{is_utf8}
use Rattle.serde_json.specs.{Data.Data, Errors.IsMemory, Read.read, View.view, declared.error.Code.Code, declared.error.Error.Error, declared.value.Value.Value}
use Rattle.serde_json.specs.declared.error.Code.TheVariants as codes
use Rattle.vault_json.specs.{Answer.GivesOrReplyFault, Body.json_tree, Body.or_not_json, declared.fault.ReplyFault.ReplyFault}
use Rattle.vault_json.specs.declared.fault.ReplyFault.TheVariants as faults

pub tree_of_text : (bytes : List ℕ) → IsUtf8 bytes → json_tree bytes ≡ read bytes
tree_of_text bytes text = rw (is_utf8-from_IsUtf8 bytes text) refl

pub tree_of_no_text : (bytes : List ℕ) → ¬ (IsUtf8 bytes) → json_tree bytes ≡ None
tree_of_no_text bytes no_text =
    elim (cases_Bool (is_utf8 bytes)) [ inl t ↦ absurd (no_text (IsUtf8-from_is_utf8 bytes t)) | inr f ↦ rw f refl ]

module _ (answer : Result Value ReplyFault) (tree : Option Data) where
  not_read : (code : Code) (e : Error) → e.code ≡ code → (¬ IsMemory e → tree ≡ None) → (IsMemory e → answer ≡ Err faults.OutOfMemory) →
      (¬ IsMemory e → answer ≡ Err faults.NotJson) → GivesOrReplyFault view answer (or_not_json tree)
  not_read codes.OutOfMemory e is none memory malformed = subst (λ (a : Result Value ReplyFault). GivesOrReplyFault view a (or_not_json tree)) (sym (memory is)) tt
  not_read codes.Invalid e is none memory malformed =
      let other : ¬ IsMemory e = λ m. (let both = sym is ∙ m in cc) in
      subst (λ (a : Result Value ReplyFault). GivesOrReplyFault view a (or_not_json tree)) (sym (malformed other)) (ap or_not_json (none other))
  not_read codes.NumberOutOfRange e is none memory malformed =
      let other : ¬ IsMemory e = λ m. (let both = sym is ∙ m in cc) in
      subst (λ (a : Result Value ReplyFault). GivesOrReplyFault view a (or_not_json tree)) (sym (malformed other)) (ap or_not_json (none other))

  -- the tree that was read, or no JSON, or lack of memory where serde_json says so
  pub as_read : (r : Result Value Error) → IfOk r (λ v. tree ≡ Some (view v)) → IfErr r (λ e. ¬ IsMemory e → tree ≡ None) → IfOk r (λ v. answer ≡ Ok v) →
      IfErr r (λ e. IsMemory e → answer ≡ Err faults.OutOfMemory) → IfErr r (λ e. ¬ IsMemory e → answer ≡ Err faults.NotJson) → GivesOrReplyFault view answer (or_not_json tree)
  as_read (Ok v) read none given memory malformed = subst (λ (a : Result Value ReplyFault). GivesOrReplyFault view a (or_not_json tree)) (sym given) (ap or_not_json read)
  as_read (Err e) read none given memory malformed = not_read e.code e refl none memory malformed
