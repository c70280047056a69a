-- The tree of a document from the answers of the two readers below: UTF-8, then TOML.
use Rattle.std.proofs.Common.{◌≡◌, ◌⊎◌, inl, inr, ℕ, List, Option, Some, None, Result, Ok, Err, IfOk, IfErr, sym, ap, subst, ◌∙◌, String, Global}
use Rattle.std.specs.{BTreeMap.BTreeMap, Str.is_utf8, Str.IsUtf8}
use Rattle.std.proofs.lemmas.Str.{IsUtf8-from_is_utf8, is_utf8-from_IsUtf8}
use Rattle.std.proofs.lemmas.Bool.{cond-true, cond-false, false_from_ne_true}
use Rattle.toml.specs.{Data.Members, Errors.IsMemory, Parse.parse_document, View.table_view, declared.de.error.Error.Error, declared.value.Value.Value}
use Rattle.vault_inventory.specs.{Answers.GivesOrInvFault, declared.fault.InvFault.InvFault, Inventory.document_tree, Inventory.or_not_toml}
use Rattle.vault_inventory.specs.declared.fault.InvFault.TheVariants.{NotToml, OutOfMemory}

pub tree_of_bytes : (bytes : List ℕ) → ¬ (IsUtf8 bytes) → document_tree bytes ≡ Err NotToml
unfolding document_tree
tree_of_bytes bytes h =
    cond-false (is_utf8 bytes) (or_not_toml (parse_document bytes)) (Err NotToml) (false_from_ne_true _ (λ t. h (IsUtf8-from_is_utf8 bytes t)))

pub tree_of_text : (bytes text : List ℕ) → text ≡ bytes → IsUtf8 bytes → document_tree bytes ≡ or_not_toml (parse_document text)
unfolding document_tree
tree_of_text bytes text same utf8 =
    cond-true (is_utf8 bytes) (or_not_toml (parse_document bytes)) (Err NotToml) (is_utf8-from_IsUtf8 bytes utf8) ∙ ap or_not_toml (ap parse_document (sym same))

abbrev Tree : Type 0
Tree = BTreeMap (String Global) Value

-- the tree that was read, or no TOML, or lack of memory where the reader says so
pub as_read : (answer : Result Tree InvFault) (tree : Option Members) (r : Result Tree Error) → IfOk r (λ t. tree ≡ Some (table_view t)) → IfErr r (λ e. ¬ IsMemory e → tree ≡ None) →
    IfOk r (λ t. answer ≡ Ok t) → IfErr r (λ e. (IsMemory e × (answer ≡ Err OutOfMemory)) ⊎ ((¬ IsMemory e) × (answer ≡ Err NotToml))) → GivesOrInvFault table_view answer (or_not_toml tree)
as_read answer tree (Ok t) read none given said = subst (λ (a : Result Tree InvFault). GivesOrInvFault table_view a (or_not_toml tree)) (sym given) (ap or_not_toml read)
as_read answer tree (Err e) read none given (inl memory) = subst (λ (a : Result Tree InvFault). GivesOrInvFault table_view a (or_not_toml tree)) (sym memory.1) tt
as_read answer tree (Err e) read none given (inr malformed) = subst (λ (a : Result Tree InvFault). GivesOrInvFault table_view a (or_not_toml tree)) (sym malformed.1) (ap or_not_toml (none malformed.0))
