-- Names: the tables of a document, and what is found of them. For `fault_names`.
use Rattle.std.proofs.Common.{◌≡◌, ◌∙◌, Bor, ℕ, suc, List, [], ◌∷◌, Option, Some, None, ap, length, option_map, refl}
use Rattle.std.specs.Slice.{IsItemAt}
use Rattle.toml.specs.{Data.get_item, View.items_view, View.view, declared.value.Value.Value}
use Rattle.toml.proofs.Views.{get_item_past, get_item_within}
use Rattle.vault_inventory.specs.Written.{count_of}

pub counted : (vs : List Value) → length vs ≡ count_of (items_view vs)
counted [] = refl
counted (v ∷ vs) = ap suc (counted vs)

-- what is got of a list of values is what is got of its items
pub got_item : (vs : List Value) (n : ℕ) (got : Option (Bor Value)) → IsItemAt vs n got → option_map (λ (v : Bor Value). view v.now) got ≡ get_item n (items_view vs)
got_item vs n None h = get_item_past vs n h.3
got_item vs n (Some v) h = ap (λ w. Some (view w)) (h.3.1 v.now) ∙ get_item_within vs n v.now h.3.0
