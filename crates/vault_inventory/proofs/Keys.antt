-- The keys of a table as members and as the map lists them, for the readers that refuse other keys.
use Rattle.std.proofs.Common.{◌≡◌, Bool, List, ℕ, [], ◌∷◌, ◌&&◌, refl, ap, String, string_bytes}
use Rattle.std.specs.{Map.keys_of, List.list_all, declared.alloc.Global.Global}
use Rattle.toml.specs.{declared.value.Value.Value, View.members_view}
use Rattle.vault_inventory.specs.Keys.{all_keys}

pub keys_listed : (test : List ℕ → Bool) (es : List (String Global × Value)) → list_all (λ k. test (string_bytes k)) (keys_of es) ≡ all_keys test (members_view es)
keys_listed test [] = refl
keys_listed test (e ∷ es) = ap (λ b. test (string_bytes e.0) && b) (keys_listed test es)
