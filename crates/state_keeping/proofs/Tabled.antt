-- What an array of one table gives, and any other.
use Rattle.std.proofs.Common.{◌≡◌, ◌≢◌, ℕ, List, [], ◌∷◌, Option, Result, Err, get_or, length, refl, sym, ap, ◌∙◌, arith}
use Rattle.toml.specs.{View.items_view, View.view, declared.value.Value.Value}
use Rattle.vault_inventory.specs.declared.key.Key.{Key}
use Rattle.state_keeping.specs.{declared.fault.TableFault.TableFault, declared.fault.TableFault.TheVariants.NotOne, Tables.over_item, Tables.over_items}

pub one_item : (key : Key) (items : List Value) (x : Value) (r : Result (Option (List ℕ)) TableFault) → length items ≡ 1 → x ≡ get_or items 0 x → over_item key (view x) ≡ r → over_items key (items_view items) ≡ r
one_item key [] x r one is so = absurd (omega (arith, one))
one_item key (y ∷ []) x r one is so = ap (λ (v : Value). over_item key (view v)) (sym is) ∙ so
one_item key (y ∷ z ∷ items) x r one is so = absurd (omega (arith, one))

pub other_items : (key : Key) (items : List Value) → length items ≢ 1 → over_items key (items_view items) ≡ Err NotOne
other_items key [] other = refl
other_items key (y ∷ []) other = absurd (other refl)
other_items key (y ∷ z ∷ items) other = refl
