-- Arrays of tables, for the reader that refuses other arrays.
use Rattle.std.proofs.Common.{◌≡◌, List, [], ◌∷◌, ◌&&◌, refl, sym, ap, ◌∙◌}
use Rattle.std.specs.{List.list_all, Option.is_some}
use Rattle.toml.specs.{declared.value.Value.Value, Text.are_tables, View.view, View.items_view}
use Rattle.toml.specs.Data.{Data, table, Items, item, as_table}

first_is_table : (d : Data) (ds : Items) → are_tables (item d ds) ≡ is_some (as_table d) && are_tables ds
first_is_table (table ms) ds = refl
first_is_table _ ds = refl

pub tables_listed : (vs : List Value) → list_all (λ v. is_some (as_table (view v))) vs ≡ are_tables (items_view vs)
tables_listed [] = refl
tables_listed (v ∷ vs) = ap (λ b. is_some (as_table (view v)) && b) (tables_listed vs) ∙ sym (first_is_table (view v) (items_view vs))
