-- Forest: the entries that an agent keeps, and the margin within which it renews them.
-- Source: Vault, "Tokens"; Vault, "Lease, renew, and revoke". The margin is this project's own.
use Rattle.std.specs.Prelude.{ℕ, suc, false, if◌then◌else◌, List, [], ◌∷◌, Option, Some, None, option_map, slice_index_or, bytes_eq}
use Rattle.plan_forest.specs.{declared.entry.Entry.Entry, declared.entry.Kind.TheVariants.Token}

-- a forest: its entries in the order of their indices, and its margin in seconds
pub record Forest : Type 0 where
  pub entries : List Entry
  pub margin : ℕ

-- what is read past the last entry: one that nobody needs and nobody can renew
abbrev pub no_entry : Entry
no_entry = record { name = []; kind = Token; parent = None; end = 0; renewable = false; step = 0; ceiling = None; need = 0 }

-- the entry at an index
unfoldable pub entry_at : List Entry → ℕ → Entry
entry_at es i = slice_index_or es i no_entry

-- the present end of each entry
unfoldable pub end_of : List Entry → ℕ → ℕ
end_of es i = (entry_at es i).end

-- the index of the first entry of that name
unfoldable pub index_named : List Entry → List ℕ → Option ℕ
index_named [] name = None
index_named (e ∷ es) name = if bytes_eq e.name name then Some 0 else option_map (λ i. suc i) (index_named es name)
