-- Text: lines as words parted by one space, and the names of entries.
-- Source: this project's own.
use Rattle.std.specs.Prelude.{ℕ, List, [], ◌∷◌, ◌++◌, codes, decimal}
use Rattle.plan_forest.specs.Forest.{Forest, entry_at}

-- words parted by one space, and a line feed after the last
abbrev pub line : List (List ℕ) → List ℕ
line [] = 10 ∷ []
line (w ∷ []) = w ++ 10 ∷ []
line (w ∷ ws) = w ++ (32 ∷ line ws)

-- the name of an entry, empty where there is none at that index
abbrev pub name_of : Forest → ℕ → List ℕ
name_of g i = (entry_at g.entries i).name

abbrev pub names_of : Forest → List ℕ → List (List ℕ)
names_of g [] = []
names_of g (i ∷ is) = name_of g i ∷ names_of g is

-- the line of an entry that was looked up: its name and its end
abbrev pub entry_line : List ℕ → ℕ → List ℕ
entry_line name end = line (codes "entry" ∷ name ∷ decimal end ∷ [])
