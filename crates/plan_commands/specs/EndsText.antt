-- Ends: what the command `ends` writes about a forest.
-- Source: this project's own; the ends are those of the Renewal rule (Vault, "Lease, renew, and revoke").
use Rattle.std.specs.Prelude.{◌≡◌, ◌↔◌, ℕ, Bool, true, false, IsTrue, List, [], ◌∷◌, ◌++◌, None, codes, decimal, length, map, flat_map}
use Rattle.std.specs.List.{range_with_len}
use Rattle.plan_forest.specs.declared.entry.Entry.{Entry}
use Rattle.plan_forest.specs.Forest.{Forest, end_of, entry_at}
use Rattle.plan_rule.specs.{declared.wake.Wake.Wake, Ends.ends_after, Keeps.Keeps, Plans.wake_fault}

-- wake-ups at these moments, each of which asks every one of n entries
unfoldable pub all_asked : ℕ → List ℕ → List Wake
all_asked n moments = map (λ t. record { at = t; asked = range_with_len 0 n }) moments

-- `NAME END` and a line feed
unfoldable pub name_end_line : Entry → ℕ → List ℕ
name_end_line e end = e.name ++ (32 ∷ (decimal end ++ (10 ∷ [])))

-- the lines of the first n entries, in order
unfoldable pub end_lines : List Entry → (ℕ → ℕ) → ℕ → List ℕ
end_lines es ends n = flat_map (λ i. name_end_line (entry_at es i) (ends i)) (range_with_len 0 n)

unfoldable pub keeps_line : Bool → List ℕ
keeps_line true = codes "keeps yes\n"
keeps_line false = codes "keeps no\n"

-- a line for each entry with its end once every entry was asked at each of these moments, and a line that says if this
-- keeps each entry from s until its need
pub record IsEndsText (g : Forest) (s : ℕ) (moments text : List ℕ) : Type 0 where
  pub in_order : wake_fault g.entries s (all_asked (length g.entries) moments) ≡ None
  pub kept : Bool
  pub judged : IsTrue kept ↔ Keeps g.entries g.margin s (end_of g.entries) (all_asked (length g.entries) moments)
  pub spelled : text ≡ end_lines g.entries (ends_after g.entries g.margin (end_of g.entries) (all_asked (length g.entries) moments)) (length g.entries) ++ keeps_line kept

-- a forest, a start and moments have one such text: nothing else shows in it
abbrev pub OneEndsText : Type 0
OneEndsText = (g : Forest) (s : ℕ) (moments text other : List ℕ) → IsEndsText g s moments text → IsEndsText g s moments other → text ≡ other
