-- The slots of an inventory are slots of a table, and their rows are the inventory's: for `load`.
use Rattle.std.proofs.Common.{◌≡◌, ℕ, ◌+◌, ◌<◌, false, List, [], ◌∷◌, ◌++◌, Option, Some, None, length, map, option_map, refl, sym, ap, ◌∙◌, subst, arith}
use Rattle.std.proofs.lemmas.Bool.Decides.{nat_tests}
use Rattle.std.proofs.lemmas.List.FromFn.{get_or-map-range_with_len, length-map-range_with_len, map-range_with_len_more}
use Rattle.std.specs.List.{range_with_len}
use Rattle.plan_forest.specs.{declared.entry.Entry.Entry, Push.IsForest, Push.lacks_parent}
use Rattle.plan_forest.specs.Forest.{Forest, entry_at, index_named}
use Rattle.vault_inventory.specs.Inventories.{CredentialsAreApart, Inventory}
use Rattle.broker_table.specs.{declared.slot.Slot.Slot, Index.AreUnlike}
use Rattle.broker_table.specs.Slots.{AreSlots, IsTied, listed_rows, no_slot, slot_at, slot_of, slots_of}
use Rattle.broker_rule.specs.Rows.{broker_row, broker_rows}

pub slot_of_place : (s : Inventory) (i : ℕ) → i < length s.forest.entries → slot_at (slots_of s) i ≡ slot_of s i
unfolding slot_at slots_of
slot_of_place s i h = get_or-map-range_with_len (slot_of s) 0 (length s.forest.entries) i i no_slot h (omega arith)

pub count_of_slots : (s : Inventory) → length (slots_of s) ≡ length s.forest.entries
unfolding slots_of
count_of_slots s = length-map-range_with_len (slot_of s) 0 (length s.forest.entries)

name_of_place : (s : Inventory) (i : ℕ) → i < length s.forest.entries → (slot_at (slots_of s) i).row.name ≡ (entry_at s.forest.entries i).name
unfolding slot_of broker_row
name_of_place s i h = ap (λ (u : Slot). u.row.name) (slot_of_place s i h)

tied_of :
    (s : Inventory) (i : ℕ) → i < length s.forest.entries → (parent : Option ℕ) → ((p : ℕ) → parent ≡ Some p → p < i) →
    IsTied (slots_of s) i parent (option_map (λ p. (entry_at s.forest.entries p).name) parent)
tied_of s i h None first = refl
tied_of s i h (Some p) first = let below : p < i = first p refl in (below, ap Some (sym (name_of_place s p (omega arith))))

tied_at : (s : Inventory) → IsForest s.forest → (i : ℕ) → i < length s.forest.entries → IsTied (slots_of s) i (slot_at (slots_of s) i).over (slot_at (slots_of s) i).row.parent
unfolding slot_of broker_row
tied_at s forest i h =
    subst (λ (u : Slot). IsTied (slots_of s) i u.over u.row.parent) (sym (slot_of_place s i h))
    (tied_of s i h (entry_at s.forest.entries i).parent (forest.placed i h).parent_first)

pub slots_are_sound : (s : Inventory) → IsForest s.forest → AreSlots (slots_of s)
slots_are_sound s forest =
    let count = count_of_slots s in
    record {
      few = let few = forest.few in omega arith;
      apart = λ i j h k same.
          let hi : i < length s.forest.entries = omega arith in
          let hj : j < length s.forest.entries = omega arith in
          let names : (entry_at s.forest.entries i).name ≡ (entry_at s.forest.entries j).name = sym (name_of_place s i hi) ∙ same ∙ name_of_place s j hj in
          let both : Some i ≡ Some j = sym (forest.placed i hi).alone ∙ ap (index_named s.forest.entries) names ∙ (forest.placed j hj).alone in
          cc;
      tied = λ i h. tied_at s forest i (omega arith);
    }

pub slots_are_unlike : (s : Inventory) → CredentialsAreApart s → AreUnlike (slots_of s)
unfolding slot_of broker_row
slots_are_unlike s apart i j h k kinds same =
    let count = count_of_slots s in
    let hi : i < length s.forest.entries = omega (arith, h, count) in
    let hj : j < length s.forest.entries = omega (arith, k, count) in
    let one = slot_of_place s i hi in
    let two = slot_of_place s j hj in
    apart i j hi hj
    (sym (ap (λ (u : Slot). u.row.kind) one) ∙ kinds ∙ ap (λ (u : Slot). u.row.kind) two)
    (sym (ap (λ (u : Slot). u.row.credential) one) ∙ same ∙ ap (λ (u : Slot). u.row.credential) two)

listed_of : (s : Inventory) (is : List ℕ) → listed_rows (map (slot_of s) is) ≡ map (broker_row s) is
unfolding listed_rows slot_of
listed_of s [] = refl
listed_of s (i ∷ is) = ap (λ rows. broker_row s i ∷ rows) (listed_of s is)

-- the rows of an inventory's slots
pub rows_of_slots : (s : Inventory) → listed_rows (slots_of s) ≡ broker_rows s
unfolding slots_of broker_rows
rows_of_slots s = listed_of s (range_with_len 0 (length s.forest.entries))

-- one slot more
pub slots_more : (s : Inventory) (n : ℕ) (slots : List Slot) (slot : Slot) → slots ≡ map (slot_of s) (range_with_len 0 n) → slot ≡ slot_of s n → slots ++ slot ∷ [] ≡ map (slot_of s) (range_with_len 0 (n + 1))
slots_more s n slots slot before new =
    ap (λ us. us ++ slot ∷ []) before ∙ ap (λ u. map (slot_of s) (range_with_len 0 n) ++ u ∷ []) new ∙ sym (map-range_with_len_more (slot_of s) 0 n n (omega arith))

pub all_slots : (s : Inventory) (n : ℕ) (slots : List Slot) → slots ≡ map (slot_of s) (range_with_len 0 n) → n ≡ length s.forest.entries → slots ≡ slots_of s
unfolding slots_of
all_slots s n slots is whole = is ∙ ap (λ k. map (slot_of s) (range_with_len 0 k)) whole

some_below : (es : List Entry) (parent : Option ℕ) → ((p : ℕ) → parent ≡ Some p → p < length es) → lacks_parent es parent ≡ false
unfolding lacks_parent
some_below es None below = refl
some_below es (Some p) below = let h : p < length es = below p refl in grind (arith, nat_tests)

-- the parent of an entry, if it has one, is an entry
pub has_parent : (g : Forest) → IsForest g → (i : ℕ) → i < length g.entries → lacks_parent g.entries (entry_at g.entries i).parent ≡ false
has_parent g forest i h = some_below g.entries (entry_at g.entries i).parent (λ p e. let below : p < i = (forest.placed i h).parent_first p e in omega arith)
