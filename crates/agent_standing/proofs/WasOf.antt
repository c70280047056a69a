-- WasOf: what an agent says of where the entries of another inventory were is what may be said of them. For `change`.
use Rattle.std.proofs.Common.{◌≡◌, ◌∙◌, ℕ, suc, ◌<◌, Bool, true, false, if◌then◌else◌, List, [], ◌∷◌, Option, Some, None, bytes_eq, inl, inr, length, option_map, refl, sym, ap, arith}
use Rattle.std.proofs.lemmas.{List.get_or_past, List.FromFn.get_or-map-range_with_len, List.FromFn.length-map-range_with_len}
use Rattle.std.proofs.lemmas.Bool.{cases_Bool, cases_lt, cond-false, cond-true}
use Rattle.std.specs.Cmp.Lexicographic.{bytes_decides}
use Rattle.vault_inventory.specs.Inventories.{Inventory}
use Rattle.plan_forest.specs.{declared.entry.Entry.Entry, Forest.entry_at, Forest.index_named, Push.IsForest}
use Rattle.plan_forest.proofs.Entries.{index_named_within}
use Rattle.watch_machine.specs.declared.change.Was.TheVariants.{New, Same, Retold}
use Rattle.watch_machine.specs.Change.{IsChange, former_at, was_at}
use Rattle.watch_machine.specs.Change as changes
use Rattle.agent_standing.specs.Changed.{all_was, former, if_same, is_said_again, is_same_entry, was_by, was_of}

-- the entry of an index under a name has that name
name_step : (here : Bool) (e : Entry) (es : List Entry) (q : List ℕ) (o : Option ℕ) (i : ℕ) → (here ≡ true → e.name ≡ q) → ((k : ℕ) → o ≡ Some k → (entry_at es k).name ≡ q) →
    (if here then Some 0 else option_map (λ k. suc k) o) ≡ Some i → (entry_at (e ∷ es) i).name ≡ q
unfolding entry_at
name_step true e es q o i yes' rest is = let z : 0 ≡ i = cc in ap (λ n. (entry_at (e ∷ es) n).name) (sym z) ∙ yes' refl
name_step false e es q None i yes' rest is = absurd cc
name_step false e es q (Some k) i yes' rest is = let z : suc k ≡ i = cc in ap (λ n. (entry_at (e ∷ es) n).name) (sym z) ∙ rest k refl

name_found : (es : List Entry) (q : List ℕ) (i : ℕ) → index_named es q ≡ Some i → (entry_at es i).name ≡ q
unfolding index_named
name_found [] q i is = absurd cc
name_found (e ∷ es) q i is = name_step (bytes_eq e.name q) e es q (index_named es q) i (λ y. (bytes_decides e.name q).0 y) (λ k h. name_found es q k h) is

-- whoever was somewhere was there under its name
was_named : (s t : Inventory) (j i : ℕ) (o : Option ℕ) → if_same s t j o ≡ Some i → o ≡ Some i
was_named s t j i None is = absurd cc
was_named s t j i (Some k) is = elim (cases_Bool (is_same_entry s t k j)) [
  | inl yes' ↦ sym (cond-true (is_same_entry s t k j) (Some k) None yes') ∙ is
  | inr no' ↦ absurd (let bad : None ≡ Some i = sym (cond-false (is_same_entry s t k j) (Some k) None no') ∙ is in cc)
]

former_named : (s t : Inventory) (j i : ℕ) → former s t j ≡ Some i → index_named s.forest.entries (entry_at t.forest.entries j).name ≡ Some i
unfolding former
former_named s t j i is = was_named s t j i (index_named s.forest.entries (entry_at t.forest.entries j).name) is

-- what is said of an entry says where it was
pub former_by : (s t : Inventory) (j : ℕ) (o : Option ℕ) → changes.former (was_by s t j o) ≡ o
former_by s t j None = refl
former_by s t j (Some i) = elim (cases_Bool (is_said_again s t i j)) [
  | inl yes' ↦ ap changes.former (cond-true (is_said_again s t i j) (Same i) (Retold i) yes')
  | inr no' ↦ ap changes.former (cond-false (is_said_again s t i j) (Same i) (Retold i) no')
]

former_is : (s t : Inventory) (j i : ℕ) → former_at (all_was s t) j ≡ Some i → (j < length t.forest.entries) × (former s t j ≡ Some i)
unfolding all_was was_of
former_is s t j i is = elim (cases_lt j (length t.forest.entries)) [
  | inl below ↦ (below, sym (former_by s t j (former s t j)) ∙ sym (ap changes.former (get_or-map-range_with_len (was_of s t) 0 (length t.forest.entries) j j New below (omega arith))) ∙ is)
  | inr past ↦
      absurd
      (let none : was_at (all_was s t) j ≡ New = get_or_past (all_was s t) j New (let l = length-map-range_with_len (was_of s t) 0 (length t.forest.entries) in omega (arith, l, past)) in
      let bad : None ≡ Some i = sym (ap changes.former none) ∙ is in cc)
]

pub all_was_is_change : (s t : Inventory) (n : ℕ) → IsForest t.forest → length s.forest.entries ≡ n → IsChange n t.forest (all_was s t)
unfolding all_was
all_was_is_change s t n forest count = record {
  forest = forest;
  count = length-map-range_with_len (was_of s t) 0 (length t.forest.entries);
  within = λ i j is. let low = index_named_within s.forest.entries (entry_at t.forest.entries j).name i (former_named s t j i (former_is s t j i is).1) in omega (arith, low, count);
  once = λ i j k one two.
      let a = former_is s t j i one in
      let b = former_is s t k i two in
      let same : (entry_at t.forest.entries j).name ≡ (entry_at t.forest.entries k).name =
      sym (name_found s.forest.entries _ i (former_named s t j i a.1)) ∙ name_found s.forest.entries _ i (former_named s t k i b.1) in
      let both : Some j ≡ Some k = sym (forest.placed j a.0).alone ∙ ap (index_named t.forest.entries) same ∙ (forest.placed k b.0).alone in
      cc;
}
