-- A sweep of the rows of an inventory leaves those of the entries that are alive.
use Rattle.std.proofs.Common.{◌≡◌, ℕ, zero, suc, ◌+◌, ◌<◌, ◌&&◌, Bool, true, false, List, Some, None, bytes_eq, filter, length, map, nat_le, nat_lt, option_map, refl, sym, ap, ◌∙◌, arith, inl, inr}
use Rattle.std.proofs.lemmas.{Bool.cases_lt, Bool.Decides.nat_tests}
use Rattle.std.specs.{Cmp.Lexicographic.bytes_decides, List.range_with_len}
use Rattle.std.proofs.Math.Bool.{and-true}
use Rattle.plan_forest.specs.{declared.forest.TheConstants.MAX_ENTRIES, Push.IsForest}
use Rattle.plan_forest.specs.Forest.{Forest, end_of, entry_at, index_named}
use Rattle.plan_forest.proofs.{Carrying.and_right, Placed.parents_first}
use Rattle.plan_forest.proofs.Chains.{all_last_child, all_last_root, cases_Option}
use Rattle.vault_inventory.specs.Inventories.{Inventory}
use Rattle.broker_rule.specs.{declared.row.BrokerRow.BrokerRow, Listed.is_entry_alive, Listed.rows_listed}
use Rattle.broker_rule.specs.Rows.{broker_row, broker_rows, row_named}
use Rattle.broker_rule.specs.Sweep.{lives, lives_of, parent_passes, passes, swept}
use Rattle.broker_table.specs.Laws.{SweptInventory}
use Rattle.broker_table.proofs.Ranges.{filter_all, filter_of_map, filter_range, found_lone}

pub lt_is_le : (t e : ℕ) → nat_lt t e ≡ nat_le (t + 1) e
lt_is_le t e = elim (cases_lt t e) [
  | inl h ↦ (let a : nat_lt t e ≡ true = grind (arith, nat_tests) in let b : nat_le (t + 1) e ≡ true = grind (arith, nat_tests) in a ∙ sym b)
  | inr h ↦ (let a : nat_lt t e ≡ false = grind (arith, nat_tests) in let b : nat_le (t + 1) e ≡ false = grind (arith, nat_tests) in a ∙ sym b)
]

pub alive_root : (g : Forest) (t i : ℕ) → (entry_at g.entries i).parent ≡ None → is_entry_alive g t i ≡ nat_le (t + 1) (entry_at g.entries i).end
unfolding is_entry_alive end_of
alive_root g t i root = all_last_root g.entries (λ k. (entry_at g.entries k).end) (t + 1) i root

pub alive_child : (g : Forest) → IsForest g → (t i p : ℕ) → (entry_at g.entries i).parent ≡ Some p → is_entry_alive g t i ≡ nat_le (t + 1) (entry_at g.entries i).end && is_entry_alive g t p
unfolding is_entry_alive end_of
alive_child g forest t i p child = all_last_child g.entries (λ k. (entry_at g.entries k).end) (t + 1) i p (parents_first g forest) child

-- of these entries each parent is one too, and is the row that has its name
abbrev Named : Inventory → List BrokerRow → (ℕ → Type 0) → Type 0
Named s rows these = (i p : ℕ) → these i → (entry_at s.forest.entries i).parent ≡ Some p → these p × (row_named rows (entry_at s.forest.entries p).name ≡ Some (broker_row s p))

lives_step : (n : ℕ) (rows : List BrokerRow) (t : ℕ) (r : BrokerRow) → lives_of (suc n) rows t r ≡ nat_lt t r.end && parent_passes (lives_of n rows t) rows r.parent
unfolding lives_of
lives_step n rows t r = refl

end_in : (s : Inventory) (i : ℕ) → (broker_row s i).end ≡ (entry_at s.forest.entries i).end
unfolding broker_row
end_in s i = refl

parent_in : (s : Inventory) (i : ℕ) → (broker_row s i).parent ≡ option_map (λ p. (entry_at s.forest.entries p).name) (entry_at s.forest.entries i).parent
unfolding broker_row
parent_in s i = refl

pub name_in : (s : Inventory) (i : ℕ) → (broker_row s i).name ≡ (entry_at s.forest.entries i).name
unfolding broker_row
name_in s i = refl

-- a row lives where its entry is alive
lives_of_alive :
    (s : Inventory) → IsForest s.forest → (rows : List BrokerRow) (t : ℕ) (these : ℕ → Type 0) → Named s rows these → (n i : ℕ) → i < n → these i → lives_of n rows t (broker_row s i) ≡ is_entry_alive s.forest t i
lives_of_alive s forest rows t these named zero i below here = absurd (omega arith)
lives_of_alive s forest rows t these named (suc n) i below here =
    let g = s.forest in
    let es = g.entries in
    let test = lives_of n rows t in
    lives_step n rows t (broker_row s i)
    ∙ ap (λ e. nat_lt t e && parent_passes test rows (broker_row s i).parent) (end_in s i)
    ∙ ap (λ b. b && parent_passes test rows (broker_row s i).parent) (lt_is_le t (entry_at es i).end)
    ∙ ap (λ o. nat_le (t + 1) (entry_at es i).end && parent_passes test rows o) (parent_in s i)
    ∙ cases_Option (entry_at es i).parent
    (nat_le (t + 1) (entry_at es i).end && parent_passes test rows (option_map (λ p. (entry_at es p).name) (entry_at es i).parent) ≡ is_entry_alive g t i)
    (λ root.
    ap (λ o. nat_le (t + 1) (entry_at es i).end && parent_passes test rows (option_map (λ p. (entry_at es p).name) o)) root
    ∙ and-true (nat_le (t + 1) (entry_at es i).end) ∙ sym (alive_root g t i root))
    (λ p child.
    let over = named i p here child in
    let first : p < i = parents_first g forest i p child in
    ap (λ o. nat_le (t + 1) (entry_at es i).end && parent_passes test rows (option_map (λ q. (entry_at es q).name) o)) child
    ∙ ap (λ o. nat_le (t + 1) (entry_at es i).end && passes test o) over.1
    ∙ ap (λ b. nat_le (t + 1) (entry_at es i).end && b) (lives_of_alive s forest rows t these named n p (omega arith) over.0)
    ∙ sym (alive_child g forest t i p child))

lives_alive :
    (s : Inventory) → IsForest s.forest → (rows : List BrokerRow) (t : ℕ) (these : ℕ → Type 0) → Named s rows these → (i : ℕ) → i < length s.forest.entries → these i → lives rows t (broker_row s i) ≡ is_entry_alive s.forest t i
unfolding lives
lives_alive s forest rows t these named i within here = lives_of_alive s forest rows t these named MAX_ENTRIES i (let few = forest.few in omega arith) here

-- names tell entries apart
pub lone_name : (g : Forest) → IsForest g → (i j : ℕ) → i < length g.entries → j < length g.entries → (entry_at g.entries j).name ≡ (entry_at g.entries i).name → j ≡ i
lone_name g forest i j hi hj same =
    let a = (forest.placed i hi).alone in
    let b = (forest.placed j hj).alone in
    let c : Some j ≡ Some i = sym b ∙ ap (index_named g.entries) same ∙ a in
    cc

-- the row of a name, among those of some entries
pub named_among :
    (s : Inventory) → IsForest s.forest → (p : ℕ → Bool) (i : ℕ) → i < length s.forest.entries → p i ≡ true →
    row_named (map (broker_row s) (filter p (range_with_len 0 (length s.forest.entries)))) (entry_at s.forest.entries i).name ≡ Some (broker_row s i)
unfolding row_named
named_among s forest p i within there =
    let name = (entry_at s.forest.entries i).name in
    found_lone (λ r. bytes_eq r.name name) (broker_row s) p i (length s.forest.entries) 0
    (ap (λ n. bytes_eq n name) (name_in s i) ∙ (bytes_decides name name).1 refl) there (omega arith) (omega arith)
    (λ j low high hit. lone_name s.forest forest i j within (omega arith) (sym (name_in s j) ∙ (bytes_decides (broker_row s j).name name).0 hit))

-- an inventory's rows mirror its forest
pub swept_inventory : SweptInventory
unfolding swept rows_listed broker_rows
swept_inventory s forest t =
    let g = s.forest in
    let n = length g.entries in
    let rows = map (broker_row s) (range_with_len 0 n) in
    let same : rows ≡ map (broker_row s) (filter (λ i. true) (range_with_len 0 n)) = ap (map (broker_row s)) (sym (filter_all (range_with_len 0 n))) in
    let named : Named s rows (λ i. i < n) = λ i p within child.
    let first : p < i = parents_first g forest i p child in
    let inside : p < n = omega arith in
    (inside, ap (λ rs. row_named rs (entry_at g.entries p).name) same ∙ named_among s forest (λ i. true) p inside refl) in
    filter_of_map (broker_row s) (lives rows t) (range_with_len 0 n)
    ∙ ap (map (broker_row s)) (filter_range (λ i. lives rows t (broker_row s i)) (is_entry_alive g t) n 0
    (λ i low high. lives_alive s forest rows t (λ i. i < n) named i (omega arith) (omega arith)))

pub alive_up : (g : Forest) → IsForest g → (t i p : ℕ) → (entry_at g.entries i).parent ≡ Some p → is_entry_alive g t i ≡ true → is_entry_alive g t p ≡ true
alive_up g forest t i p child alive = and_right (nat_le (t + 1) (entry_at g.entries i).end) (is_entry_alive g t p) (sym (alive_child g forest t i p child) ∙ alive)
