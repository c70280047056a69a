-- The table mirrors the forest as it was told: at first, and after each renewal that was served.
use Rattle.std.proofs.Common.{◌≡◌, ◌≢◌, ℕ, suc, ◌+◌, ◌<◌, ◌≤◌, Bool, true, false, cond, List, Option, Some, None, bytes_eq, filter, length, map, nat_le, option_map, refl, sym, ap, ◌∙◌, subst, arith, inl, inr}
use Rattle.std.proofs.lemmas.{Bool.Decides.nat_tests, List.length-set}
use Rattle.std.proofs.lemmas.Bool.{cases_Bool, cases_eq, cond-true, cond-false}
use Rattle.std.proofs.Math.Path.{fun_ext}
use Rattle.std.specs.{Cmp.Lexicographic.bytes_decides, List.list_all, List.range_with_len}
use Rattle.base_moment.specs.declared.moment.TheConstants.{LAST}
use Rattle.plan_forest.specs.{declared.entry.Entry.Entry, declared.forest.TheConstants.END_MAX, Over.chain, Push.IsForest}
use Rattle.plan_forest.specs.Forest.{Forest, end_of, entry_at}
use Rattle.plan_forest.specs.Renewal.{all_last, capped, renewal}
use Rattle.plan_forest.proofs.{Chains.chain_same, Entries.entry_at_set_other, Entries.entry_at_set_same}
use Rattle.plan_forest.proofs.Placed.{parents_first, read_range, read_step, replaced_is_forest, replaces_read}
use Rattle.vault_inventory.specs.declared.terms.Terms.{Terms}
use Rattle.vault_inventory.specs.Inventories.{IsInventory, Inventory, credential_at, terms_at}
use Rattle.broker_rule.specs.{declared.row.BrokerRow.BrokerRow, Rows.broker_row, Rows.broker_rows, Renewing.with_row, Listed.is_entry_alive, Listed.rows_listed, Sweep.swept}
use Rattle.broker_table.proofs.Swept.{swept_later}
use Rattle.broker_table.proofs.Ranges.{filter_range, map_of_map, map_range}
use Rattle.broker_table.proofs.Sweeping.{lone_name, name_in, swept_inventory}
use Rattle.tick_runs.specs.Mirrors.{Mirrors, with_entry_end, with_forest}

-- ---- an entry's end alone is changed

pub ended_same : (g : Forest) (i end : ℕ) → i < length g.entries → entry_at (with_entry_end g i end).entries i ≡ record (entry_at g.entries i) { end = end }
unfolding with_entry_end
ended_same g i end within = entry_at_set_same g.entries i (record (entry_at g.entries i) { end = end }) within

pub ended_other : (g : Forest) (i end j : ℕ) → j ≢ i → entry_at (with_entry_end g i end).entries j ≡ entry_at g.entries j
unfolding with_entry_end
ended_other g i end j apart = entry_at_set_other g.entries i j (record (entry_at g.entries i) { end = end }) apart

pub ended_count : (g : Forest) (i end : ℕ) → length (with_entry_end g i end).entries ≡ length g.entries
unfolding with_entry_end
ended_count g i end = length-set g.entries i (record (entry_at g.entries i) { end = end })

pub ended_field : {X : Type 0} (field : Entry → X) (g : Forest) (i end : ℕ) → i < length g.entries → field (record (entry_at g.entries i) { end = end }) ≡ field (entry_at g.entries i) → (j : ℕ) → field (entry_at (with_entry_end g i end).entries j) ≡ field (entry_at g.entries j)
ended_field field g i end within same j = elim (cases_eq j i) [
  | inl here ↦ subst (λ n. field (entry_at (with_entry_end g i end).entries n) ≡ field (entry_at g.entries n)) (sym here) (ap field (ended_same g i end within) ∙ same)
  | inr apart ↦ ap field (ended_other g i end j apart)
]

pub ended_forest : (g : Forest) → IsForest g → (i end : ℕ) → i < length g.entries → end ≤ END_MAX → IsForest (with_entry_end g i end)
unfolding with_entry_end
ended_forest g forest i end within far =
    let x = entry_at g.entries i in
    let e : Entry = record x { end = end } in
    let old = read_range g forest i x within refl in
    replaced_is_forest g forest i e (replaces_read g forest i x e within refl refl refl refl (read_step g forest i x within refl) (record { end = far; ceiling = old.ceiling; need = old.need }))

-- ---- who is alive

pub ended_chain : (g : Forest) → IsForest g → (i end : ℕ) → i < length g.entries → (j : ℕ) → chain (with_entry_end g i end).entries j ≡ chain g.entries j
ended_chain g forest i end within j =
    chain_same (suc j) g.entries (with_entry_end g i end).entries (parents_first g forest) (λ k _. ended_field (λ (e : Entry). e.parent) g i end within refl k) j (omega arith)

lasts_too : (t a b : ℕ) → t < a → t < b → nat_le (t + 1) a ≡ nat_le (t + 1) b
lasts_too t a b h k = (let x : nat_le (t + 1) a ≡ true = grind (arith, nat_tests) in let y : nat_le (t + 1) b ≡ true = grind (arith, nat_tests) in x ∙ sym y)

pub ended_alive :
    (g : Forest) → IsForest g → (t i end : ℕ) → i < length g.entries → t < (entry_at g.entries i).end → t < end → (j : ℕ) → is_entry_alive (with_entry_end g i end) t j ≡ is_entry_alive g t j
unfolding is_entry_alive all_last end_of
ended_alive g forest t i end within before after j =
    ap (list_all (λ a. nat_le (t + 1) (entry_at (with_entry_end g i end).entries a).end)) (ended_chain g forest i end within j)
    ∙ ap (λ (p : ℕ → Bool). list_all p (chain g.entries j)) (fun_ext λ a. elim (cases_eq a i) [
      | inl here ↦
          ap (λ n. nat_le (t + 1) (entry_at (with_entry_end g i end).entries n).end) here
          ∙ ap (λ (e : Entry). nat_le (t + 1) e.end) (ended_same g i end within)
          ∙ lasts_too t end (entry_at g.entries i).end after before
          ∙ ap (λ n. nat_le (t + 1) (entry_at g.entries n).end) (sym here)
      | inr apart ↦ ap (λ (e : Entry). nat_le (t + 1) e.end) (ended_other g i end a apart)
    ])

-- ---- the rows

-- a row, by the names of the entries
unfoldable pub row_by : (ℕ → List ℕ) → Entry → Terms → List ℕ → BrokerRow
row_by names e terms credential = record {
  name = e.name;
  kind = e.kind;
  parent = option_map names e.parent;
  end = e.end;
  renewable = e.renewable;
  step = e.step;
  ceiling = e.ceiling;
  issued = terms.issued;
  period = terms.period;
  explicit_max = terms.explicit_max;
  credential = credential;
}

pub row_is : (s : Inventory) (i : ℕ) → broker_row s i ≡ row_by (λ p. (entry_at s.forest.entries p).name) (entry_at s.forest.entries i) (terms_at s.terms i) (credential_at s.credentials i)
unfolding broker_row row_by
row_is s i = refl

by_end : (names : ℕ → List ℕ) (e : Entry) (terms : Terms) (credential : List ℕ) (end : ℕ) → row_by names (record e { end = end }) terms credential ≡ record (row_by names e terms credential) { end = end }
unfolding row_by
by_end names e terms credential end = refl

ended_names : (g : Forest) (i end : ℕ) → i < length g.entries → ◌≡◌ {A = ℕ → List ℕ} (λ p. (entry_at (with_entry_end g i end).entries p).name) (λ p. (entry_at g.entries p).name)
ended_names g i end within = fun_ext λ p. ended_field (λ (e : Entry). e.name) g i end within refl p

pub row_ended_same : (s : Inventory) (i end : ℕ) → i < length s.forest.entries → broker_row (with_forest s (with_entry_end s.forest i end)) i ≡ record (broker_row s i) { end = end }
row_ended_same s i end within =
    let g = s.forest in
    let names : ℕ → List ℕ = λ p. (entry_at g.entries p).name in
    row_is (with_forest s (with_entry_end g i end)) i
    ∙ ap (λ (ns : ℕ → List ℕ). row_by ns (entry_at (with_entry_end g i end).entries i) (terms_at s.terms i) (credential_at s.credentials i)) (ended_names g i end within)
    ∙ ap (λ e. row_by names e (terms_at s.terms i) (credential_at s.credentials i)) (ended_same g i end within)
    ∙ by_end names (entry_at g.entries i) (terms_at s.terms i) (credential_at s.credentials i) end
    ∙ ap (λ (r : BrokerRow). record r { end = end }) (sym (row_is s i))

pub row_ended_other : (s : Inventory) (i end j : ℕ) → i < length s.forest.entries → j ≢ i → broker_row (with_forest s (with_entry_end s.forest i end)) j ≡ broker_row s j
row_ended_other s i end j within apart =
    let g = s.forest in
    let names : ℕ → List ℕ = λ p. (entry_at g.entries p).name in
    row_is (with_forest s (with_entry_end g i end)) j
    ∙ ap (λ (ns : ℕ → List ℕ). row_by ns (entry_at (with_entry_end g i end).entries j) (terms_at s.terms j) (credential_at s.credentials j)) (ended_names g i end within)
    ∙ ap (λ e. row_by names e (terms_at s.terms j) (credential_at s.credentials j)) (ended_other g i end j apart)
    ∙ sym (row_is s j)

-- putting the new row in its place gives the rows of the forest with the new end
pub with_row_listed :
    (s : Inventory) → IsForest s.forest → (t i end : ℕ) → i < length s.forest.entries → t < (entry_at s.forest.entries i).end → t < end →
    with_row (rows_listed s t) (record (broker_row s i) { end = end }) ≡ rows_listed (with_forest s (with_entry_end s.forest i end)) t
unfolding with_row rows_listed
with_row_listed s forest t i end within before after =
    let g = s.forest in
    let h = with_entry_end g i end in
    let n = length g.entries in
    let row : BrokerRow = record (broker_row s i) { end = end } in
    let put : BrokerRow → BrokerRow = λ r. cond (bytes_eq r.name row.name) row r in
    let range = range_with_len 0 n in
    map_of_map put (broker_row s) (filter (is_entry_alive g t) range)
    ∙ map_range (λ j. put (broker_row s j)) (broker_row (with_forest s h)) (is_entry_alive g t) n 0 (λ j low high alive. elim (cases_eq j i) [
      | inl here ↦
          ap (λ k. put (broker_row s k)) here
          ∙ cond-true (bytes_eq (broker_row s i).name row.name) row (broker_row s i) ((bytes_decides (broker_row s i).name row.name).1 refl)
          ∙ sym (row_ended_same s i end within)
          ∙ ap (broker_row (with_forest s h)) (sym here)
      | inr apart ↦
          let differ : bytes_eq (broker_row s j).name row.name ≡ false = elim (cases_Bool (bytes_eq (broker_row s j).name row.name)) [
            | inl same ↦ absurd (apart (lone_name g forest i j within (omega arith) (sym (name_in s j) ∙ (bytes_decides (broker_row s j).name row.name).0 same ∙ name_in s i)))
            | inr no' ↦ no'
          ] in
          cond-false (bytes_eq (broker_row s j).name row.name) row (broker_row s j) differ
          ∙ sym (row_ended_other s i end j within apart)
    ])
    ∙ ap (λ xs. map (broker_row (with_forest s h)) xs) (filter_range (is_entry_alive g t) (is_entry_alive h t) n 0 (λ j low high. sym (ended_alive g forest t i end within before after j)))
    ∙ ap (λ k. map (broker_row (with_forest s h)) (filter (is_entry_alive h t) (range_with_len 0 k))) (sym (ended_count g i end))

pub mirrors_first : (s : Inventory) → IsForest s.forest → (t : ℕ) → Mirrors s t (broker_rows s)
mirrors_first s forest t m le = swept_inventory s forest m

pub mirrors_listed : (s : Inventory) → IsForest s.forest → (t : ℕ) → Mirrors s t (rows_listed s t)
mirrors_listed s forest t m le = ap (swept m) (sym (swept_inventory s forest t)) ∙ swept_later (broker_rows s) t m le ∙ swept_inventory s forest m

-- a renewal's end is within the greatest
pub renewal_within : (e : Entry) (t : ℕ) → t ≤ LAST → e.step ≤ 4294967295 → renewal e t ≤ t + 4294967295
unfolding renewal capped
renewal_within e t late small = most e.ceiling where
  most : (c : Option ℕ) → capped c (t + e.step) ≤ t + 4294967295
  most None = omega arith
  most (Some c) = omega arith

-- what an inventory keeps stays where an end is changed
pub ended_supplied : (s : Inventory) → IsInventory s → (i end : ℕ) → i < length s.forest.entries → end ≤ END_MAX → IsInventory (with_forest s (with_entry_end s.forest i end))
ended_supplied s supplied i end within far =
    let g = s.forest in
    let h = with_entry_end g i end in
    let count = ended_count g i end in
    let kinds = ended_field (λ (e : Entry). e.kind) g i end within refl in
    let steps = ended_field (λ (e : Entry). e.step) g i end within refl in
    record {
      forest = ended_forest g supplied.forest i end within far;
      steps = λ j inside. let a = supplied.steps j (omega arith) in let b = steps j in omega arith;
      step_is = λ j inside. steps j ∙ supplied.step_is j (omega arith);
      ceiling_is = λ j inside. ended_field (λ (e : Entry). e.ceiling) g i end within refl j ∙ supplied.ceiling_is j (omega arith);
      apart = λ j k hj hk kind credential. supplied.apart j k (omega arith) (omega arith) (sym (kinds j) ∙ kind ∙ kinds k) credential;
      credentials = supplied.credentials ∙ sym count;
      terms = supplied.terms ∙ sym count;
      sendable = supplied.sendable;
    }
