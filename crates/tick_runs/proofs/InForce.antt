-- In force: the run of an inventory is that of the one whose needs the opening leaves in force, for `least_law`.
use Rattle.std.proofs.Common.{◌≡◌, ◌∙◌, ℕ, ◌<◌, ◌≤◌, List, [], ◌++◌, None, Some, ap, append-nil, arith, inl, inr, length, map, refl, subst, sym}
use Rattle.std.proofs.lemmas.{Bool.cases_lt, List.length-map}
use Rattle.std.proofs.Math.Path.{fun_ext}
use Rattle.std.specs.List.{range_with_len}
use Rattle.plan_forest.specs.{declared.entry.Entry.Entry, Forest.Forest, Forest.entry_at}
use Rattle.plan_forest.proofs.Entries.{entry_at_past}
use Rattle.vault_inventory.specs.declared.limits.TheConstants.{SPAN_MAX}
use Rattle.vault_inventory.specs.Inventories.{IsInventory, Inventory, credential_at, terms_at}
use Rattle.broker_rule.specs.{declared.row.BrokerRow.BrokerRow, Rows.broker_row, Rows.broker_rows}
use Rattle.tick_keeper.specs.{Replan.IsPlanOf, Replan.Replan, State.CoreState, State.unplanned, declared.shortened.ShortNeed.ShortNeed}
use Rattle.tick_keeper.specs.Shorten.{need_left, pairs, shorten}
use Rattle.tick_keeper.proofs.{Kept.keepable, Standing.best_keepable}
use Rattle.tick_keeper.proofs.Shortening.{shorten_at, shorten_count, shorten_forest}
use Rattle.tick_runs.specs.{Laws.LeastLaw, Mirrors.with_forest}
use Rattle.tick_runs.specs.Closed.{Beat, IsRunOpening, World, rounds, shorts_taken}
use Rattle.tick_runs.proofs.{Mirroring.row_by, Mirroring.row_is, Whole.so_far}

abbrev in_force : Inventory → ℕ → Inventory
in_force s t = with_forest s (shorten s.forest t)

-- ---- only needs are changed

field_same : {X : Type 0} (field : Entry → X) (g : Forest) (t : ℕ) → ((e : Entry) (n : ℕ) → field (record e { need = n }) ≡ field e) → (i : ℕ) → field (entry_at (shorten g t).entries i) ≡ field (entry_at g.entries i)
field_same field g t keeps i =
    elim (cases_lt i (length g.entries)) [
      | inl within ↦ ap field (shorten_at g t i within) ∙ keeps (entry_at g.entries i) (need_left g t i)
      | inr past ↦ ap field (entry_at_past (shorten g t).entries i (let count = shorten_count g t in omega arith) ∙ sym (entry_at_past g.entries i past))
    ]

by_need : (names : ℕ → List ℕ) (s : Inventory) (i : ℕ) (e : Entry) (n : ℕ) → row_by names (record e { need = n }) (terms_at s.terms i) (credential_at s.credentials i) ≡ row_by names e (terms_at s.terms i) (credential_at s.credentials i)
unfolding row_by
by_need names s i e n = refl

row_same : (s : Inventory) (t i : ℕ) → broker_row (in_force s t) i ≡ broker_row s i
row_same s t i =
    let g = s.forest in
    let names : ◌≡◌ {A = ℕ → List ℕ} (λ p. (entry_at (shorten g t).entries p).name) (λ p. (entry_at g.entries p).name) = fun_ext λ p. field_same (λ (e : Entry). e.name) g t (λ e n. refl) p in
    row_is (in_force s t) i
    ∙ ap (λ (f : ℕ → List ℕ). row_by f (entry_at (shorten g t).entries i) (terms_at s.terms i) (credential_at s.credentials i)) names
    ∙ field_same (λ (e : Entry). row_by (λ p. (entry_at g.entries p).name) e (terms_at s.terms i) (credential_at s.credentials i)) g t (by_need (λ p. (entry_at g.entries p).name) s i) i
    ∙ sym (row_is s i)

rows_same : (s : Inventory) (t : ℕ) → broker_rows (in_force s t) ≡ broker_rows s
unfolding broker_rows
rows_same s t =
    let rows : ◌≡◌ {A = ℕ → BrokerRow} (broker_row (in_force s t)) (broker_row s) = fun_ext λ i. row_same s t i in
    ap (λ (f : ℕ → BrokerRow). map f (range_with_len 0 (length (shorten s.forest t).entries))) rows ∙ ap (λ n. map (broker_row s) (range_with_len 0 n)) (shorten_count s.forest t)

in_force_is : (s : Inventory) (t : ℕ) → IsInventory s → IsInventory (in_force s t)
in_force_is s t sound =
    let g = s.forest in
    let count = shorten_count g t in
    record {
      forest = shorten_forest g sound.forest t;
      credentials = sound.credentials ∙ sym count;
      terms = sound.terms ∙ sym count;
      apart = λ i j low high kinds same.
          sound.apart i j (subst (λ n. i < n) count low) (subst (λ n. j < n) count high)
          (sym (field_same (λ (e : Entry). e.kind) g t (λ e n. refl) i) ∙ kinds ∙ field_same (λ (e : Entry). e.kind) g t (λ e n. refl) j) same;
      sendable = sound.sendable;
      steps = λ i within. subst (λ n. n ≤ SPAN_MAX) (sym (field_same (λ (e : Entry). e.step) g t (λ e n. refl) i)) (sound.steps i (subst (λ n. i < n) count within));
      step_is = λ i within. field_same (λ (e : Entry). e.step) g t (λ e n. refl) i ∙ sound.step_is i (subst (λ n. i < n) count within);
      ceiling_is = λ i within. field_same (λ (e : Entry). e.ceiling) g t (λ e n. refl) i ∙ sound.ceiling_is i (subst (λ n. i < n) count within);
    }

-- ---- the opening, and the run

module _ (s : Inventory) (start : ℕ) (short : List ShortNeed) (w : World) (o : IsRunOpening s [] start short w) where
  same : (shorten (shorten s.forest start) start ≡ shorten s.forest start) × (pairs (shorten s.forest start) start ≡ [])
  same = keepable (shorten s.forest start) start (best_keepable (shorten s.forest start) start o.planned.moments o.planned.best)

  keeper : CoreState
  keeper = record { forest = shorten (shorten s.forest start) start; last = start; to_come = o.planned.moments; round = None; shortened = pairs (shorten s.forest start) start }

  planned : Replan (unplanned (shorten s.forest start)) start keeper
  unfolding keeper
  planned = record { moments = o.planned.moments; best = subst (λ g. IsPlanOf g start o.planned.moments) (sym same.0) o.planned.best; few = o.planned.few; is = refl }

  opens_in_force : IsRunOpening (in_force s start) [] start [] w
  unfolding keeper
  opens_in_force = record {
    keeper = keeper;
    planned = planned;
    short_is = sym same.1;
    is = o.is
        ∙ ap (λ (k : CoreState). record { keeper = shorts_taken k; behind = Some (record { table = record { rows = broker_rows s; faults = []; count = 0 }; wire = [] }) }) o.planned.is
        ∙ ap (λ (g : Forest). record { keeper = record { forest = g; last = start; to_come = o.planned.moments; round = None; shortened = [] }; behind = Some (record { table = record { rows = broker_rows s; faults = []; count = 0 }; wire = [] }) }) (sym same.0)
        ∙ ap (λ (rows : List BrokerRow). record { keeper = shorts_taken keeper; behind = Some (record { table = record { rows = rows; faults = []; count = 0 }; wire = [] }) }) (sym (rows_same s start));
  }

pub least : LeastLaw
least s start supplied late course final run =
    let o = run.opened in
    let ts = o.planned.moments in
    let g = shorten s.forest start in
    let goes = (so_far (in_force s start) start ts (in_force_is s start supplied) late o.planned.best o.planned.few [] run.opening final course.beats None (opens_in_force s start course.short run.opening o) run.played).1 in
    let moments : map (λ (b : Beat). b.at) (rounds course.beats) ≡ ts =
    sym (goes.moments ∙ ap (λ xs. map (λ (b : Beat). b.at) (rounds course.beats) ++ xs) (goes.ended refl) ∙ append-nil (map (λ (b : Beat). b.at) (rounds course.beats))) in
    let count = length-map (rounds course.beats) (λ (b : Beat). b.at) in
    let best = subst (IsPlanOf g start) (sym moments) o.planned.best in (
      o.short_is ∙ ap (λ (k : CoreState). k.shortened) o.planned.is,
      (best, λ plan in_order keeps. let fewest = best.least plan in_order keeps in omega arith),
    )
