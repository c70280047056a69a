-- Foresting: a forest of which is written what lookups have told stays a forest, one entry after another. For the laws.
use Rattle.std.proofs.Common.{◌≡◌, ◌∙◌, ℕ, zero, suc, ◌<◌, ◌≤◌, false, not, ◌&&◌, List, Option, Some, None, length, min, nat_lt, option_map, set, refl, sym, ap, subst, arith, inl, inr}
use Rattle.std.proofs.lemmas.{Bool.Decides.nat_tests, List.length-set, List.set-set, List.FromFn.fill_by_all}
use Rattle.std.proofs.lemmas.Bool.{cases_Bool, cond-false, cond-true}
use Rattle.plan_forest.specs.{declared.entry.Entry.Entry, declared.forest.TheConstants.END_MAX}
use Rattle.plan_forest.specs.Forest.{Forest, entry_at, no_entry}
use Rattle.plan_forest.specs.Push.{IsForest, is_lease, is_too_high}
use Rattle.plan_forest.proofs.{Carrying.and_right, Entries.entry_at_set_other, Entries.entry_at_set_same}
use Rattle.plan_forest.proofs.Placed.{Replaces, orphaned_is_forest, range_from_parts, range_parts, replaced_is_forest}
use Rattle.watch_machine.specs.{declared.change.Was.Was, declared.event.WatchTerms.WatchTerms, Looked.by_terms, Looked.step_told}
use Rattle.watch_machine.specs.declared.change.Was.TheVariants.{New, Same, Retold}
use Rattle.watch_machine.specs.Change.{entry_by, forest_after, terms_left, was_at}
use Rattle.watch_machine.proofs.{Cases.if_cases, Changing.unwritten, Tests.not_true, View.written_more}

-- ---- an entry by the terms that were told

told_step : (margin step : ℕ) (o : Option ℕ) → margin < step → margin < step_told margin step o
told_step margin step None more = more
told_step margin step (Some told) more = if_cases (λ n. margin < n) (nat_lt margin told) told step (λ e. grind (arith, nat_tests)) (λ e. more)

told_ceiling : (o : Option ℕ) → is_too_high (option_map (λ t. min END_MAX t) o) ≡ false
told_ceiling None = refl
told_ceiling (Some t) = let l : min END_MAX t ≤ END_MAX = omega arith in grind (arith, nat_tests)

pub told_is_forest : (g : Forest) (i : ℕ) (terms : WatchTerms) → IsForest g → i < length g.entries → IsForest (record g { entries = set g.entries i (by_terms g.margin terms (entry_at g.entries i)) })
unfolding by_terms
told_is_forest g i terms forest within =
    let old = entry_at g.entries i in
    let e = by_terms g.margin terms old in
    let placed = forest.placed i within in
    let parts = range_parts old placed.in_range in
    let low = parts.end in
    let need = parts.need in
    let step = told_step g.margin old.step terms.step placed.step_past_margin in
    let test = terms.orphan && not (is_lease old.kind) in
    elim (cases_Bool test) as (λ _. IsForest (record { entries = set g.entries i e; margin = g.margin })) [
      | inl orphan ↦
          let alone : Entry = record old { parent = None } in
          let es = set g.entries i alone in
          let token : is_lease old.kind ≡ false = not_true (is_lease old.kind) (and_right terms.orphan (not (is_lease old.kind)) orphan) in
          let there = entry_at_set_same g.entries i alone within in
          let count = length-set g.entries i alone in
          let fits : Replaces (record { entries = es; margin = g.margin }) i e = record {
            within = omega (arith, count, within);
            name = sym (ap (λ (x : Entry). x.name) there);
            kind = sym (ap (λ (x : Entry). x.kind) there);
            parent = cond-true test None old.parent orphan ∙ sym (ap (λ (x : Entry). x.parent) there);
            step = step;
            range = range_from_parts e (record { end = low; ceiling = told_ceiling terms.ceiling; need = need });
          } in
          subst (λ xs. IsForest (record { entries = xs; margin = g.margin })) (set-set g.entries i alone e)
          (replaced_is_forest (record { entries = es; margin = g.margin }) (orphaned_is_forest g forest i within token) i e fits)
      | inr stays ↦
          replaced_is_forest g forest i e (record {
            within = within;
            name = refl;
            kind = refl;
            parent = cond-false test None old.parent stays;
            step = step;
            range = range_from_parts e (record { end = low; ceiling = told_ceiling terms.ceiling; need = need });
          })
    ]

-- ---- all entries of a change

by_was : (g : Forest) (es : List Entry) (i : ℕ) (w : Was) → IsForest g → i < length g.entries → IsForest (record g { entries = set g.entries i (entry_by g.margin es (entry_at g.entries i) w) })
by_was g es i New forest within = subst (λ xs. IsForest (record g { entries = xs })) (unwritten g.margin es g.entries i New (λ k e. cc)) forest
by_was g es i (Same k) forest within = told_is_forest g i (terms_left (entry_at es k)) forest within
by_was g es i (Retold m) forest within = subst (λ xs. IsForest (record g { entries = xs })) (unwritten g.margin es g.entries i (Retold m) (λ k e. cc)) forest

-- entries of which those before k are written
record WrittenTo (es : List Entry) (g : Forest) (was : List Was) (k : ℕ) : Type 0 where
  entries : List Entry
  count : length entries ≡ length g.entries
  done : (j : ℕ) → j < k → entry_at entries j ≡ entry_by g.margin es (entry_at g.entries j) (was_at was j)
  rest : (j : ℕ) → k ≤ j → entry_at entries j ≡ entry_at g.entries j
  forest : IsForest (record g { entries = entries })

written_to : (es : List Entry) (g : Forest) (was : List Was) (k : ℕ) → IsForest g → k ≤ length g.entries → WrittenTo es g was k
written_to es g was zero forest within = record {
  entries = g.entries;
  count = refl;
  done = λ j below. absurd (omega (arith, below));
  rest = λ j past. refl;
  forest = forest;
}
written_to es g was (suc k) forest within =
    let so = written_to es g was k forest (omega (arith, within)) in
    let count = so.count in
    let here : k < length so.entries = omega (arith, count, within) in
    let f : ℕ → Entry = λ j. entry_by g.margin es (entry_at g.entries j) (was_at was j) in
    let e : Entry = entry_by g.margin es (entry_at so.entries k) (was_at was k) in
    let same : e ≡ f k = ap (λ (x : Entry). entry_by g.margin es x (was_at was k)) (so.rest k (omega arith)) in
    record {
      entries = set so.entries k e;
      count = length-set so.entries k e ∙ so.count;
      done = λ j below. written_more f so.entries (set so.entries k e) k here (ap (set so.entries k) same) so.done j (omega (arith, below));
      rest = λ j past. entry_at_set_other so.entries k j e (λ h. absurd (omega (arith, h, past))) ∙ so.rest j (omega (arith, past));
      forest = by_was (record g { entries = so.entries }) es k (was_at was k) so.forest here;
    }

pub forest_after_is_forest : (es : List Entry) (g : Forest) (was : List Was) → IsForest g → IsForest (forest_after es g was)
unfolding entry_at forest_after
forest_after_is_forest es g was forest =
    let n = length g.entries in
    let f : ℕ → Entry = λ j. entry_by g.margin es (entry_at g.entries j) (was_at was j) in
    let so = written_to es g was n forest (omega arith) in
    subst (λ xs. IsForest (record g { entries = xs })) (fill_by_all f so.entries n no_entry so.count so.done) so.forest
