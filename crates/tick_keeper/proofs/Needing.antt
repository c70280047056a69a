-- Entries with other needs: what is at an index, and that they are alike and a forest.
use Rattle.std.proofs.Common.{◌≡◌, ℕ, suc, ◌<◌, ◌≤◌, ◌&&◌, cond, List, [], ◌∷◌, Option, Some, None, bytes_eq, get_or, length, option_map, is_none, refl, sym, ap, ◌∙◌, subst, arith, inl, inr}
use Rattle.std.proofs.lemmas.{Bool.cases_lt, List.FromFn.get_or-map-range_with_len, List.FromFn.length-map-range_with_len}
use Rattle.base_moment.specs.declared.moment.TheConstants.{LAST}
use Rattle.plan_forest.specs.{declared.entry.Entry.Entry, declared.forest.TheConstants.MAX_DEPTH}
use Rattle.plan_forest.specs.Forest.{Forest, entry_at, index_named, no_entry}
use Rattle.plan_forest.specs.Push.{IsForest, is_lease, is_name, is_under_lease}
use Rattle.plan_forest.proofs.{Chains.ParentsFirst, Chains.chain_same, Entries.entry_at_past}
use Rattle.plan_forest.proofs.Placed.{InRange, parents_first, range_from_parts, range_parts}
use Rattle.tick_keeper.specs.code.Passes.{needing}
use Rattle.tick_keeper.proofs.Alike.{Alike}

pub length_needing : (es : List Entry) (f : ℕ → ℕ) → length (needing es f) ≡ length es
unfolding needing
length_needing es f = length-map-range_with_len (λ i. record (entry_at es i) { need = f i }) 0 (length es)

pub needing_at : (es : List Entry) (f : ℕ → ℕ) (i : ℕ) → i < length es → entry_at (needing es f) i ≡ record (entry_at es i) { need = f i }
unfolding needing entry_at
needing_at es f i within = get_or-map-range_with_len (λ k. record (get_or es k no_entry) { need = f k }) 0 (length es) i i no_entry within (omega arith)

pub needing_past : (es : List Entry) (f : ℕ → ℕ) (i : ℕ) → length es ≤ i → entry_at (needing es f) i ≡ entry_at es i
needing_past es f i past = entry_at_past (needing es f) i (let l = length_needing es f in omega arith) ∙ sym (entry_at_past es i past)

-- a field that is no need is as it was
pub field_kept : {X : Type 0} (field : Entry → X) → ((e : Entry) (n : ℕ) → field (record e { need = n }) ≡ field e) → (es : List Entry) (f : ℕ → ℕ) (i : ℕ) → field (entry_at (needing es f) i) ≡ field (entry_at es i)
field_kept field same es f i =
    elim (cases_lt i (length es)) [
      | inl within ↦ ap field (needing_at es f i within) ∙ same (entry_at es i) (f i)
      | inr past ↦ ap field (needing_past es f i past)
    ]

pub needing_alike : (es : List Entry) → ParentsFirst es → (f : ℕ → ℕ) → Alike es (needing es f)
needing_alike es first f = record {
  first = first;
  parent = field_kept (λ e. e.parent) (λ e n. refl) es f;
  renewable = field_kept (λ e. e.renewable) (λ e n. refl) es f;
  step = field_kept (λ e. e.step) (λ e n. refl) es f;
  ceiling = field_kept (λ e. e.ceiling) (λ e n. refl) es f;
}

pub needing_end : (es : List Entry) (f : ℕ → ℕ) (i : ℕ) → (entry_at (needing es f) i).end ≡ (entry_at es i).end
needing_end es f i = field_kept (λ e. e.end) (λ e n. refl) es f i

-- a name stands where it stood, in lists with the same names
named_alike : (es fs : List Entry) → length fs ≡ length es → ((i : ℕ) → (entry_at fs i).name ≡ (entry_at es i).name) → (q : List ℕ) → index_named fs q ≡ index_named es q
unfolding index_named entry_at
named_alike [] [] count names q = refl
named_alike (x ∷ es) (y ∷ fs) count names q =
    ap (λ name. cond (bytes_eq name q) (Some 0) (option_map (λ i. suc i) (index_named fs q))) (names 0)
    ∙ ap (λ o. cond (bytes_eq x.name q) (Some 0) (option_map (λ i. suc i) o)) (named_alike es fs (omega arith) (λ i. names (suc i)) q)
named_alike _ _ count names q = absurd (omega arith)

under_alike : (es fs : List Entry) → ((i : ℕ) → (entry_at fs i).kind ≡ (entry_at es i).kind) → (o : Option ℕ) → is_under_lease fs o ≡ is_under_lease es o
unfolding is_under_lease
under_alike es fs same None = refl
under_alike es fs same (Some p) = ap is_lease (same p)

pub needing_forest : (g : Forest) → IsForest g → (f : ℕ → ℕ) → ((i : ℕ) → f i ≤ LAST) → IsForest (record { entries = needing g.entries f; margin = g.margin })
needing_forest g forest f last =
    let es = g.entries in
    let fs = needing es f in
    let count = length_needing es f in
    let first = parents_first g forest in
    let alike = needing_alike es first f in
    let name = field_kept (λ e. e.name) (λ e n. refl) es f in
    let kind = field_kept (λ e. e.kind) (λ e n. refl) es f in
    record {
      margin_above = forest.margin_above;
      margin_within = forest.margin_within;
      few = let l = forest.few in omega arith;
      placed = λ i h.
          let within : i < length es = omega arith in
          let placed = forest.placed i within in
          let range = range_parts (entry_at es i) placed.in_range in
          let is = needing_at es f i within in
          record {
            named = ap is_name (name i) ∙ placed.named;
            alone = ap (index_named fs) (name i) ∙ named_alike es fs count name (entry_at es i).name ∙ placed.alone;
            parent_first = λ p child. placed.parent_first p (sym (alike.parent i) ∙ child);
            parent_is_token = ap (is_under_lease fs) (alike.parent i) ∙ under_alike es fs kind (entry_at es i).parent ∙ placed.parent_is_token;
            lease_has_token = ap (λ k. is_lease k && is_none (entry_at fs i).parent) (kind i) ∙ ap (λ (o : Option ℕ). is_lease (entry_at es i).kind && is_none o) (alike.parent i) ∙ placed.lease_has_token;
            step_past_margin = subst (λ n. g.margin < n) (sym (alike.step i)) placed.step_past_margin;
            in_range = range_from_parts (entry_at fs i) (subst InRange (sym is) (record { end = range.end; ceiling = range.ceiling; need = last i }));
            depth = subst (λ (c : List ℕ). length c ≤ MAX_DEPTH) (sym (chain_same (suc i) es fs first (λ k _. alike.parent k) i (omega arith))) placed.depth;
          };
    }
