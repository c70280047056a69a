-- Renewals: every entry renewed, by falling index, while what is over it has its old end; for `renew_all`.
use Rattle.std.proofs.Common.{◌≡◌, ◌&&◌, ◌∙◌, ℕ, zero, suc, ◌+◌, ◌<◌, ◌≤◌, ◌^◌, true, false, cond, List, Option, Some, None, length, map, nat_le, set, refl, sym, ap, subst, arith, inl, inr}
use Rattle.std.proofs.lemmas.{Bool.cases_eq, List.ext_get_or, List.length-set, List.FromFn.get_or-map-range_with_len, List.FromFn.length-map-range_with_len}
use Rattle.std.specs.List.{list_all, range_with_len}
use Rattle.plan_forest.specs.{declared.entry.Entry.Entry, declared.forest.TheConstants.END_MAX, Push.IsForest}
use Rattle.plan_forest.specs.Forest.{Forest, end_of, entry_at, no_entry}
use Rattle.plan_forest.specs.Renewal.{all_last, capped, is_granted, renewal, renewed}
use Rattle.base_moment.specs.declared.moment.TheConstants.{LAST}
use Rattle.plan_forest.proofs.{Placed.read_range, Entries.entry_at_set_other, Entries.entry_at_set_same}
use Rattle.plan_forest.proofs.Chains.{ParentsFirst, SameParents, all_last_child, all_last_root, cases_Option, chain_same}
use Rattle.plan_commands.specs.Renewed.{all_renewed, renewed_entry}

-- ---- what is over an entry tells what it is granted

all_last_parents : (k : ℕ) (es fs : List Entry) → ParentsFirst es → SameParents k es fs → (ends : ℕ → ℕ) (m i : ℕ) → i < k → all_last fs ends m i ≡ all_last es ends m i
unfolding all_last
all_last_parents k es fs first same ends m i h = ap (list_all (λ a. nat_le m (ends a))) (chain_same k es fs first same i h)

all_last_ends : (k : ℕ) (es : List Entry) → ParentsFirst es → (ends other : ℕ → ℕ) → ((j : ℕ) → j < k → other j ≡ ends j) → (m n i : ℕ) → i < n → n ≤ k → all_last es other m i ≡ all_last es ends m i
all_last_ends k es first ends other same m zero i h l = absurd (omega arith)
all_last_ends k es first ends other same m (suc n) i h l =
    let here : nat_le m (other i) ≡ nat_le m (ends i) = ap (nat_le m) (same i (omega arith)) in
    cases_Option (entry_at es i).parent (all_last es other m i ≡ all_last es ends m i)
    (λ root. all_last_root es other m i root ∙ here ∙ sym (all_last_root es ends m i root))
    (λ p child. let below : p < i = first i p child in
    all_last_child es other m i p first child ∙ ap (λ b. b && all_last es other m p) here
    ∙ ap (λ b. nat_le m (ends i) && b) (all_last_ends k es first ends other same m n p (omega arith) (omega arith)) ∙ sym (all_last_child es ends m i p first child))

module _ (k : ℕ) (es fs : List Entry) (first : ParentsFirst es) (same : (j : ℕ) → j < k → entry_at fs j ≡ entry_at es j) where
  ends_same : (j : ℕ) → j < k → end_of fs j ≡ end_of es j
  unfolding end_of
  ends_same j h = ap (λ (e : Entry). e.end) (same j h)

  granted_same : (margin t i : ℕ) → i < k → is_granted fs margin (end_of fs) t i ≡ is_granted es margin (end_of es) t i
  unfolding is_granted
  granted_same margin t i h =
      ap (λ (e : Entry). e.renewable && all_last fs (end_of fs) (t + margin) i) (same i h)
      ∙ ap (λ b. (entry_at es i).renewable && b)
      (all_last_parents k es fs first (λ j l. ap (λ (e : Entry). e.parent) (same j l)) (end_of fs) (t + margin) i h
      ∙ all_last_ends k es first (end_of es) (end_of fs) ends_same (t + margin) k i h (omega arith))

  -- entries that are the same up to an index are granted the same
  pub renewed_same : (margin t i : ℕ) → i < k → renewed fs margin (end_of fs) t i ≡ renewed es margin (end_of es) t i
  unfolding renewed
  renewed_same margin t i h =
      ap (λ b. cond b (renewal (entry_at fs i) t) (end_of fs i)) (granted_same margin t i h)
      ∙ ap (λ (e : Entry). cond (is_granted es margin (end_of es) t i) (renewal e t) (end_of fs i)) (same i h)
      ∙ ap (λ n. cond (is_granted es margin (end_of es) t i) (renewal (entry_at es i) t) n) (ends_same i h)

-- ---- a renewal leads no further than the greatest end, since a step is of 32 bits

capped_least : (ceiling : Option ℕ) (t : ℕ) → capped ceiling t ≤ t
unfolding capped
capped_least None t = omega arith
capped_least (Some c) t = omega arith

pub renewed_within : (g : Forest) → IsForest g → (t i : ℕ) → t ≤ LAST → i < length g.entries → (entry_at g.entries i).step < 2 ^ 32 → renewed g.entries g.margin (end_of g.entries) t i ≤ END_MAX
unfolding renewed renewal end_of
renewed_within g forest t i late within small =
    let x = entry_at g.entries i in
    let l = capped_least x.ceiling (t + x.step) in
    let old = (read_range g forest i x within refl).end in
    elim (is_granted g.entries g.margin (end_of g.entries) t i) as (λ b. cond b (capped x.ceiling (t + x.step)) x.end ≤ END_MAX) [ true ↦ omega (arith, l, late, small) | false ↦ old ]

-- ---- the turns

-- the entries from k on are renewed, and the others are as they were
pub record IsRenewedFrom (g : Forest) (t k : ℕ) (h : Forest) : Type 0 where
  pub margin : h.margin ≡ g.margin
  pub count : length h.entries ≡ length g.entries
  pub before : (j : ℕ) → j < k → entry_at h.entries j ≡ entry_at g.entries j
  pub behind : (j : ℕ) → k ≤ j → j < length g.entries → entry_at h.entries j ≡ renewed_entry g t j

pub renewed_none : (g : Forest) (t : ℕ) → IsRenewedFrom g t (length g.entries) g
renewed_none g t = record { margin = refl; count = refl; before = λ j h. refl; behind = λ j h l. absurd (omega arith) }

pub renewed_turn : (g h : Forest) → ParentsFirst g.entries → (t i end : ℕ) → IsRenewedFrom g t (i + 1) h → i < length g.entries → end ≡ renewed h.entries h.margin (end_of h.entries) t i →
    IsRenewedFrom g t i (record h { entries = set h.entries i (record (entry_at h.entries i) { end = end }) })
renewed_turn g h first t i end so within is =
    let x : Entry = record (entry_at h.entries i) { end = end } in
    let count = so.count in
    let inside : i < length h.entries = omega arith in
    let new_end : end ≡ renewed g.entries g.margin (end_of g.entries) t i =
    is ∙ ap (λ m. renewed h.entries m (end_of h.entries) t i) so.margin ∙ renewed_same (i + 1) g.entries h.entries first so.before g.margin t i (omega arith) in
    let this : x ≡ renewed_entry g t i =
    ap (λ (e : Entry). record e { end = end }) (so.before i (omega arith)) ∙ ap (λ n. record (entry_at g.entries i) { end = n }) new_end in
    record {
      margin = so.margin;
      count = length-set h.entries i x ∙ so.count;
      before = λ j l. entry_at_set_other h.entries i j x (λ e. omega arith) ∙ so.before j (omega arith);
      behind = λ j l k. elim (cases_eq j i) [
        | inl here ↦ subst (λ n. entry_at (set h.entries i x) n ≡ renewed_entry g t n) (sym here) (entry_at_set_same h.entries i x inside ∙ this)
        | inr there ↦ entry_at_set_other h.entries i j x there ∙ so.behind j (omega arith) k
      ];
    }

pub renewed_whole : (g h : Forest) (t : ℕ) → IsRenewedFrom g t 0 h → h ≡ all_renewed g t
unfolding all_renewed entry_at
renewed_whole g h t so =
    let all : List Entry = map (renewed_entry g t) (range_with_len 0 (length g.entries)) in
    let long : length all ≡ length g.entries = length-map-range_with_len (renewed_entry g t) 0 (length g.entries) in
    let entries : h.entries ≡ all = ext_get_or no_entry h.entries all (so.count ∙ sym long)
    (λ j l. let inside : j < length g.entries = (let c = so.count in omega arith) in
    so.behind j (omega arith) inside ∙ sym (get_or-map-range_with_len (renewed_entry g t) 0 (length g.entries) j j no_entry inside (omega arith))) in
    ap (λ m. record { entries = h.entries; margin = m }) so.margin ∙ ap (λ es. record { entries = es; margin = g.margin }) entries
