-- Always: needs that are always, as they are set and as they are kept.
use Rattle.std.proofs.Common.{◌≡◌, ℕ, ◌<◌, ◌≤◌, Bool, true, false, cond, List, Option, Some, None, length, get_or, map, min, refl, sym, ap, ◌∙◌, subst, arith, inl, inr}
use Rattle.std.proofs.lemmas.List.FromFn.{get_or-map-range_with_len, length-map-range_with_len}
use Rattle.std.proofs.lemmas.Bool.{cases_Bool, cases_lt, cond-true, cond-false}
use Rattle.std.proofs.Math.Path.{fun_ext}
use Rattle.std.specs.List.{range_with_len}
use Rattle.base_moment.specs.declared.moment.TheConstants.{LAST}
use Rattle.plan_forest.specs.{declared.entry.Entry.Entry, Over.Over, Push.IsForest}
use Rattle.plan_forest.specs.Forest.{Forest, end_of, entry_at}
use Rattle.plan_forest.proofs.Placed.{parents_first}
use Rattle.plan_rule.proofs.Lists.{need_within}
use Rattle.plan_rule.specs.{Reach.reach, Unkeepable.AllKeepable}
use Rattle.tick_keeper.specs.{LawsOfSteps.IsShaped, Shorten.is_short, Shorten.least_reach, code.Passes.needing}
use Rattle.tick_keeper.specs.Always.{AlwaysLaw, NeverLaw, entry_from, forest_from, is_always_needed, need_from, needs_from, until_reach}
use Rattle.tick_keeper.proofs.Passing.{needing_same}
use Rattle.tick_keeper.proofs.Alike.{Alike, over_alike, reach_alike}
use Rattle.tick_keeper.proofs.Needing.{length_needing, needing_alike, needing_at, needing_end, needing_forest, needing_past}
use Rattle.tick_keeper.proofs.Shortening.{cut_parts, least_reach_is, least_reach_most, need_past}

pub from_is : (g : Forest) (always : List Bool) (s : ℕ) → forest_from g always s ≡ record { entries = needing g.entries (need_from g always s); margin = g.margin }
unfolding forest_from entry_from needing
from_is g always s = refl

-- a list of these needs, set one after the other
pub all_from : (g : Forest) (always : List Bool) (s : ℕ) (needs : List ℕ) → needs ≡ needs_from g always s → record { entries = needing g.entries (λ i. get_or needs i 0); margin = g.margin } ≡ forest_from g always s
unfolding needs_from
all_from g always s needs are =
    let f = need_from g always s in
    ap (λ es. record { entries = es; margin = g.margin })
    (needing_same g.entries (needing g.entries f) (λ i. get_or needs i 0) (sym (length_needing g.entries f))
    (λ i within. needing_at g.entries f i within
    ∙ ap (λ k. record (entry_at g.entries i) { need = k }) (sym (ap (λ ns. get_or ns i 0) are ∙ get_or-map-range_with_len f 0 (length g.entries) i i 0 within (omega arith)))))
    ∙ sym (from_is g always s)

pub needs_count : (g : Forest) (always : List Bool) (s : ℕ) → length (needs_from g always s) ≡ length g.entries
unfolding needs_from
needs_count g always s = length-map-range_with_len (need_from g always s) 0 (length g.entries)

until_last : (o : Option ℕ) (s : ℕ) → until_reach o s ≤ LAST
until_last None s = omega arith
until_last (Some most) s = omega arith

need_from_last : (g : Forest) → IsForest g → (always : List Bool) (s i : ℕ) → need_from g always s i ≤ LAST
unfolding need_from
need_from_last g forest always s i =
    elim (cases_Bool (is_always_needed always i)) [
      | inl marked ↦ subst (λ n. n ≤ LAST) (sym (cond-true (is_always_needed always i) (until_reach (least_reach g s i) s) (entry_at g.entries i).need marked)) (until_last (least_reach g s i) s)
      | inr other ↦ subst (λ n. n ≤ LAST) (sym (cond-false (is_always_needed always i) (until_reach (least_reach g s i) s) (entry_at g.entries i).need other)) (need_within g forest i)
    ]

from_forest : (g : Forest) → IsForest g → (always : List Bool) (s : ℕ) → IsForest (forest_from g always s)
from_forest g forest always s = subst IsForest (sym (from_is g always s)) (needing_forest g forest (need_from g always s) (need_from_last g forest always s))

-- the forest from a start on has the entries of the one before, but for their needs
pub shaped_from : (g : Forest) (always : List Bool) (s : ℕ) → IsShaped g (forest_from g always s)
shaped_from g always s =
    let f = need_from g always s in
    let es = g.entries in
    subst (IsShaped g) (sym (from_is g always s)) (record {
      margin = refl;
      count = length_needing es f;
      each = λ i.
          let e = entry_at es i in
          elim (cases_lt i (length es)) [
            | inl within ↦ let is = needing_at es f i within in is ∙ sym (ap (λ (x : Entry). record e { end = x.end; renewable = x.renewable; need = x.need }) is)
            | inr past ↦ let is = needing_past es f i past in is ∙ sym (ap (λ (x : Entry). record e { end = x.end; renewable = x.renewable; need = x.need }) is)
          ];
    })

pub never_law : NeverLaw
unfolding need_from
never_law g always s never =
    from_is g always s ∙ ap (λ es. record { entries = es; margin = g.margin })
    (needing_same g.entries g.entries (need_from g always s) refl
    (λ i within. ap (λ n. record (entry_at g.entries i) { need = n }) (sym (cond-false (is_always_needed always i) (until_reach (least_reach g s i) s) (entry_at g.entries i).need (never i)))))

-- ---- the forest from a start on reaches as far as the one before

module _ (g : Forest) (forest : IsForest g) (always : List Bool) (s : ℕ) where
  abbrev later : Forest
  later = record { entries = needing g.entries (need_from g always s); margin = g.margin }

  alike : Alike g.entries later.entries
  alike = needing_alike g.entries (parents_first g forest) (need_from g always s)

  same_ends : end_of later.entries ≡ end_of g.entries
  unfolding end_of
  same_ends = fun_ext (λ i. needing_end g.entries (need_from g always s) i)

  need_there : (i : ℕ) → i < length g.entries → (entry_at later.entries i).need ≡ need_from g always s i
  need_there i within = ap (λ (e : Entry). e.need) (needing_at g.entries (need_from g always s) i within)

  marked_need : (i most : ℕ) → is_always_needed always i ≡ true → least_reach g s i ≡ Some most → need_from g always s i ≤ most
  unfolding need_from
  marked_need i most marked least =
      let is : need_from g always s i ≡ min most LAST =
      cond-true (is_always_needed always i) (until_reach (least_reach g s i) s) (entry_at g.entries i).need marked ∙ ap (λ o. until_reach o s) least in omega (arith, is)

  -- a need that is always is within each reach over its entry
  within_reach : (i a most : ℕ) → is_always_needed always i ≡ true → Over later.entries a i → reach later.entries later.margin s (end_of later.entries) a ≡ Some most → (entry_at later.entries i).need ≤ most
  within_reach i a most marked over reaches =
      let es = g.entries in
      let fs = later.entries in
      let over_then : Over es a i = sym (over_alike es fs alike a i) ∙ over in
      let reach_then : reach es g.margin s (end_of es) a ≡ Some most = sym (reach_alike es fs alike g.margin s (end_of es) a) ∙ ap (λ ends. reach fs g.margin s ends a) (sym same_ends) ∙ reaches in
      let least = least_reach_most g s i a most over_then reach_then in
      let at_most = least.2 in
      elim (cases_lt i (length es)) [
        | inl within ↦ let is = need_there i within in let l = marked_need i least.0 marked least.1 in omega (arith, is, l, at_most)
        | inr past ↦ let none = need_past fs i (let l = length_needing es (need_from g always s) in omega (arith, l, past)) in omega (arith, none)
      ]

  never_short : (i : ℕ) → is_always_needed always i ≡ true → is_short later s i ≡ false
  never_short i marked =
      elim (cases_Bool (is_short later s i)) [
        | inr whole ↦ whole
        | inl short ↦
            let c = cut_parts later s i short in
            let by = least_reach_is later s i c.most c.least in
            let l = within_reach i by.0 c.most marked by.1 by.2 in
            absurd (let k = c.less in omega (arith, k, l))
      ]

  other_need : (i : ℕ) → is_always_needed always i ≡ false → (entry_at g.entries i).need ≤ s → (entry_at later.entries i).need ≤ s
  unfolding need_from
  other_need i other early =
      elim (cases_lt i (length g.entries)) [
        | inl within ↦
            let is = need_there i within ∙ cond-false (is_always_needed always i) (until_reach (least_reach g s i) s) (entry_at g.entries i).need other in omega (arith, is, early)
        | inr past ↦ let none = need_past later.entries i (let l = length_needing g.entries (need_from g always s) in omega (arith, l, past)) in omega (arith, none)
      ]

  all_keepable : ((i : ℕ) → is_always_needed always i ≡ false → (entry_at g.entries i).need ≤ s) → AllKeepable later s (end_of later.entries)
  all_keepable early entry needed pair =
      let after : s < (entry_at later.entries needed).need = pair.later in
      let short : pair.most < (entry_at later.entries needed).need = pair.short in
      elim (cases_Bool (is_always_needed always needed)) [
        | inl marked ↦ let l = within_reach needed entry pair.most marked pair.over pair.reaches in omega (arith, l, short)
        | inr other ↦ let l = other_need needed other (early needed other) in omega (arith, l, after)
      ]

pub always_law : AlwaysLaw
always_law g always s forest =
    let is = sym (from_is g always s) in (
      from_forest g forest always s,
      (λ i marked. subst (λ (h : Forest). is_short h s i ≡ false) is (never_short g forest always s i marked)),
      (λ early. subst (λ (h : Forest). AllKeepable h s (end_of h.entries)) is (all_keepable g forest always s early)),
    )
