-- Needs that are kept, and no longer than they can be: for the laws of needs.
use Rattle.std.proofs.Common.{◌≡◌, ◌==◌, ℕ, zero, suc, ◌+◌, ◌<◌, ◌≤◌, ◌&&◌, Bool, true, false, cond, List, [], ◌∷◌, Option, Some, None, filter, length, map, max, nat_le, option_map, refl, sym, ap, ◌∙◌, subst, arith, inl, inr}
use Rattle.std.proofs.lemmas.{Bool.Decides.nat_tests, List.ext_get_or, List.Elements.All-cons, List.Elements.All-nil}
use Rattle.std.proofs.lemmas.Bool.{cases_Bool, cases_eq, cases_lt, cond-true, cond-false}
use Rattle.std.specs.List.{All, Contains, range_with_len}
use Rattle.plan_forest.specs.{declared.entry.Entry.Entry, Over.Over, Push.IsForest}
use Rattle.plan_forest.specs.Forest.{Forest, end_of, entry_at, no_entry}
use Rattle.plan_forest.proofs.{Entries.entry_at_past, Placed.parents_first}
use Rattle.plan_rule.specs.{declared.wake.Wake.Wake, Keeps.Keeps, Plans.IsPlan, Reach.reach, Reach.reach_of, Unkeepable.AllKeepable}
use Rattle.plan_rule.proofs.{Existence.there_is_one, Keeping.unkeepable, Schedule.schedule_is_best}
use Rattle.tick_keeper.specs.code.Passes.{needing}
use Rattle.tick_keeper.specs.LawsOfNeeds.{IsKeptTo, IsShortened, KeepableLaw, PlannableLaw, ShortenedLaw, UnchangedLaw}
use Rattle.tick_keeper.specs.Shorten.{is_short, need_left, pair_of, pairs, shorten}
use Rattle.tick_keeper.proofs.Alike.{ends_at_alike, over_alike, reach_alike}
use Rattle.tick_keeper.proofs.Needing.{length_needing, needing_alike, needing_at}
use Rattle.tick_keeper.proofs.Shortening.{cut_parts, least_reach_is, left_as_it_was, need_past, needed_within, shorten_alike, shorten_at, shorten_count, shorten_ends, shorten_entries, shorten_forest, shorten_is, shorten_keepable, shorten_margin}

-- an end is at most its reach
end_within : (es : List Entry) (margin s : ℕ) (ends : ℕ → ℕ) (i most : ℕ) → reach es margin s ends i ≡ Some most → ends i ≤ most
unfolding reach reach_of
end_within es margin s ends i most is = by_test ((entry_at es i).renewable && nat_le (s + margin) (ends i)) (entry_at es i).ceiling (ends i) is where
  by_test : (b : Bool) (ceiling : Option ℕ) (end : ℕ) → cond b (option_map (λ c. max end c) ceiling) (Some end) ≡ Some most → end ≤ most
  by_test true None end e = absurd cc
  by_test true (Some c) end e = let k : max end c ≡ most = cc in omega arith
  by_test false ceiling end e = let k : end ≡ most = cc in omega arith

-- no plan from t keeps i to a moment that comes after t and after the reach of an entry over it
not_kept_past :
    (g : Forest) → IsForest g → (t i above most m : ℕ) → i < length g.entries → Over g.entries above i → reach g.entries g.margin t (end_of g.entries) above ≡ Some most →
    t < m → most < m → (plan : List Wake) → IsPlan t plan → IsKeptTo g t plan i m → ⊥
not_kept_past g forest t i above most m within over reaches later past plan in_order kept =
    let es = g.entries in
    let ends = end_of es in
    let f : ℕ → ℕ = λ j. cond (j == i) m 0 in
    let fs = needing es f in
    let alike = needing_alike es (parents_first g forest) f in
    let here : (i == i) ≡ true = grind (arith, nat_tests) in
    let need : (entry_at fs i).need ≡ m = ap (λ (e : Entry). e.need) (needing_at es f i within) ∙ cond-true (i == i) m 0 here in
    let keeps : Keeps fs g.margin t ends plan = λ j n from before a on. elim (cases_eq j i) [
      | inl same ↦
          let at_i : n < (entry_at fs i).need = subst (λ k. n < (entry_at fs k).need) same before in
          let on_i : Over fs a i = subst (λ k. Over fs a k) same on in
          subst (λ (e : ℕ → ℕ). n < e a) (sym (ends_at_alike es fs alike g.margin ends plan n))
          (kept n from (omega arith) a (sym (over_alike es fs alike a i) ∙ on_i))
      | inr other ↦ elim (cases_lt j (length es)) [
        | inl inside ↦ absurd (
            let miss : (j == i) ≡ false = grind (arith, nat_tests) in
            let none : (entry_at fs j).need ≡ 0 = ap (λ (e : Entry). e.need) (needing_at es f j inside) ∙ cond-false (j == i) m 0 miss in
            omega arith)
        | inr outside ↦ absurd (let none = need_past fs j (let l = length_needing es f in omega arith) in omega arith)
      ]
    ] in
    unkeepable fs g.margin t ends above i
    (record {
      over = over_alike es fs alike above i ∙ over;
      later = omega arith;
      most = most;
      reaches = reach_alike es fs alike g.margin t ends above ∙ reaches;
      short = omega arith;
    }) plan in_order keeps

-- each element that a filter of a range keeps, and that is mapped
each_picked : {X : Type 0} (P : X → Type 0) (f : ℕ → X) (p : ℕ → Bool) (n a : ℕ) → ((i : ℕ) → i < a + n → p i ≡ true → P (f i)) → All P (map f (filter p (range_with_len a n)))
each_picked P f p zero a each = All-nil P
each_picked P f p (suc n) a each =
    let rest = each_picked P f p n (a + 1) (λ i h picked. each i (omega arith) picked) in
    elim (cases_Bool (p a)) [
      | inl picked ↦ subst (λ b. All P (map f (cond b (a ∷ filter p (range_with_len (a + 1) n)) (filter p (range_with_len (a + 1) n))))) (sym picked)
          (All-cons P (f a) (map f (filter p (range_with_len (a + 1) n))) (each a (omega arith) picked) rest)
      | inr left ↦ subst (λ b. All P (map f (cond b (a ∷ filter p (range_with_len (a + 1) n)) (filter p (range_with_len (a + 1) n))))) (sym left) rest
    ]

-- there is a least and latest plan after shortening
pub plannable : PlannableLaw
plannable g t forest =
    let h = shorten g t in
    let is_forest = shorten_forest g forest t in
    let keepable = shorten_keepable g forest t in
    let schedule = there_is_one h t (end_of h.entries) is_forest keepable in
    (is_forest, (keepable, (schedule.0, (schedule_is_best h t (end_of h.entries) is_forest keepable schedule.0 schedule.1).1.1.1)))

one_shortened : (g : Forest) (t : ℕ) → IsForest g → (i : ℕ) → i < length g.entries → is_short g t i ≡ true → IsShortened g (shorten g t) t (pair_of g t i)
one_shortened g t forest i within short =
    let es = g.entries in
    let h = shorten g t in
    let c = cut_parts g t i short in
    let left : need_left g t i ≡ c.most = c.left in
    let less : c.most < (entry_at es i).need = c.less in
    let alike = shorten_alike g forest t in
    let is_forest = shorten_forest g forest t in
    let in_force : (entry_at h.entries i).need ≡ need_left g t i = ap (λ (e : Entry). e.need) (shorten_at g t i within) in
    let found = least_reach_is g t i c.most c.least in
    let over : Over h.entries found.0 i = over_alike es h.entries alike found.0 i ∙ found.1 in
    let reaches : reach h.entries h.margin t (end_of h.entries) found.0 ≡ Some c.most =
    ap (λ margin. reach h.entries margin t (end_of h.entries) found.0) (shorten_margin g t) ∙ ap (λ ends. reach h.entries g.margin t ends found.0) (shorten_ends g t)
    ∙ reach_alike es h.entries alike g.margin t (end_of es) found.0 ∙ found.2 in
    let inside : i < length h.entries = (let l = shorten_count g t in omega arith) in
    let best = (plannable g t forest).1.1 in
    record {
      within = within;
      later = c.later;
      less = omega arith;
      in_force = in_force;
      kept = λ after. (best.1.plan, (best.1.in_order, (best.1.kept, λ m from before. best.1.kept i m from (omega arith))));
      no_longer = λ after plan in_order kept. not_kept_past h is_forest t i found.0 c.most (need_left g t i + 1) inside over reaches (omega arith) (omega arith) plan in_order kept;
      gone = λ ended alive. (let end = end_within h.entries h.margin t (end_of h.entries) found.0 c.most reaches in let lives : t < end_of h.entries found.0 = alive found.0 over in absurd (omega arith));
      never = λ ended plan in_order m later kept. not_kept_past h is_forest t i found.0 c.most m inside over reaches later (omega arith) plan in_order kept;
    }

pub shortened : ShortenedLaw
unfolding pairs
shortened g t forest =
    each_picked (IsShortened g (shorten g t) t) (pair_of g t) (is_short g t) (length g.entries) 0 (λ i h picked. one_shortened g t forest i (omega arith) picked)

-- where no pair is Unkeepable, nothing is shortened
nothing_short : (g : Forest) (t : ℕ) → AllKeepable g t (end_of g.entries) → (i : ℕ) → is_short g t i ≡ false
nothing_short g t keepable i =
    elim (cases_Bool (is_short g t i)) [
      | inr whole ↦ whole
      | inl short ↦ absurd (
          let c = cut_parts g t i short in
          let found = least_reach_is g t i c.most c.least in
          keepable found.0 i (record { over = found.1; later = c.later; most = c.most; reaches = found.2; short = c.less }))
    ]

none_picked : (p : ℕ → Bool) (n a : ℕ) → ((i : ℕ) → p i ≡ false) → filter p (range_with_len a n) ≡ []
none_picked p zero a none = refl
none_picked p (suc n) a none = ap (λ b. cond b (a ∷ filter p (range_with_len (a + 1) n)) (filter p (range_with_len (a + 1) n))) (none a) ∙ none_picked p n (a + 1) none

-- an entry whose need is not shortened is as it was
whole_at : (g : Forest) (t i : ℕ) → is_short g t i ≡ false → entry_at (shorten g t).entries i ≡ entry_at g.entries i
whole_at g t i whole =
    elim (cases_lt i (length g.entries)) [
      | inl within ↦ shorten_at g t i within ∙ ap (λ n. record (entry_at g.entries i) { need = n }) (left_as_it_was g t i whole)
      | inr past ↦ entry_at_past (shorten g t).entries i (let l = shorten_count g t in omega arith) ∙ sym (entry_at_past g.entries i past)
    ]

pub same_entries : (es fs : List Entry) → length es ≡ length fs → ((i : ℕ) → entry_at es i ≡ entry_at fs i) → es ≡ fs
unfolding entry_at
same_entries es fs count same = ext_get_or no_entry es fs count (λ k h. same k)

pub keepable : KeepableLaw
unfolding pairs
keepable g t all =
    let none = nothing_short g t all in
    let entries : (shorten g t).entries ≡ g.entries = same_entries (shorten g t).entries g.entries (shorten_count g t) (λ i. whole_at g t i (none i)) in (
      shorten_is g t ∙ ap (λ es. record { entries = es; margin = g.margin }) (sym (shorten_entries g t) ∙ entries),
      ap (map (pair_of g t)) (none_picked (is_short g t) (length g.entries) 0 none),
    )

has_picked : {X : Type 0} (f : ℕ → X) (p : ℕ → Bool) (n a i : ℕ) → a ≤ i → i < a + n → p i ≡ true → Contains (map f (filter p (range_with_len a n))) (f i)
has_picked f p zero a i low high picked = absurd (omega arith)
has_picked f p (suc n) a i low high picked =
    let rest = filter p (range_with_len (a + 1) n) in
    let Goal : Bool → Type 0 = λ b. Contains (map f (cond b (a ∷ rest) rest)) (f i) in
    elim (cases_eq a i) [
      | inl same ↦ subst Goal (sym (ap p same ∙ picked)) (0, omega arith, ap f same)
      | inr other ↦
          let there = has_picked f p n (a + 1) i (omega arith) (omega arith) picked in
          elim (cases_Bool (p a)) [
            | inl yes' ↦ subst Goal (sym yes') (suc there.0, (let l = there.1 in omega arith), there.2)
            | inr no' ↦ subst Goal (sym no') there
          ]
    ]

pub unchanged : UnchangedLaw
unfolding pairs
unchanged g t = (
  shorten_count g t,
  (
    λ i. elim (cases_lt i (length g.entries)) [
      | inl within ↦
          let is = shorten_at g t i within in
          is ∙ ap (λ n. record (entry_at g.entries i) { need = n }) (sym (ap (λ (e : Entry). e.need) is))
      | inr past ↦
          let is : entry_at (shorten g t).entries i ≡ entry_at g.entries i = entry_at_past (shorten g t).entries i (let l = shorten_count g t in omega arith) ∙ sym (entry_at_past g.entries i past) in
          is ∙ ap (λ n. record (entry_at g.entries i) { need = n }) (sym (ap (λ (e : Entry). e.need) is))
    ],
    λ i none. elim (cases_Bool (is_short g t i)) [
      | inr whole ↦ whole_at g t i whole
      | inl short ↦ absurd (none (need_left g t i) (has_picked (pair_of g t) (is_short g t) (length g.entries) 0 i (omega arith)
          (let c = cut_parts g t i short in let l = needed_within g.entries t i c.later in omega arith) short))
    ],
  ),
)
