-- Loads that are handed up: the own ones to begin with, one index less a turn, and in the end the carried needs.
use Rattle.std.proofs.Common.{◌≡◌, ◌≢◌, ◌==◌, ℕ, zero, suc, ◌+◌, ◌<◌, ◌≤◌, true, false, cond, List, length, length-set, map, set, Some, None, sym, ap, ◌∙◌, subst, arith, inl, inr}
use Rattle.std.proofs.lemmas.{Bool.cases_eq, Bool.cases_lt, Bool.Decides.nat_tests, List.length-map}
use Rattle.plan_forest.specs.{declared.entry.Entry.Entry, Forest.Forest, Forest.entry_at, Over.Over, Over.is_over, Carried.IsFrom, Carried.carried}
use Rattle.plan_forest.proofs.{Carrying.carried_at_least, Carrying.carried_is_of, Carrying.or_parts, Carrying.or_right, Carrying.over_up, Chains.ParentsFirst, Chains.cases_Option, Chains.over_child, Chains.over_root, Chains.over_self}
use Rattle.plan_forest.proofs.{Entries.entry_at_past}
use Rattle.plan_needs.specs.{declared.load.Load.Load, Carried.IsCarried, Carried.NamesFrom}
use Rattle.plan_needs.specs.{code.Loads.AllOwn, code.Loads.IsAtMost, code.Loads.IsHandedUp, code.Loads.IsHeavier, code.Loads.need_after, code.Loads.nth, code.Loads.own_load, code.Loads.seen_load}
use Rattle.plan_needs.proofs.Loads.{at_most_self, at_most_trans, load_seen, nth_set_other, nth_set_same}

-- a need after s is the own load's; an own load above 0 is a need after s
own_load_of : (es : List Entry) (s i : ℕ) → s < (entry_at es i).need → (own_load es s i).need ≡ (entry_at es i).need
unfolding need_after
own_load_of es s i later = grind (arith, nat_tests)

own_load_later : (es : List Entry) (s i : ℕ) → 0 < (own_load es s i).need → (s < (entry_at es i).need) × ((own_load es s i).need ≡ (entry_at es i).need)
unfolding need_after
own_load_later es s i above =
    elim (cases_lt s (entry_at es i).need) [
      | inl later ↦ (later, own_load_of es s i later)
      | inr early ↦ absurd (let none : need_after s (entry_at es i) ≡ 0 = grind (arith, nat_tests) in omega arith)
    ]

pub handed_first : (es : List Entry) (s : ℕ) (loads : List Load) → AllOwn es s loads → IsHandedUp es s (length es) loads
handed_first es s loads all = record {
  count = all.count;
  own = λ i within. subst (λ l. IsAtMost (own_load es s i) l) (sym (all.each i within)) (at_most_self (own_load es s i));
  child = λ c p past within. absurd (omega arith);
  is_of = λ i within.
      let same = all.each i within in
      let here : (nth loads i).from ≡ i = ap (λ (l : Load). l.from) same in (
        subst (λ f. Over es i f) (sym here) (over_self es i),
        ap (λ (l : Load). l.need) same ∙ ap (λ f. (own_load es s f).need) (sym here),
      );
}

-- nothing is handed up by a root
pub handed_root : (es : List Entry) (s i : ℕ) (loads : List Load) → (entry_at es i).parent ≡ None → IsHandedUp es s (i + 1) loads → IsHandedUp es s i loads
handed_root es s i loads root up = record {
  count = up.count;
  own = up.own;
  child = λ c p from within is_parent. elim (cases_eq c i) [
    | inl here ↦ absurd (let none : (entry_at es c).parent ≡ None = ap (λ k. (entry_at es k).parent) here ∙ root in cc)
    | inr other ↦ up.child c p (omega arith) within is_parent
  ];
  is_of = up.is_of;
}

-- what is at an index after p was set
at_set : (P : ℕ → Load → Type 0) (loads : List Load) (p : ℕ) (h : Load) → p < length loads → P p h → ((j : ℕ) → j ≢ p → P j (nth loads j)) → (j : ℕ) → P j (nth (set loads p h) j)
at_set P loads p h within here others j =
    elim (cases_eq j p) [
      | inl same ↦ subst (λ k. P k (nth (set loads p h) k)) (sym same) (subst (P p) (sym (nth_set_same loads p h within)) here)
      | inr other ↦ subst (P j) (sym (nth_set_other loads p j h other)) (others j other)
    ]

-- the heavier one of its own and of i's load is what the parent has next
pub handed_child :
    (es : List Entry) (s i p : ℕ) (loads : List Load) (h : Load) → ParentsFirst es → i < length es → (entry_at es i).parent ≡ Some p →
    IsHandedUp es s (i + 1) loads → IsHeavier (nth loads p) (nth loads i) h → IsHandedUp es s i (set loads p h)
handed_child es s i p loads h first within is_parent up heavier =
    let below : p < i = first i p is_parent in
    let count = up.count in
    let there : p < length loads = omega arith in
    record {
      count = length-set loads p h ∙ up.count;
      own = λ j in_es. at_set (λ k l. k < length es → IsAtMost (own_load es s k) l) loads p h there
          (λ in'. at_most_trans (own_load es s p) (nth loads p) h (up.own p in') heavier.left)
          (λ k _ in'. up.own k in') j in_es;
      child = λ c q from in_es is_child.
          let apart : c ≢ p = λ same. absurd (omega arith) in
          subst (λ l. IsAtMost l (nth (set loads p h) q)) (sym (nth_set_other loads p c h apart)) (
          at_set (λ k l. (entry_at es c).parent ≡ Some k → IsAtMost (nth loads c) l) loads p h there
          (λ its. elim (cases_eq c i) [
            | inl here ↦ subst (λ k. IsAtMost (nth loads k) h) (sym here) heavier.right
            | inr other ↦ at_most_trans (nth loads c) (nth loads p) h (up.child c p (omega arith) in_es its) heavier.left
          ])
          (λ k other its. elim (cases_eq c i) [
            | inl here ↦ absurd (let same : Some k ≡ Some p = sym its ∙ ap (λ n. (entry_at es n).parent) here ∙ is_parent in let e : k ≡ p = cc in other e)
            | inr later ↦ up.child c k (omega arith) in_es its
          ])
          q is_child);
      is_of = λ j in_es. at_set (λ k l. k < length es → Over es k l.from × (l.need ≡ (own_load es s l.from).need)) loads p h there
          (λ in'. elim heavier.one [
            | inl old ↦ subst (λ (l : Load). Over es p l.from × (l.need ≡ (own_load es s l.from).need)) (sym old) (up.is_of p in')
            | inr new ↦ subst (λ (l : Load). Over es p l.from × (l.need ≡ (own_load es s l.from).need)) (sym new)
                (let of_i = up.is_of i within in
                let over_i : Over es p i = over_child es p i p first is_parent ∙ or_right (i == p) (is_over es p p) (over_self es p) in
                (over_up es first (suc (nth loads i).from) p i (nth loads i).from (omega arith) over_i of_i.0, of_i.1))
          ])
          (λ k _ in'. up.is_of k in') j in_es;
    }

-- in the end what is over an entry carries at least what the entry does
up_the_chain : (es : List Entry) (s : ℕ) (loads : List Load) → ParentsFirst es → IsHandedUp es s 0 loads → (n i f : ℕ) → f < n → f < length es → Over es i f → IsAtMost (nth loads f) (nth loads i)
up_the_chain es s loads first up zero i f h within over = absurd (omega arith)
up_the_chain es s loads first up (suc n) i f h within over =
    let Goal : Type 0 = IsAtMost (nth loads f) (nth loads i) in
    let at_itself : (f == i) ≡ true → Goal = λ same. (let e : f ≡ i = grind (arith, nat_tests) in subst (λ k. IsAtMost (nth loads f) (nth loads k)) e (at_most_self (nth loads f))) in
    cases_Option (entry_at es f).parent Goal
    (λ root. at_itself (sym (over_root es i f root) ∙ over))
    (λ p child.
    let below : p < f = first f p child in
    or_parts (f == i) (is_over es i p) Goal (sym (over_child es i f p first child) ∙ over) at_itself
    (λ up'. at_most_trans (nth loads f) (nth loads p) (nth loads i) (up.child f p (omega arith) within child) (up_the_chain es s loads first up n i p (omega arith) (omega arith) up')))

-- an entry's load weighs at least as much as each need after s that it carries
weighs : (es : List Entry) (s : ℕ) (loads : List Load) → ParentsFirst es → IsHandedUp es s 0 loads → (i f : ℕ) → Over es i f → s < (entry_at es f).need → IsAtMost (own_load es s f) (nth loads i)
weighs es s loads first up i f over later =
    elim (cases_lt f (length es)) [
      | inl within ↦ at_most_trans (own_load es s f) (nth loads f) (nth loads i) (up.own f within) (up_the_chain es s loads first up (suc f) i f (omega arith) within over)
      | inr past ↦ absurd (let none : (entry_at es f).need ≡ 0 = ap (λ (e : Entry). e.need) (entry_at_past es f past) in omega arith)
    ]

need_is_carried : (es : List Entry) (s : ℕ) (loads : List Load) → ParentsFirst es → IsHandedUp es s 0 loads → (i : ℕ) → i < length es → (nth loads i).need ≡ carried es s i
need_is_carried es s loads first up i within =
    let l = nth loads i in
    let least : carried es s i ≤ l.need = elim (cases_lt l.need (carried es s i)) [
      | inl less ↦
          let f = carried_is_of es s i l.need less in
          let most = (weighs es s loads first up i f.0 f.1 f.2).need in
          let own = own_load_of es s f.0 f.2 in
          let more : l.need < (entry_at es f.0).need = f.3 in
          absurd (omega arith)
      | inr enough ↦ enough
    ] in
    let most : l.need ≤ carried es s i = elim (cases_eq l.need 0) [
      | inl none ↦ omega arith
      | inr some ↦
          let of_i = up.is_of i within in
          let same : l.need ≡ (own_load es s l.from).need = of_i.1 in
          let own = own_load_later es s l.from (omega arith) in
          let at_least : (entry_at es l.from).need ≤ carried es s i = carried_at_least es s i l.from of_i.0 own.0 in
          let own_is : (own_load es s l.from).need ≡ (entry_at es l.from).need = own.1 in
          omega arith
    ] in
    omega arith

is_from : (es : List Entry) (s : ℕ) (loads : List Load) → ParentsFirst es → IsHandedUp es s 0 loads → (i : ℕ) → i < length es → 0 < (nth loads i).need → IsFrom es s i (nth loads i).from
is_from es s loads first up i within above =
    let l = nth loads i in
    let of_i = up.is_of i within in
    let same : l.need ≡ (own_load es s l.from).need = of_i.1 in
    let is : l.need ≡ carried es s i = need_is_carried es s loads first up i within in
    let own = own_load_later es s l.from (omega arith) in
    let own_is : (own_load es s l.from).need ≡ (entry_at es l.from).need = own.1 in
    let later : s < (entry_at es l.from).need = own.0 in
    record {
      over = of_i.0;
      need = omega arith;
      lowest = λ f over need.
          let f_later : s < (entry_at es f).need = omega arith in
          let weight = weighs es s loads first up i f over f_later in
          let equal : (own_load es s f).need ≡ l.need = own_load_of es s f f_later ∙ need ∙ sym is in
          let lower : l.from ≤ f = weight.from equal in
          omega arith;
    }

names_from : (es : List Entry) (s i need from : ℕ) → need ≡ carried es s i → (0 < need → IsFrom es s i from) → NamesFrom es s i (cond (need == 0) None (Some from))
names_from es s i zero from same is = sym same
names_from es s i (suc n) from same is =
    let above : (suc n == 0) ≡ false = grind (arith, nat_tests) in
    subst (λ none. NamesFrom es s i (cond none None (Some from))) (sym above) (omega arith, is (omega arith))

pub handed_is_carried : (g : Forest) (s : ℕ) (loads : List Load) → ParentsFirst g.entries → IsHandedUp g.entries s 0 loads → IsCarried g s (map seen_load loads)
handed_is_carried g s loads first up =
    let count = up.count in
    record {
      count = length-map loads seen_load ∙ up.count;
      need = λ i within. ap (λ l. l.need) (load_seen loads i (omega arith)) ∙ need_is_carried g.entries s loads first up i within;
      from = λ i within. subst (λ l. NamesFrom g.entries s i l.from) (sym (load_seen loads i (omega arith)))
          (names_from g.entries s i (nth loads i).need (nth loads i).from (need_is_carried g.entries s loads first up i within) (is_from g.entries s loads first up i within));
    }
