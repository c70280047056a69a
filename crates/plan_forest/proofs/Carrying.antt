-- The carried need: it is at least each need that it carries, it is one of them, and it grows up the tree.
use Rattle.std.proofs.Common.{◌≡◌, ℕ, zero, suc, ◌<◌, ◌≤◌, ◌&&◌, ◌||◌, ◌==◌, Bool, true, false, List, length, max, nat_lt, refl, sym, ap, ◌∙◌, subst, arith, inl, inr}
use Rattle.std.proofs.lemmas.{Bool.and_from, Bool.and_parts, Bool.cases_Bool, Bool.cases_eq, Bool.cases_lt, Bool.cond-true, Bool.cond-false, Bool.Decides.nat_tests}
pub use Rattle.std.proofs.lemmas.Bool.{or_left, or_right}
use Rattle.plan_forest.specs.{declared.entry.Entry.Entry, Forest.entry_at, Over.Over, Over.is_over, Carried.carried, Carried.carried_of}
use Rattle.plan_forest.proofs.{Chains.ParentsFirst, Chains.cases_Option, Chains.over_child, Chains.over_root, Entries.entry_at_past}

pub or_parts : (a b : Bool) (P : Type 0) → a || b ≡ true → (a ≡ true → P) → (b ≡ true → P) → P
or_parts true b P e left right = left refl
or_parts false b P e left right = right e

pub and_left : (a b : Bool) → a && b ≡ true → a ≡ true
and_left a b e = (and_parts a b e).0

pub and_right : (a b : Bool) → a && b ≡ true → b ≡ true
and_right a b e = (and_parts a b e).1

carried_least : (es : List Entry) (s i n f : ℕ) → f < n → Over es i f → s < (entry_at es f).need → (entry_at es f).need ≤ carried_of es s i n
unfolding carried_of
carried_least es s i zero f h over later = absurd (omega arith)
carried_least es s i (suc n) f h over later =
    let need = (entry_at es n).need in
    let test = is_over es i n && nat_lt s need in
    elim (cases_eq f n) [
      | inl same ↦
          let here : test ≡ true = and_from (is_over es i n) (nat_lt s need) (subst (λ k. is_over es i k ≡ true) same over) (let l : s < need = subst (λ k. s < (entry_at es k).need) same later in grind (arith, nat_tests)) in
          let is = cond-true test (max (carried_of es s i n) need) (carried_of es s i n) here in
          let e : (entry_at es f).need ≡ need = ap (λ k. (entry_at es k).need) same in
          omega (arith, is)
      | inr other ↦
          let rest = carried_least es s i n f (omega arith) over later in
          elim (cases_Bool test) [
            | inl yes' ↦ let is = cond-true test (max (carried_of es s i n) need) (carried_of es s i n) yes' in omega (arith, is)
            | inr no' ↦ let is = cond-false test (max (carried_of es s i n) need) (carried_of es s i n) no' in omega (arith, is)
          ]
    ]

-- the carried need is that of an entry, where it is above a number
carried_from : (es : List Entry) (s i n b : ℕ) → b < carried_of es s i n → (f : ℕ) × Over es i f × (s < (entry_at es f).need) × (b < (entry_at es f).need)
unfolding carried_of
carried_from es s i zero b h = absurd (omega arith)
carried_from es s i (suc n) b h =
    let need = (entry_at es n).need in
    let test = is_over es i n && nat_lt s need in
    elim (cases_Bool test) [
      | inl yes' ↦
          let is = cond-true test (max (carried_of es s i n) need) (carried_of es s i n) yes' in
          let two = and_parts (is_over es i n) (nat_lt s need) yes' in
          elim (cases_lt b need) [
            | inl here ↦ (n, two.0, (let t : nat_lt s need ≡ true = two.1 in grind (arith, nat_tests)), here)
            | inr below ↦ carried_from es s i n b (omega (arith, is))
          ]
      | inr no' ↦ let is = cond-false test (max (carried_of es s i n) need) (carried_of es s i n) no' in carried_from es s i n b (omega (arith, is))
    ]

-- it is at least each need after s that it carries
pub carried_at_least : (es : List Entry) (s i f : ℕ) → Over es i f → s < (entry_at es f).need → (entry_at es f).need ≤ carried es s i
unfolding carried
carried_at_least es s i f over later =
    elim (cases_lt f (length es)) [
      | inl within ↦ carried_least es s i (length es) f within over later
      | inr past ↦ let none : (entry_at es f).need ≡ 0 = ap (λ (e : Entry). e.need) (entry_at_past es f past) in omega arith
    ]

-- it is one of them, where it is more than some number
pub carried_is_of : (es : List Entry) (s i b : ℕ) → b < carried es s i → (f : ℕ) × Over es i f × (s < (entry_at es f).need) × (b < (entry_at es f).need)
unfolding carried
carried_is_of es s i b h = carried_from es s i (length es) b h

-- what is over what is over an entry is over the entry
pub over_up : (es : List Entry) → ParentsFirst es → (n a i f : ℕ) → f < n → Over es a i → Over es i f → Over es a f
over_up es first zero a i f h up down = absurd (omega arith)
over_up es first (suc n) a i f h up down =
    cases_Option (entry_at es f).parent (Over es a f)
    (λ root. let same : (f == i) ≡ true = sym (over_root es i f root) ∙ down in
    let e : f ≡ i = grind (arith, nat_tests) in
    subst (λ k. Over es a k) (sym e) up)
    (λ p child.
    let below : p < f = first f p child in
    or_parts (f == i) (is_over es i p) (Over es a f) (sym (over_child es i f p first child) ∙ down)
    (λ same. let e : f ≡ i = grind (arith, nat_tests) in subst (λ k. Over es a k) (sym e) up)
    (λ down'. over_child es a f p first child ∙ or_right (f == a) (is_over es a p) (over_up es first n a i p (omega arith) up down')))

pub carried_up : (es : List Entry) → ParentsFirst es → (s a i : ℕ) → Over es a i → carried es s i ≤ carried es s a
carried_up es first s a i over =
    elim (cases_lt (carried es s a) (carried es s i)) [
      | inl more ↦
          let f = carried_is_of es s i (carried es s a) more in
          let l : (entry_at es f.0).need ≤ carried es s a = carried_at_least es s a f.0 (over_up es first (suc f.0) a i f.0 (omega arith) over f.1) f.2 in
          absurd (omega (arith, f.3))
      | inr no_more ↦ no_more
    ]
