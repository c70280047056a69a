-- Shortening: what the least reach is, and what a need becomes.
use Rattle.std.proofs.Common.{◌≡◌, ◌==◌, ℕ, ◌<◌, ◌≤◌, ◌&&◌, ◌||◌, true, false, List, [], ◌∷◌, Option, Some, None, length, map, min, nat_lt, refl, sym, ap, ◌∙◌, subst, arith, inl, inr}
use Rattle.std.proofs.lemmas.Bool.Decides.{nat_tests}
use Rattle.std.proofs.lemmas.Bool.{cases_Bool, cases_lt, cond-true, cond-false}
use Rattle.std.proofs.Math.Path.{fun_ext}
use Rattle.std.specs.List.{list_any}
use Rattle.plan_forest.specs.{declared.entry.Entry.Entry, Push.IsForest}
use Rattle.plan_forest.specs.Forest.{Forest, end_of, entry_at}
use Rattle.plan_forest.specs.Over.{Over, chain, is_over}
use Rattle.plan_forest.proofs.{Chains.cases_Option, Entries.entry_at_past, Placed.parents_first}
use Rattle.plan_forest.proofs.Carrying.{and_left, and_right, or_left, or_parts, or_right}
use Rattle.plan_rule.specs.{Reach.reach, Unkeepable.AllKeepable}
use Rattle.plan_rule.proofs.Lists.{need_within}
use Rattle.tick_keeper.specs.code.Passes.{needing}
use Rattle.tick_keeper.specs.Shorten.{cut_to, entry_shortened, exceeds, is_short, least_of, least_reach, lesser, need_left, shorten}
use Rattle.tick_keeper.proofs.Alike.{Alike, over_alike, reach_alike}
use Rattle.tick_keeper.proofs.Needing.{length_needing, needing_alike, needing_at, needing_end, needing_forest}

lesser_left : (m : ℕ) (o : Option ℕ) → (most : ℕ) × (lesser (Some m) o ≡ Some most) × (most ≤ m)
lesser_left m None = (m, refl, omega arith)
lesser_left m (Some b) = (min m b, refl, omega arith)

lesser_right : (o : Option ℕ) (b : ℕ) → (most : ℕ) × (lesser o (Some b) ≡ Some most) × (most ≤ b)
lesser_right None b = (b, refl, omega arith)
lesser_right (Some a) b = (min a b, refl, omega arith)

-- the least of some reaches is at most each of them
least_at_most : (p : ℕ → Option ℕ) (xs : List ℕ) (a m : ℕ) → list_any (λ b. b == a) xs ≡ true → p a ≡ Some m → (most : ℕ) × (least_of (map p xs) ≡ Some most) × (most ≤ m)
least_at_most p [] a m any is = absurd cc
least_at_most p (x ∷ xs) a m any is =
    or_parts (x == a) (list_any (λ b. b == a) xs) ((most : ℕ) × (lesser (p x) (least_of (map p xs)) ≡ Some most) × (most ≤ m)) any
    (λ same.
    let e : x ≡ a = grind (arith, nat_tests) in
    let here = lesser_left m (least_of (map p xs)) in
    (here.0, ap (λ o. lesser o (least_of (map p xs))) (ap p e ∙ is) ∙ here.1, here.2))
    (λ later.
    let rest = least_at_most p xs a m later is in
    let here = lesser_right (p x) rest.0 in
    (here.0, ap (lesser (p x)) rest.1 ∙ here.1, (let k = rest.2 in let l = here.2 in omega arith)))

-- and is one of them
least_reached : (p : ℕ → Option ℕ) (xs : List ℕ) (m : ℕ) → least_of (map p xs) ≡ Some m → (a : ℕ) × (list_any (λ b. b == a) xs ≡ true) × (p a ≡ Some m)
least_reached p [] m is = absurd cc
least_reached p (x ∷ xs) m is =
    let Goal = (a : ℕ) × ((x == a) || list_any (λ b. b == a) xs ≡ true) × (p a ≡ Some m) in
    let here : (x == x) ≡ true = grind (arith, nat_tests) in
    let at_head : p x ≡ Some m → Goal = λ e. (x, or_left (x == x) (list_any (λ b. b == x) xs) here, e) in
    let in_tail : least_of (map p xs) ≡ Some m → Goal = λ e. let rest = least_reached p xs m e in (rest.0, or_right (x == rest.0) (list_any (λ b. b == rest.0) xs) rest.1, rest.2) in
    cases_Option (p x) Goal
    (λ none. in_tail (sym (ap (λ o. lesser o (least_of (map p xs))) none) ∙ is))
    (λ a some. cases_Option (least_of (map p xs)) Goal
    (λ none. at_head (some ∙ sym (ap (λ o. lesser o None) some) ∙ sym (ap (lesser (p x)) none) ∙ is))
    (λ b rest.
    let both : Some (min a b) ≡ Some m = sym (ap (λ o. lesser o (Some b)) some) ∙ sym (ap (lesser (p x)) rest) ∙ is in
    let e : min a b ≡ m = cc in
    elim (cases_lt a b) [
      | inl less ↦ at_head (some ∙ ap (λ n. Some n) (let k : a ≡ m = omega arith in k))
      | inr more ↦ in_tail (rest ∙ ap (λ n. Some n) (let k : b ≡ m = omega arith in k))
    ]))

pub least_reach_most : (g : Forest) (t i a m : ℕ) → Over g.entries a i → reach g.entries g.margin t (end_of g.entries) a ≡ Some m → (most : ℕ) × (least_reach g t i ≡ Some most) × (most ≤ m)
unfolding least_reach is_over
least_reach_most g t i a m over is = least_at_most (reach g.entries g.margin t (end_of g.entries)) (chain g.entries i) a m over is

pub least_reach_is : (g : Forest) (t i m : ℕ) → least_reach g t i ≡ Some m → (a : ℕ) × Over g.entries a i × (reach g.entries g.margin t (end_of g.entries) a ≡ Some m)
unfolding least_reach is_over
least_reach_is g t i m is = least_reached (reach g.entries g.margin t (end_of g.entries)) (chain g.entries i) m is

-- a need that is shortened
pub record IsCut (g : Forest) (t i : ℕ) : Type 0 where
  pub most : ℕ
  pub least : least_reach g t i ≡ Some most
  pub later : t < (entry_at g.entries i).need
  pub less : most < (entry_at g.entries i).need
  pub left : need_left g t i ≡ most

short_parts : (t need : ℕ) (o : Option ℕ) → exceeds t o need ≡ true → (most : ℕ) × (o ≡ Some most) × (t < need) × (most < need)
short_parts t need None e = absurd cc
short_parts t need (Some most) e =
    let one = and_left (nat_lt t need) (nat_lt most need) e in
    let other = and_right (nat_lt t need) (nat_lt most need) e in
    (most, refl, grind (arith, nat_tests), grind (arith, nat_tests))

pub cut_parts : (g : Forest) (t i : ℕ) → is_short g t i ≡ true → IsCut g t i
unfolding is_short need_left
cut_parts g t i short =
    let need = (entry_at g.entries i).need in
    let least = least_reach g t i in
    let parts = short_parts t need least short in
    record {
      most = parts.0;
      least = parts.1;
      later = parts.2;
      less = parts.3;
      left = cond-true (exceeds t least need) (cut_to least need) need short ∙ ap (λ o. cut_to o need) parts.1;
    }

pub left_as_it_was : (g : Forest) (t i : ℕ) → is_short g t i ≡ false → need_left g t i ≡ (entry_at g.entries i).need
unfolding need_left
left_as_it_was g t i whole = cond-false (is_short g t i) (cut_to (least_reach g t i) (entry_at g.entries i).need) (entry_at g.entries i).need whole

pub left_at_most : (g : Forest) (t i : ℕ) → need_left g t i ≤ (entry_at g.entries i).need
left_at_most g t i =
    elim (cases_Bool (is_short g t i)) [
      | inl short ↦ let c = cut_parts g t i short in let l = c.left in let k = c.less in omega arith
      | inr whole ↦ let e = left_as_it_was g t i whole in omega arith
    ]

-- what exceeds, is so: after t and more than the reach
exceeding : (t need most : ℕ) → t < need → most < need → exceeds t (Some most) need ≡ true
exceeding t need most later less =
    let one : nat_lt t need ≡ true = grind (arith, nat_tests) in
    let other : nat_lt most need ≡ true = grind (arith, nat_tests) in
    ap (λ b. b && nat_lt most need) one ∙ other

pub short_where : (g : Forest) (t i most : ℕ) → least_reach g t i ≡ Some most → t < (entry_at g.entries i).need → most < (entry_at g.entries i).need → is_short g t i ≡ true
unfolding is_short
short_where g t i most least later less = ap (λ o. exceeds t o (entry_at g.entries i).need) least ∙ exceeding t (entry_at g.entries i).need most later less

-- the forest after shortening, as one with other needs
pub shorten_is : (g : Forest) (t : ℕ) → shorten g t ≡ record { entries = needing g.entries (need_left g t); margin = g.margin }
unfolding shorten entry_shortened needing
shorten_is g t = refl

pub shorten_entries : (g : Forest) (t : ℕ) → (shorten g t).entries ≡ needing g.entries (need_left g t)
unfolding shorten entry_shortened needing
shorten_entries g t = refl

pub shorten_count : (g : Forest) (t : ℕ) → length (shorten g t).entries ≡ length g.entries
shorten_count g t = ap length (shorten_entries g t) ∙ length_needing g.entries (need_left g t)

pub shorten_margin : (g : Forest) (t : ℕ) → (shorten g t).margin ≡ g.margin
unfolding shorten
shorten_margin g t = refl

pub shorten_alike : (g : Forest) → IsForest g → (t : ℕ) → Alike g.entries (shorten g t).entries
shorten_alike g forest t = subst (Alike g.entries) (sym (shorten_entries g t)) (needing_alike g.entries (parents_first g forest) (need_left g t))

pub shorten_at : (g : Forest) (t i : ℕ) → i < length g.entries → entry_at (shorten g t).entries i ≡ record (entry_at g.entries i) { need = need_left g t i }
shorten_at g t i within = ap (λ es. entry_at es i) (shorten_entries g t) ∙ needing_at g.entries (need_left g t) i within

pub shorten_ends : (g : Forest) (t : ℕ) → end_of (shorten g t).entries ≡ end_of g.entries
unfolding end_of
shorten_ends g t = fun_ext λ i. ap (λ es. (entry_at es i).end) (shorten_entries g t) ∙ needing_end g.entries (need_left g t) i

pub shorten_forest : (g : Forest) → IsForest g → (t : ℕ) → IsForest (shorten g t)
shorten_forest g forest t =
    subst IsForest (sym (shorten_is g t))
    (needing_forest g forest (need_left g t) (λ i. let l = left_at_most g t i in let k = need_within g forest i in omega arith))

-- past the last entry there is no need
pub need_past : (es : List Entry) (i : ℕ) → length es ≤ i → (entry_at es i).need ≡ 0
need_past es i past = ap (λ (e : Entry). e.need) (entry_at_past es i past)

pub needed_within : (es : List Entry) (t i : ℕ) → t < (entry_at es i).need → i < length es
needed_within es t i later =
    elim (cases_lt i (length es)) [
      | inl within ↦ within
      | inr past ↦ absurd (let none = need_past es i past in omega arith)
    ]

-- after shortening no pair is Unkeepable
pub shorten_keepable : (g : Forest) → IsForest g → (t : ℕ) → AllKeepable (shorten g t) t (end_of (shorten g t).entries)
shorten_keepable g forest t entry needed pair =
    let es = g.entries in
    let fs = (shorten g t).entries in
    let alike = shorten_alike g forest t in
    let later : t < (entry_at fs needed).need = pair.later in
    let short : pair.most < (entry_at fs needed).need = pair.short in
    let over : Over es entry needed = sym (over_alike es fs alike entry needed) ∙ pair.over in
    let reaches : reach es g.margin t (end_of es) entry ≡ Some pair.most =
    sym (reach_alike es fs alike g.margin t (end_of es) entry) ∙ ap (λ ends. reach fs g.margin t ends entry) (sym (shorten_ends g t))
    ∙ ap (λ margin. reach fs margin t (end_of fs) entry) (sym (shorten_margin g t)) ∙ pair.reaches in
    let least = least_reach_most g t needed entry pair.most over reaches in
    let at_most = least.2 in
    elim (cases_lt needed (length fs)) [
      | inr past ↦ let none = need_past fs needed past in omega arith
      | inl within ↦
          let is : (entry_at fs needed).need ≡ need_left g t needed = ap (λ (e : Entry). e.need) (shorten_at g t needed (let l = shorten_count g t in omega arith)) in
          elim (cases_Bool (is_short g t needed)) [
            | inl short_here ↦
                let c = cut_parts g t needed short_here in
                let same : Some c.most ≡ Some least.0 = sym c.least ∙ least.1 in
                let e : c.most ≡ least.0 = cc in
                let l = c.left in omega arith
            | inr whole ↦
                let e = left_as_it_was g t needed whole in
                let cuts = short_where g t needed least.0 least.1 (omega arith) (omega arith) in
                let bad : true ≡ false = sym cuts ∙ whole in cc
          ]
    ]
