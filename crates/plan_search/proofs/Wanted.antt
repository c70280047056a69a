-- The Asks: the question of the code is whether an entry is asked; and one entry more.
use Rattle.std.proofs.Common.{◌≡◌, ◌∙◌, ℕ, ◌+◌, ◌<◌, ◌≤◌, ◌&&◌, ◌++◌, List, [], ◌∷◌, Bool, true, false, cond, Option, Some, None, filter, length, nat_le, nat_lt, refl, sym, ap, arith, inl, inr}
use Rattle.std.proofs.lemmas.{Bool.and_from, Bool.and_parts, Bool.cases_Bool, Bool.cond-false, Bool.Decides.nat_tests, List.Elements.filter-append}
use Rattle.std.specs.List.{list_all, range_with_len}
use Rattle.plan_forest.specs.{declared.entry.Entry.Entry, Carried.carried, Forest.Forest, Forest.end_of, Forest.entry_at, Over.chain, Renewal.all_last, Renewal.is_granted, Renewal.renewal, Renewal.renewed}
use Rattle.plan_forest.proofs.Ranges.{range_more}
use Rattle.plan_rule.specs.Asks.{asks, is_end_due, is_to_be_asked}
use Rattle.plan_needs.specs.Carried.{CarriedNeed, IsCarried}
use Rattle.plan_search.specs.code.Wanted.{is_test, waits_until}

-- what all last until m, they last until each earlier moment
each_sooner : (ends : ℕ → ℕ) (n m : ℕ) → n ≤ m → (xs : List ℕ) → list_all (λ a. nat_le m (ends a)) xs ≡ true → list_all (λ a. nat_le n (ends a)) xs ≡ true
each_sooner ends n m less [] h = refl
each_sooner ends n m less (x ∷ xs) h =
    let k = and_parts (nat_le m (ends x)) (list_all (λ a. nat_le m (ends a)) xs) h in
    let far : nat_le m (ends x) ≡ true = k.0 in
    let here : nat_le n (ends x) ≡ true = grind (arith, nat_tests) in
    and_from _ _ here (each_sooner ends n m less xs k.1)

-- an entry that gains by a renewal can be renewed, and is alive
gaining : (es : List Entry) (margin at i : ℕ) → 0 < margin → nat_lt (end_of es i) (renewed es margin (end_of es) at i) ≡ true
    → ((entry_at es i).renewable ≡ true) × (all_last es (end_of es) (at + 1) i ≡ true)
unfolding renewed is_granted all_last
gaining es margin at i above gains =
    let renewable = (entry_at es i).renewable in
    let lasts = list_all (λ a. nat_le (at + margin) (end_of es a)) (chain es i) in
    elim (cases_Bool (renewable && lasts)) [
      | inl granted ↦
          let p = and_parts renewable lasts granted in
          (p.0, each_sooner (end_of es) (at + 1) (at + margin) (omega arith) (chain es i) p.1)
      | inr refused ↦ absurd (
          let is = cond-false (renewable && lasts) (renewal (entry_at es i) at) (end_of es i) refused in
          let none : nat_lt (end_of es i) (end_of es i) ≡ true = sym (ap (nat_lt (end_of es i)) is) ∙ gains in
          let bad : end_of es i < end_of es i = grind (arith, nat_tests) in
          omega arith)
    ]

-- the questions whether i is asked: whether it is renewable, whether it is alive, whether it falls short, whether it gains,
-- and whether it is due
reordered : (c d e : Bool) → c && (d && e) ≡ c && (e && d)
reordered false d e = refl
reordered true false false = refl
reordered true false true = refl
reordered true true false = refl
reordered true true true = refl

unasked : (a b c e : Bool) → a && (b && (c && (false && e))) ≡ c && (e && false)
unasked false b false e = refl
unasked false b true false = refl
unasked false b true true = refl
unasked true false false e = refl
unasked true false true false = refl
unasked true false true true = refl
unasked true true c e = reordered c false e

three_of_five : (a b c d e : Bool) → (d ≡ true → (a ≡ true) × (b ≡ true)) → a && (b && (c && (d && e))) ≡ c && (e && d)
three_of_five a b c false e follow = unasked a b c e
three_of_five true true c true e follow = reordered c true e
three_of_five false b c true e follow = absurd (let no = (follow refl).0 in cc)
three_of_five true false c true e follow = absurd (let no = (follow refl).1 in cc)

-- an end that comes before that is due
due_until : (margin end : ℕ) (next o : Option ℕ) → o ≡ waits_until margin next → is_end_due 0 o end ≡ is_end_due margin next end
due_until margin end None o is = ap (λ p. is_end_due 0 p end) is
due_until margin end (Some next) o is = ap (λ p. is_end_due 0 p end) is ∙ ap (λ m. nat_lt end m) (let e : next + margin + 0 ≡ next + margin = omega arith in e)

pub test_is :
    (g : Forest) → 0 < g.margin → (s at : ℕ) (next until : Option ℕ) (loads : List CarriedNeed) (i : ℕ) → i < length g.entries → IsCarried g s loads →
    until ≡ waits_until g.margin next → is_test g loads at until i ≡ is_to_be_asked g.entries g.margin s (end_of g.entries) at next i
unfolding is_to_be_asked
test_is g above s at next until loads i within is waits =
    let es = g.entries in
    let gains = nat_lt (end_of es i) (renewed es g.margin (end_of es) at i) in
    ap (λ n. nat_lt (end_of es i) n && (is_end_due 0 until (end_of es i) && gains)) (is.need i within)
    ∙ ap (λ d. nat_lt (end_of es i) (carried es s i) && (d && gains)) (due_until g.margin (end_of es i) next until waits)
    ∙ sym (three_of_five (entry_at es i).renewable (all_last es (end_of es) (at + 1) i) (nat_lt (end_of es i) (carried es s i)) gains (is_end_due g.margin next (end_of es i)) (gaining es g.margin at i above))

pub asked_more : (p : ℕ → Bool) (n : ℕ) → filter p (range_with_len 0 (n + 1)) ≡ filter p (range_with_len 0 n) ++ cond (p n) (n ∷ []) []
asked_more p n =
    ap (filter p) (range_more 0 n n (omega arith)) ∙ filter-append p (range_with_len 0 n) (n ∷ [])

pub asks_of : (es : List Entry) (margin s at : ℕ) (next : Option ℕ) (n : ℕ) → n ≡ length es → filter (is_to_be_asked es margin s (end_of es) at next) (range_with_len 0 n) ≡ asks es margin s (end_of es) at next
unfolding asks
asks_of es margin s at next n count = ap (λ k. filter (is_to_be_asked es margin s (end_of es) at next) (range_with_len 0 k)) count
