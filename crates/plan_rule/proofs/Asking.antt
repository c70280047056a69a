-- The Asks: which entries are asked, what an entry that is asked gets, and when an end covers what its entry carries.
use Rattle.std.proofs.Common.{◌≡◌, ◌==◌, ℕ, zero, suc, ◌+◌, ◌<◌, ◌≤◌, ◌⊎◌, ◌&&◌, ◌||◌, Bool, true, false, cond, List, [], ◌∷◌, Option, Some, None, filter, length, nat_le, nat_lt, refl, sym, ap, ◌∙◌, subst, arith, inl, inr}
use Rattle.std.proofs.lemmas.{Bool.cases_Bool, Bool.cases_eq, Bool.cases_lt, Bool.cond-true, Bool.cond-false, Bool.Decides.nat_tests}
use Rattle.std.specs.List.{list_all, list_any, range_with_len}
use Rattle.plan_forest.specs.{declared.entry.Entry.Entry, Forest.entry_at, Over.Over, Over.chain, Over.is_over, Renewal.all_last, Renewal.is_granted, Renewal.renewal, Renewal.renewed, Carried.carried}
use Rattle.plan_forest.proofs.{Entries.entry_at_past, Carrying.and_left, Carrying.and_right, Carrying.or_left, Carrying.or_parts, Carrying.or_right}
use Rattle.plan_rule.specs.{Asks.asking, Asks.asks, Asks.is_end_due, Asks.is_to_be_asked, Ends.is_asked, Plans.asks_past}

-- where not all last, one does not
fails_somewhere : (p : ℕ → Bool) (xs : List ℕ) → list_all p xs ≡ false → (a : ℕ) × (list_any (λ b. b == a) xs ≡ true) × (p a ≡ false)
fails_somewhere p [] e = absurd cc
fails_somewhere p (x ∷ xs) e =
    elim (cases_Bool (p x)) [
      | inl passes ↦
          let rest : list_all p xs ≡ false = sym (ap (λ b. b && list_all p xs) passes) ∙ e in
          let found = fails_somewhere p xs rest in
          (found.0, or_right (x == found.0) (list_any (λ b. b == found.0) xs) found.1, found.2)
      | inr fails ↦ (x, or_left (x == x) (list_any (λ b. b == x) xs) (grind (arith, nat_tests)), fails)
    ]

pub short_over : (es : List Entry) (ends : ℕ → ℕ) (m i : ℕ) → all_last es ends m i ≡ false → (a : ℕ) × Over es a i × (ends a < m)
unfolding all_last is_over
short_over es ends m i e =
    let found = fails_somewhere (λ a. nat_le m (ends a)) (chain es i) e in
    (found.0, found.1, (let t : nat_le m (ends found.0) ≡ false = found.2 in grind (arith, nat_tests)))

-- an end that lasts until the need, or until a renewal at the next moment is granted
abbrev pub Covers : ℕ → Option ℕ → ℕ → ℕ → Type 0
Covers margin None need end = need ≤ end
Covers margin (Some next) need end = (need ≤ end) ⊎ (next + margin ≤ end)

abbrev pub IsSafe : List Entry → ℕ → ℕ → (ℕ → ℕ) → Option ℕ → Type 0
IsSafe es margin s ends next = (i : ℕ) → Covers margin next (carried es s i) (ends i)

pub covers_more : (margin : ℕ) (next : Option ℕ) (need end later : ℕ) → end ≤ later → Covers margin next need end → Covers margin next need later
covers_more margin None need end later h c = omega arith
covers_more margin (Some next) need end later h c = elim c [ inl lasts ↦ inl (omega arith) | inr granted ↦ inr (omega arith) ]

pub covers_need : (margin : ℕ) (next : Option ℕ) (need end : ℕ) → need ≤ end → Covers margin next need end
covers_need margin None need end h = h
covers_need margin (Some next) need end h = inl h

pub covers_not_due : (margin : ℕ) (next : Option ℕ) (need end : ℕ) → is_end_due margin next end ≡ false → Covers margin next need end
covers_not_due margin None need end e = absurd cc
covers_not_due margin (Some next) need end e = inr (let t : nat_lt end (next + margin) ≡ false = e in grind (arith, nat_tests))

-- whether an index is among the Asks
asked_in : (p : ℕ → Bool) (n a i : ℕ) → list_any (λ j. j == i) (filter p (range_with_len a n)) ≡ true → p i ≡ true
asked_in p zero a i e = absurd cc
asked_in p (suc n) a i e =
    elim (cases_Bool (p a)) [
      | inl passes ↦
          let kept : (a == i) || list_any (λ j. j == i) (filter p (range_with_len (a + 1) n)) ≡ true =
          sym (ap (λ b. list_any (λ j. j == i) (cond b (a ∷ filter p (range_with_len (a + 1) n)) (filter p (range_with_len (a + 1) n)))) passes) ∙ e in
          or_parts (a == i) (list_any (λ j. j == i) (filter p (range_with_len (a + 1) n))) (p i ≡ true) kept
          (λ same. let k : a ≡ i = grind (arith, nat_tests) in subst (λ j. p j ≡ true) k passes)
          (λ later. asked_in p n (a + 1) i later)
      | inr fails ↦ asked_in p n (a + 1) i (sym (ap (λ b. list_any (λ j. j == i) (cond b (a ∷ filter p (range_with_len (a + 1) n)) (filter p (range_with_len (a + 1) n)))) fails) ∙ e)
    ]

is_asked_in : (p : ℕ → Bool) (n a i : ℕ) → a ≤ i → i < a + n → p i ≡ true → list_any (λ j. j == i) (filter p (range_with_len a n)) ≡ true
is_asked_in p zero a i low high e = absurd (omega arith)
is_asked_in p (suc n) a i low high e =
    elim (cases_eq a i) [
      | inl same ↦
          let here : p a ≡ true = subst (λ j. p j ≡ true) (sym same) e in
          ap (λ b. list_any (λ j. j == i) (cond b (a ∷ filter p (range_with_len (a + 1) n)) (filter p (range_with_len (a + 1) n)))) here
          ∙ or_left (a == i) (list_any (λ j. j == i) (filter p (range_with_len (a + 1) n))) (grind (arith, nat_tests))
      | inr other ↦
          let rest = is_asked_in p n (a + 1) i (omega arith) (omega arith) e in
          elim (cases_Bool (p a)) [
            | inl passes ↦ ap (λ b. list_any (λ j. j == i) (cond b (a ∷ filter p (range_with_len (a + 1) n)) (filter p (range_with_len (a + 1) n)))) passes
                ∙ or_right (a == i) (list_any (λ j. j == i) (filter p (range_with_len (a + 1) n))) rest
            | inr fails ↦ ap (λ b. list_any (λ j. j == i) (cond b (a ∷ filter p (range_with_len (a + 1) n)) (filter p (range_with_len (a + 1) n)))) fails ∙ rest
          ]
    ]

-- the Asks stay within the entries
pub asks_within : (p : ℕ → Bool) (n a m : ℕ) → a + n ≤ m → asks_past m (filter p (range_with_len a n)) ≡ false
unfolding asks_past
asks_within p zero a m h = refl
asks_within p (suc n) a m h =
    let rest = asks_within p n (a + 1) m (omega arith) in
    elim (cases_Bool (p a)) [
      | inl passes ↦ ap (λ b. list_any (λ j. nat_le m j) (cond b (a ∷ filter p (range_with_len (a + 1) n)) (filter p (range_with_len (a + 1) n)))) passes
          ∙ ap (λ b. b || list_any (λ j. nat_le m j) (filter p (range_with_len (a + 1) n))) (let t : nat_le m a ≡ false = grind (arith, nat_tests) in t) ∙ rest
      | inr fails ↦ ap (λ b. list_any (λ j. nat_le m j) (cond b (a ∷ filter p (range_with_len (a + 1) n)) (filter p (range_with_len (a + 1) n)))) fails ∙ rest
    ]

pub wanted_renewable : (es : List Entry) (margin s : ℕ) (e : ℕ → ℕ) (t : ℕ) (next : Option ℕ) (i : ℕ) → is_to_be_asked es margin s e t next i ≡ true → (entry_at es i).renewable ≡ true
unfolding is_to_be_asked
wanted_renewable es margin s e t next i wanted = and_left (entry_at es i).renewable _ wanted

-- whether the wake-up that asks the Asks asks an index: exactly where that is wanted
pub asks_wanted : (es : List Entry) (margin s : ℕ) (e : ℕ → ℕ) (t : ℕ) (next : Option ℕ) (i : ℕ) → is_asked (asking es margin s e t next) i ≡ is_to_be_asked es margin s e t next i
unfolding is_asked asks
asks_wanted es margin s e t next i =
    let p = is_to_be_asked es margin s e t next in
    elim (cases_Bool (p i)) [
      | inl wanted ↦
          elim (cases_lt i (length es)) [
            | inl within ↦ is_asked_in p (length es) 0 i (omega arith) (omega arith) wanted ∙ sym wanted
            | inr past ↦ absurd (
                let none : (entry_at es i).renewable ≡ false = ap (λ (x : Entry). x.renewable) (entry_at_past es i past) in
                let some : (entry_at es i).renewable ≡ true = wanted_renewable es margin s e t next i wanted in
                cc)
          ]
      | inr not_wanted ↦ not_asked (list_any (λ j. j == i) (filter p (range_with_len 0 (length es)))) (λ asked. asked_in p (length es) 0 i asked) not_wanted
    ] where
      not_asked : (b : Bool) → (b ≡ true → is_to_be_asked es margin s e t next i ≡ true) → is_to_be_asked es margin s e t next i ≡ false → b ≡ is_to_be_asked es margin s e t next i
      not_asked true f h = absurd (let y = f refl in cc)
      not_asked false f h = sym h

-- an entry that is asked has the end of its renewal, which is later than its end was
pub asked_end : (es : List Entry) (margin s : ℕ) (e : ℕ → ℕ) (t : ℕ) (next : Option ℕ) (i : ℕ) → is_to_be_asked es margin s e t next i ≡ true → (renewed es margin e t i ≡ renewal (entry_at es i) t) × (e i < renewal (entry_at es i) t)
unfolding is_to_be_asked renewed
asked_end es margin s e t next i wanted =
    let granted = is_granted es margin e t i in
    let gains = and_left (nat_lt (e i) (cond granted (renewal (entry_at es i) t) (e i))) _ (and_right (nat_lt (e i) (carried es s i)) _ (and_right (all_last es e (t + 1) i) _ (and_right (entry_at es i).renewable _ wanted))) in
    elim (cases_Bool granted) [
      | inl yes' ↦
          let is = cond-true granted (renewal (entry_at es i) t) (e i) yes' in
          (is, (let l : nat_lt (e i) (renewal (entry_at es i) t) ≡ true = sym (ap (nat_lt (e i)) is) ∙ gains in grind (arith, nat_tests)))
      | inr no' ↦ absurd (
          let is = cond-false granted (renewal (entry_at es i) t) (e i) no' in
          let l : nat_lt (e i) (e i) ≡ true = sym (ap (nat_lt (e i)) is) ∙ gains in
          let bad : e i < e i = grind (arith, nat_tests) in omega arith)
    ]
