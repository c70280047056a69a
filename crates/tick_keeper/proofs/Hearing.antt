-- One answer: what the entries carry after it, whom the round then waits for, and a forest that is put back.
use Rattle.std.proofs.Common.{◌≡◌, ◌≢◌, ◌==◌, ◌∙◌, ◌⊎◌, ℕ, zero, suc, ◌+◌, ◌<◌, ◌≤◌, ◌&&◌, Bool, true, false, cond, not, List, [], ◌∷◌, Option, Some, None, filter, length, max, nat_lt, set, refl, sym, ap, subst, arith, inl, inr}
use Rattle.std.proofs.lemmas.{Bool.cases_Bool, Bool.cases_eq, Bool.Decides.nat_tests}
use Rattle.std.proofs.lemmas.List.{get_or-set_other, get_or-set_same, length-set, set-set}
use Rattle.std.specs.List.{list_any, range_with_len}
use Rattle.std.proofs.Math.Bool.{and-false, and-true}
use Rattle.plan_forest.specs.{declared.entry.Entry.Entry, Carried.carried, Carried.carried_of, Forest.Forest, Forest.entry_at}
use Rattle.plan_forest.specs.Over.{chain, chain_of, is_over}
use Rattle.plan_forest.proofs.Entries.{entry_at_set_other, entry_at_set_same}
use Rattle.plan_needs.specs.Carried.{CarriedNeed, IsCarried, NamesFrom}
use Rattle.tick_keeper.specs.{declared.event.Event.Event, code.Keeping.flag_of, code.Keeping.waited_for, Refusal.waits_for, State.Round}
use Rattle.tick_keeper.specs.declared.event.Event.TheVariants.{Tick, Lost, Need}
use Rattle.tick_keeper.specs.Step.{entry_after_answer, with_entry_changed, without_index}
use Rattle.tick_keeper.proofs.Taken.{set_back}

pub waits_in : (round : Option Round) (i : ℕ) → waits_for round i ≡ true → (r : Round) × (round ≡ Some r)
waits_in None i e = absurd cc
waits_in (Some r) i e = (r, refl)

-- Carried needs: an answer changes no parent and no need.

answered_parent : (at : ℕ) (event : Event) (e : Entry) → (entry_after_answer at event e).parent ≡ e.parent
unfolding entry_after_answer
answered_parent at (Tick t) e = refl
answered_parent at _ e = refl

answered_need : (at : ℕ) (event : Event) (e : Entry) → (entry_after_answer at event e).need ≡ e.need
unfolding entry_after_answer
answered_need at (Tick t) e = refl
answered_need at _ e = refl

field_kept : {X : Type 0} (field : Entry → X) (es : List Entry) (i : ℕ) (e : Entry) → i < length es → field e ≡ field (entry_at es i) → (j : ℕ) → field (entry_at (set es i e) j) ≡ field (entry_at es j)
field_kept field es i e within same j =
    elim (cases_eq j i) [
      | inl here ↦ subst (λ n. field (entry_at (set es i e) n) ≡ field (entry_at es n)) (sym here) (ap field (entry_at_set_same es i e within) ∙ same)
      | inr there ↦ ap field (entry_at_set_other es i j e there)
    ]

chain_of_same : (es fs : List Entry) → ((k : ℕ) → (entry_at fs k).parent ≡ (entry_at es k).parent) → (n i : ℕ) → chain_of n fs i ≡ chain_of n es i
unfolding chain_of
chain_of_same es fs same zero i = refl
chain_of_same es fs same (suc n) i = ap (λ (o : Option ℕ). i ∷ elim o [ None ↦ [] | Some p ↦ chain_of n fs p ]) (same i)
    ∙ by_parent (entry_at es i).parent (chain_of_same es fs same n) where
      by_parent : (o : Option ℕ) → ((p : ℕ) → chain_of n fs p ≡ chain_of n es p) → i ∷ elim o [ None ↦ [] | Some p ↦ chain_of n fs p ] ≡ i ∷ elim o [ None ↦ [] | Some p ↦ chain_of n es p ]
      by_parent None rest = refl
      by_parent (Some p) rest = ap (λ ps. i ∷ ps) (rest p)

pub over_same : (es fs : List Entry) → ((k : ℕ) → (entry_at fs k).parent ≡ (entry_at es k).parent) → (a f : ℕ) → is_over fs a f ≡ is_over es a f
unfolding is_over chain
over_same es fs same a f = ap (list_any (λ b. b == a)) (chain_of_same es fs same (suc f) f)

module _ (es fs : List Entry) (over : (a f : ℕ) → is_over fs a f ≡ is_over es a f) (need : (k : ℕ) → (entry_at fs k).need ≡ (entry_at es k).need) where
  carried_of_same : (s i n : ℕ) → carried_of fs s i n ≡ carried_of es s i n
  unfolding carried_of
  carried_of_same s i zero = refl
  carried_of_same s i (suc n) =
      ap (λ b. cond (b && nat_lt s (entry_at fs n).need) (max (carried_of fs s i n) (entry_at fs n).need) (carried_of fs s i n)) (over i n)
      ∙ ap (λ (k : ℕ). cond (is_over es i n && nat_lt s k) (max (carried_of fs s i n) k) (carried_of fs s i n)) (need n)
      ∙ ap (λ c. cond (is_over es i n && nat_lt s (entry_at es n).need) (max c (entry_at es n).need) c) (carried_of_same s i n)

  carried_same : length fs ≡ length es → (s i : ℕ) → carried fs s i ≡ carried es s i
  unfolding carried
  carried_same count s i = ap (carried_of fs s i) count ∙ carried_of_same s i (length es)

  names_same : length fs ≡ length es → (s i : ℕ) (o : Option ℕ) → NamesFrom es s i o → NamesFrom fs s i o
  names_same count s i None none = carried_same count s i ∙ none
  names_same count s i (Some f) named =
      let is = carried_same count s i in (
        subst (λ n. 0 < n) (sym is) named.0,
        record { over = over i f ∙ named.1.over; need = need f ∙ named.1.need ∙ sym is; lowest = λ k up same. named.1.lowest k (sym (over i k) ∙ up) (sym (need k) ∙ same ∙ is) },
      )

pub carried_heard :
    (g : Forest) (i at : ℕ) (event : Event) → i < length g.entries → (s : ℕ) (loads : List CarriedNeed) → IsCarried g s loads →
    IsCarried (with_entry_changed g i (entry_after_answer at event)) s loads
carried_heard g i at event within s loads carries =
    let es = g.entries in
    let e = entry_after_answer at event (entry_at es i) in
    let fs = set es i e in
    let count : length fs ≡ length es = length-set es i e in
    let over = over_same es fs (field_kept (λ (x : Entry). x.parent) es i e within (answered_parent at event (entry_at es i))) in
    let need = field_kept (λ (x : Entry). x.need) es i e within (answered_need at event (entry_at es i)) in
    record {
      count = carries.count ∙ sym count;
      need = λ k h. carries.need k (omega arith) ∙ sym (carried_same es fs over need count s k);
      from = λ k h. names_same es fs over need count s k _ (carries.from k (omega arith));
    }

-- Flags: one answer more.

flag_set : (flags : List Bool) (i : ℕ) → i < length flags → (j : ℕ) → flag_of (set flags i false) j ≡ flag_of flags j && not (j == i)
flag_set flags i within j = elim (cases_eq j i) [
  | inl same ↦
      let test : (j == i) ≡ true = grind (arith, nat_tests) in
      ap (flag_of (set flags i false)) same ∙ get_or-set_same flags i false false within ∙ sym (ap (λ b. flag_of flags j && not b) test ∙ and-false (flag_of flags j))
  | inr apart ↦
      let test : (j == i) ≡ false = grind (arith, nat_tests) in
      get_or-set_other flags i j false false apart ∙ sym (ap (λ b. flag_of flags j && not b) test ∙ and-true (flag_of flags j))
]

filter_twice : (p q r : ℕ → Bool) → ((j : ℕ) → r j ≡ p j && q j) → (xs : List ℕ) → filter r xs ≡ filter q (filter p xs)
filter_twice p q r same [] = refl
filter_twice p q r same (x ∷ xs) =
    ap (λ b. cond b (x ∷ filter r xs) (filter r xs)) (same x) ∙ ap (λ ys. cond (p x && q x) (x ∷ ys) ys) (filter_twice p q r same xs) ∙ by_test (p x) where
      by_test : (b : Bool) → cond (b && q x) (x ∷ filter q (filter p xs)) (filter q (filter p xs)) ≡ filter q (cond b (x ∷ filter p xs) (filter p xs))
      by_test true = refl
      by_test false = refl

-- who has answered is no longer waited for
pub waited_set : (flags : List Bool) (i : ℕ) → i < length flags → waited_for (set flags i false) ≡ without_index i (waited_for flags)
unfolding waited_for without_index
waited_set flags i within =
    ap (λ n. filter (flag_of (set flags i false)) (range_with_len 0 n)) (length-set flags i false)
    ∙ filter_twice (flag_of flags) (λ j. not (j == i)) (flag_of (set flags i false)) (flag_set flags i within) (range_with_len 0 (length flags))

head_stays : (i a : ℕ) (xs : List ℕ) → a ≢ i → without_index i (a ∷ xs) ≡ a ∷ without_index i xs
unfolding without_index
head_stays i a xs apart =
    let test : (a == i) ≡ false = grind (arith, nat_tests) in ap (λ b. cond (not b) (a ∷ filter (λ j. not (j == i)) xs) (filter (λ j. not (j == i)) xs)) test

head_goes : (i a : ℕ) (xs : List ℕ) → a ≡ i → without_index i (a ∷ xs) ≡ without_index i xs
unfolding without_index
head_goes i a xs same =
    let test : (a == i) ≡ true = grind (arith, nat_tests) in ap (λ b. cond (not b) (a ∷ filter (λ j. not (j == i)) xs) (filter (λ j. not (j == i)) xs)) test

taken_in : (p : ℕ → Bool) (a n : ℕ) → p a ≡ true → filter p (range_with_len a (suc n)) ≡ a ∷ filter p (range_with_len (a + 1) n)
taken_in p a n yes' = ap (λ b. cond b (a ∷ filter p (range_with_len (a + 1) n)) (filter p (range_with_len (a + 1) n))) yes'

left_out : (p : ℕ → Bool) (a n : ℕ) → p a ≡ false → filter p (range_with_len a (suc n)) ≡ filter p (range_with_len (a + 1) n)
left_out p a n no' = ap (λ b. cond b (a ∷ filter p (range_with_len (a + 1) n)) (filter p (range_with_len (a + 1) n))) no'

nothing : (i : ℕ) → without_index i [] ≡ []
unfolding without_index
nothing i = refl

not_among : (p : ℕ → Bool) (n a i : ℕ) → i < a → without_index i (filter p (range_with_len a n)) ≡ filter p (range_with_len a n)
not_among p zero a i low = nothing i
not_among p (suc n) a i low =
    let rest = not_among p n (a + 1) i (omega arith) in
    elim (cases_Bool (p a)) [
      | inl yes' ↦ ap (without_index i) (taken_in p a n yes') ∙ head_stays i a (filter p (range_with_len (a + 1) n)) (λ same. omega arith) ∙ ap (λ xs. a ∷ xs) rest ∙ sym (taken_in p a n yes')
      | inr no' ↦ ap (without_index i) (left_out p a n no') ∙ rest ∙ sym (left_out p a n no')
    ]

one_less : (p : ℕ → Bool) (n a i : ℕ) → a ≤ i → i < a + n → p i ≡ true → length (without_index i (filter p (range_with_len a n))) + 1 ≡ length (filter p (range_with_len a n))
one_less p zero a i low high e = absurd (omega arith)
one_less p (suc n) a i low high e =
    let rest = filter p (range_with_len (a + 1) n) in
    elim (cases_eq a i) [
      | inl same ↦
          let whole = taken_in p a n (ap p same ∙ e) in
          let left = ap (without_index i) whole ∙ head_goes i a rest same ∙ not_among p n (a + 1) i (omega arith) in
          omega (arith, ap length whole, ap length left)
      | inr apart ↦
          let less = one_less p n (a + 1) i (omega arith) (omega arith) e in
          elim (cases_Bool (p a)) [
            | inl yes' ↦
                let whole = taken_in p a n yes' in
                let left = ap (without_index i) whole ∙ head_stays i a rest apart in
                omega (arith, ap length whole, ap length left, less)
            | inr no' ↦
                let whole = left_out p a n no' in
                let left = ap (without_index i) whole in
                omega (arith, ap length whole, ap length left, less)
          ]
    ]

-- and one less is waited for
pub waited_less : (flags : List Bool) (i : ℕ) → i < length flags → flag_of flags i ≡ true → length (waited_for (set flags i false)) + 1 ≡ length (waited_for flags)
unfolding waited_for
waited_less flags i within waits = ap (λ xs. length xs + 1) (waited_set flags i within) ∙ one_less (flag_of flags) (length flags) 0 i (omega arith) (omega arith) waits

-- Entries that are set twice, and put back.

-- an entry that was set is changed
pub set_then : (g : Forest) (i : ℕ) (e : Entry) (f : Entry → Entry) → i < length g.entries →
    with_entry_changed (record { entries = set g.entries i e; margin = g.margin }) i f ≡ record { entries = set g.entries i (f e); margin = g.margin }
set_then g i e f within =
    ap (λ (x : Entry). record { entries = set (set g.entries i e) i (f x); margin = g.margin }) (entry_at_set_same g.entries i e within)
    ∙ ap (λ es. record { entries = es; margin = g.margin }) (set-set g.entries i e (f e))

pub set_own : (g : Forest) (i : ℕ) → i < length g.entries → record { entries = set g.entries i (entry_at g.entries i); margin = g.margin } ≡ g
set_own g i within =
    let e = entry_at g.entries i in
    sym (ap (λ es. record { entries = es; margin = g.margin }) (set-set g.entries i e e)) ∙ set_back g i e within

own_again : (at : ℕ) (event : Event) (e : Entry) → record (entry_after_answer at event e) { end = e.end; renewable = e.renewable } ≡ e
unfolding entry_after_answer
own_again at (Tick t) e = refl
own_again at _ e = refl

-- an end and a word on renewals, set back after an answer
pub answer_back :
    (g h k : Forest) (i at : ℕ) (event : Event) (end : ℕ) (renewable : Bool) → i < length g.entries → end ≡ (entry_at g.entries i).end → renewable ≡ (entry_at g.entries i).renewable →
    h ≡ with_entry_changed g i (entry_after_answer at event) → k ≡ with_entry_changed h i (λ e. record e { end = end }) → with_entry_changed k i (λ e. record e { renewable = renewable }) ≡ g
answer_back g h k i at event end renewable within ends able is next =
    let e = entry_at g.entries i in
    let told = entry_after_answer at event e in
    let first = next ∙ ap (λ x. with_entry_changed x i (λ y. record y { end = end })) is ∙ set_then g i told (λ y. record y { end = end }) within in
    ap (λ x. with_entry_changed x i (λ y. record y { renewable = renewable })) first
    ∙ set_then g i (record told { end = end }) (λ y. record y { renewable = renewable }) within
    ∙ ap (λ n. record { entries = set g.entries i (record told { end = n; renewable = renewable }); margin = g.margin }) ends
    ∙ ap (λ b. record { entries = set g.entries i (record told { end = e.end; renewable = b }); margin = g.margin }) able
    ∙ ap (λ x. record { entries = set g.entries i x; margin = g.margin }) (own_again at event e)
    ∙ set_own g i within

-- what neither tells nor refuses changes nothing
pub untouched :
    (at : ℕ) (event : Event) (e : Entry) → ((i : ℕ) × (event ≡ Lost i)) ⊎ (((t : ℕ) × (event ≡ Tick t)) ⊎ ((i : ℕ) × (until : ℕ) × (event ≡ Need i until))) → entry_after_answer at event e ≡ e
unfolding entry_after_answer
untouched at event e (inl lost) = ap (λ x. entry_after_answer at x e) lost.1
untouched at event e (inr (inl tick)) = ap (λ x. entry_after_answer at x e) tick.1
untouched at event e (inr (inr need)) = ap (λ x. entry_after_answer at x e) need.2
