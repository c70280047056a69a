-- The faults of the requests to come, of all that were given: the map by number finds what a walk finds, also after a fault
-- more, and a request that is counted takes away its own fault alone. For `Faults`.
use Rattle.std.proofs.Common.{◌≡◌, ℕ, ◌+◌, ◌-◌, ◌^◌, ◌<◌, ◌≤◌, ◌==◌, Bool, true, false, cond, not, ◌&&◌, nat_lt, nat_le, List, ◌∷◌, ◌++◌, [], Option, Some, None, option_map, refl, sym, ap, ◌∙◌, subst, arith, ⊎_elim, Ordering, Less, Equal, Greater}
use Rattle.std.proofs.lemmas.{Bool.Decides.nat_tests, Cmp.ranked, List.Elements.filter-append, List.Elements.filter_agree, List.Folds.find-append}
use Rattle.std.proofs.lemmas.Bool.{cases_eq, cases_lt, cond-false, cond-true, eq-eqb, eqb-true, false_from_ne_true, le-leb, le-ltb, lt-leb, lt-ltb, ne_eqb}
use Rattle.std.specs.{List.filter, List.find, Map.lookup, Option.is_some, Option.option_or, Ordering.is_eq, Ordering.nat_cmp}
use Rattle.std.specs.BTreeMap.{BTreeMap, IsEmpty, Updates, get}
use Rattle.broker_rule.specs.{declared.fault.Fault.Fault, declared.fault.NumberedFault.NumberedFault, declared.fault.SetFault.SetFault}
use Rattle.broker_rule.specs.declared.fault.SetFault.TheVariants.{BadNumber, Twice}
use Rattle.broker_rule.specs.Faults.{Faults, fault_at, fault_refusal, next_number, pending, without_fault}

-- ---- a look-up among those pending

found_kept : {X : Type 0} (p : X → Bool) (x : X) (xs : List X) (o : Option X) (b : Bool) → (p x ≡ true → b ≡ true) → find p xs ≡ o → find p (cond b (x ∷ xs) xs) ≡ cond (p x) (Some x) o
found_kept p x xs o true h e = ap (cond (p x) (Some x)) e
found_kept p x xs o false h e = e ∙ sym (cond-false (p x) (Some x) o (false_from_ne_true (p x) (λ y. absurd (let both : false ≡ true = h y in cc))))

-- what is looked for is kept by the filter
find_kept : {X : Type 0} (p q : X → Bool) → ((x : X) → p x ≡ true → q x ≡ true) → (xs : List X) → find p (filter q xs) ≡ find p xs
find_kept p q h [] = refl
find_kept p q h (x ∷ xs) = found_kept p x (filter q xs) (find p xs) (q x) (h x) (find_kept p q h xs)

found_out : {X : Type 0} (p : X → Bool) (x : X) (xs : List X) (b : Bool) → (p x ≡ true → b ≡ false) → find p xs ≡ None → find p (cond b (x ∷ xs) xs) ≡ None
found_out p x xs true h e = ap (cond (p x) (Some x)) e ∙ cond-false (p x) (Some x) None (false_from_ne_true (p x) (λ y. absurd (let both : true ≡ false = h y in cc)))
found_out p x xs false h e = e

-- what is looked for is taken out by the filter
find_out : {X : Type 0} (p q : X → Bool) → ((x : X) → p x ≡ true → q x ≡ false) → (xs : List X) → find p (filter q xs) ≡ None
find_out p q h [] = refl
find_out p q h (x ∷ xs) = found_out p x (filter q xs) (q x) (h x) (find_out p q h xs)

-- a number that is not counted has among the pending the fault that it has among all
pub fault_pending : (given : List NumberedFault) (count n : ℕ) → count < n → fault_at (pending given count) n ≡ fault_at given n
unfolding fault_at pending
fault_pending given count n h =
    ap (option_map (λ f. f.fault))
    (find_kept (λ (f : NumberedFault). f.number == n) (λ (f : NumberedFault). nat_lt count f.number)
    (λ f same. let e : f.number ≡ n = eqb-true f.number n same in lt-ltb count f.number (omega (arith, h, e))) given)

-- a number that is counted has none
pub fault_counted : (given : List NumberedFault) (count n : ℕ) → n ≤ count → fault_at (pending given count) n ≡ None
unfolding fault_at pending
fault_counted given count n h =
    ap (option_map (λ f. f.fault))
    (find_out (λ (f : NumberedFault). f.number == n) (λ (f : NumberedFault). nat_lt count f.number)
    (λ f same. let e : f.number ≡ n = eqb-true f.number n same in le-ltb count f.number (omega (arith, h, e))) given)

-- ---- a fault more

pub pending_push : (given : List NumberedFault) (count : ℕ) (f : NumberedFault) → count < f.number → pending (given ++ f ∷ []) count ≡ pending given count ++ f ∷ []
unfolding pending
pending_push given count f h =
    filter-append (λ (g : NumberedFault). nat_lt count g.number) given (f ∷ [])
    ∙ ap (λ b. filter (λ (g : NumberedFault). nat_lt count g.number) given ++ cond b (f ∷ []) []) (lt-ltb count f.number h)

none_if : (o : Option Fault) (why : SetFault) → cond (is_some o) (Some why) None ≡ None → o ≡ None
none_if None why e = refl
none_if (Some fault) why e = absurd cc

-- a number for which no fault is refused is to come, and none of those given has it
pub free_number : (given : List NumberedFault) (count n : ℕ) → fault_refusal (pending given count) count n ≡ None → (count < n) × (fault_at given n ≡ None)
unfolding fault_refusal
free_number given count n none =
    let twice : Option SetFault = cond (is_some (fault_at (pending given count) n)) (Some Twice) None in
    ⊎_elim
    (λ (ahead : count < n).
    (ahead, sym (fault_pending given count n ahead) ∙ none_if (fault_at (pending given count) n) Twice (sym (cond-false (nat_le n count) (Some BadNumber) twice (lt-leb n count ahead)) ∙ none)))
    (λ (behind : n ≤ count). absurd (let both : Some BadNumber ≡ None = sym (cond-true (nat_le n count) (Some BadNumber) twice (le-leb n count behind)) ∙ none in cc))
    (cases_lt count n)

fault_of_or : (o : Option NumberedFault) (b : Bool) (f : NumberedFault) → option_map (λ g. g.fault) (option_or o (cond b (Some f) None)) ≡ option_or (option_map (λ g. g.fault) o) (cond b (Some f.fault) None)
fault_of_or None true f = refl
fault_of_or None false f = refl
fault_of_or (Some g) b f = refl

or_none : {X : Type 0} (o : Option X) → option_or o None ≡ o
or_none None = refl
or_none (Some x) = refl

fault_push : (given : List NumberedFault) (f : NumberedFault) (n : ℕ) → fault_at (given ++ f ∷ []) n ≡ option_or (fault_at given n) (cond (f.number == n) (Some f.fault) None)
unfolding fault_at
fault_push given f n =
    ap (option_map (λ g. g.fault)) (find-append (λ (g : NumberedFault). g.number == n) given (f ∷ []))
    ∙ fault_of_or (find (λ (g : NumberedFault). g.number == n) given) (f.number == n) f

other_number : (a b : ℕ) (r : Ordering) → r ≡ nat_cmp a b → (a ≡ b → ⊥) → is_eq r ≡ false
other_number a b Less e other = refl
other_number a b Equal e other = absurd (other (ranked a b Equal e))
other_number a b Greater e other = refl

-- the map by number finds what a walk finds, if it did and the number is new
pub numbered_push :
    (given : List NumberedFault) (f : NumberedFault) (m new : BTreeMap ℕ Fault) → fault_at given f.number ≡ None →
    ((n : ℕ) → get nat_cmp m n ≡ fault_at given n) → Updates nat_cmp m new f.number (Some f.fault) →
    (n : ℕ) → get nat_cmp new n ≡ fault_at (given ++ f ∷ []) n
numbered_push given f m new none numbered updates n =
    ⊎_elim
    (λ (same : f.number ≡ n).
    subst (λ k. get nat_cmp new k ≡ fault_at (given ++ f ∷ []) k) same
    (updates.1
    ∙ sym
    (fault_push given f f.number ∙ ap (λ o. option_or o (cond (f.number == f.number) (Some f.fault) None)) none
    ∙ ap (λ b. cond b (Some f.fault) None) (eq-eqb f.number f.number refl))))
    (λ (other : f.number ≡ n → ⊥).
    updates.2 n (other_number f.number n (nat_cmp f.number n) refl other)
    ∙ numbered n
    ∙ sym (fault_push given f n ∙ ap (λ b. option_or (fault_at given n) (cond b (Some f.fault) None)) (ne_eqb f.number n other) ∙ or_none (fault_at given n)))
    (cases_eq f.number n)

-- the same of the faults with their count
pub pushed_faults :
    (given now : List NumberedFault) (count : ℕ) (f : NumberedFault) (s : Faults) → now ≡ given ++ f ∷ [] → fault_refusal s.faults s.count f.number ≡ None →
    ◌≡◌ {A = Faults} (record { faults = pending given count; count = count }) s →
    ◌≡◌ {A = Faults} (record { faults = pending now count; count = count }) (record s { faults = s.faults ++ f ∷ [] })
pushed_faults given now count f s items none is =
    let free = free_number given count f.number (subst (λ (r : Faults). fault_refusal r.faults r.count f.number ≡ None) (sym is) none) in
    ap (λ fs. record { faults = pending fs count; count = count }) items
    ∙ ap (λ fs. record { faults = fs; count = count }) (pending_push given count f free.0)
    ∙ ap (λ (r : Faults). record r { faults = r.faults ++ f ∷ [] }) is

pub pushed_numbered :
    (given now : List NumberedFault) (count : ℕ) (f : NumberedFault) (s : Faults) (m new : BTreeMap ℕ Fault) → now ≡ given ++ f ∷ [] → fault_refusal s.faults s.count f.number ≡ None →
    ◌≡◌ {A = Faults} (record { faults = pending given count; count = count }) s → ((n : ℕ) → get nat_cmp m n ≡ fault_at given n) →
    Updates nat_cmp m new f.number (Some f.fault) → (n : ℕ) → get nat_cmp new n ≡ fault_at now n
pushed_numbered given now count f s m new items none is numbered updates n =
    let free = free_number given count f.number (subst (λ (r : Faults). fault_refusal r.faults r.count f.number ≡ None) (sym is) none) in
    numbered_push given f m new free.1 numbered updates n ∙ ap (λ fs. fault_at fs n) (sym items)

pub none_pending : (given : List NumberedFault) → given ≡ [] → ◌≡◌ {A = Faults} (record { faults = pending given 0; count = 0 }) (record { faults = []; count = 0 })
unfolding pending
none_pending given none = ap (λ (fs : List NumberedFault). record { faults = pending fs 0; count = 0 }) none

-- a map of nothing finds nothing
pub numbered_none : (m : BTreeMap ℕ Fault) → IsEmpty m → (n : ℕ) → get nat_cmp m n ≡ fault_at [] n
unfolding fault_at
numbered_none m empty n = ap (lookup (λ k. is_eq (nat_cmp n k))) empty

-- ---- a request more

filtered : {X : Type 0} (p : X → Bool) (x : X) (xs ys : List X) (b : Bool) → filter p xs ≡ ys → filter p (cond b (x ∷ xs) xs) ≡ cond (b && p x) (x ∷ ys) ys
filtered p x xs ys true e = ap (λ zs. cond (p x) (x ∷ zs) zs) e
filtered p x xs ys false e = e

filter_both : {X : Type 0} (p q : X → Bool) (xs : List X) → filter p (filter q xs) ≡ filter (λ x. q x && p x) xs
filter_both p q [] = refl
filter_both p q (x ∷ xs) = filtered p x (filter q xs) (filter (λ y. q y && p y) xs) (q x) (filter_both p q xs)

-- the numbers after the next, also where the count stays
behind_next : (b : Bool) (count n : ℕ) → (nat_lt count n && not (n == cond b (count + 1) count)) ≡ nat_lt (cond b (count + 1) count) n
behind_next true count n = grind (arith, nat_tests)
behind_next false count n = grind (arith, nat_tests)

pub pending_counted : (given : List NumberedFault) (count : ℕ) → without_fault (pending given count) (next_number count) ≡ pending given (next_number count)
unfolding without_fault pending next_number
pending_counted given count =
    filter_both (λ (f : NumberedFault). not (f.number == next_number count)) (λ (f : NumberedFault). nat_lt count f.number) given
    ∙ filter_agree (λ (f : NumberedFault). nat_lt count f.number && not (f.number == next_number count)) (λ (f : NumberedFault). nat_lt (next_number count) f.number)
    (λ f. behind_next (nat_lt count (2 ^ 64 - 1)) count f.number) given

-- the same of the faults with their count
pub counted_faults :
    (given : List NumberedFault) (count : ℕ) (f : Faults) (next : ℕ) → ◌≡◌ {A = Faults} (record { faults = pending given count; count = count }) f → next ≡ next_number count →
    ◌≡◌ {A = Faults} (record { faults = pending given next; count = next }) (record { faults = without_fault f.faults (next_number f.count); count = next_number f.count })
counted_faults given count f next is number =
    ap (λ n. record { faults = pending given n; count = n }) number
    ∙ ap (λ fs. record { faults = fs; count = next_number count }) (sym (pending_counted given count))
    ∙ ap (λ (g : Faults). record { faults = without_fault g.faults (next_number g.count); count = next_number g.count }) is
