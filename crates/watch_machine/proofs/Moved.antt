-- Moved: where an entry is after a change, what is known of it and written of it there, and which requests are out. For the laws of a change.
use Rattle.std.proofs.Common.{◌≡◌, ◌∙◌, ◌==◌, ◌&&◌, ℕ, zero, suc, ◌+◌, ◌<◌, ◌≤◌, Bool, true, false, if◌then◌else◌, List, [], ◌∷◌, Option, Some, None, cond, count_by, find, inl, inr, length, option_map, refl, sym, ap, arith}
use Rattle.std.proofs.lemmas.{Bool.Decides.nat_tests, List.get_or_past, List.FromFn.get_or-map-range_with_len, List.Sums.sum_by-cons}
use Rattle.std.proofs.lemmas.Bool.{and_parts, cases_Bool, cases_eq, cases_lt, cond-false, cond-true, eqb-true}
use Rattle.plan_forest.specs.Forest.{Forest, entry_at, no_entry}
use Rattle.watch_machine.specs.{declared.change.Was.Was, declared.change.Was.TheVariants.New, declared.event.Operation.Operation, declared.lanes.Out.Out, Refusal.is_same, Refusal.request_out}
use Rattle.watch_machine.specs.Change.{IsChange, changed, entry_by, forest_after, former, former_at, index_or, is_former, moved_out, out_after, place_now, track_by, tracks_after, was_at}
use Rattle.watch_machine.specs.State.{WatchState, entry_of, no_track, track_at}
use Rattle.watch_machine.proofs.Cases.{value_is}

-- ---- what is known of an entry, and written of it

pub changed_track : (s : WatchState) (g : Forest) (was : List Was) (j : ℕ) → j < length g.entries → track_at (changed s g was) j ≡ track_by s.clocks.at s.tracks (entry_at g.entries j) (was_at was j)
unfolding tracks_after
changed_track s g was j within = get_or-map-range_with_len (λ k. track_by s.clocks.at s.tracks (entry_at g.entries k) (was_at was k)) 0 (length g.entries) j j no_track within (omega arith)

pub changed_entry : (s : WatchState) (g : Forest) (was : List Was) (j : ℕ) → j < length g.entries → entry_of (changed s g was) j ≡ entry_by g.margin s.forest.entries (entry_at g.entries j) (was_at was j)
unfolding entry_at forest_after
changed_entry s g was j within =
    get_or-map-range_with_len (λ k. entry_by g.margin s.forest.entries (entry_at g.entries k) (was_at was k)) 0 (length g.entries) j j no_entry within (omega arith)

-- whatever is said of an entry but that it is new is said of one that there is
pub said_within : (was : List Was) (j n : ℕ) → length was ≡ n → (was_at was j ≡ New → ⊥) → j < n
said_within was j n count said = elim (cases_lt j n) [
  | inl within ↦ within
  | inr past ↦ absurd (said (get_or_past was j New (omega (arith, past, count))))
]

-- ---- where entries are

was_there : (i : ℕ) (o : Option ℕ) → is_former i o ≡ true → o ≡ Some i
was_there i None is = absurd cc
was_there i (Some k) is = ap (λ n. Some n) (eqb-true k i is)

is_there : (i : ℕ) (o : Option ℕ) → o ≡ Some i → is_former i o ≡ true
is_there i None is = absurd cc
is_there i (Some k) is = let same : k ≡ i = value_is k i is in grind (arith, nat_tests)

was_further : (i j : ℕ) (o : Option ℕ) → option_map (λ k. suc k) o ≡ Some j → (k : ℕ) × ((o ≡ Some k) × (j ≡ suc k))
was_further i j None is = absurd cc
was_further i j (Some k) is = (k, (refl, sym (value_is (suc k) j is)))

-- what is told of where an entry is was said of it
pub place_said : (was : List Was) (i j : ℕ) → place_now was i ≡ Some j → former_at was j ≡ Some i
unfolding place_now
place_said [] i j is = absurd cc
place_said (w ∷ ws) i j is = elim (cases_Bool (is_former i (former w))) as (λ _. former_at (w ∷ ws) j ≡ Some i) [
  | inl here ↦
      let zero_is : 0 ≡ j = value_is 0 j (sym (cond-true (is_former i (former w)) (Some 0) (option_map (λ k. suc k) (place_now ws i)) here) ∙ is) in
      ap (λ n. former_at (w ∷ ws) n) (sym zero_is) ∙ was_there i (former w) here
  | inr other ↦
      let more = was_further i j (place_now ws i) (sym (cond-false (is_former i (former w)) (Some 0) (option_map (λ k. suc k) (place_now ws i)) other) ∙ is) in
      ap (λ n. former_at (w ∷ ws) n) more.1.1 ∙ place_said ws i more.0 more.1.0
]

-- and an entry of which it is said is there, if it is said of no other
pub place_there : (was : List Was) (i j : ℕ) → former_at was j ≡ Some i → ((k : ℕ) → former_at was k ≡ Some i → j ≡ k) → place_now was i ≡ Some j
unfolding place_now
place_there [] i j is once = absurd cc
place_there (w ∷ ws) i zero is once = cond-true (is_former i (former w)) (Some 0) (option_map (λ k. suc k) (place_now ws i)) (is_there i (former w) is)
place_there (w ∷ ws) i (suc j) is once = elim (cases_Bool (is_former i (former w))) as (λ _. cond (is_former i (former w)) (Some 0) (option_map (λ k. suc k) (place_now ws i)) ≡ Some (suc j)) [
  | inl here ↦ absurd (let bad : suc j ≡ 0 = once 0 (was_there i (former w) here) in omega (arith, bad))
  | inr other ↦
      cond-false (is_former i (former w)) (Some 0) (option_map (λ k. suc k) (place_now ws i)) other
      ∙ ap (option_map (λ k. suc k)) (place_there ws i j is (λ k said. let same = once (suc k) said in omega (arith, same)))
]

-- ---- requests

-- the index of a request is that of an entry just where it was that of the same before
index_other :
    (n many : ℕ) (was : List Was) (i j e : ℕ) (o : Option ℕ) → place_now was e ≡ o → many ≤ n → j < many → former_at was j ≡ Some i → (e ≡ i → ⊥) → (index_or n o == j) ≡ false
index_other n many was i j e None place le low said other = grind (arith, nat_tests)
index_other n many was i j e (Some k) place le low said other = elim (cases_eq k j) [
  | inl same ↦ absurd (other (value_is e i (sym (place_said was e k place) ∙ ap (former_at was) same ∙ said)))
  | inr apart ↦ grind (arith, nat_tests)
]

pub index_same :
    (n many : ℕ) (was : List Was) (i j e : ℕ) → many ≤ n → j < many → former_at was j ≡ Some i → place_now was i ≡ Some j → (index_or n (place_now was e) == j) ≡ (e == i)
index_same n many was i j e le low said there = elim (cases_eq e i) [
  | inl same ↦
      let left : (index_or n (place_now was e) == j) ≡ true =
      ap (λ o. index_or n o == j) (ap (place_now was) same ∙ there) ∙ (let here : (j == j) ≡ true = grind (arith, nat_tests) in here) in
      let right : (e == i) ≡ true = grind (arith, nat_tests) in
      left ∙ sym right
  | inr other ↦ (let right : (e == i) ≡ false = grind (arith, nat_tests) in index_other n many was i j e (place_now was e) refl le low said other ∙ sym right)
]

-- the request of an entry is out under the index that it has now
pub request_moved :
    (n many : ℕ) (was : List Was) (i j : ℕ) (operation : Operation) (out : List Out) → many ≤ n → j < many → former_at was j ≡ Some i → place_now was i ≡ Some j →
    request_out (out_after was n out) j operation ≡ option_map (λ (r : Out). record r { entry = j }) (request_out out i operation)
unfolding request_out
request_moved n many was i j operation [] le low said there = refl
request_moved n many was i j operation (r ∷ rest) le low said there =
    let x = moved_out was n r in
    let test : Out → Bool = λ (q : Out). q.entry == i && is_same q.operation operation in
    let moved : Out → Bool = λ (q : Out). q.entry == j && is_same q.operation operation in
    let same : moved x ≡ test r = ap (λ b. b && is_same r.operation operation) (index_same n many was i j r.entry le low said there) in
    elim (cases_Bool (test r)) as (λ _. find moved (x ∷ out_after was (suc n) rest) ≡ option_map (λ (q : Out). record q { entry = j }) (find test (r ∷ rest))) [
      | inl yes' ↦
          cond-true (moved x) (Some x) (find moved (out_after was (suc n) rest)) (same ∙ yes')
          ∙ ap (λ k. Some (record r { entry = k })) (eqb-true x.entry j (and_parts (x.entry == j) (is_same r.operation operation) (same ∙ yes')).0)
          ∙ sym (ap (option_map (λ (q : Out). record q { entry = j })) (cond-true (test r) (Some r) (find test rest) yes'))
      | inr no' ↦
          cond-false (moved x) (Some x) (find moved (out_after was (suc n) rest)) (same ∙ no')
          ∙ request_moved (suc n) many was i j operation rest (omega (arith, le)) low said there
          ∙ sym (ap (option_map (λ (q : Out). record q { entry = j })) (cond-false (test r) (Some r) (find test rest) no'))
    ]

-- ---- how many are out under an index

-- whatever was somewhere is told of below the number of entries
pub former_low : (n : ℕ) (g : Forest) (was : List Was) → IsChange n g was → (i j : ℕ) → former_at was j ≡ Some i → j < length g.entries
former_low n g was change i j said = said_within was j (length g.entries) change.count (λ new. let bad : None ≡ Some i = sym (ap former new) ∙ said in cc)

abbrev pub times_out : ℕ → List Out → ℕ
times_out j out = count_by (λ (r : Out). r.entry == j) out

abbrev one_if : Bool → ℕ
one_if b = if b then 1 else 0

times_more : (j : ℕ) (r : Out) (rest : List Out) → times_out j (r ∷ rest) ≡ one_if (r.entry == j) + times_out j rest
times_more j r rest = sum_by-cons (λ (q : Out). one_if (q.entry == j)) r rest

-- as many as before of an entry that was
pub times_moved :
    (n many : ℕ) (was : List Was) (i j : ℕ) (out : List Out) → many ≤ n → j < many → former_at was j ≡ Some i → place_now was i ≡ Some j → times_out j (out_after was n out) ≡ times_out i out
times_moved n many was i j [] le low said there = refl
times_moved n many was i j (r ∷ rest) le low said there =
    times_more j (moved_out was n r) (out_after was (suc n) rest)
    ∙ ap (λ b. one_if b + times_out j (out_after was (suc n) rest)) (index_same n many was i j r.entry le low said there)
    ∙ ap (λ k. one_if (r.entry == i) + k) (times_moved (suc n) many was i j rest (omega (arith, le)) low said there) ∙ sym (times_more i r rest)

-- none of one that is new
pub index_new : (n many : ℕ) (was : List Was) (j e : ℕ) → many ≤ n → j < many → former_at was j ≡ None → (index_or n (place_now was e) == j) ≡ false
index_new n many was j e le low new = by (place_now was e) refl where
  by : (o : Option ℕ) → place_now was e ≡ o → (index_or n o == j) ≡ false
  by None place = grind (arith, nat_tests)
  by (Some k) place = elim (cases_eq k j) [
    | inl same ↦ absurd (let bad : None ≡ Some e = sym new ∙ ap (former_at was) (sym same) ∙ place_said was e k place in cc)
    | inr apart ↦ grind (arith, nat_tests)
  ]

pub times_new : (n many : ℕ) (was : List Was) (j : ℕ) (out : List Out) → many ≤ n → j < many → former_at was j ≡ None → times_out j (out_after was n out) ≡ 0
times_new n many was j [] le low new = refl
times_new n many was j (r ∷ rest) le low new =
    let more = times_more j (moved_out was n r) (out_after was (suc n) rest) in
    let here = ap one_if (index_new n many was j r.entry le low new) in
    let none = times_new (suc n) many was j rest (omega (arith, le)) low new in
    omega (arith, more, here, none)

-- and one at most under an index past the last entry
module _ (many : ℕ) (was : List Was) (low : (i j : ℕ) → former_at was j ≡ Some i → j < many) where
  index_past : (n j e : ℕ) → many ≤ j → (j ≡ n → ⊥) → (index_or n (place_now was e) == j) ≡ false
  index_past n j e past other = by (place_now was e) refl where
    by : (o : Option ℕ) → place_now was e ≡ o → (index_or n o == j) ≡ false
    by None place = elim (cases_eq n j) [ inl same ↦ absurd (other (sym same)) | inr apart ↦ grind (arith, nat_tests) ]
    by (Some k) place = let below = low e k (place_said was e k place) in grind (arith, nat_tests)

  times_passed : (n j : ℕ) (out : List Out) → many ≤ j → j < n → times_out j (out_after was n out) ≡ 0
  times_passed n j [] past before = refl
  times_passed n j (r ∷ rest) past before =
      let more = times_more j (moved_out was n r) (out_after was (suc n) rest) in
      let here = ap one_if (index_past n j r.entry past (λ h. omega (arith, h, before))) in
      let none = times_passed (suc n) j rest past (omega (arith, before)) in
      omega (arith, more, here, none)

  pub times_nobody : (n j : ℕ) (out : List Out) → many ≤ j → times_out j (out_after was n out) ≤ 1
  times_nobody n j [] past = omega arith
  times_nobody n j (r ∷ rest) past =
      let more = times_more j (moved_out was n r) (out_after was (suc n) rest) in
      elim (cases_eq j n) [
        | inl same ↦
            let none = times_passed (suc n) j rest past (omega (arith, same)) in
            let one = few (index_or n (place_now was r.entry) == j) in
            omega (arith, more, none, one)
        | inr other ↦
            let zero_here = ap one_if (index_past n j r.entry past other) in
            let rest_low = times_nobody (suc n) j rest past in
            omega (arith, more, zero_here, rest_low)
      ] where
        few : (b : Bool) → one_if b ≤ 1
        few true = omega arith
        few false = omega arith
