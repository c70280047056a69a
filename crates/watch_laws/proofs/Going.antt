-- Going: what goes out at a clock: as many requests as lanes are free at most, and of an entry nothing, or one request that was due. For
-- the laws of load.
use Rattle.std.proofs.Common.{◌≡◌, ◌⊎◌, ◌∙◌, ℕ, zero, suc, ◌+◌, ◌<◌, ◌≤◌, Bool, true, false, cond, ◌||◌, ◌==◌, List, [], ◌∷◌, Option, Some, None, All, IsPermutation, count_by, filter, get_or, length, map, take, zero-add, refl, sym, ap, subst, arith, inl, inr}
use Rattle.std.proofs.lemmas.{Bool.Decides.nat_tests, List.Sums.sum_by-cons, List.Sums.sum_by-take-le}
use Rattle.std.proofs.lemmas.Bool.{cases_Bool, cases_lt, eqb-true, or_left, or_right}
use Rattle.std.proofs.lemmas.List.{get_or-take, length-take, take-map, take_all}
use Rattle.std.proofs.lemmas.List.Elements.{All-cons, All-filter, All-head, All-map, All-nil, All-tail, All-take, filter_passes}
use Rattle.std.proofs.lemmas.List.Sorted.{All-permutation, IsPermutation-map, sorted_far, sum_by-IsPermutation}
use Rattle.std.specs.List.{list_any, range_with_len}
use Rattle.plan_forest.specs.{declared.entry.Entry.Entry, Forest.Forest, Forest.entry_at}
use Rattle.watch_machine.specs.{declared.command.WatchRequest.WatchRequest, declared.event.Operation.Operation, declared.event.Operation.TheVariants.Look, declared.lanes.Presence.Presence, declared.track.Track.Track, declared.track.Try.Try}
use Rattle.watch_machine.specs.{Clocks.sec, Lines.is_due, State.track_in}
use Rattle.watch_machine.specs.Sending.{IsGoing, IsSendingOrder, Place, due, is_before, is_partial, place, place_of, request, request_of}
use Rattle.watch_machine.proofs.Cases.{if_cases, not_both}
use Rattle.watch_laws.specs.Load.{Sent, sent_at}
use Rattle.watch_laws.proofs.Order.{line_order}

-- a list of numbers below n, each of which passes a test
abbrev pub AreOf : (ℕ → Bool) → ℕ → List ℕ → Type 0
AreOf p n xs = All (λ i. (i < n) × (p i ≡ true)) xs

range_below : (n a m : ℕ) → a + n ≤ m → All (λ i. i < m) (range_with_len a n)
range_below zero a m h = All-nil (λ i. i < m)
range_below (suc n) a m h = All-cons (λ i. i < m) a (range_with_len (a + 1) n) (omega arith) (range_below n (a + 1) m (omega arith))

filter_of : (p : ℕ → Bool) (n : ℕ) (xs : List ℕ) → All (λ i. i < n) xs → AreOf p n (filter p xs)
filter_of p n xs h k d within = (All-filter p (λ i. i < n) xs h k d within, filter_passes p xs k d within)

-- how often i is among some numbers
abbrev pub times : ℕ → List ℕ → ℕ
times i xs = count_by (λ j. j == i) xs

times_cons : (i j : ℕ) (xs : List ℕ) → times i (j ∷ xs) ≡ cond (j == i) 1 0 + times i xs
times_cons i j xs = sum_by-cons (λ k. cond (k == i) 1 0) j xs

-- one more, and one that is another
pub counts : (i j : ℕ) (xs : List ℕ) → (j == i) ≡ true → times i (j ∷ xs) ≡ 1 + times i xs
counts i j xs same = times_cons i j xs ∙ ap (λ (b : Bool). cond b 1 0 + times i xs) same

pub skips : (i j : ℕ) (xs : List ℕ) → (j == i) ≡ false → times i (j ∷ xs) ≡ times i xs
skips i j xs other = times_cons i j xs ∙ ap (λ (b : Bool). cond b 1 0 + times i xs) other ∙ zero-add (times i xs)

times_range : (n a i : ℕ) → (i < a → times i (range_with_len a n) ≡ 0) × (times i (range_with_len a n) ≤ 1)
times_range zero a i = ((λ h. refl), omega arith)
times_range (suc n) a i =
    let rest = times_range n (a + 1) i in
    elim (cases_Bool (a == i)) as (λ _. (i < a → times i (range_with_len a (suc n)) ≡ 0) × (times i (range_with_len a (suc n)) ≤ 1)) [
      | inl same ↦
          let more = counts i a (range_with_len (a + 1) n) same in
          let is : a ≡ i = grind (arith, nat_tests) in
          let none : times i (range_with_len (a + 1) n) ≡ 0 = rest.0 (omega arith) in
          ((λ h. absurd (omega arith)), omega arith)
      | inr other ↦
          let more = skips i a (range_with_len (a + 1) n) other in
          let below = rest.0 in
          let few = rest.1 in
          ((λ h. (let b : times i (range_with_len (a + 1) n) ≡ 0 = below (omega arith) in omega arith)), omega arith)
    ]

times_filter : (p : ℕ → Bool) (i : ℕ) (xs : List ℕ) → times i (filter p xs) ≤ times i xs
times_filter p i [] = omega arith
times_filter p i (x ∷ xs) =
    let rest = times_filter p i xs in
    let more = times_cons i x xs in
    if_cases (λ (ys : List ℕ). times i ys ≤ times i (x ∷ xs)) (p x) (x ∷ filter p xs) (filter p xs) (λ e. (let here = times_cons i x (filter p xs) in omega (arith, rest, more, here)))
    (λ e. omega (arith, rest, more))

-- what passes is there
times_in : (p : ℕ → Bool) (n a i : ℕ) → a ≤ i → i < a + n → p i ≡ true → 1 ≤ times i (filter p (range_with_len a n))
times_in p zero a i from below yes' = absurd (omega (arith, from, below))
times_in p (suc n) a i from below yes' =
    let rest = range_with_len (a + 1) n in
    if_cases (λ (ys : List ℕ). 1 ≤ times i ys) (p a) (a ∷ filter p rest) (filter p rest)
    (λ e. elim (cases_Bool (a == i)) [
      | inl same ↦ (let more = counts i a (filter p rest) same in omega (arith, more))
      | inr other ↦
          let more = skips i a (filter p rest) other in
          let next : a + 1 ≤ i = grind (arith, nat_tests) in
          let there = times_in p n (a + 1) i next (omega (arith, below)) yes' in
          omega (arith, more, there)
    ])
    (λ e. elim (cases_Bool (a == i)) [
      | inl same ↦ absurd (let is : a ≡ i = grind (arith, nat_tests) in not_both (subst (λ k. p k ≡ true) (sym is) yes') e)
      | inr other ↦ (let next : a + 1 ≤ i = grind (arith, nat_tests) in times_in p n (a + 1) i next (omega (arith, below)) yes')
    ])

-- the entries of those that are due are those that pass the test
placed_by : (margin : ℕ) (e : Entry) (away : Bool) (now i : ℕ) (x : Track) (o : Option Try) → (place_of margin e away now i x o).entry ≡ i
placed_by margin e away now i x None = refl
placed_by margin e away now i x (Some t) = refl

placed : (g : Forest) (away : Bool) (now : ℕ) (xs : List Track) (i : ℕ) → (place g away now xs i).entry ≡ i
placed g away now xs i = placed_by g.margin (entry_at g.entries i) away now i (track_in xs i) (track_in xs i).attempt

placed_all : (g : Forest) (away : Bool) (now : ℕ) (xs : List Track) (is : List ℕ) → map (λ (q : Place). q.entry) (map (place g away now xs) is) ≡ is
placed_all g away now xs [] = refl
placed_all g away now xs (i ∷ is) =
    ap (λ n. n ∷ map (λ (q : Place). q.entry) (map (place g away now xs) is)) (placed g away now xs i) ∙ ap (λ js. i ∷ js) (placed_all g away now xs is)

-- the request of an entry, and those that go out, by index
abbrev pub request_at : Presence → ℕ → List Track → ℕ → WatchRequest
request_at p now xs i = request_of p.away (is_partial now xs) p.pace i (track_in xs i).attempt

requests_at : (p : Presence) (now : ℕ) (xs : List Track) (qs : List Place) → map (request p now xs) qs ≡ map (request_at p now xs) (map (λ (q : Place). q.entry) qs)
unfolding request
requests_at p now xs [] = refl
requests_at p now xs (q ∷ qs) = ap (λ rs. request_at p now xs q.entry ∷ rs) (requests_at p now xs qs)

-- these entries' requests go out: each is due, and named once
pub record Goes (g : Forest) (p : Presence) (at : ℕ) (xs : List Track) (lanes : ℕ) (requests : List WatchRequest) : Type 0 where
  pub entries : List ℕ
  pub requests_are : requests ≡ map (request_at p (sec at) xs) entries
  pub due : AreOf (λ i. is_due p at (track_in xs i)) (length xs) entries
  pub once : (i : ℕ) → times i entries ≤ 1
  pub few : length entries ≤ lanes
  pub full : (i : ℕ) → i < length xs → is_due p at (track_in xs i) ≡ true → (1 ≤ times i entries) ⊎ (lanes ≤ length entries)
  pub order : (i : ℕ) → i < length xs → is_due p at (track_in xs i) ≡ true → times i entries ≡ 0 → All (λ k. is_before (place g p.away (sec at) xs i) (place g p.away (sec at) xs k) ≡ false) entries

-- an entry that is named, and not among the first, is named after them
somewhere : (i : ℕ) (qs : List Place) → 1 ≤ times i (map (λ (q : Place). q.entry) qs) → (b : ℕ) × ((b < length qs) × ((d : Place) → (get_or qs b d).entry ≡ i))
somewhere i [] some = absurd (omega (arith, some))
somewhere i (q ∷ qs) some =
    elim (cases_Bool (q.entry == i)) [
      | inl here ↦ (0, (omega arith, λ d. eqb-true q.entry i here))
      | inr there ↦
          let more = skips i q.entry (map (λ (r : Place). r.entry) qs) there in
          let rest = somewhere i qs (omega (arith, more, some)) in
          let within = rest.1.0 in
          (suc rest.0, (omega (arith, within), λ d. rest.1.1 d))
    ]

after_first : (i n : ℕ) (qs : List Place) → 1 ≤ times i (map (λ (q : Place). q.entry) qs) → times i (map (λ (q : Place). q.entry) (take n qs)) ≡ 0 → (b : ℕ) × ((n ≤ b) × ((b < length qs) × ((d : Place) → (get_or qs b d).entry ≡ i)))
after_first i zero qs some none = let there = somewhere i qs some in (there.0, (omega arith, there.1))
after_first i (suc n) [] some none = absurd (omega (arith, some))
after_first i (suc n) (q ∷ qs) some none =
    elim (cases_Bool (q.entry == i)) [
      | inl here ↦ (let more = counts i q.entry (map (λ (r : Place). r.entry) (take n qs)) here in absurd (omega (arith, more, none)))
      | inr there ↦
          let more = skips i q.entry (map (λ (r : Place). r.entry) qs) there in
          let fewer = skips i q.entry (map (λ (r : Place). r.entry) (take n qs)) there in
          let rest = after_first i n qs (omega (arith, more, some)) (omega (arith, fewer, none)) in
          let far = rest.1.0 in
          let within = rest.1.1.0 in
          (suc rest.0, (omega (arith, far), (omega (arith, within), λ d. rest.1.1.1 d)))
    ]

-- the place of an entry is as it is made of its index
abbrev IsPlaced : Forest → Presence → ℕ → List Track → Place → Type 0
IsPlaced g p at xs q = q ≡ place g p.away (sec at) xs q.entry

all_placed : (g : Forest) (p : Presence) (at : ℕ) (xs : List Track) (line : List Place) → IsPermutation (due g p at xs) line → All (IsPlaced g p at xs) line
all_placed g p at xs line all =
    let these = filter (λ i. is_due p at (track_in xs i)) (range_with_len 0 (length xs)) in
    All-permutation (IsPlaced g p at xs) (due g p at xs) line all
    (All-map (IsPlaced g p at xs) (place g p.away (sec at) xs) these
    (λ k d below. (let i = get_or these k d in ap (place g p.away (sec at) xs) (sym (placed g p.away (sec at) xs i)))))

-- who is due and is not among the first stands before none of them
first_in_line :
    (g : Forest) (p : Presence) (at : ℕ) (xs : List Track) (lanes : ℕ) (line : List Place) (i : ℕ) → IsSendingOrder g p at xs line → 1 ≤ times i (map (λ (q : Place). q.entry) line) →
    times i (map (λ (q : Place). q.entry) (take lanes line)) ≡ 0 → All (λ (q : Place). is_before (place g p.away (sec at) xs i) (place g p.away (sec at) xs q.entry) ≡ false) (take lanes line)
first_in_line g p at xs lanes line i h some none = λ k d below.
    let there = after_first i lanes line some none in
    let b = there.0 in
    let far = there.1.0 in
    let within = there.1.1.0 in
    let many = length-take lanes line in
    let same = get_or-take lanes line k d (omega (arith, many, below)) in
    let places = all_placed g p at xs line h.all in
    let mine : get_or line b d ≡ place g p.away (sec at) xs i = places b d within ∙ ap (place g p.away (sec at) xs) (there.1.1.1 d) in
    let other : get_or line k d ≡ place g p.away (sec at) xs (get_or (take lanes line) k d).entry =
    places k d (omega (arith, many, below)) ∙ ap (λ (q : Place). place g p.away (sec at) xs q.entry) (sym same) in
    sym (ap (λ q. is_before q (place g p.away (sec at) xs (get_or (take lanes line) k d).entry)) mine) ∙ sym (ap (λ q. is_before (get_or line b d) q) other)
    ∙ sorted_far is_before line_order line h.in_order k b d (omega (arith, many, below, far)) within

pub goes : (g : Forest) (p : Presence) (at : ℕ) (xs : List Track) (lanes : ℕ) (requests : List WatchRequest) → IsGoing g p at xs lanes requests → Goes g p at xs lanes requests
goes g p at xs lanes requests h =
    let test : ℕ → Bool = λ i. is_due p at (track_in xs i) in
    let n = length xs in
    let these = filter test (range_with_len 0 n) in
    let line = h.is_picked.0 in
    let all : IsPermutation these (map (λ (q : Place). q.entry) line) =
    subst (λ is. IsPermutation is (map (λ (q : Place). q.entry) line)) (placed_all g p.away (sec at) xs these) (IsPermutation-map (λ (q : Place). q.entry) (due g p at xs) line h.is_picked.1.0.all) in
    let front : map (λ (q : Place). q.entry) h.picked ≡ take lanes (map (λ (q : Place). q.entry) line) = ap (map (λ (q : Place). q.entry)) h.is_picked.1.1 ∙ sym (take-map (λ (q : Place). q.entry) lanes line) in
    let P : ℕ → Type 0 = λ i. (i < n) × (test i ≡ true) in
    record {
      entries = map (λ (q : Place). q.entry) h.picked;
      requests_are = h.requests_are ∙ requests_at p (sec at) xs h.picked;
      due = subst (All P) (sym front) (All-take P lanes (map (λ (q : Place). q.entry) line) (All-permutation P these (map (λ (q : Place). q.entry) line) all (filter_of test n (range_with_len 0 n) (range_below n 0 n (omega arith)))));
      once = λ i.
          let is : ℕ → ℕ = λ j. cond (j == i) 1 0 in
          let range = (times_range n 0 i).1 in
          let kept = times_filter test i (range_with_len 0 n) in
          let same = sum_by-IsPermutation is these (map (λ (q : Place). q.entry) line) all in
          let some = sum_by-take-le is (map (λ (q : Place). q.entry) line) lanes in
          let there : times i (map (λ (q : Place). q.entry) h.picked) ≡ times i (take lanes (map (λ (q : Place). q.entry) line)) = ap (times i) front in
          omega (arith, range, kept, same, some, there);
      few = let there = ap length front in let most = length-take lanes (map (λ (q : Place). q.entry) line) in omega (arith, there, most);
      full = λ i within due'.
          let es = map (λ (q : Place). q.entry) line in
          let many = length-take lanes es in
          let there = ap length front in
          elim (cases_lt lanes (length es)) as (λ _. (1 ≤ times i (map (λ (q : Place). q.entry) h.picked)) ⊎ (lanes ≤ length (map (λ (q : Place). q.entry) h.picked))) [
            | inl more ↦ inr (omega (arith, many, there, more))
            | inr whole ↦
                let is : ℕ → ℕ = λ j. cond (j == i) 1 0 in
                let same = sum_by-IsPermutation is these es all in
                let here = times_in test n 0 i (omega arith) (omega (arith, within)) due' in
                let count : times i (map (λ (q : Place). q.entry) h.picked) ≡ times i es = ap (times i) (front ∙ take_all lanes es whole) in
                inl (omega (arith, same, here, count))
          ];
      order = λ i within due' none.
          let es = map (λ (q : Place). q.entry) line in
          let is : ℕ → ℕ = λ j. cond (j == i) 1 0 in
          let same = sum_by-IsPermutation is these es all in
          let here = times_in test n 0 i (omega arith) (omega (arith, within)) due' in
          let first = first_in_line g p at xs lanes line i h.is_picked.1.0 (omega (arith, same, here)) (ap (λ (qs : List Place). times i (map (λ (q : Place). q.entry) qs)) (sym h.is_picked.1.1) ∙ none) in
          All-map (λ k. is_before (place g p.away (sec at) xs i) (place g p.away (sec at) xs k) ≡ false) (λ (q : Place). q.entry) h.picked
          (subst (All (λ (q : Place). is_before (place g p.away (sec at) xs i) (place g p.away (sec at) xs q.entry) ≡ false)) (sym h.is_picked.1.1) first);
    }

-- what is asked of an entry by its try
abbrev pub operation_of : Option Try → Operation
operation_of None = Look
operation_of (Some t) = t.operation

pub asks_by : (p : Presence) (now : ℕ) (xs : List Track) (i : ℕ) → (request_at p now xs i).operation ≡ operation_of (track_in xs i).attempt
asks_by p now xs i = by (track_in xs i).attempt where
  by : (o : Option Try) → (request_of p.away (is_partial now xs) p.pace i o).operation ≡ operation_of o
  by None = refl
  by (Some t) = refl

pub entry_by : (p : Presence) (now : ℕ) (xs : List Track) (i : ℕ) → (request_at p now xs i).entry ≡ i
entry_by p now xs i = by (track_in xs i).attempt where
  by : (o : Option Try) → (request_of p.away (is_partial now xs) p.pace i o).entry ≡ i
  by None = refl
  by (Some t) = refl

-- the request of i as it goes out
abbrev pub sent_of : List Track → ℕ → ℕ → Sent
sent_of xs at i = record { operation = operation_of (track_in xs i).attempt; at = at }

-- what goes out of i, where r is before rs: by the test whether r is of i
abbrev sent_by : ℕ → ℕ → WatchRequest → List WatchRequest → Bool → List Sent
sent_by i at r rs b = map (λ (q : WatchRequest). record { operation = q.operation; at = at }) (cond b (r ∷ filter (λ q. q.entry == i) rs) (filter (λ q. q.entry == i) rs))

module _ (p : Presence) (now at : ℕ) (xs : List Track) (i : ℕ) where
  abbrev rq : ℕ → WatchRequest
  rq j = request_at p now xs j

  -- nothing goes out of i, and it is not named; or one request does
  pub none_sent : (is : List ℕ) → times i is ≡ 0 → (sent_at i at (map rq is) ≡ []) × (list_any (λ (q : WatchRequest). q.entry == i) (map rq is) ≡ false)
  none_sent [] none = (refl, refl)
  none_sent (j ∷ js) none =
      let e = entry_by p now xs j in
      elim (cases_Bool (j == i)) [
        | inl same ↦ (let more = counts i j js same in absurd (omega (arith, more, none)))
        | inr other ↦
            let more = skips i j js other in
            let rest = none_sent js (omega (arith, more, none)) in
            let test : (rq j).entry == i ≡ false = ap (λ n. n == i) e ∙ other in (
              ap (sent_by i at (rq j) (map rq js)) test ∙ rest.0,
              ap (λ b. b || list_any (λ (q : WatchRequest). q.entry == i) (map rq js)) test ∙ rest.1,
            )
      ]

  pub one_sent :
      (is : List ℕ) → times i is ≤ 1 →
      ((sent_at i at (map rq is) ≡ []) × (list_any (λ (q : WatchRequest). q.entry == i) (map rq is) ≡ false))
      ⊎ ((sent_at i at (map rq is) ≡ sent_of xs at i ∷ []) × ((list_any (λ (q : WatchRequest). q.entry == i) (map rq is) ≡ true) × (times i is ≡ 1)))
  one_sent [] once = inl (refl, refl)
  one_sent (j ∷ js) once =
      let e = entry_by p now xs j in
      elim (cases_Bool (j == i)) [
        | inl same ↦
            let more = counts i j js same in
            let is : j ≡ i = grind (arith, nat_tests) in
            let none : times i js ≡ 0 = omega (arith, more, once) in
            let rest = none_sent js none in
            let test : (rq j).entry == i ≡ true = ap (λ n. n == i) e ∙ same in
            inr (
              ap (sent_by i at (rq j) (map rq js)) test ∙ ap (λ ss. record { operation = (rq j).operation; at = at } ∷ ss) rest.0
                  ∙ ap (λ o. record { operation = o; at = at } ∷ []) (asks_by p now xs j) ∙ ap (λ k. sent_of xs at k ∷ []) is,
              (
                ap (λ b. b || list_any (λ (q : WatchRequest). q.entry == i) (map rq js)) test,
                omega (arith, more, none),
              ),
            )
        | inr other ↦
            let more = skips i j js other in
            let test : (rq j).entry == i ≡ false = ap (λ n. n == i) e ∙ other in
            let here = ap (sent_by i at (rq j) (map rq js)) test in
            let named = ap (λ b. b || list_any (λ (q : WatchRequest). q.entry == i) (map rq js)) test in
            elim (one_sent js (omega (arith, more, once))) [
              | inl rest ↦ inl (here ∙ rest.0, named ∙ rest.1)
              | inr rest ↦ inr (here ∙ rest.0, (named ∙ rest.1.0, more ∙ rest.1.1))
            ]
      ]

  -- what is named goes out
  pub some_named : (is : List ℕ) → 1 ≤ times i is → list_any (λ (q : WatchRequest). q.entry == i) (map rq is) ≡ true
  some_named [] some = absurd (omega (arith, some))
  some_named (j ∷ js) some =
      let e = entry_by p now xs j in
      elim (cases_Bool (j == i)) [
        | inl same ↦ or_left ((rq j).entry == i) (list_any (λ (q : WatchRequest). q.entry == i) (map rq js)) (ap (λ n. n == i) e ∙ same)
        | inr other ↦
            let more = skips i j js other in
            or_right ((rq j).entry == i) (list_any (λ (q : WatchRequest). q.entry == i) (map rq js)) (some_named js (omega (arith, more, some)))
      ]

-- what is named once holds of what holds of all
pub named_of : (P : ℕ → Type 0) (i : ℕ) (is : List ℕ) → All P is → times i is ≡ 1 → P i
named_of P i [] all one = absurd (omega (arith, one))
named_of P i (j ∷ js) all one =
    elim (cases_Bool (j == i)) [
      | inl same ↦ subst P (let is : j ≡ i = grind (arith, nat_tests) in is) (All-head P j js all)
      | inr other ↦ (let more = skips i j js other in named_of P i js (All-tail P j js all) (omega (arith, more, one)))
    ]
