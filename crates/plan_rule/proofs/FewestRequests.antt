-- The Asks make the fewest requests: what holds of each entry holds of the sum over the entries.
use Rattle.std.proofs.Common.{◌≡◌, ◌==◌, ℕ, zero, suc, ◌+◌, ◌<◌, ◌≤◌, ◌||◌, Bool, true, false, cond, List, [], ◌∷◌, Option, length, refl, sym, ap, ◌∙◌, subst, arith, inl, inr}
use Rattle.std.proofs.lemmas.{Bool.cases_eq, Bool.Decides.nat_tests, List.Sums.length-filter, List.Sums.sum_by-cons}
use Rattle.std.specs.List.{list_any, range_with_len, sum_by}
use Rattle.plan_forest.specs.declared.entry.Entry.{Entry}
use Rattle.plan_rule.specs.{declared.wake.Wake.Wake, Asks.asking, Asks.asks, Asks.first_of, Asks.is_to_be_asked, Asks.with_asks, Ends.ends_after_wake_up, Ends.is_asked, LawsOfRounds.FewestRequestsLaw, Plans.moments}
use Rattle.plan_rule.specs.{Requests.requests, Requests.times_asked}
use Rattle.plan_rule.proofs.{Asking.asks_wanted, FewestTimes.fewest_times, FewestTimes.times_cons}

nothing_more : (n : ℕ) → 0 + n ≡ n
nothing_more n = omega arith

sum_none : (xs : List ℕ) → sum_by (λ i. 0) xs ≡ 0
sum_none [] = refl
sum_none (x ∷ xs) = sum_by-cons (λ i. 0) x xs ∙ nothing_more (sum_by (λ i. 0) xs) ∙ sum_none xs

sum_less : (f g : ℕ → ℕ) → ((i : ℕ) → f i ≤ g i) → (xs : List ℕ) → sum_by f xs ≤ sum_by g xs
sum_less f g each [] = omega arith
sum_less f g each (x ∷ xs) = added (sum_by f (x ∷ xs)) (sum_by g (x ∷ xs)) (f x) (g x) (sum_by f xs) (sum_by g xs) (sum_by-cons f x xs) (sum_by-cons g x xs) (each x) (sum_less f g each xs) where
  added : (a b p q m n : ℕ) → a ≡ p + m → b ≡ q + n → p ≤ q → m ≤ n → a ≤ b
  added a b p q m n e d h k = omega arith

sum_both : (f g : ℕ → ℕ) (xs : List ℕ) → sum_by (λ i. f i + g i) xs ≡ sum_by f xs + sum_by g xs
sum_both f g [] = refl
sum_both f g (x ∷ xs) =
    added (sum_by (λ i. f i + g i) (x ∷ xs)) (sum_by f (x ∷ xs)) (sum_by g (x ∷ xs)) (f x) (g x) (sum_by (λ i. f i + g i) xs) (sum_by f xs) (sum_by g xs)
    (sum_by-cons (λ i. f i + g i) x xs) (sum_by-cons f x xs) (sum_by-cons g x xs) (sum_both f g xs) where
      added : (a b c p q l m n : ℕ) → a ≡ (p + q) + l → b ≡ p + m → c ≡ q + n → l ≡ m + n → a ≡ b + c
      added a b c p q l m n e d k h = omega arith

-- a number stands once in a range, or not at all
none_below : (x a n : ℕ) → x < a → sum_by (λ i. cond (x == i) 1 0) (range_with_len a n) ≡ 0
none_below x a zero h = refl
none_below x a (suc n) h =
    let other : (x == a) ≡ false = grind (arith, nat_tests) in
    let later = sum_by (λ i. cond (x == i) 1 0) (range_with_len (a + 1) n) in
    sum_by-cons (λ i. cond (x == i) 1 0) a (range_with_len (a + 1) n) ∙ ap (λ b. cond b 1 0 + later) other ∙ nothing_more later ∙ none_below x (a + 1) n (omega arith)

once : (x a n : ℕ) → sum_by (λ i. cond (x == i) 1 0) (range_with_len a n) ≤ 1
once x a zero = omega arith
once x a (suc n) =
    let later = sum_by (λ i. cond (x == i) 1 0) (range_with_len (a + 1) n) in
    let split = sum_by-cons (λ i. cond (x == i) 1 0) a (range_with_len (a + 1) n) in
    elim (cases_eq x a) [
      | inl same ↦
          let here : (x == a) ≡ true = grind (arith, nat_tests) in
          subst (λ k. k ≤ 1) (sym (split ∙ ap (λ b. cond b 1 0 + later) here ∙ ap (λ k. 1 + k) (none_below x (a + 1) n (omega arith)))) (omega arith)
      | inr apart ↦
          let other : (x == a) ≡ false = grind (arith, nat_tests) in
          subst (λ k. k ≤ 1) (sym (split ∙ ap (λ b. cond b 1 0 + later) other ∙ nothing_more later)) (once x (a + 1) n)
    ]

one_of : (b c : Bool) → cond (b || c) 1 0 ≤ cond b 1 0 + cond c 1 0
one_of true c = omega arith
one_of false c = omega arith

-- as many different indices at most are asked as a list has
asked_at_most : (a n : ℕ) (xs : List ℕ) → sum_by (λ i. cond (list_any (λ j. j == i) xs) 1 0) (range_with_len a n) ≤ length xs
asked_at_most a n [] = let e = sum_none (range_with_len a n) in omega (arith, e)
asked_at_most a n (x ∷ xs) =
    let here : ℕ → ℕ = λ i. cond (x == i) 1 0 in
    let later : ℕ → ℕ = λ i. cond (list_any (λ j. j == i) xs) 1 0 in
    let range = range_with_len a n in
    added (sum_by (λ i. cond ((x == i) || list_any (λ j. j == i) xs) 1 0) range) (sum_by (λ i. here i + later i) range) (sum_by here range) (sum_by later range) (length xs)
    (sum_less (λ i. cond ((x == i) || list_any (λ j. j == i) xs) 1 0) (λ i. here i + later i) (λ i. one_of (x == i) (list_any (λ j. j == i) xs)) range)
    (sum_both here later range) (once x a n) (asked_at_most a n xs) where
      added : (a b p q n : ℕ) → a ≤ b → b ≡ p + q → p ≤ 1 → q ≤ n → a ≤ suc n
      added a b p q n h e k l = omega arith

-- the entries of a wake-up and those of the wake-ups after it
times_split : (w : Wake) (ws : List Wake) (xs : List ℕ) → sum_by (times_asked (w ∷ ws)) xs ≡ sum_by (λ i. cond (is_asked w i) 1 0) xs + sum_by (times_asked ws) xs
times_split w ws xs =
    let f : ℕ → ℕ = λ i. cond (is_asked w i) 1 0 in
    let g : ℕ → ℕ = λ i. f i + times_asked ws i in
    same (sum_by (times_asked (w ∷ ws)) xs) (sum_by g xs) (sum_less (times_asked (w ∷ ws)) g (λ i. omega (arith, times_cons w ws i)) xs)
    (sum_less g (times_asked (w ∷ ws)) (λ i. omega (arith, times_cons w ws i)) xs) ∙ sum_both f (times_asked ws) xs where
      same : (a b : ℕ) → a ≤ b → b ≤ a → a ≡ b
      same a b h k = omega arith

-- a plan makes a request at least for each time that it asks one of the first n entries
plan_asks : (n : ℕ) (ws : List Wake) → sum_by (times_asked ws) (range_with_len 0 n) ≤ requests ws
unfolding is_asked
plan_asks n [] = let e = sum_none (range_with_len 0 n) in omega (arith, e)
plan_asks n (w ∷ ws) =
    added (sum_by (times_asked (w ∷ ws)) (range_with_len 0 n)) (sum_by (λ i. cond (is_asked w i) 1 0) (range_with_len 0 n)) (sum_by (times_asked ws) (range_with_len 0 n))
    (length w.asked) (requests ws) (requests (w ∷ ws)) (times_split w ws (range_with_len 0 n)) (asked_at_most 0 n w.asked) (plan_asks n ws) (sum_by-cons (λ v. length v.asked) w ws) where
      added : (a p q m n b : ℕ) → a ≡ p + q → p ≤ m → q ≤ n → b ≡ m + n → a ≤ b
      added a p q m n b e h k d = omega arith

-- and the Asks make no more than that
asks_length : (es : List Entry) (margin s : ℕ) (ends : ℕ → ℕ) (t : ℕ) (next : Option ℕ) → length (asks es margin s ends t next) ≤ sum_by (λ i. cond (is_asked (asking es margin s ends t next) i) 1 0) (range_with_len 0 (length es))
unfolding asks
asks_length es margin s ends t next =
    let wanted = is_to_be_asked es margin s ends t next in
    let range = range_with_len 0 (length es) in
    subst (λ k. k ≤ sum_by (λ i. cond (is_asked (asking es margin s ends t next) i) 1 0) range) (sym (length-filter wanted range))
    (sum_less (λ i. cond (wanted i) 1 0) (λ i. cond (is_asked (asking es margin s ends t next) i) 1 0)
    (λ i. subst (λ b. cond (wanted i) 1 0 ≤ cond b 1 0) (sym (asks_wanted es margin s ends t next i)) (omega arith)) range)

asks_ask : (es : List Entry) (margin s : ℕ) (ends : ℕ → ℕ) (ts : List ℕ) → requests (with_asks es margin s ends ts) ≤ sum_by (times_asked (with_asks es margin s ends ts)) (range_with_len 0 (length es))
unfolding with_asks
asks_ask es margin s ends [] = omega arith
asks_ask es margin s ends (t ∷ ts) =
    let round = asking es margin s ends t (first_of ts) in
    let rest = with_asks es margin s (ends_after_wake_up es margin ends round) ts in
    let range = range_with_len 0 (length es) in
    added (sum_by (times_asked (round ∷ rest)) range) (sum_by (λ i. cond (is_asked round i) 1 0) range) (sum_by (times_asked rest) range)
    (length round.asked) (requests rest) (requests (round ∷ rest)) (times_split round rest range) (asks_length es margin s ends t (first_of ts)) (asks_ask es margin s (ends_after_wake_up es margin ends round) ts)
    (sum_by-cons (λ v. length v.asked) round rest) where
      added : (a p q m n b : ℕ) → a ≡ p + q → m ≤ p → n ≤ q → b ≡ m + n → b ≤ a
      added a p q m n b e h k d = omega arith

pub fewest_requests : FewestRequestsLaw
fewest_requests es margin s ends plan in_order keeps =
    let theirs = with_asks es margin s ends (moments plan) in
    let range = range_with_len 0 (length es) in
    three (requests theirs) (sum_by (times_asked theirs) range) (sum_by (times_asked plan) range) (requests plan) (asks_ask es margin s ends (moments plan))
    (sum_less (times_asked theirs) (times_asked plan) (fewest_times es margin s ends plan in_order keeps) range) (plan_asks (length es) plan) where
      three : (a b c d : ℕ) → a ≤ b → b ≤ c → c ≤ d → a ≤ d
      three a b c d h k l = omega arith
