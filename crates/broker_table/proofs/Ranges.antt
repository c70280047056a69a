-- Lists of the form `map f (filter p (range_with_len a n))`: what is found in them, and when two of them are the same.
use Rattle.std.proofs.Common.{◌≡◌, ℕ, zero, suc, ◌+◌, ◌<◌, ◌≤◌, Bool, true, false, cond, List, [], ◌∷◌, Some, None, filter, map, refl, sym, ap, ◌∙◌, arith, inl, inr}
use Rattle.std.proofs.lemmas.Bool.{cases_Bool, cases_eq, cond-true, cond-false}
use Rattle.std.specs.List.{find, range_with_len}

pub filter_of_map : {X Y : Type 0} (f : X → Y) (p : Y → Bool) (xs : List X) → filter p (map f xs) ≡ map f (filter (λ x. p (f x)) xs)
filter_of_map f p [] = refl
filter_of_map f p (x ∷ xs) =
    let more = filter_of_map f p xs in
    elim (p (f x)) as (λ b. cond b (f x ∷ filter p (map f xs)) (filter p (map f xs)) ≡ map f (cond b (x ∷ filter (λ y. p (f y)) xs) (filter (λ y. p (f y)) xs))) [
      | true ↦ ap (λ ys. f x ∷ ys) more
      | false ↦ more
    ]

-- two tests that agree within a range
pub filter_range : (p q : ℕ → Bool) (n a : ℕ) → ((i : ℕ) → a ≤ i → i < a + n → p i ≡ q i) → filter p (range_with_len a n) ≡ filter q (range_with_len a n)
filter_range p q zero a same = refl
filter_range p q (suc n) a same =
    let more = filter_range p q n (a + 1) (λ i low high. same i (omega arith) (omega arith)) in
    ap (λ b. cond b (a ∷ filter p (range_with_len (a + 1) n)) (filter p (range_with_len (a + 1) n))) (same a (omega arith) (omega arith))
    ∙ ap (λ xs. cond (q a) (a ∷ xs) xs) more

pub filter_all : (xs : List ℕ) → filter (λ i. true) xs ≡ xs
filter_all [] = refl
filter_all (x ∷ xs) = ap (λ ys. x ∷ ys) (filter_all xs)

-- two functions that agree within a range, after a test
pub map_range : {X : Type 0} (f g : ℕ → X) (p : ℕ → Bool) (n a : ℕ) → ((i : ℕ) → a ≤ i → i < a + n → p i ≡ true → f i ≡ g i) → map f (filter p (range_with_len a n)) ≡ map g (filter p (range_with_len a n))
map_range f g p zero a same = refl
map_range f g p (suc n) a same =
    let rest = range_with_len (a + 1) n in
    let more = map_range f g p n (a + 1) (λ i low high. same i (omega arith) (omega arith)) in
    elim (cases_Bool (p a)) [
      | inl passes ↦
          ap (λ b. map f (cond b (a ∷ filter p rest) (filter p rest))) passes
          ∙ ap (λ x. x ∷ map f (filter p rest)) (same a (omega arith) (omega arith) passes)
          ∙ ap (λ xs. g a ∷ xs) more
          ∙ sym (ap (λ b. map g (cond b (a ∷ filter p rest) (filter p rest))) passes)
      | inr fails ↦
          ap (λ b. map f (cond b (a ∷ filter p rest) (filter p rest))) fails
          ∙ more
          ∙ sym (ap (λ b. map g (cond b (a ∷ filter p rest) (filter p rest))) fails)
    ]

pub map_of_map : {X Y Z : Type 0} (f : Y → Z) (g : X → Y) (xs : List X) → map f (map g xs) ≡ map (λ x. f (g x)) xs
map_of_map f g [] = refl
map_of_map f g (x ∷ xs) = ap (λ ys. f (g x) ∷ ys) (map_of_map f g xs)

-- the only one that passes is found, where it is listed
pub found_lone :
    {X : Type 0} (test : X → Bool) (f : ℕ → X) (p : ℕ → Bool) (i : ℕ) (n a : ℕ) → test (f i) ≡ true → p i ≡ true → a ≤ i → i < a + n →
    ((j : ℕ) → a ≤ j → j < a + n → test (f j) ≡ true → j ≡ i) → find test (map f (filter p (range_with_len a n))) ≡ Some (f i)
found_lone test f p i zero a passes there low high lone = absurd (omega arith)
found_lone test f p i (suc n) a passes there low high lone =
    let rest = range_with_len (a + 1) n in
    let xs = map f (filter p rest) in
    elim (cases_eq a i) [
      | inl same ↦
          ap (λ b. find test (map f (cond b (a ∷ filter p rest) (filter p rest)))) (ap p same ∙ there)
          ∙ cond-true (test (f a)) (Some (f a)) (find test xs) (ap (λ k. test (f k)) same ∙ passes)
          ∙ ap (λ k. Some (f k)) same
      | inr apart ↦
          let more : find test xs ≡ Some (f i) = found_lone test f p i n (a + 1) passes there (omega arith) (omega arith) (λ j l h. lone j (omega arith) (omega arith)) in
          let miss : test (f a) ≡ false = elim (cases_Bool (test (f a))) [
            | inl hit ↦ absurd (apart (lone a (omega arith) (omega arith) hit))
            | inr no' ↦ no'
          ] in
          elim (cases_Bool (p a)) [
            | inl here ↦ ap (λ b. find test (map f (cond b (a ∷ filter p rest) (filter p rest)))) here ∙ cond-false (test (f a)) (Some (f a)) (find test xs) miss ∙ more
            | inr gone ↦ ap (λ b. find test (map f (cond b (a ∷ filter p rest) (filter p rest)))) gone ∙ more
          ]
    ]

-- where none that passes is listed, none is found
pub found_none :
    {X : Type 0} (test : X → Bool) (f : ℕ → X) (p : ℕ → Bool) (n a : ℕ) → ((j : ℕ) → a ≤ j → j < a + n → p j ≡ true → test (f j) ≡ true → ⊥) →
    find test (map f (filter p (range_with_len a n))) ≡ None
found_none test f p zero a none = refl
found_none test f p (suc n) a none =
    let rest = range_with_len (a + 1) n in
    let xs = map f (filter p rest) in
    let more : find test xs ≡ None = found_none test f p n (a + 1) (λ j l h. none j (omega arith) (omega arith)) in
    elim (cases_Bool (p a)) [
      | inl here ↦
          let miss : test (f a) ≡ false = elim (cases_Bool (test (f a))) [
            | inl hit ↦ absurd (none a (omega arith) (omega arith) here hit)
            | inr no' ↦ no'
          ] in
          ap (λ b. find test (map f (cond b (a ∷ filter p rest) (filter p rest)))) here ∙ cond-false (test (f a)) (Some (f a)) (find test xs) miss ∙ more
      | inr gone ↦ ap (λ b. find test (map f (cond b (a ∷ filter p rest) (filter p rest)))) gone ∙ more
    ]
