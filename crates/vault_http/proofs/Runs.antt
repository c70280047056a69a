-- Runs of digits at the front of a text: for the lines of sizes.
use Rattle.std.proofs.Common.{◌≡◌, ℕ, ◌≤◌, Bool, true, false, cond, List, [], ◌∷◌, ◌++◌, length, take_while, refl, sym, ap, ◌∙◌, arith}
use Rattle.std.specs.List.{list_all}
use Rattle.std.proofs.lemmas.{Bool.and_from, Bool.and_parts, Bool.both_ways, List.Sums.take_while-cons}

module _ (p : ℕ → Bool) where
  -- the bytes at the front that pass the test
  abbrev pub front : List ℕ → List ℕ
  front [] = []
  front (x ∷ xs) = cond (p x) (x ∷ front xs) []

  pub take_while-front : (xs : List ℕ) → take_while p xs ≡ front xs
  take_while-front [] = refl
  take_while-front (x ∷ xs) = take_while-cons p x xs ∙ ap (λ ys. cond (p x) (x ∷ ys) []) (take_while-front xs)

  -- the text ends, or its first byte fails the test
  abbrev pub Halts : List ℕ → Type 0
  Halts [] = Unit {0}
  Halts (c ∷ cs) = p c ≡ false

  -- the text is a run of bytes that pass the test, and then a rest
  pub record IsRun (xs run rest : List ℕ) : Type 0 where
    pub split : xs ≡ run ++ rest
    pub all : list_all p run ≡ true
    pub halts : Halts rest

  run_case : (x : ℕ) (xs : List ℕ) (b : Bool) → p x ≡ b → ((rest : List ℕ) × IsRun xs (front xs) rest) → (rest : List ℕ) × IsRun (x ∷ xs) (cond b (x ∷ front xs) []) rest
  run_case x xs true e h = (h.0, record { split = ap (λ ys. x ∷ ys) h.1.split; all = and_from (p x) (list_all p (front xs)) e h.1.all; halts = h.1.halts })
  run_case x xs false e h = (x ∷ xs, record { split = refl; all = refl; halts = e })

  pub run_of : (xs : List ℕ) → (rest : List ℕ) × IsRun xs (front xs) rest
  run_of [] = ([], record { split = refl; all = refl; halts = tt })
  run_of (x ∷ xs) = run_case x xs (p x) refl (run_of xs)

  -- a run is no longer than another that a failing byte follows
  pub run_within : (a b r : List ℕ) (c : ℕ) (q : List ℕ) → list_all p a ≡ true → p c ≡ false → a ++ r ≡ b ++ (c ∷ q) → length a ≤ length b
  run_within [] b r c q pass fail e = omega arith
  run_within (x ∷ a) [] r c q pass fail e =
      let first : x ≡ c = cc in
      absurd (both_ways (p c) fail (ap p (sym first) ∙ (and_parts (p x) (list_all p a) pass).0))
  run_within (x ∷ a) (y ∷ b) r c q pass fail e =
      let rest : a ++ r ≡ b ++ (c ∷ q) = cc in
      let shorter = run_within a b r c q (and_parts (p x) (list_all p a) pass).1 fail rest in
      omega (arith, shorter)

  -- two runs of one text are one, where a failing byte follows each
  pub same_run : (a b : List ℕ) (c : ℕ) (r : List ℕ) (d : ℕ) (q : List ℕ) → list_all p a ≡ true → list_all p b ≡ true → p c ≡ false → p d ≡ false
      → a ++ (c ∷ r) ≡ b ++ (d ∷ q) → (a ≡ b) × (◌≡◌ {A = List ℕ} (c ∷ r) (d ∷ q))
  same_run [] [] c r d q pa pb fc fd e = (refl, e)
  same_run [] (y ∷ b) c r d q pa pb fc fd e =
      let first : c ≡ y = cc in
      absurd (both_ways (p c) fc (ap p first ∙ (and_parts (p y) (list_all p b) pb).0))
  same_run (x ∷ a) [] c r d q pa pb fc fd e =
      let first : x ≡ d = cc in
      absurd (both_ways (p d) fd (ap p (sym first) ∙ (and_parts (p x) (list_all p a) pa).0))
  same_run (x ∷ a) (y ∷ b) c r d q pa pb fc fd e =
      let first : x ≡ y = cc in
      let rest : a ++ (c ∷ r) ≡ b ++ (d ∷ q) = cc in
      let same = same_run a b c r d q (and_parts (p x) (list_all p a) pa).1 (and_parts (p y) (list_all p b) pb).1 fc fd rest in
      (cc (same.0, first), same.1)
