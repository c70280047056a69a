-- Counting: how many pass a test, and how many lanes hold requests of different entries. For the law of outages.
use Rattle.std.proofs.Common.{◌≡◌, ◌⊎◌, ◌∙◌, ℕ, zero, suc, ◌+◌, ◌<◌, ◌≤◌, Bool, true, false, not, cond, ◌&&◌, ◌||◌, ◌==◌, if◌then◌else◌, List, [], ◌∷◌, All, filter, length, map, min, Option, Some, None, nat_le, nat_lt, refl, sym, ap, subst, arith, inl, inr}
use Rattle.std.proofs.lemmas.Bool.Decides.{nat_tests}
use Rattle.std.proofs.lemmas.Bool.{and_from, and_parts, cases_Bool, cases_eq, cases_lt, eqb-true}
use Rattle.std.proofs.lemmas.List.Elements.{All-cons, All-filter, All-head, All-nil, All-tail, filter_passes}
use Rattle.std.specs.List.{list_any}
use Rattle.watch_machine.specs.{declared.lanes.Out.Out, Wanted.least}
use Rattle.watch_machine.proofs.{Cases.not_both, Leasts.least_start}
use Rattle.watch_laws.specs.Outage.{how_many, one_where}
use Rattle.watch_laws.proofs.{Alone.lanes_of, Spacing.same_index}

one_less : (p q : Bool) → (p ≡ true → q ≡ true) → one_where p ≤ one_where q
one_less true q h = let e = ap one_where (h refl) in omega (arith, e)
one_less false q h = omega arith

-- sums of what each index adds
pub sums :
    (n : ℕ) (p q a b c : ℕ → Bool) → ((j : ℕ) → j < n → one_where (p j) + one_where (q j) ≤ one_where (a j) + one_where (b j) + one_where (c j)) →
    how_many n p + how_many n q ≤ how_many n a + how_many n b + how_many n c
sums zero p q a b c each' = omega arith
sums (suc n) p q a b c each' = let rest = sums n p q a b c (λ j low. each' j (omega (arith, low))) in let here = each' n (omega arith) in omega (arith, rest, here)

-- and of what each adds past those
pub sums_past :
    (n k : ℕ) (p q a b c : ℕ → Bool) → how_many n p + how_many n q ≤ how_many n a + how_many n b + how_many n c → ((j : ℕ) → n ≤ j → q j ≡ true → c j ≡ true) →
    how_many n p + how_many (n + k) q ≤ how_many n a + how_many n b + how_many (n + k) c
sums_past n k p q a b c first past = let few = by k in omega (arith, first, few) where
  by : (m : ℕ) → how_many (n + m) q + how_many n c ≤ how_many (n + m) c + how_many n q
  by zero =
      let e : n + 0 ≡ n = omega arith in
      let x = ap (λ i. how_many i q) e in
      let y = ap (λ i. how_many i c) e in
      omega (arith, x, y)
  by (suc m) =
      let rest = by m in
      let here = one_less (q (n + m)) (c (n + m)) (past (n + m) (omega arith)) in
      let e : n + suc m ≡ suc (n + m) = omega arith in
      let x = ap (λ i. how_many i q) e in
      let y = ap (λ i. how_many i c) e in
      omega (arith, rest, here, x, y)

pub more : (n : ℕ) (p q : ℕ → Bool) → ((j : ℕ) → p j ≡ true → q j ≡ true) → how_many n p ≤ how_many n q
more zero p q each' = omega arith
more (suc n) p q each' = let rest = more n p q each' in let here = one_less (p n) (q n) (each' n) in omega (arith, rest, here)

-- one that did not pass and passes now
pub one_more : (n k : ℕ) (p q : ℕ → Bool) → k < n → p k ≡ false → q k ≡ true → ((j : ℕ) → p j ≡ true → q j ≡ true) → 1 + how_many n p ≤ how_many n q
one_more zero k p q below no' yes' each' = absurd (omega (arith, below))
one_more (suc n) k p q below no' yes' each' =
    elim (cases_eq k n) as (λ _. 1 + how_many (suc n) p ≤ how_many (suc n) q) [
      | inl is ↦
          let rest = more n p q each' in
          let a = ap one_where (subst (λ m. p m ≡ false) is no') in
          let b = ap one_where (subst (λ m. q m ≡ true) is yes') in
          omega (arith, rest, a, b)
      | inr other ↦
          let low : k < n = omega (arith, below, other) in
          let rest = one_more n k p q low no' yes' each' in
          let here = one_less (p n) (q n) (each' n) in
          omega (arith, rest, here)
    ]

pub some : (n k : ℕ) (p : ℕ → Bool) → k < n → p k ≡ true → 1 ≤ how_many n p
some n k p below yes' = let m = one_more n k (λ j. false) p below refl yes' (λ j e. absurd cc) in omega (arith, m)

pub none : (n : ℕ) (p : ℕ → Bool) → ((j : ℕ) → p j ≡ false) → how_many n p ≡ 0
none zero p each' = refl
none (suc n) p each' = let rest = none n p each' in let here = ap one_where (each' n) in omega (arith, rest, here)

-- no lane holds a request of j
pub no_lane : (j : ℕ) (test : Out → Bool) (out : List Out) → lanes_of j out ≡ 0 → list_any (λ (q : Out). q.entry == j && test q) out ≡ false
no_lane j test [] h = refl
no_lane j test (q ∷ out) h =
    let rest = filter (λ (p : Out). p.entry == j) out in
    elim (cases_Bool (q.entry == j)) [
      | inl here ↦ absurd (let more' : lanes_of j (q ∷ out) ≡ length (q ∷ rest) = ap (λ b. length (cond b (q ∷ rest) rest)) here in omega (arith, more', h))
      | inr other ↦
          let left : lanes_of j out ≡ 0 = sym (ap (λ b. length (cond b (q ∷ rest) rest)) other) ∙ h in
          ap (λ b. (b && test q) || list_any (λ (p : Out). p.entry == j && test p) out) other ∙ no_lane j test out left
    ]

-- lanes of indices from n on
one_past : (m : ℕ) (n : ℕ) (test : Out → Bool) (out : List Out) → n ≤ m →
    one_where (list_any (λ (q : Out). q.entry == m && test q) out) + length (filter (λ (q : Out). nat_le n q.entry && nat_lt q.entry m) out) ≤ length (filter (λ (q : Out). nat_le n q.entry && nat_lt q.entry (suc m)) out)
one_past m n test [] le = omega arith
one_past m n test (q ∷ out) le =
    let rest = one_past m n test out le in
    let few = filter (λ (p : Out). nat_le n p.entry && nat_lt p.entry m) out in
    let many = filter (λ (p : Out). nat_le n p.entry && nat_lt p.entry (suc m)) out in
    let others = list_any (λ (p : Out). p.entry == m && test p) out in
    elim (cases_eq q.entry m) as (λ _. one_where ((q.entry == m && test q) || others) + length (if nat_le n q.entry && nat_lt q.entry m then q ∷ few else few) ≤ length (if nat_le n q.entry && nat_lt q.entry (suc m) then q ∷ many else many)) [
      | inl here ↦
          let a : (nat_le n q.entry && nat_lt q.entry m) ≡ false = grind (arith, nat_tests) in
          let b : (nat_le n q.entry && nat_lt q.entry (suc m)) ≡ true = grind (arith, nat_tests) in
          let x = ap (λ c. length (cond c (q ∷ few) few)) a in
          let y = ap (λ c. length (cond c (q ∷ many) many)) b in
          let one = one_most ((q.entry == m && test q) || others) in
          omega (arith, rest, x, y, one)
      | inr other ↦
          let a : (q.entry == m) ≡ false = grind (arith, nat_tests) in
          let x = ap (λ c. one_where ((c && test q) || others)) a in
          let same : nat_lt q.entry (suc m) ≡ nat_lt q.entry m = grind (arith, nat_tests) in
          let y = ap (λ c. length (cond (nat_le n q.entry && c) (q ∷ many) many)) same in
          let z = both (nat_le n q.entry && nat_lt q.entry m) few many in
          omega (arith, rest, x, y, z)
    ] where
      one_most : (b : Bool) → one_where b ≤ 1
      one_most true = omega arith
      one_most false = omega arith

      both : (b : Bool) (xs ys : List Out) → length (cond b (q ∷ xs) xs) + length ys ≡ length (cond b (q ∷ ys) ys) + length xs
      both true xs ys = omega arith
      both false xs ys = omega arith

some_past : (n k : ℕ) (test : Out → Bool) (out : List Out) →
    how_many (n + k) (λ j. list_any (λ (q : Out). q.entry == j && test q) out) ≤ how_many n (λ j. list_any (λ (q : Out). q.entry == j && test q) out) + length (filter (λ (q : Out). nat_le n q.entry && nat_lt q.entry (n + k)) out)
some_past n zero test out =
    let e : n + 0 ≡ n = omega arith in
    let x = ap (λ i. how_many i (λ j. list_any (λ (q : Out). q.entry == j && test q) out)) e in
    omega (arith, x)
some_past n (suc k) test out =
    let p : ℕ → Bool = λ j. list_any (λ (q : Out). q.entry == j && test q) out in
    let rest = some_past n k test out in
    let here = one_past (n + k) n test out (omega arith) in
    let e : n + suc k ≡ suc (n + k) = omega arith in
    let x = ap (λ i. how_many i p) e in
    let y = ap (λ i. length (filter (λ (q : Out). nat_le n q.entry && nat_lt q.entry i) out)) e in
    omega (arith, rest, here, x, y)

fewer_pass : (p q : Out → Bool) (out : List Out) → ((r : Out) → p r ≡ true → q r ≡ true) → length (filter p out) ≤ length (filter q out)
fewer_pass p q [] h = omega arith
fewer_pass p q (r ∷ out) h = let rest = fewer_pass p q out h in by (p r) (q r) (h r) rest where
  by : (a b : Bool) → (a ≡ true → b ≡ true) → length (filter p out) ≤ length (filter q out) → length (cond a (r ∷ filter p out) (filter p out)) ≤ length (cond b (r ∷ filter q out) (filter q out))
  by true true h' rest = omega (arith, rest)
  by true false h' rest = absurd (let bad = h' refl in cc)
  by false true h' rest = omega (arith, rest)
  by false false h' rest = rest

pub lanes_past : (n k : ℕ) (test : Out → Bool) (out : List Out) →
    how_many (n + k) (λ j. list_any (λ (q : Out). q.entry == j && test q) out) ≤ how_many n (λ j. list_any (λ (q : Out). q.entry == j && test q) out) + length (filter (λ (q : Out). nat_le n q.entry) out)
lanes_past n k test out =
    let few = some_past n k test out in
    let less = fewer_pass (λ (q : Out). nat_le n q.entry && nat_lt q.entry (n + k)) (λ (q : Out). nat_le n q.entry) out (λ r h. (and_parts (nat_le n r.entry) (nat_lt r.entry (n + k)) h).0) in
    omega (arith, few, less)

-- each lane holds a request of another entry
pub lanes_apart :
    (n : ℕ) (test : Out → Bool) (out : List Out) → ((j : ℕ) → lanes_of j out ≤ 1) → All (λ (q : Out). (q.entry < n) × (test q ≡ true)) out →
    length out ≤ how_many n (λ j. list_any (λ (q : Out). q.entry == j && test q) out)
lanes_apart n test [] once all = omega arith
lanes_apart n test (q ∷ out) once all =
    let P : Out → Type 0 = λ r. (r.entry < n) × (test r ≡ true) in
    let here = All-head P q out all in
    let k = q.entry in
    let same : (k == k) ≡ true = same_index k in
    let filtered : ℕ → List Out = λ j. filter (λ (p : Out). p.entry == j) out in
    let fewer : (j : ℕ) → lanes_of j out ≤ lanes_of j (q ∷ out) = λ j. below (k == j) q (filtered j) in
    let one : lanes_of k (q ∷ out) ≡ length (q ∷ filtered k) = ap (λ b. length (cond b (q ∷ filtered k) (filtered k))) same in
    let first = once k in
    let gone : lanes_of k out ≡ 0 = omega (arith, one, first) in
    let old : ℕ → Bool = λ j. list_any (λ (r : Out). r.entry == j && test r) out in
    let new : ℕ → Bool = λ j. list_any (λ (r : Out). r.entry == j && test r) (q ∷ out) in
    let rest = lanes_apart n test out (λ j. let a = once j in let b = fewer j in omega (arith, a, b)) (All-tail P q out all) in
    let added = one_more n k old new here.0 (no_lane k test out gone) (ap (λ b. b || old k) (and_from (k == k) (test q) same here.1)) (λ j e. or_more (k == j && test q) (old j) e) in
    omega (arith, rest, added) where
      below : (b : Bool) (r : Out) (xs : List Out) → length xs ≤ length (if b then r ∷ xs else xs)
      below true r xs = omega arith
      below false r xs = omega arith

      or_more : (a b : Bool) → b ≡ true → a || b ≡ true
      or_more true b h = refl
      or_more false b h = h

-- the least is no more than any of them
pub least_all : (f : Out → ℕ) (m : ℕ) (out : List Out) → All (λ (q : Out). least m (map f out) ≤ f q) out
least_all f m [] = All-nil (λ (q : Out). m ≤ f q)
least_all f m (q ∷ out) =
    All-cons (λ (r : Out). least (min m (f q)) (map f out) ≤ f r) q out (let start = least_start (min m (f q)) (map f out) in omega (arith, start)) (least_all f (min m (f q)) out)

-- what one entry adds to those that wait, and to those that are out anew, at a turn: it waited before, or comes to wait, or was out anew
waits_less : (new served old before : Bool) → one_where (new && not served) ≤ one_where (old && not before) + one_where (new && (not old || (before && not served)))
waits_less false served old before = omega arith
waits_less true true old before = omega arith
waits_less true false true true = omega arith
waits_less true false true false = omega arith
waits_less true false false before = omega arith

served_anew :
    (new served old before : Bool) → new ≡ true → served ≡ true → before ≡ false →
    one_where (new && not served) + 1 ≤ one_where (old && not before) + one_where (new && (not old || (before && not served)))
served_anew true true true false a b c = omega arith
served_anew true true false false a b c = omega arith
served_anew true true old true a b c = absurd cc
served_anew true false old before a b c = absurd cc
served_anew false served old before a b c = absurd cc

pub counted :
    (new served old before anew was : Bool) → (served ≡ true → new ≡ true) → (anew ≡ true → (was ≡ true) ⊎ ((served ≡ true) × (before ≡ false))) →
    one_where (new && not served) + one_where anew ≤ one_where (old && not before) + one_where (new && (not old || (before && not served))) + one_where was
counted new served old before false was tried from' = let less = waits_less new served old before in omega (arith, less)
counted new served old before true was tried from' =
    elim (from' refl) as (λ _. one_where (new && not served) + 1 ≤ one_where (old && not before) + one_where (new && (not old || (before && not served))) + one_where was) [
      | inl still ↦ (let less = waits_less new served old before in let e = ap one_where still in omega (arith, less, e))
      | inr now ↦ (let less = served_anew new served old before (tried now.0) now.0 now.1 in omega (arith, less))
    ]

-- no more entries have a lane than there are lanes
pub lanes_most : (n : ℕ) (test : Out → Bool) (out : List Out) → how_many n (λ j. list_any (λ (q : Out). q.entry == j && test q) out) ≤ length out
lanes_most n test [] = let z = none n (λ j. false) (λ j. refl) in omega (arith, z)
lanes_most n test (q ∷ out) =
    let old : ℕ → Bool = λ j. list_any (λ (r : Out). r.entry == j && test r) out in
    let rest = lanes_most n test out in
    let one = one_at_most n q.entry old (λ j. q.entry == j && test q) (λ j e. eqb-true q.entry j (and_parts (q.entry == j) (test q) e).0) in
    omega (arith, rest, one) where
      both_less : (a b : Bool) → one_where (a || b) ≤ one_where a + one_where b
      both_less true b = omega arith
      both_less false b = omega arith

      none_at : (m : ℕ) (p r : ℕ → Bool) (k : ℕ) → ((j : ℕ) → r j ≡ true → k ≡ j) → m ≤ k → how_many m (λ j. r j || p j) ≤ how_many m p
      none_at zero p r k is above = omega arith
      none_at (suc m) p r k is above =
          let less = none_at m p r k is (omega (arith, above)) in
          let here : r m ≡ false =
          elim (cases_Bool (r m)) as (λ _. r m ≡ false) [
            | inl yes' ↦ (let e = is m yes' in absurd (omega (arith, e, above)))
            | inr no' ↦ no'
          ] in
          let same = ap (λ b. one_where (b || p m)) here in
          omega (arith, less, same)

      one_at_most : (m k : ℕ) (p r : ℕ → Bool) → ((j : ℕ) → r j ≡ true → k ≡ j) → how_many m (λ j. r j || p j) ≤ 1 + how_many m p
      one_at_most zero k p r is = omega arith
      one_at_most (suc m) k p r is =
          elim (cases_lt k m) as (λ _. how_many (suc m) (λ j. r j || p j) ≤ 1 + how_many (suc m) p) [
            | inl below ↦
                let less = one_at_most m k p r is in
                let here : r m ≡ false =
                elim (cases_Bool (r m)) as (λ _. r m ≡ false) [
                  | inl yes' ↦ (let e = is m yes' in absurd (omega (arith, e, below)))
                  | inr no' ↦ no'
                ] in
                let same = ap (λ b. one_where (b || p m)) here in
                omega (arith, less, same)
            | inr above ↦
                let less = none_at m p r k is above in
                let here = both_less (r m) (p m) in
                let most = one_most (r m) in
                omega (arith, less, here, most)
          ] where
            one_most : (b : Bool) → one_where b ≤ 1
            one_most true = omega arith
            one_most false = omega arith

-- ---- what a change makes of counts

below : (n : ℕ) (p q : ℕ → Bool) → ((j : ℕ) → j < n → p j ≡ true → q j ≡ true) → how_many n p ≤ how_many n q
below zero p q each' = omega arith
below (suc n) p q each' = let rest = below n p q (λ j low. each' j (omega (arith, low))) in let here = one_less (p n) (q n) (each' n (omega arith)) in omega (arith, rest, here)

pub either : (n : ℕ) (p a b : ℕ → Bool) → ((j : ℕ) → j < n → p j ≡ true → (a j ≡ true) ⊎ (b j ≡ true)) → how_many n p ≤ how_many n a + how_many n b
either zero p a b each' = omega arith
either (suc n) p a b each' = let rest = either n p a b (λ j low. each' j (omega (arith, low))) in let here = by (p n) (a n) (b n) (each' n (omega arith)) in omega (arith, rest, here) where
  by : (x y z : Bool) → (x ≡ true → (y ≡ true) ⊎ (z ≡ true)) → one_where x ≤ one_where y + one_where z
  by false y z h = omega arith
  by true y z h = elim (h refl) [ inl e ↦ (let one = ap one_where e in omega (arith, one)) | inr e ↦ (let one = ap one_where e in omega (arith, one)) ]

-- what is told of an index, where there is one
abbrev pub at_some : (ℕ → Bool) → Option ℕ → Bool
at_some p None = false
at_some p (Some i) = p i

-- of indices of which each is told of one at most, no more pass than of all
pub moved_pass : (N n : ℕ) (m : ℕ → Option ℕ) (p : ℕ → Bool) → ((i j : ℕ) → m j ≡ Some i → i < n) → ((i j k : ℕ) → m j ≡ Some i → m k ≡ Some i → j ≡ k) → how_many N (λ j. at_some p (m j)) ≤ how_many n p
moved_pass zero n m p low once = omega arith
moved_pass (suc N) n m p low once = by (m N) refl (λ q. moved_pass N n m q low once) where
  by : (o : Option ℕ) → m N ≡ o → ((q : ℕ → Bool) → how_many N (λ j. at_some q (m j)) ≤ how_many n q) → one_where (at_some p (m N)) + how_many N (λ j. at_some p (m j)) ≤ how_many n p
  by None is less = let here = ap (λ o. one_where (at_some p o)) is in let rest = less p in omega (arith, here, rest)
  by (Some e) is less' =
      let here = ap (λ o. one_where (at_some p o)) is in
      let q : ℕ → Bool = λ i. p i && not (i == e) in
      elim (cases_Bool (p e)) as (λ _. one_where (at_some p (m N)) + how_many N (λ j. at_some p (m j)) ≤ how_many n p) [
        | inr no' ↦ (let zero' = ap one_where no' in let rest = less' p in omega (arith, here, zero', rest))
        | inl yes' ↦
            let one = ap one_where yes' in
            let rest = less' q in
            let less = below N (λ j. at_some p (m j)) (λ j. at_some q (m j)) (λ j under passes'. other j (m j) refl under passes') in
            let gone : q e ≡ false = ap (λ b. p e && not b) (same_index e) ∙ and_no (p e) in
            let more' = one_more n e q p (low e N is) gone yes' (λ j h. (and_parts (p j) (not (j == e)) h).0) in
            omega (arith, here, one, rest, less, more')
      ] where
        and_no : (b : Bool) → b && false ≡ false
        and_no true = refl
        and_no false = refl

        other : (j : ℕ) (o : Option ℕ) → m j ≡ o → j < N → at_some p o ≡ true → at_some (λ i. p i && not (i == e)) o ≡ true
        other j None told under passes' = absurd cc
        other j (Some i) told under passes' =
            elim (cases_eq i e) as (λ _. p i && not (i == e) ≡ true) [
              | inl same ↦ absurd (let alike : j ≡ N = once e j N (told ∙ ap (λ x. Some x) same) is in omega (arith, alike, under))
              | inr apart ↦ and_from (p i) (not (i == e)) passes' (let e' : (i == e) ≡ false = grind (arith, nat_tests) in ap not e')
            ]

-- as many requests pass a test as indices of which one is out that does
filter_keeps : (p q : Out → Bool) (out : List Out) → ((r : Out) → p r ≡ true → q r ≡ true) → list_any p out ≡ list_any p (filter q out)
filter_keeps p q [] h = refl
filter_keeps p q (r ∷ out) h = by (q r) refl (filter_keeps p q out h) where
  by : (b : Bool) → q r ≡ b → list_any p out ≡ list_any p (filter q out) → p r || list_any p out ≡ list_any p (cond b (r ∷ filter q out) (filter q out))
  by true is rest = ap (λ b. p r || b) rest
  by false is rest = ap (λ b. b || list_any p out) (none (p r) (h r) is) ∙ rest where
    none : (b : Bool) → (b ≡ true → q r ≡ true) → q r ≡ false → b ≡ false
    none true h' no' = absurd (not_both (h' refl) no')
    none false h' no' = refl

pub lanes_filtered : (n : ℕ) (test : Out → Bool) (out : List Out) → how_many n (λ j. list_any (λ (q : Out). q.entry == j && test q) out) ≤ length (filter test out)
lanes_filtered n test out =
    let some' = more n (λ j. list_any (λ (q : Out). q.entry == j && test q) out) (λ j. list_any (λ (q : Out). q.entry == j && test q) (filter test out))
    (λ j h. sym (filter_keeps (λ (q : Out). q.entry == j && test q) test out (λ r passes'. (and_parts (r.entry == j) (test r) passes').1)) ∙ h) in
    let most = lanes_most n test (filter test out) in
    omega (arith, some', most)

fewer_lanes : (j : ℕ) (test : Out → Bool) (out : List Out) → lanes_of j (filter test out) ≤ lanes_of j out
fewer_lanes j test [] = omega arith
fewer_lanes j test (r ∷ out) = by (test r) (fewer_lanes j test out) where
  all_less : (b : Bool) → length (filter (λ (q : Out). q.entry == j) out) ≤ length (cond b (r ∷ filter (λ (q : Out). q.entry == j) out) (filter (λ (q : Out). q.entry == j) out))
  all_less true = omega arith
  all_less false = omega arith

  both : (b : Bool) → lanes_of j (filter test out) ≤ lanes_of j out →
      length (cond b (r ∷ filter (λ (q : Out). q.entry == j) (filter test out)) (filter (λ (q : Out). q.entry == j) (filter test out))) ≤ length (cond b (r ∷ filter (λ (q : Out). q.entry == j) out) (filter (λ (q : Out). q.entry == j) out))
  both true less = omega (arith, less)
  both false less = less

  by : (b : Bool) → lanes_of j (filter test out) ≤ lanes_of j out →
      lanes_of j (cond b (r ∷ filter test out) (filter test out)) ≤ length (cond (r.entry == j) (r ∷ filter (λ (q : Out). q.entry == j) out) (filter (λ (q : Out). q.entry == j) out))
  by false less = (let more' = all_less (r.entry == j) in omega (arith, less, more'))
  by true less = both (r.entry == j) less

pub filtered_lanes : (n : ℕ) (test : Out → Bool) (out : List Out) → ((j : ℕ) → lanes_of j out ≤ 1) → All (λ (q : Out). q.entry < n) out → length (filter test out) ≤ how_many n (λ j. list_any (λ (q : Out). q.entry == j && test q) out)
filtered_lanes n test out once all =
    let low = All-filter test (λ (q : Out). q.entry < n) out all in
    let passes' = filter_passes test out in
    let apart = lanes_apart n test (filter test out) (λ j. let a = once j in let b = fewer_lanes j test out in omega (arith, a, b)) (λ k d within. (low k d within, passes' k d within)) in
    let some' = more n (λ j. list_any (λ (q : Out). q.entry == j && test q) (filter test out)) (λ j. list_any (λ (q : Out). q.entry == j && test q) out)
    (λ j h. filter_keeps (λ (q : Out). q.entry == j && test q) test out (λ r h'. (and_parts (r.entry == j) (test r) h').1) ∙ h) in
    omega (arith, apart, some')
