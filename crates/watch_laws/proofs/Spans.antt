-- Spans: how long lanes are kept, added up. For the law of partial outages.
use Rattle.std.proofs.Common.{◌≡◌, ◌∙◌, ℕ, zero, suc, ◌+◌, ◌-◌, ◌*◌, ◌<◌, ◌≤◌, Bool, true, false, not, ◌&&◌, ◌||◌, ◌==◌, if◌then◌else◌, List, [], ◌∷◌, ◌++◌, All, drop, filter, length, map, refl, sym, ap, ap₂, subst, arith, inl, inr}
use Rattle.std.proofs.Math.Nat.{mul-add, mul-suc, mul-zero}
use Rattle.std.proofs.lemmas.Bool.Decides.{nat_tests}
use Rattle.std.proofs.lemmas.Bool.{cases_Bool, cases_eq, cond-false, cond-true, eqb-true, or_left, or_right}
use Rattle.std.proofs.lemmas.List.Elements.{All-cons, All-head, All-nil, All-tail}
use Rattle.std.specs.List.{list_any}
use Rattle.watch_machine.specs.{declared.command.WatchRequest.WatchRequest, declared.event.WatchReply.WatchReply, declared.lanes.Out.Out, Sending.out_at, Settling.is_real, State.WatchState}
use Rattle.watch_machine.specs.Answers.{answers_all, heard, lane_freed, replied, silent, without_request}
use Rattle.watch_machine.proofs.Cases.{if_both}
use Rattle.watch_laws.specs.Outage.{how_many, one_where}
use Rattle.watch_laws.specs.Partial.{Partial, keeps_lane, partial_settled_by, total}
use Rattle.watch_laws.proofs.Going.{counts, skips, times}

-- what passes one test adds to what passes another
weighed : (p q a b : Bool) (w : ℕ) → one_where p + one_where q ≤ one_where a + one_where b → (if p then w else 0) + (if q then w else 0) ≤ (if a then w else 0) + (if b then w else 0)
weighed false false a b w h = omega arith
weighed true false true b w h = omega arith
weighed true false false true w h = omega arith
weighed false true true b w h = omega arith
weighed false true false true w h = omega arith
weighed true true true true w h = omega arith
weighed true true false b w h = more b h where
  more : (c : Bool) → 1 + 1 ≤ 0 + one_where c → w + w ≤ 0 + (if c then w else 0)
  more true g = absurd (omega (arith, g))
  more false g = absurd (omega (arith, g))
weighed _ _ _ false w h = absurd (omega (arith, h))

pub totals :
    (n : ℕ) (f : ℕ → ℕ) (p q a b : ℕ → Bool) → ((j : ℕ) → one_where (p j) + one_where (q j) ≤ one_where (a j) + one_where (b j)) →
    total n f p + total n f q ≤ total n f a + total n f b
totals zero f p q a b each' = omega arith
totals (suc n) f p q a b each' =
    let rest = totals n f p q a b each' in
    let here = weighed (p n) (q n) (a n) (b n) (f n) (each' n) in
    omega (arith, rest, here)

less : (p q : Bool) (w : ℕ) → (p ≡ true → q ≡ true) → (if p then w else 0) ≤ (if q then w else 0)
less false q w h = omega arith
less true true w h = omega arith
less true false w h = absurd (let bad = h refl in cc)

pub total_more : (n : ℕ) (f : ℕ → ℕ) (p q : ℕ → Bool) → ((j : ℕ) → p j ≡ true → q j ≡ true) → total n f p ≤ total n f q
total_more zero f p q each' = omega arith
total_more (suc n) f p q each' = let rest = total_more n f p q each' in let here = less (p n) (q n) (f n) (each' n) in omega (arith, rest, here)

-- one more that passes adds its own
one_more : (n k : ℕ) (f : ℕ → ℕ) (p q : ℕ → Bool) → k < n → p k ≡ false → q k ≡ true → ((j : ℕ) → p j ≡ true → q j ≡ true) → f k + total n f p ≤ total n f q
one_more zero k f p q below no' yes' each' = absurd (omega (arith, below))
one_more (suc n) k f p q below no' yes' each' =
    elim (cases_eq k n) as (λ _. f k + total (suc n) f p ≤ total (suc n) f q) [
      | inl is ↦
          let rest = total_more n f p q each' in
          let a = cond-false (p n) (f n) 0 (subst (λ m. p m ≡ false) is no') in
          let b = cond-true (q n) (f n) 0 (subst (λ m. q m ≡ true) is yes') in
          let c = ap f is in
          omega (arith, rest, a, b, c)
      | inr other ↦
          let low : k < n = omega (arith, below, other) in
          let rest = one_more n k f p q low no' yes' each' in
          let here = less (p n) (q n) (f n) (each' n) in
          omega (arith, rest, here)
    ]

-- entries that are named once each
abbrev named : List ℕ → ℕ → Bool
named is k = list_any (λ j. j == k) is

unnamed : (is : List ℕ) (k : ℕ) → times k is ≡ 0 → named is k ≡ false
unnamed [] k none = refl
unnamed (j ∷ js) k none =
    elim (cases_Bool (j == k)) as (λ _. (j == k) || named js k ≡ false) [
      | inl here ↦ (let more = counts k j js here in absurd (omega (arith, more, none)))
      | inr there ↦ (let more = skips k j js there in ap (λ b. b || named js k) there ∙ unnamed js k (omega (arith, more, none)))
    ]

named_has : (p : ℕ → Bool) (is : List ℕ) → All (λ j. p j ≡ true) is → (k : ℕ) → named is k ≡ true → p k ≡ true
named_has p [] all k h = absurd cc
named_has p (j ∷ js) all k h =
    elim (cases_Bool (j == k)) [
      | inl here ↦ subst (λ m. p m ≡ true) (eqb-true j k here) (All-head (λ m. p m ≡ true) j js all)
      | inr there ↦ named_has p js (All-tail (λ m. p m ≡ true) j js all) k (sym (ap (λ b. b || named js k) there) ∙ h)
    ]

abbrev pub adds : (ℕ → ℕ) → List ℕ → ℕ
adds f [] = 0
adds f (j ∷ js) = f j + adds f js

adds_named : (n : ℕ) (f : ℕ → ℕ) (is : List ℕ) → ((j : ℕ) → times j is ≤ 1) → All (λ j. j < n) is → adds f is ≤ total n f (named is)
adds_named n f [] once all = omega arith
adds_named n f (j ∷ js) once all =
    let same : (j == j) ≡ true = grind (arith, nat_tests) in
    let fewer : (k : ℕ) → times k js ≤ 1 = λ k.
    elim (cases_Bool (j == k)) as (λ _. times k js ≤ 1) [
      | inl here ↦ (let more = counts k j js here in let few = once k in omega (arith, more, few))
      | inr there ↦ (let more = skips k j js there in let few = once k in omega (arith, more, few))
    ] in
    let rest = adds_named n f js fewer (All-tail (λ k. k < n) j js all) in
    let more = counts j j js same in
    let few = once j in
    let added = one_more n j f (named js) (named (j ∷ js)) (All-head (λ k. k < n) j js all) (unnamed js j (omega (arith, more, few))) (or_left (j == j) (named js j) same) (λ k h. or_right (j == k) (named js k) h) in
    omega (arith, rest, added)

pub adds_most : (n : ℕ) (f : ℕ → ℕ) (p : ℕ → Bool) (is : List ℕ) → ((j : ℕ) → times j is ≤ 1) → All (λ j. j < n) is → All (λ j. p j ≡ true) is → adds f is ≤ total n f p
adds_most n f p is once below all =
    let these = adds_named n f is once below in
    let more = total_more n f (named is) p (named_has p is all) in
    omega (arith, these, more)

-- from a moment on, until each request that is out is settled, and the clock after it
abbrev pub span : Partial → ℕ → List Out → ℕ
span o at [] = 0
span o at (q ∷ out) = ((partial_settled_by o q + o.late) - at) + span o at out

pub span_append : (o : Partial) (at : ℕ) (xs ys : List Out) → span o at (xs ++ ys) ≡ span o at xs + span o at ys
span_append o at [] ys = omega arith
span_append o at (q ∷ xs) ys = let rest = span_append o at xs ys in omega (arith, rest)

-- some time later each is so much less
pub span_later :
    (o : Partial) (at d : ℕ) (out : List Out) → All (λ (q : Out). at + d ≤ partial_settled_by o q + o.late) out → span o at out ≡ span o (at + d) out + d * length out
span_later o at d [] all = let z = mul-zero d in omega (arith, z)
span_later o at d (q ∷ out) all =
    let rest = span_later o at d out (All-tail (λ (r : Out). at + d ≤ partial_settled_by o r + o.late) q out all) in
    let here = All-head (λ (r : Out). at + d ≤ partial_settled_by o r + o.late) q out all in
    let m : d * length (q ∷ out) ≡ d * length out + d = mul-suc d (length out) in
    omega (arith, rest, here, m)

pub span_most : (o : Partial) (at most : ℕ) (out : List Out) → All (λ (q : Out). partial_settled_by o q + o.late ≤ at + most) out → span o at out ≤ most * length out
span_most o at most [] all = omega arith
span_most o at most (q ∷ out) all =
    let rest = span_most o at most out (All-tail (λ (r : Out). partial_settled_by o r + o.late ≤ at + most) q out all) in
    let here = All-head (λ (r : Out). partial_settled_by o r + o.late ≤ at + most) q out all in
    let m : most * length (q ∷ out) ≡ most * length out + most = mul-suc most (length out) in
    omega (arith, rest, here, m)

-- an answer takes some away
span_without : (o : Partial) (at i : ℕ) (out : List Out) → span o at (without_request i out) ≤ span o at out
unfolding without_request
span_without o at i [] = omega arith
span_without o at i (q ∷ out) =
    let left = filter (λ (r : Out). not (r.entry == i)) out in
    let rest = span_without o at i out in
    if_both (λ qs. span o at qs ≤ span o at (q ∷ out)) (not (q.entry == i)) (q ∷ left) left (omega (arith, rest)) (omega (arith, rest))

span_heard : (o : Partial) (at : ℕ) (out : List Out) → span o at (map heard out) ≡ span o at out
span_heard o at [] = refl
span_heard o at (q ∷ out) = ap (λ n. ((partial_settled_by o q + o.late) - at) + n) (span_heard o at out)

pub span_replied : (o : Partial) (at : ℕ) (s : WatchState) (q : Out) (reply : WatchReply) → span o at (replied s q reply).out ≤ span o at s.out
span_replied o at s q reply =
    let free = lane_freed s q in
    let P : WatchState → Type 0 = λ t. span o at t.out ≤ span o at s.out in
    let left = span_without o at q.entry s.out in
    let same = span_heard o at (without_request q.entry s.out) in
    let hears : span o at (map heard (without_request q.entry s.out)) ≤ span o at s.out = omega (arith, left, same) in
    if_both P (is_real reply) (answers_all free) (if q.heard then free else silent free)
    (if_both P s.presence.away _ _ hears hears) (if_both P q.heard free (silent free) left (if_both P s.presence.away _ _ left left))

-- what goes out adds what each takes
pub span_sent :
    (o : Partial) (at : ℕ) (f : ℕ → ℕ) (rq : ℕ → WatchRequest) (is : List ℕ) → ((k : ℕ) → (rq k).entry ≡ k) → All (λ k. o.takes k at + o.late ≤ f k) is → span o at (map (out_at at) (map rq is)) ≤ adds f is
span_sent o at f rq [] entries all = omega arith
span_sent o at f rq (k ∷ is) entries all =
    let rest = span_sent o at f rq is entries (All-tail (λ j. o.takes j at + o.late ≤ f j) k is all) in
    let here = All-head (λ j. o.takes j at + o.late ≤ f j) k is all in
    let e = ap (λ j. o.takes j at) (entries k) in
    omega (arith, rest, here, e)

-- what holds of what is made of each holds of each
pub mapped : (P : WatchRequest → Type 0) (rq : ℕ → WatchRequest) (is : List ℕ) → All P (map rq is) → All (λ k. P (rq k)) is
mapped P rq [] all = All-nil (λ k. P (rq k))
mapped P rq (k ∷ is) all = All-cons (λ j. P (rq j)) k is (All-head P (rq k) (map rq is) all) (mapped P rq is (All-tail P (rq k) (map rq is) all))

-- ---- how long lanes are kept: so much for each that is hung, and so much for each other

one_split : (h p : Bool) (a b : ℕ) → (if p then (if h then a else b) else 0) ≡ a * one_where (h && p) + b * one_where (not h && p)
one_split true true a b = omega arith
one_split true false a b = omega arith
one_split false true a b = omega arith
one_split false false a b = omega arith

split : (n : ℕ) (h p : ℕ → Bool) (a b : ℕ) → total n (λ j. if h j then a else b) p ≡ a * how_many n (λ j. h j && p j) + b * how_many n (λ j. not (h j) && p j)
split zero h p a b = omega arith
split (suc n) h p a b =
    let rest = split n h p a b in
    let here = one_split (h n) (p n) a b in
    let x = mul-add a (one_where (h n && p n)) (how_many n (λ j. h j && p j)) in
    let y = mul-add b (one_where (not (h n) && p n)) (how_many n (λ j. not (h j) && p j)) in
    omega (arith, rest, here, x, y)

-- the lane is kept late, too
one_late : (h p : Bool) (a b late : ℕ) → (if p then (if h then a else b) + late else 0) ≡ (if p then (if h then a + late else b + late) else 0)
one_late true p a b late = refl
one_late false p a b late = refl

total_late : (n : ℕ) (h p : ℕ → Bool) (a b late : ℕ) → total n (λ j. (if h j then a else b) + late) p ≡ total n (λ j. if h j then a + late else b + late) p
total_late zero h p a b late = refl
total_late (suc n) h p a b late = let rest = total_late n h p a b late in let here = one_late (h n) (p n) a b late in omega (arith, rest, here)

pub kept_is : (o : Partial) (n : ℕ) (p : ℕ → Bool) → total n (keeps_lane o) p ≡ (o.patience + o.late) * how_many n (λ j. o.hung j && p j) + (o.quick + o.late) * how_many n (λ j. not (o.hung j) && p j)
kept_is o n p = total_late n o.hung p o.patience o.quick o.late ∙ split n o.hung p (o.patience + o.late) (o.quick + o.late)

-- and so with those two numbers, as they are elsewhere
pub kept_by :
    (o : Partial) (long short n : ℕ) (p : ℕ → Bool) → o.patience + o.late ≡ long → o.quick + o.late ≡ short →
    total n (keeps_lane o) p ≡ long * how_many n (λ j. o.hung j && p j) + short * how_many n (λ j. not (o.hung j) && p j)
kept_by o long short n p is is' = kept_is o n p ∙ ap₂ (λ x y. x * how_many n (λ j. o.hung j && p j) + y * how_many n (λ j. not (o.hung j) && p j)) is is'

-- ---- requests that are settled when others were to be

abbrev first_of : List ℕ → ℕ
first_of [] = 0
first_of (n ∷ ns) = n

module _ (o p : Partial) (late : p.late ≡ o.late) where
  pub span_same : (at : ℕ) (xs ys : List Out) → map (partial_settled_by p) ys ≡ map (partial_settled_by o) xs → span p at ys ≡ span o at xs
  span_same at [] [] same = refl
  span_same at [] (y ∷ ys) same = let long : suc (length (map (partial_settled_by p) ys)) ≡ zero = ap length same in absurd (omega (arith, long))
  span_same at (x ∷ xs) [] same = let long : zero ≡ suc (length (map (partial_settled_by o) xs)) = ap length same in absurd (omega (arith, long))
  span_same at (x ∷ xs) (y ∷ ys) same =
      let here : partial_settled_by p y ≡ partial_settled_by o x = ap first_of same in
      let rest = span_same at xs ys (ap (λ (l : List ℕ). drop 1 l) same) in
      omega (arith, here, rest, late)

  pub timely_same :
      (due : ℕ) (xs ys : List Out) → map (partial_settled_by p) ys ≡ map (partial_settled_by o) xs → All (λ (q : Out). due ≤ partial_settled_by o q + o.late) xs →
      All (λ (q : Out). due ≤ partial_settled_by p q + p.late) ys
  timely_same due [] [] same all = All-nil (λ (q : Out). due ≤ partial_settled_by p q + p.late)
  timely_same due (x ∷ xs) [] same all = All-nil (λ (q : Out). due ≤ partial_settled_by p q + p.late)
  timely_same due [] (y ∷ ys) same all = let long : suc (length (map (partial_settled_by p) ys)) ≡ zero = ap length same in absurd (omega (arith, long))
  timely_same due (x ∷ xs) (y ∷ ys) same all =
      let T : Out → Type 0 = λ q. due ≤ partial_settled_by o q + o.late in
      let here : partial_settled_by p y ≡ partial_settled_by o x = ap first_of same in
      let first = All-head T x xs all in
      All-cons (λ (q : Out). due ≤ partial_settled_by p q + p.late) y ys (omega (arith, here, first, late)) (timely_same due xs ys (ap (λ (l : List ℕ). drop 1 l) same) (All-tail T x xs all))
