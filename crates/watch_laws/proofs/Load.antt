-- Load: requests that are apart are few in any time. For the law of load.
use Rattle.std.proofs.Common.{◌≡◌, ℕ, zero, suc, ◌+◌, ◌*◌, ◌<◌, ◌≤◌, Bool, true, false, cond, ◌&&◌, List, [], ◌∷◌, filter, length, nat_le, refl, ap, arith, inl, inr}
use Rattle.std.proofs.lemmas.{Bool.cases_Bool, Bool.Decides.nat_tests}
use Rattle.watch_machine.specs.declared.event.Operation.{Operation}
use Rattle.watch_machine.specs.declared.event.Operation.TheVariants.{Look, Renew}
use Rattle.watch_laws.specs.Load.{AreApartFrom, IsApart, LoadLaw, Sent, SentAreApart, is_between, sent_through}
use Rattle.watch_machine.proofs.Cases.{if_cases}
use Rattle.watch_laws.proofs.Apart.{spaced}

-- each is at t or later
abbrev AreFrom : ℕ → List Sent → Type 0
AreFrom t [] = Unit {0}
AreFrom t (x ∷ xs) = (t ≤ x.at) × AreFrom t xs

-- what is apart does not fall
rises : (x y : Sent) → IsApart x y → x.at ≤ y.at
rises x y (inl later) = omega arith
rises x y (inr renewal) = renewal.0

-- and the second one is a second away
second_after : (x y z : Sent) → IsApart x y → IsApart y z → x.at + 1000 ≤ z.at
second_after x y z (inl later) next = let r = rises y z next in omega arith
second_after x y z (inr renewal) (inl later) = let p = renewal.0 in omega arith
second_after x y z (inr renewal) (inr again) = absurd (not_both y.operation renewal.1.1 again.1.0) where
  not_both : (o : Operation) → o ≡ Renew → o ≡ Look → ⊥
  not_both Look a b = cc
  not_both Renew a b = cc

from_one : (t : ℕ) (x : Sent) (xs : List Sent) → t ≤ x.at → AreApartFrom x xs → AreFrom t xs
from_one t x [] h apart = tt
from_one t x (y ∷ ys) h apart = let r = rises x y apart.0 in let l : t ≤ y.at = omega arith in (l, from_one t y ys l apart.1)

from_two : (x y : Sent) (ys : List Sent) → IsApart x y → AreApartFrom y ys → AreFrom (x.at + 1000) ys
from_two x y [] first apart = tt
from_two x y (z ∷ zs) first apart = let l = second_after x y z first apart.0 in (l, from_one (x.at + 1000) z zs l apart.1)

-- none is counted that is later than the time
none_after : (from until t : ℕ) (xs : List Sent) → until < t → AreFrom t xs → length (filter (is_between from until) xs) ≡ 0
none_after from until t [] h all = refl
none_after from until t (x ∷ xs) h all =
    let rest = none_after from until t xs h all.1 in
    let late = all.0 in
    if_cases (λ (ys : List Sent). length ys ≡ 0) (is_between from until x) (x ∷ filter (is_between from until) xs) (filter (is_between from until) xs)
    (λ e. (let within = both (nat_le from x.at) (nat_le x.at until) e in let most : x.at ≤ until = grind (arith, nat_tests) in absurd (omega arith)))
    (λ e. rest) where
      both : (a b : Bool) → a && b ≡ true → b ≡ true
      both true b e = e
      both false b e = absurd cc

-- one more is counted, or none
one_at_most : (from until : ℕ) (x : Sent) (xs : List Sent) → length (filter (is_between from until) (x ∷ xs)) ≤ suc (length (filter (is_between from until) xs))
one_at_most from until x xs =
    if_cases (λ (ys : List Sent). length ys ≤ suc (length (filter (is_between from until) xs))) (is_between from until x) (x ∷ filter (is_between from until) xs) (filter (is_between from until) xs) (λ e. omega arith) (λ e. omega arith)

-- from the first that is counted on
few_from : (x from until : ℕ) (xs : List Sent) → until ≡ from + 1000 * x → SentAreApart xs → AreFrom from xs → (low : ℕ) → length (filter (is_between low until) xs) ≤ 2 * (x + 1)
few_from x from until [] is apart all low = omega arith
few_from x from until (a ∷ []) is apart all low = let one = one_at_most low until a [] in omega arith
few_from zero from until (a ∷ (b ∷ rest)) is apart all low =
    let one = one_at_most low until a (b ∷ rest) in
    let two = one_at_most low until b rest in
    let later = from_two a b rest apart.0 apart.1 in
    let h = all.0 in
    let none = none_after low until (a.at + 1000) rest (omega arith) later in
    omega arith
few_from (suc x) from until (a ∷ (b ∷ rest)) is apart all low =
    let one = one_at_most low until a (b ∷ rest) in
    let two = one_at_most low until b rest in
    let later = from_two a b rest apart.0 apart.1 in
    let h = all.0 in
    let few = few_from x (from + 1000) until rest (omega arith) (loose b rest apart.1) (weaker (a.at + 1000) (from + 1000) rest (omega arith) later) low in
    omega arith where
      loose : (y : Sent) (ys : List Sent) → AreApartFrom y ys → SentAreApart ys
      loose y [] h' = tt
      loose y (z ∷ zs) h' = h'.1

      weaker : (t u : ℕ) (ys : List Sent) → u ≤ t → AreFrom t ys → AreFrom u ys
      weaker t u [] le h' = tt
      weaker t u (z ∷ zs) le h' = (let l = h'.0 in omega arith, weaker t u zs le h'.1)

-- those before it are not counted
few : (x from : ℕ) (xs : List Sent) → SentAreApart xs → length (filter (is_between from (from + 1000 * x)) xs) ≤ 2 * (x + 1)
few x from [] apart = omega arith
few x from (a ∷ rest) apart =
    elim (cases_Bool (nat_le from a.at)) as (λ _. length (filter (is_between from (from + 1000 * x)) (a ∷ rest)) ≤ 2 * (x + 1)) [
      | inl there ↦ (let l : from ≤ a.at = grind (arith, nat_tests) in few_from x from (from + 1000 * x) (a ∷ rest) refl apart (l, from_one from a rest l apart) from)
      | inr before ↦
          let is : length (filter (is_between from (from + 1000 * x)) (a ∷ rest)) ≡ length (filter (is_between from (from + 1000 * x)) rest) =
          ap (λ b. length (cond (b && nat_le a.at (from + 1000 * x)) (a ∷ filter (is_between from (from + 1000 * x)) rest) (filter (is_between from (from + 1000 * x)) rest))) before in
          let less = few x from rest (loose a rest apart) in
          omega arith
    ] where
      loose : (y : Sent) (ys : List Sent) → AreApartFrom y ys → SentAreApart ys
      loose y [] h = tt
      loose y (z ∷ zs) h = h.1

pub load : LoadLaw
load g width hs run k from x = few x from (sent_through k hs) (spaced g width hs run k)
