-- What a sink took, try after try, is the front of the bytes.
use Rattle.std.proofs.Common.{◌≡◌, ℕ, ◌+◌, ◌-◌, ◌^◌, ◌≤◌, List, [], ◌∷◌, ◌++◌, length, take, drop, arith, Option, Some, None, nat_lt, subst, sym, ap, ◌∙◌, inl, inr}
use Rattle.std.proofs.lemmas.{List.append-nil, List.take_rest, Grind.common_steps}
use Rattle.std.proofs.lemmas.Bool.{cases_Bool, cond-true, cond-false}
use Rattle.std.proofs.{Math.Seq.take-add, KnownBytes.Appends-trans}
use Rattle.std.specs.Io.KnownBytes.{Appends, Keeps}
use Rattle.base_device.specs.Failures.{one_more}

-- at first nothing was taken
pub no_try : (a : Option (List ℕ)) (bs : List ℕ) → Appends a a (take 0 bs)
no_try None bs = tt
no_try (Some x) bs = sym (append-nil x)

-- the piece that was taken follows on what was taken before
pub next_piece : (a b c : Option (List ℕ)) (bs : List ℕ) (at n : ℕ) → Appends a b (take at bs) → Appends b c (take n (take (length bs - at) (drop at bs)))
    → Appends a c (take (at + n) bs)
next_piece a b c bs at n before piece =
    let here : take n (take (length bs - at) (drop at bs)) ≡ take n (drop at bs) = ap (take n) (take_rest bs at) in
    subst (Appends a c) (sym (take-add at n bs)) (Appends-trans a b c _ _ before (subst (Appends b c) here piece))

-- where nothing was taken, what was taken before is all
pub no_piece : (a b c : Option (List ℕ)) (xs : List ℕ) → Appends a b xs → Keeps b c → Appends a c xs
no_piece None b c xs p q = tt
no_piece (Some x) None c xs p q = absurd p
no_piece (Some x) (Some y) None xs p q = absurd q
no_piece (Some x) (Some y) (Some z) xs p q = q ∙ p

-- a try is one more at most
pub one_try : (n : ℕ) → one_more n ≤ n + 1
one_try n =
    elim (cases_Bool (nat_lt n (2 ^ 64 - 1))) [
      | inl t ↦ let e = cond-true (nat_lt n (2 ^ 64 - 1)) (n + 1) n t in omega (arith, e)
      | inr f ↦ let e = cond-false (nat_lt n (2 ^ 64 - 1)) (n + 1) n f in omega (arith, e)
    ]

-- what was said of a word stands after a space, and before what is said of the others
pub said_then : (new pushed old start all said rest : List ℕ) → new ≡ pushed ++ said → pushed ≡ old ++ 32 ∷ [] → old ++ 32 ∷ (said ++ rest) ≡ start ++ all → new ++ rest ≡ start ++ all
said_then new pushed old start all said rest e p q = grind (arith, common_steps)

-- three pieces, one after the other
pub three_pushed : (o b c d x y z : List ℕ) → b ≡ o ++ x → c ≡ b ++ y → d ≡ c ++ z → d ≡ o ++ (x ++ (y ++ z))
three_pushed o b c d x y z e f g = grind (arith, common_steps)

-- two
pub two_pushed : (o b c x y : List ℕ) → b ≡ o ++ x → c ≡ b ++ y → c ≡ o ++ (x ++ y)
two_pushed o b c x y e f = grind (arith, common_steps)

-- four
pub four_pushed : (o b c d k x y z v : List ℕ) → b ≡ o ++ x → c ≡ b ++ y → d ≡ c ++ z → k ≡ d ++ v → k ≡ o ++ (x ++ (y ++ (z ++ v)))
four_pushed o b c d k x y z v e f g h = grind (arith, common_steps)

-- and five of which the first begins
pub five_pieces : (a b c d k x y z v w : List ℕ) → a ≡ x → b ≡ a ++ y → c ≡ b ++ z → d ≡ c ++ v → k ≡ d ++ w → k ≡ x ++ (y ++ (z ++ (v ++ w)))
five_pieces a b c d k x y z v w e f g h i = grind (arith, common_steps)

-- what was said of a word stands after what separates it from the one before, and before what is said of the others
pub each_then : (new pushed old start all between said rest : List ℕ) → new ≡ pushed ++ said → pushed ≡ old ++ between → old ++ (between ++ (said ++ rest)) ≡ start ++ all → new ++ rest ≡ start ++ all
each_then new pushed old start all between said rest e p q = grind (arith, common_steps)
