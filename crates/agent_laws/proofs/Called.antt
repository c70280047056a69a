-- Called: what whoever keeps changes was asked for, one thing after another. For the laws of disks.
use Rattle.std.proofs.Common.{◌≡◌, ℕ, ◌+◌, ◌≤◌, List, [], ◌∷◌, ◌++◌, Option, None, Some, arith, subst}
use Rattle.std.proofs.lemmas.List.Sums.{sum_by-append, sum_by-cons}
use Rattle.agent_laws.specs.Disks.{AllAsked, IsAskedWithin, KeeperIsCalled, looks_of, makes_of, tries_of}
use Rattle.agent_ledger.specs.Keeping.{KeepCall}

module _ {K : Type 0} (asks : KeepCall → K → K → Type 0) where
  asked_join : (xs ys : List KeepCall) (a b c : K) → AllAsked asks xs a b → AllAsked asks ys b c → AllAsked asks (xs ++ ys) a c
  asked_join [] ys a b c h k = subst (λ (n : K). AllAsked asks ys n c) h k
  asked_join (x ∷ xs) ys a b c h k = (h.0, (h.1.0, asked_join xs ys h.0 b c h.1.1 k))

  called_join : (xs ys : List KeepCall) (a b c : Option K) → KeeperIsCalled asks xs a b → KeeperIsCalled asks ys b c → KeeperIsCalled asks (xs ++ ys) a c
  called_join xs ys None b c h k = subst (λ (o : Option K). KeeperIsCalled asks ys o c) h k
  called_join xs ys (Some a) None c h k = absurd h
  called_join xs ys (Some a) (Some b) None h k = absurd k
  called_join xs ys (Some a) (Some b) (Some c) h k = asked_join xs ys a b c h k

  called_none : (old new : Option K) → new ≡ old → KeeperIsCalled asks [] old new
  called_none None new h = h
  called_none (Some old) None h = absurd cc
  called_none (Some old) (Some new) h = cc

  pub within_none : (old new : Option K) → new ≡ old → IsAskedWithin asks 0 0 0 old new
  within_none old new h = record { calls = []; asked = called_none old new h; few_looks = omega arith; few_makes = omega arith; few_tries = omega arith }

  pub within_one : (call : KeepCall) (old new : Option K) → KeeperIsCalled asks (call ∷ []) old new → IsAskedWithin asks (looks_of call) (makes_of call) (tries_of call) old new
  within_one call old new h =
      let looks = sum_by-cons looks_of call [] in
      let makes = sum_by-cons makes_of call [] in
      let tries = sum_by-cons tries_of call [] in
      record { calls = call ∷ []; asked = h; few_looks = omega (arith, looks); few_makes = omega (arith, makes); few_tries = omega (arith, tries) }

  pub within_join : (i j s k l t : ℕ) (a b c : Option K) → IsAskedWithin asks i j s a b → IsAskedWithin asks k l t b c → IsAskedWithin asks (i + k) (j + l) (s + t) a c
  within_join i j s k l t a b c h g =
      let looks = sum_by-append looks_of h.calls g.calls in
      let makes = sum_by-append makes_of h.calls g.calls in
      let tries = sum_by-append tries_of h.calls g.calls in
      let looks_first = h.few_looks in
      let looks_last = g.few_looks in
      let makes_first = h.few_makes in
      let makes_last = g.few_makes in
      let tries_first = h.few_tries in
      let tries_last = g.few_tries in
      record {
        calls = h.calls ++ g.calls;
        asked = called_join h.calls g.calls a b c h.asked g.asked;
        few_looks = omega (arith, looks, looks_first, looks_last);
        few_makes = omega (arith, makes, makes_first, makes_last);
        few_tries = omega (arith, tries, tries_first, tries_last);
      }

  pub within_more : (i j s k l t : ℕ) (a b : Option K) → i ≤ k → j ≤ l → s ≤ t → IsAskedWithin asks i j s a b → IsAskedWithin asks k l t a b
  within_more i j s k l t a b looks makes tries h =
      let looks_in = h.few_looks in
      let makes_in = h.few_makes in
      let tries_in = h.few_tries in
      record { calls = h.calls; asked = h.asked; few_looks = omega (arith, looks, looks_in); few_makes = omega (arith, makes, makes_in); few_tries = omega (arith, tries, tries_in) }
