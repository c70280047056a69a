-- One of the guests gives its request, or is given its answer: for `take_request` and `answer`.
use Rattle.std.proofs.Common.{◌≡◌, ℕ, suc, zero, ◌<◌, ◌∙◌, Bool, true, false, cond, List, [], ◌∷◌, length, get_or, set, Option, Some, None, Result, refl, sym, subst, ap, arith}
use Rattle.std.proofs.lemmas.List.Quantifiers.{position-Some}
use Rattle.std.specs.List.{position, slice_get}
use Rattle.base_clients.specs.{Guests.GuestIsFed, Guests.is_stage_asked, declared.clients.GuestRequest.GuestRequest, declared.fed.Fed.Fed, declared.guest.Guest.Guest, declared.limits.GuestLimits.GuestLimits}
use Rattle.base_clients.specs.Tables.{BecomesAt, Feeds, FeedsAt, GuestTable, TakesAt, TakesFrom, TakesRequest, follows_as}

got : {X : Type 0} (xs : List X) (i : ℕ) (x : X) → i < length xs → x ≡ get_or xs i x → slice_get xs i ≡ Some x
got [] i x within is = absurd (omega arith)
got (y ∷ ys) zero x within is = ap Some (sym is)
got (y ∷ ys) (suc i) x within is = got ys i x (omega arith) is

true_false : {P : Type 0} → true ≡ false → P
true_false e = absurd (subst (λ (b : Bool). cond b (Unit {0}) ⊥) e tt)

module _ {T F : Type 0} (next : ℕ) (limits : GuestLimits) (framing : F) where
  abbrev table : List (Guest T) → GuestTable T F
  table xs = record { guests = xs; next = next; limits = limits; framing = framing }

  pub became_at : (test : Guest T → Bool) (change : Guest T → Guest T) (old : GuestTable T F) (xs ys : List (Guest T)) (i : ℕ) (found : Option ℕ) (g n : Guest T) → table xs ≡ old → ys ≡ xs
      → found ≡ position test ys → found ≡ Some i → i < length ys → g ≡ get_or xs i g → n ≡ change g
      → BecomesAt (position test old.guests) change true old (table (set xs i n))
  became_at test change old xs ys i found g n is same found_is some within here done =
      let at : position test xs ≡ Some i = ap (position test) (sym same) ∙ sym found_is ∙ some in
      let inside : i < length xs = subst (λ l. i < length l) same within in
      subst (λ o. BecomesAt (position test o.guests) change true o (table (set xs i n))) is
      (subst (λ o. BecomesAt o change true (table xs) (table (set xs i n))) (sym at) (refl, (g, (got xs i g inside here, ap (λ m. table (set xs i m)) done))))

  pub fed_at : {E : Type 0} (id : ℕ) (bytes : List ℕ) (fed : Result Fed E) (old : GuestTable T F) (xs ys : List (Guest T)) (i : ℕ) (found : Option ℕ) (g n : Guest T) → table xs ≡ old → ys ≡ xs
      → found ≡ position (follows_as id) ys → found ≡ Some i → i < length ys → g ≡ get_or xs i g → GuestIsFed bytes fed g n → Feeds id bytes fed old (table (set xs i n))
  fed_at id bytes fed old xs ys i found g n is same found_is some within here done =
      let at : position (follows_as id) xs ≡ Some i = ap (position (follows_as id)) (sym same) ∙ sym found_is ∙ some in
      let inside : i < length xs = subst (λ l. i < length l) same within in
      subst (λ o. Feeds id bytes fed o (table (set xs i n))) is
      (subst (λ o. FeedsAt o bytes fed (table xs) (table (set xs i n))) (sym at) (g, (n, (got xs i g inside here, (done, refl)))))

  asked_taken : (r : Option GuestRequest) (xs : List (Guest T)) (i : ℕ) (g n : Guest T) → is_stage_asked g.stage ≡ true → slice_get xs i ≡ Some g → TakesFrom g r n
      → TakesAt (Some i) (table xs) r (table (set xs i n))
  asked_taken None xs i g n asked here h = true_false (sym asked ∙ h.0)
  asked_taken (Some r) xs i g n asked here h = (g, (n, (here, (h, refl))))

  pub taken_at : (r : Option GuestRequest) (old : GuestTable T F) (xs ys : List (Guest T)) (i : ℕ) (found : Option ℕ) (g n : Guest T) → table xs ≡ old → ys ≡ xs
      → found ≡ position (λ (it : Guest T). is_stage_asked it.stage) ys → found ≡ Some i → i < length ys → g ≡ get_or xs i g → TakesFrom g r n → TakesRequest old r (table (set xs i n))
  taken_at r old xs ys i found g n is same found_is some within here done =
      let at : position (λ (it : Guest T). is_stage_asked it.stage) xs ≡ Some i = ap (position (λ (it : Guest T). is_stage_asked it.stage)) (sym same) ∙ sym found_is ∙ some in
      let inside : i < length xs = subst (λ l. i < length l) same within in
      let first = position-Some (λ (it : Guest T). is_stage_asked it.stage) xs i g at in
      let asked : is_stage_asked g.stage ≡ true = ap (λ (it : Guest T). is_stage_asked it.stage) here ∙ first.1 in
      subst (λ o. TakesRequest o r (table (set xs i n))) is
      (subst (λ o. TakesAt o (table xs) r (table (set xs i n))) (sym at) (asked_taken r xs i g n asked (got xs i g inside here) done))
