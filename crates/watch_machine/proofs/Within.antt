-- Within: an event that is not refused is an answer to a request that is out, or of an entry of the forest, or of none. For `step`.
use Rattle.std.proofs.Common.{◌≡◌, ◌≢◌, ◌∙◌, ◌<◌, ℕ, suc, Bool, true, ◌==◌, ◌&&◌, List, [], ◌∷◌, Option, Some, None, IfSome, length, arith, inl, inr, nat_le, sym, ap, subst}
use Rattle.std.proofs.lemmas.Bool.Decides.{nat_tests}
use Rattle.std.proofs.lemmas.Bool.{and_parts, cases_Bool, cases_lt, cond-true, cond-false, eqb-true}
use Rattle.std.specs.List.{All, find}
use Rattle.watch_machine.specs.{declared.event.Operation.Operation, declared.fault.WatchFault.WatchFault, declared.lanes.Out.Out, State.WatchState}
use Rattle.watch_machine.specs.declared.fault.WatchFault.TheVariants.{BadIndex, NotAsked}
use Rattle.watch_machine.specs.Refusal.{is_same, request_out, unless_asked, unless_some, unless_within}
use Rattle.watch_machine.proofs.Cases.{if_both, if_cases, value_is}

pub within_none : (s : WatchState) (i : ℕ) (other : Option WatchFault) → unless_within s i other ≡ None → i < length s.forest.entries
within_none s i other none =
    elim (cases_lt i (length s.forest.entries)) [
      | inl within ↦ within
      | inr past ↦
          let test : nat_le (length s.forest.entries) i ≡ true = grind (arith, nat_tests) in
          let refused : unless_within s i other ≡ Some BadIndex = cond-true (nat_le (length s.forest.entries) i) (Some BadIndex) other test in
          absurd (let bad : None ≡ Some BadIndex = sym none ∙ refused in cc)
    ]

pub asked_some : (s : WatchState) (i : ℕ) (operation : Operation) → unless_asked s i operation ≡ None → request_out s.out i operation ≢ None
asked_some s i operation none is =
    let bad : unless_within s i (Some NotAsked) ≡ None = ap (unless_some s i) (sym is) ∙ none in
    if_both (λ (o : Option WatchFault). o ≡ None → ⊥) (nat_le (length s.forest.entries) i) (Some BadIndex) (Some NotAsked) (λ e. cc) (λ e. cc) bad

-- what is found in a list passes the test, and is as all of the list are
module _ {X : Type 0} (test : X → Bool) where
  find_passes : (xs : List X) (x : X) → find test xs ≡ Some x → test x ≡ true
  find_passes [] x is = absurd cc
  find_passes (y ∷ ys) x is = elim (cases_Bool (test y)) [
    | inl yes' ↦ subst (λ z. test z ≡ true) (value_is y x (sym (cond-true (test y) (Some y) (find test ys) yes') ∙ is)) yes'
    | inr no' ↦ find_passes ys x (sym (cond-false (test y) (Some y) (find test ys) no') ∙ is)
  ]

  find_all : (P : X → Type 0) (xs : List X) → All P xs → IfSome (find test xs) P
  find_all P [] all = tt
  find_all P (y ∷ ys) all = if_cases (λ (o : Option X). IfSome o P) (test y) (Some y) (find test ys) (λ e. all 0 y (omega arith)) (λ e. find_all P ys (λ k d below. all (suc k) d (omega arith)))

-- a request that is out of an entry is of that entry
pub out_entry : (out : List Out) (i : ℕ) (operation : Operation) (r : Out) → request_out out i operation ≡ Some r → r.entry ≡ i
unfolding request_out
out_entry out i operation r is =
    eqb-true r.entry i (and_parts (r.entry == i) (is_same r.operation operation) (find_passes (λ (o : Out). o.entry == i && is_same o.operation operation) out r is)).0

-- and is as all that are out
pub out_all : (P : Out → Type 0) (out : List Out) (i : ℕ) (operation : Operation) → All P out → IfSome (request_out out i operation) P
unfolding request_out
out_all P out i operation all = find_all (λ (o : Out). o.entry == i && is_same o.operation operation) P out all
