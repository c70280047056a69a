-- Unkeepable: it holds of an entry and some other exactly where the reach falls short of the carried need; for `shortfall`.
use Rattle.std.proofs.Common.{◌≡◌, ℕ, ◌<◌, ◌≤◌, true, false, List, Option, Some, None, nat_lt, refl, subst, arith}
use Rattle.std.proofs.lemmas.Bool.Decides.{nat_tests}
use Rattle.plan_forest.specs.{declared.entry.Entry.Entry, Forest.entry_at, Carried.IsFrom, Carried.carried}
use Rattle.plan_forest.proofs.Carrying.{carried_at_least, carried_is_of}
use Rattle.plan_rule.specs.{Reach.reach, Unkeepable.Unkeepable}
use Rattle.plan_search.specs.code.FallingShort.{falls_short}

-- a need after s that is carried
pub carried_after : (es : List Entry) (s i b : ℕ) → b < carried es s i → s < carried es s i
carried_after es s i b more =
    let f = carried_is_of es s i b more in
    let least = carried_at_least es s i f.0 f.1 f.2 in
    let later : s < (entry_at es f.0).need = f.2 in
    omega arith

unkeepable_by : (es : List Entry) (margin s : ℕ) (ends : ℕ → ℕ) (i needed : ℕ) (o : Option ℕ) → reach es margin s ends i ≡ o → falls_short o (carried es s i) ≡ true → IsFrom es s i needed → Unkeepable es margin s ends i needed
unkeepable_by es margin s ends i needed None is short from = absurd cc
unkeepable_by es margin s ends i needed (Some most) is short from =
    let less : most < carried es s i = grind (arith, nat_tests) in
    let later = carried_after es s i most less in
    let same : (entry_at es needed).need ≡ carried es s i = from.need in
    record { over = from.over; later = omega arith; most = most; reaches = is; short = omega arith }

-- an entry whose reach falls short is Unkeepable with the from of its carried need
pub unkeepable_from : (es : List Entry) (margin s : ℕ) (ends : ℕ → ℕ) (i needed : ℕ) → falls_short (reach es margin s ends i) (carried es s i) ≡ true → IsFrom es s i needed → Unkeepable es margin s ends i needed
unkeepable_from es margin s ends i needed short from = unkeepable_by es margin s ends i needed (reach es margin s ends i) refl short from

-- one whose reach does not fall short is Unkeepable with none
pub not_unkeepable : (es : List Entry) (margin s : ℕ) (ends : ℕ → ℕ) (i f : ℕ) → falls_short (reach es margin s ends i) (carried es s i) ≡ false → Unkeepable es margin s ends i f → ⊥
not_unkeepable es margin s ends i f enough pair =
    let test : nat_lt pair.most (carried es s i) ≡ false = subst (λ o. falls_short o (carried es s i) ≡ false) pair.reaches enough in
    let most : carried es s i ≤ pair.most = grind (arith, nat_tests) in
    let least = carried_at_least es s i f pair.over pair.later in
    let short = pair.short in
    omega arith
