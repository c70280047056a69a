-- What the steps of the check find, as its answer.
use Rattle.std.proofs.Common.{◌≡◌, ℕ, ◌+◌, ◌-◌, ◌<◌, ◌≤◌, Bool, true, false, cond, List, [], ◌∷◌, Option, Some, None, length, sym, ap, subst, arith, inl, inr}
use Rattle.std.proofs.lemmas.Bool.{cases_lt}
use Rattle.plan_forest.specs.{declared.entry.Entry.Entry, Push.IsForest, Renewal.all_last}
use Rattle.plan_forest.specs.Forest.{Forest, end_of, entry_at}
use Rattle.plan_forest.proofs.Entries.{entry_at_past}
use Rattle.plan_rule.proofs.{Alive.alive_from_last, Asking.short_over}
use Rattle.plan_rule.specs.{Schedule.RisesStrictly, declared.force.Force.Force, Runs.moments_of}
use Rattle.plan_check.specs.{declared.answer.Cause.Cause, Kept.own, code.Steps.FirstShort}
use Rattle.plan_check.specs.declared.answer.Answer.TheVariants.{No, Yes}
use Rattle.plan_check.specs.declared.answer.Cause.TheVariants.{NotForced, NotKept, NotRising}
use Rattle.plan_check.specs.Answer.{EntryIsKept, IsWalkAnswer, first_fault}
use Rattle.plan_check.specs.Walk.{fault, is_forced, rises}
use Rattle.plan_check.proofs.{Answers.faultless, Keeping.kept_law}

-- the walk itself names no entry
no_entry : (es : List Entry) (margin s : ℕ) (ends : ℕ → ℕ) (prev : Option ℕ) (k i : ℕ) (ws : List Force) → fault es margin s ends prev k ws ≡ Some (NotKept i) → ⊥
unfolding fault
no_entry es margin s ends prev k i [] names = absurd cc
no_entry es margin s ends prev k i (w ∷ ws) names =
    by_test (rises s prev w.at) (is_forced es margin s ends prev w.at w.entry w.needed) (fault es margin s ends (Some w.at) (k + 1) ws) (λ later. no_entry es margin s ends (Some w.at) (k + 1) i ws later) names where
      by_test : (a b : Bool) (rest : Option Cause) → (rest ≡ Some (NotKept i) → ⊥) → cond a (cond b rest (Some (NotForced k))) (Some (NotRising k)) ≡ Some (NotKept i) → ⊥
      by_test true true rest none e = none e
      by_test true false rest none e = absurd cc
      by_test false b rest none e = absurd cc

pub walk_fault : (g : Forest) (s : ℕ) (ws : List Force) (cause : Cause) → Some cause ≡ first_fault g s ws → IsWalkAnswer g s ws (No cause)
walk_fault g s ws (NotKept i) found = absurd (no_entry g.entries g.margin s (end_of g.entries) None 1 i ws (sym found))
walk_fault g s ws _ found = sym found

-- an entry over which each end, asked by itself, lasts until its need is kept, and so is one with no need after s
kept_where_last :
    (g : Forest) → IsForest g → (s : ℕ) (ws : List Force) → RisesStrictly s (moments_of ws) → (i : ℕ) →
    (s < (entry_at g.entries i).need → all_last g.entries (own g.entries g.margin (end_of g.entries) (moments_of ws)) (entry_at g.entries i).need i ≡ true) → EntryIsKept g s ws i
kept_where_last g forest s ws rises i last =
    let need = (entry_at g.entries i).need in
    let owns = own g.entries g.margin (end_of g.entries) (moments_of ws) in
    elim (cases_lt s need) [
      | inr idle ↦ λ m start before a over. absurd (omega arith)
      | inl later ↦
          let one : need ≡ need - 1 + 1 = omega arith in
          let all : all_last g.entries owns (need - 1 + 1) i ≡ true = subst (λ n. all_last g.entries owns n i ≡ true) one (last later) in
          (kept_law g s (end_of g.entries) (moments_of ws) forest rises i later).1 (λ a over. let l = alive_from_last g.entries owns (need - 1) i all a over in omega arith)
    ]

pub kept_past : (g : Forest) (s : ℕ) (ws : List Force) (i : ℕ) → length g.entries ≤ i → EntryIsKept g s ws i
kept_past g s ws i past = λ m start before a over. absurd (let none : (entry_at g.entries i).need ≡ 0 = ap (λ (e : Entry). e.need) (entry_at_past g.entries i past) in omega arith)

unkept_where_short :
    (g : Forest) → IsForest g → (s : ℕ) (ws : List Force) → RisesStrictly s (moments_of ws) → (i : ℕ) → s < (entry_at g.entries i).need →
    all_last g.entries (own g.entries g.margin (end_of g.entries) (moments_of ws)) (entry_at g.entries i).need i ≡ false → EntryIsKept g s ws i → ⊥
unkept_where_short g forest s ws rises i later short kept =
    let found = short_over g.entries (own g.entries g.margin (end_of g.entries) (moments_of ws)) (entry_at g.entries i).need i short in
    let lasts = (kept_law g s (end_of g.entries) (moments_of ws) forest rises i later).0 kept found.0 found.1 in
    let less = found.2 in
    omega arith

pub walk_yes : (g : Forest) → IsForest g → (s : ℕ) (ws : List Force) → None ≡ first_fault g s ws → FirstShort g s (own g.entries g.margin (end_of g.entries) (moments_of ws)) None → IsWalkAnswer g s ws Yes
walk_yes g forest s ws found all =
    let rises = (faultless g.entries g.margin s (end_of g.entries) None 1 ws (sym found)).0 in (
      sym found,
      λ i. elim (cases_lt i (length g.entries)) [
        | inl within ↦ kept_where_last g forest s ws rises i (λ later. all i within later)
        | inr past ↦ kept_past g s ws i past
      ],
    )

pub walk_unkept : (g : Forest) → IsForest g → (s : ℕ) (ws : List Force) (i : ℕ) → None ≡ first_fault g s ws → FirstShort g s (own g.entries g.margin (end_of g.entries) (moments_of ws)) (Some i) → IsWalkAnswer g s ws (No (NotKept i))
walk_unkept g forest s ws i found short =
    let rises = (faultless g.entries g.margin s (end_of g.entries) None 1 ws (sym found)).0 in (
      sym found,
      (unkept_where_short g forest s ws rises i short.1.0 short.1.1.0, λ j less. kept_where_last g forest s ws rises j (λ later. short.1.1.1 j less later)),
    )

pub walk_rises : (g : Forest) (s : ℕ) (ws : List Force) → None ≡ first_fault g s ws → RisesStrictly s (moments_of ws)
walk_rises g s ws found = (faultless g.entries g.margin s (end_of g.entries) None 1 ws (sym found)).0
