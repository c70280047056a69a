-- The law of enough: where any requests keep at given moments, the Asks do, since a plan that keeps comes in time.
use Rattle.std.proofs.Common.{◌≡◌, ℕ, ◌+◌, ◌<◌, ◌≤◌, ◌++◌, List, [], ◌∷◌, Option, Some, None, sym, subst, arith, inl, inr}
use Rattle.std.proofs.lemmas.{Bool.cases_lt, List.append_assoc}
use Rattle.plan_forest.specs.{declared.entry.Entry.Entry, Carried.carried}
use Rattle.plan_forest.proofs.Carrying.{carried_is_of}
use Rattle.plan_rule.specs.{declared.wake.Wake.Wake, Forced.bound, Keeps.Keeps, Laws.EnoughLaw, Plans.IsPlan, Plans.moments}
use Rattle.plan_rule.proofs.{Keeping.DoneBy, Keeping.append_stuck, Keeping.done_more, Keeping.done_stuck, Keeping.end_below_bound, Keeping.plan_rises, Keeping.stuck_from, Stuck.AllStuck, Stuck.gone, Timely.AllTimely, Timely.timely_keeps}

-- an entry whose bound falls short of what it carries is gone before it, where all that comes is stuck
short_gone :
    (es : List Entry) (margin s : ℕ) (ends : ℕ → ℕ) (prev : Option ℕ) (done ws : List Wake) (i : ℕ) → DoneBy prev done → bound es ends prev i < carried es s i →
    AllStuck es margin i (bound es ends prev i) ws → Keeps es margin s ends (done ++ ws) → ⊥
short_gone es margin s ends prev done ws i by short stuck keeps =
    let needed = carried_is_of es s i (bound es ends prev i) short in
    gone es margin s ends (done ++ ws) i needed.0 (bound es ends prev i) needed.1 needed.2 needed.3 (end_below_bound es ends prev i)
    (append_stuck es margin i (bound es ends prev i) done ws (done_stuck es margin ends prev i done by) stuck) keeps

-- the moments of a plan that keeps come in time
pub kept_is_timely :
    (es : List Entry) (margin s : ℕ) (ends : ℕ → ℕ) (ws : List Wake) (prev : Option ℕ) (from : ℕ) (done : List Wake) → DoneBy prev done → ((t : ℕ) → prev ≡ Some t → t ≤ from) →
    IsPlan from ws → Keeps es margin s ends (done ++ ws) → AllTimely es margin s ends prev (moments ws)
kept_is_timely es margin s ends [] prev from done by le plan keeps =
    λ i. elim (cases_lt (bound es ends prev i) (carried es s i)) [
      | inl short ↦ absurd (short_gone es margin s ends prev done [] i by short tt keeps)
      | inr lasts ↦ lasts
    ]
kept_is_timely es margin s ends (w ∷ ws) prev from done by le plan keeps =
    let start : from ≤ w.at = plan.0 in
    let same : (done ++ w ∷ []) ++ ws ≡ done ++ w ∷ ws = append_assoc done (w ∷ []) ws in (
      λ i. elim (cases_lt (bound es ends prev i) (carried es s i)) [
        | inr lasts ↦ inl lasts
        | inl short ↦ elim (cases_lt (bound es ends prev i) (w.at + margin)) [
          | inr granted ↦ inr granted
          | inl late ↦ absurd (
              let stuck = stuck_from es margin w.at i (bound es ends prev i) (λ t h. inr (inl (omega arith))) (w ∷ ws) (omega arith, plan.1) in
              short_gone es margin s ends prev done (w ∷ ws) i by short stuck keeps)
        ]
      ],
      kept_is_timely es margin s ends ws (Some w.at) w.at (done ++ w ∷ [])
          (done_more prev w.at done w by (λ t e. let k : t ≤ from = le t e in omega arith) (omega arith))
          (λ t e. let k : w.at ≡ t = cc in omega arith) plan.1.1 (subst (Keeps es margin s ends) (sym same) keeps),
    )

pub enough : EnoughLaw
enough g s ends plan forest in_order keeps =
    timely_keeps g forest s ends (moments plan) (plan_rises s plan in_order)
    (kept_is_timely g.entries g.margin s ends plan None s [] tt (λ t e. absurd cc) in_order keeps)
