-- The moments of a run: their distances and the last of them.
use Rattle.std.proofs.Common.{◌≡◌, ℕ, suc, zero, ◌+◌, ◌-◌, ◌*◌, ◌<◌, ◌≤◌, ◌⊎◌, sym, ap, ◌∙◌, arith, inl, inr}
use Rattle.plan_rule.specs.declared.run.Run.{Run}
use Rattle.plan_rule.specs.Runs.{moments_of, wakes, wakes_of}
use Rattle.plan_check.specs.code.Steps.{AllBridged, last_behind}

pub bridged_spaced : (gap step n t first entry needed : ℕ) → first ≤ t + gap → (n ≤ 1) ⊎ (step ≤ gap) → AllBridged gap t (moments_of (wakes_of first step n entry needed))
unfolding wakes_of
bridged_spaced gap step zero t first entry needed near small = tt
bridged_spaced gap step (suc zero) t first entry needed near small = (near, tt)
bridged_spaced gap step (suc (suc n)) t first entry needed near small =
    let bridges : step ≤ gap = elim small [ inl few ↦ absurd (omega arith) | inr s ↦ s ] in
    (near, bridged_spaced gap step (suc n) first (first + step) entry needed (omega arith) (inr bridges))

last_spaced : (step n t first entry needed : ℕ) → last_behind t (moments_of (wakes_of first step (suc n) entry needed)) ≡ first + n * step
unfolding wakes_of
last_spaced step zero t first entry needed = omega arith
last_spaced step (suc n) t first entry needed = last_spaced step n first (first + step) entry needed ∙ (let e : first + step + n * step ≡ first + suc n * step = omega arith in e)

pub last_run : (t : ℕ) (r : Run) → 0 < r.count → last_behind t (moments_of (wakes r)) ≡ r.first + (r.count - 1) * r.step
last_run t r some =
    let count : suc (r.count - 1) ≡ r.count = omega arith in
    ap (λ n. last_behind t (moments_of (wakes_of r.first r.step n r.entry r.needed))) (sym count) ∙ last_spaced r.step (r.count - 1) t r.first r.entry r.needed
