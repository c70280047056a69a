-- Runs that gain nothing, and runs whose gaps the step bridges, can be passed at once.
use Rattle.std.proofs.Common.{◌≡◌, ◌∙◌, ◌+◌, ◌-◌, List, ap, arith, drop, get_or, length, inl, inr, max, subst, sym}
use Rattle.std.proofs.lemmas.List.{drop_all, drop_more}
use Rattle.plan_forest.specs.Renewal.{renewal}
use Rattle.plan_rule.proofs.{Keeping.IsRising, Schedule.rising_strictly}
use Rattle.plan_rule.specs.{declared.run.Run.Run, Runs.all_wakes, Runs.moments_of}
use Rattle.plan_check.specs.Kept.{own_end}
use Rattle.plan_check.specs.code.Gaps.{AllNarrow, IsIdleAt, gaps_of}
use Rattle.plan_check.proofs.Jumps.{fit_at, jumps, rising_from, skips}
use Rattle.plan_check.proofs.OwnRuns.{blank, own_done, own_nothing, own_turn}
use Rattle.plan_check.proofs.kept.renewed_end.Goals as goal

pub loop-at-init : goal.loop-at-init
loop-at-init c =
    let e = c.args.entry.now in
    let m = c.args.margin in
    let runs = c.list-runs.result.now in
    let rising = rising_strictly c.args.rising.now.start (moments_of (all_wakes runs)) c.list-runs.ensures.rising in
    elim c.first_gaining-at.ensures.idle [
      | inl first ↦ ap (λ k. own_end e m e.end (moments_of (all_wakes (drop k runs)))) first
      | inr idle ↦
          let here = subst (λ (rs : List Run). IsIdleAt e e.end rs c.first_gaining-at.result) (sym c.list-runs.ensures.value) idle in
          skips e m e.end c.args.rising.now.start c.list-runs.ensures.fit.0 c.first_gaining-at.result runs c.list-runs.ensures.fit.1 rising here.0 (here.1 blank)
    ]

pub overflow_add-runs : goal.overflow_add-runs
overflow_add-runs c =
    let within = (fit_at c.list-runs.ensures.fit.0 c.list-runs.result.now c.loop-at.at c.list-runs.ensures.fit.1 c.loop-at-test.true).moments.last in
    omega (arith, within, c.ranges.margin.fits)

pub returns-then-end-runs : goal.returns-then-end-runs
returns-then-end-runs c =
    let e = c.args.entry.now in
    let m = c.args.margin in
    let runs = c.list-runs.result.now in
    let l = c.loop-at in
    let r = get_or runs l.at blank in
    let rest = drop (l.at + 1) runs in
    let same = drop_more runs l.at blank c.loop-at-test.true in
    let some = (fit_at c.list-runs.ensures.fit.0 runs l.at c.list-runs.ensures.fit.1 c.loop-at-test.true).moments.some in
    let risen = rising_from c.args.rising.now.start l.at runs (rising_strictly c.args.rising.now.start (moments_of (all_wakes runs)) c.list-runs.ensures.rising) in
    let rising = subst (λ (rs : List Run). IsRising risen.0 (moments_of (all_wakes rs))) same risen.1 in
    sym (ap (λ (rs : List Run). own_end e m l.end (moments_of (all_wakes rs))) same ∙ own_done e m l.end risen.0 r rest some rising c.if-end-runs.true)
    ∙ l.invariant
    ∙ ap (λ (rs : List Run). own_end e m e.end (moments_of (all_wakes rs))) c.list-runs.ensures.value

pub bounds-runs-wide : goal.bounds-runs-wide
bounds-runs-wide c = omega (arith, ap length c.list-runs.ensures.value, c.wide_from-wide.ensures.within, c.if-at-wide.true)

pub last_of-requires-clause-some : goal.last_of-requires-clause-some
last_of-requires-clause-some c = (fit_at c.list-runs.ensures.fit.0 c.list-runs.result.now (c.wide_from-wide.result - 1) c.list-runs.ensures.fit.1 (omega (arith, ap length c.list-runs.ensures.value, c.wide_from-wide.ensures.within, c.if-at-wide.true))).moments.some

pub last_of-requires-clause-within : goal.last_of-requires-clause-within
last_of-requires-clause-within c = (fit_at c.list-runs.ensures.fit.0 c.list-runs.result.now (c.wide_from-wide.result - 1) c.list-runs.ensures.fit.1 (omega (arith, ap length c.list-runs.ensures.value, c.wide_from-wide.ensures.within, c.if-at-wide.true))).moments.last

pub renewal-requires : goal.renewal-requires
renewal-requires c =
    let within = (fit_at c.list-runs.ensures.fit.0 c.list-runs.result.now (c.wide_from-wide.result - 1) c.list-runs.ensures.fit.1 (omega (arith, ap length c.list-runs.ensures.value, c.wide_from-wide.ensures.within, c.if-at-wide.true))).moments.last in
    omega (arith, within, c.last_of.ensures)

pub loop-at-preserved-then-at-wide : goal.loop-at-preserved-then-at-wide
loop-at-preserved-then-at-wide c =
    let e = c.args.entry.now in
    let m = c.args.margin in
    let runs = c.list-runs.result.now in
    let l = c.loop-at in
    let wide = c.wide_from-wide.result in
    let too_wide = c.saturating_sub-too_wide.result in
    let total = own_end e m e.end (moments_of (all_wakes runs)) in
    let rising = rising_strictly c.args.rising.now.start (moments_of (all_wakes runs)) c.list-runs.ensures.rising in
    let now = c.max-end.ensures ∙ ap (max l.end) (c.renewal.ensures ∙ ap (renewal e) c.last_of.ensures) in
    ap (λ end. own_end e m end (moments_of (all_wakes (drop wide runs)))) now
    ∙ jumps e m l.end total too_wide c.args.rising.now.start c.list-runs.ensures.fit.0 l.at wide runs c.requires c.saturating_sub-too_wide.ensures c.list-runs.ensures.fit.1 rising c.if-at-wide.true
    (omega (arith, ap length c.list-runs.ensures.value, c.wide_from-wide.ensures.within))
    (subst (λ (rs : List Run). AllNarrow (gaps_of rs) l.at wide too_wide) (sym c.list-runs.ensures.value) c.wide_from-wide.ensures.narrow) c.if-end-runs.false l.invariant

pub own_after_run-end-requires-clause-some : goal.own_after_run-end-requires-clause-some
own_after_run-end-requires-clause-some c = (fit_at c.list-runs.ensures.fit.0 c.list-runs.result.now c.loop-at.at c.list-runs.ensures.fit.1 c.loop-at-test.true).moments.some

pub own_after_run-end-requires-clause-within : goal.own_after_run-end-requires-clause-within
own_after_run-end-requires-clause-within c = (fit_at c.list-runs.ensures.fit.0 c.list-runs.result.now c.loop-at.at c.list-runs.ensures.fit.1 c.loop-at-test.true).moments.last

pub loop-at-preserved : goal.loop-at-preserved
loop-at-preserved c =
    let e = c.args.entry.now in
    let m = c.args.margin in
    let runs = c.list-runs.result.now in
    let l = c.loop-at in
    let total = own_end e m e.end (moments_of (all_wakes runs)) in
    let same = drop_more runs l.at blank c.loop-at-test.true in
    let whole = subst (λ (rs : List Run). own_end e m l.end (moments_of (all_wakes rs)) ≡ total) same l.invariant in
    own_turn e m l.end c.own_after_run-end.result total (get_or runs l.at blank) (drop (l.at + 1) runs) whole c.own_after_run-end.ensures

pub returns : goal.returns
returns c =
    let e = c.args.entry.now in
    let m = c.args.margin in
    let runs = c.list-runs.result.now in
    let l = c.loop-at in
    sym (own_nothing e m l.end)
    ∙ sym (ap (λ (rs : List Run). own_end e m l.end (moments_of (all_wakes rs))) (drop_all l.at runs (omega (arith, c.loop-at-test.false))))
    ∙ l.invariant
    ∙ ap (λ (rs : List Run). own_end e m e.end (moments_of (all_wakes rs))) c.list-runs.ensures.value
