-- The first moments of runs rise, so those that gain nothing are in front, and the last of them is found.
use Rattle.std.proofs.Common.{◌≡◌, ◌⊎◌, arith, get_or, inl, inr, leb, leb-true, le-leb, rules, subst, sym}
use Rattle.std.proofs.lemmas.{Bool.cases_eq, List.Sorted.IsPartitionPoint-from_clause, List.Sorted.IsPartitionedBy-leb}
use Rattle.plan_rule.specs.{declared.run.Run.Run, Runs.all_wakes, Runs.moments_of}
use Rattle.plan_check.specs.{code.Gaps.IsIdleAt, code.Rising.Rising}
use Rattle.plan_check.proofs.{Jumps.firsts_rise, OwnRuns.blank}
use Rattle.plan_rule.proofs.Schedule.{rising_strictly}
use Rattle.plan_check.proofs.rising_runs.RisingRuns.first_gaining.Goals as goal

pub returns-in-Some-clause-idle : goal.returns-in-Some-clause-idle
returns-in-Some-clause-idle c =
    let runs = c.self.inside.runs.now in
    let p = c.partition_point.result in
    let up = firsts_rise c.self.invariant.fit.0 c.self.inside.start runs c.self.invariant.fit.1 (rising_strictly c.self.inside.start (moments_of (all_wakes runs)) c.self.invariant.rising) in
    let parted = IsPartitionedBy-leb (λ (r : Run). r.first) runs c.in-Some.idle up in
    let point = IsPartitionPoint-from_clause (λ (r : Run). leb r.first c.in-Some.idle) _ _ c.partition_point.ensures.partitioned parted (λ a r q k. search rules) in
    subst (λ (r : Rising). (c.saturating_sub.result ≡ 0) ⊎ IsIdleAt c.args.entry.now c.args.entry.now.end r.runs c.saturating_sub.result) c.self.view_is
    (elim (cases_eq p 0) [
      | inl none ↦ inl (omega (arith, c.saturating_sub.ensures, none))
      | inr some ↦ inr (
        omega (arith, c.saturating_sub.ensures, c.partition_point.ensures.bound),
        λ d.
            let low = leb-true _ _ (point.0 c.saturating_sub.result d (omega arith) (omega (arith, c.saturating_sub.ensures))) in
            omega (arith, low, c.in-Some.ensures),
      )
    ])

pub returns-in-Some-clause-last : goal.returns-in-Some-clause-last
returns-in-Some-clause-last c at later there =
    let idle : IsIdleAt c.args.entry.now c.args.entry.now.end c.self.inside.runs.now at = subst (λ (r : Rising). IsIdleAt c.args.entry.now c.args.entry.now.end r.runs at) (sym c.self.view_is) there in
    let runs = c.self.inside.runs.now in
    let up = firsts_rise c.self.invariant.fit.0 c.self.inside.start runs c.self.invariant.fit.1 (rising_strictly c.self.inside.start (moments_of (all_wakes runs)) c.self.invariant.rising) in
    let parted = IsPartitionedBy-leb (λ (r : Run). r.first) runs c.in-Some.idle up in
    let point = IsPartitionPoint-from_clause (λ (r : Run). leb r.first c.in-Some.idle) _ _ c.partition_point.ensures.partitioned parted (λ a r q k. search rules) in
    let no' = point.1 at blank (omega (arith, c.saturating_sub.ensures, later)) idle.0 in
    let early = idle.1 blank in
    let yes' = le-leb (get_or runs at blank).first c.in-Some.idle (omega (arith, early, c.in-Some.ensures)) in
    absurd (cc)

pub returns-in-None-clause-last : goal.returns-in-None-clause-last
returns-in-None-clause-last c at later idle = let early = idle.1 blank in absurd (omega (arith, early, c.in-None.ensures))
