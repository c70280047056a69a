-- A tick leaves the plan unless it is late, when planning anew makes it; then the first wake-up decides.
use Rattle.std.proofs.lemmas.Result.{err_from_is_err_and}
use Rattle.std.proofs.Common.{◌≡◌, ◌∙◌, ◌≤◌, Option, None, ap, arith, false, length, subst, sym}
use Rattle.plan_forest.specs.Push.{IsForest}
use Rattle.plan_rule.specs.{Asks.first_of, Runs.moments_of, declared.limit.TheConstants.LIMIT}
use Rattle.plan_search.specs.Planned.{to_come}
use Rattle.tick_keeper.specs.{declared.event.Event.TheVariants.Tick, declared.round.OpenRound.OpenRound, code.Keeping.IsKeeper, code.Keeping.seen_round, Replan.Replan, State.CoreState, code.Waking.is_late}
use Rattle.tick_keeper.specs.Step.{IsDueBy, StepMayWantMemory, StepTick}
use Rattle.tick_keeper.proofs.{Heard.only_memory, Opened.tick_fits, Shortening.shorten_forest, Standing.kept_plan, Standing.tick, Taken.moment_is, Refusals.tick_taken}
use Rattle.tick_keeper.proofs.Made.{count_moments, made, made_keeper, none_seen}
use Rattle.tick_keeper.proofs.Waking.{kept_keeper, late_due, none_before, tick_step}
use Rattle.tick_keeper.proofs.keeper.Keeper.tick.Goals as goal

pub unwrap-at-requires : goal.unwrap-at-requires
unwrap-at-requires c = c.new.ensures.within.1 (tick_taken c.args.self.now c.args.at c.requires).0

pub invariant_of-self-then-is_late : goal.invariant_of-self-then-is_late
invariant_of-self-then-is_late c =
    let h = c.replan_late.new.forest in
    let t = c.unwrap-at.result in
    let p = c.in_ok-late.late.plan in
    let taken = tick_taken c.args.self.now c.args.at c.requires in
    let none : c.self.inside.round ≡ None = none_seen c.self.inside.round (ap (λ (s : CoreState). s.round) c.self.view_is ∙ taken.2) in
    let value : t ≡ c.args.at = moment_is c.new.result t c.args.at c.unwrap-at.ensures c.new.ensures.value in
    let forest = subst IsForest (sym c.in_ok-late.ensures.shortened.0) (shorten_forest c.self.inside.forest c.self.invariant.forest t) in
    subst (λ (r : Option OpenRound). IsKeeper h t p r) (sym none) (made_keeper h t p forest (omega (arith, taken.0)) c.in_ok-late.ensures.planned)

pub returns-in_err-late : goal.returns-in_err-late
returns-in_err-late c =
    let g = c.self.inside.forest in
    let s = c.self.inside.last in
    let t = c.unwrap-at.result in
    let ts = moments_of (to_come c.self.inside.plan) in
    let taken = tick_taken c.args.self.now c.args.at c.requires in
    let none : c.self.inside.round ≡ None = none_seen c.self.inside.round (ap (λ (s : CoreState). s.round) c.self.view_is ∙ taken.2) in
    let value : t ≡ c.args.at = moment_is c.new.result t c.args.at c.unwrap-at.ensures c.new.ensures.value in
    let last : s ≡ c.args.self.now.last = ap (λ (s : CoreState). s.last) c.self.view_is in
    let few : length ts ≤ LIMIT = (let l = count_moments (to_come c.self.inside.plan) in let n = c.self.invariant.few in omega arith) in
    let memory = only_memory g t c.in_err-late.field-0.0 c.in_err-late.ensures.refused (tick_fits g s t ts c.self.invariant.forest (let l = taken.1 in omega arith) (c.self.invariant.best none) few) in
    let due = late_due t (first_of ts) (ap (λ (s : CoreState). is_late t (first_of s.to_come)) c.self.view_is ∙ sym c.is_late.ensures ∙ c.if-is_late.true) in
    let wants : StepMayWantMemory c.args.self.now (Tick c.args.at) = subst (λ n. IsDueBy n (first_of c.args.self.now.to_come)) value (subst (λ (s : CoreState). IsDueBy t (first_of s.to_come)) c.self.view_is due) in
    let unchanged = c.in_err-late.ensures.unchanged in
    let same = ap (λ h. record { forest = h; last = s; to_come = ts; round = seen_round c.self.inside.round; shortened = c.replan_late.new.shortened.items }) unchanged.0
    ∙ ap (λ xs. record { forest = g; last = s; to_come = ts; round = seen_round c.self.inside.round; shortened = xs }) unchanged.1 ∙ c.self.view_is in
    let p = err_from_is_err_and c.from_residual.result c.from_residual.ensures.1 in
    let fault = p.2 ∙ memory in
    rw (p.1, fault) (c.requires, (wants, same))

pub wake-requires-clause-closed : goal.wake-requires-clause-closed
wake-requires-clause-closed c = ap (λ (s : CoreState). s.round) c.self.view_is ∙ (tick_taken c.args.self.now c.args.at c.requires).2

pub returns-then-is_late : goal.returns-then-is_late
returns-then-is_late c =
    let h = c.replan_late.new.forest in
    let p = c.in_ok-late.late.plan in
    let t = c.unwrap-at.result in
    let list = c.replan_late.new.shortened.items in
    let old : CoreState = record { forest = c.self.inside.forest; last = c.self.inside.last; to_come = moments_of (to_come c.self.inside.plan); round = seen_round c.self.inside.round; shortened = c.self.inside.shortened.items } in
    let mid : CoreState = record { forest = h; last = t; to_come = moments_of (to_come p); round = seen_round c.self.inside.round; shortened = list } in
    let value : t ≡ c.args.at = moment_is c.new.result t c.args.at c.unwrap-at.ensures c.new.ensures.value in
    let there : Replan old t mid = made old t h p list c.in_ok-late.ensures.shortened.0 c.in_ok-late.ensures.shortened.1 c.in_ok-late.ensures.planned in
    let step : StepTick old t c.wake.result c.wake.new.self = tick_step old mid c.wake.new.self t c.wake.result there c.wake.ensures in
    (c.requires, subst (λ (s : CoreState). StepTick s c.args.at c.wake.result c.wake.new.self) c.self.view_is (subst (λ n. StepTick old n c.wake.result c.wake.new.self) value step))

pub opening_at-requires-clause-start : goal.opening_at-requires-clause-start
opening_at-requires-clause-start c =
    let taken = (tick_taken c.args.self.now c.args.at c.requires).1 in
    let last = ap (λ (s : CoreState). s.last) c.self.view_is in
    let value = moment_is c.new.result c.unwrap-at.result c.args.at c.unwrap-at.ensures c.new.ensures.value in
    let start = c.self.invariant.start in
    omega arith

pub opening_at-requires-clause-best : goal.opening_at-requires-clause-best
opening_at-requires-clause-best c =
    let g = c.self.inside.forest in
    let s = c.self.inside.last in
    let t = c.unwrap-at.result in
    let ts = moments_of (to_come c.self.inside.plan) in
    let taken = tick_taken c.args.self.now c.args.at c.requires in
    let none : c.self.inside.round ≡ None = none_seen c.self.inside.round (ap (λ (s : CoreState). s.round) c.self.view_is ∙ taken.2) in
    let value : t ≡ c.args.at = moment_is c.new.result t c.args.at c.unwrap-at.ensures c.new.ensures.value in
    let last : s ≡ c.args.self.now.last = ap (λ (s : CoreState). s.last) c.self.view_is in
    let later : s ≤ t = (let l = taken.1 in omega arith) in
    let on_time : is_late t (first_of ts) ≡ false = ap (λ (s : CoreState). is_late t (first_of s.to_come)) c.self.view_is ∙ sym c.is_late.ensures ∙ c.if-is_late.false in
    let best = c.self.invariant.best none in
    (tick g s t ts later (none_before g s t ts best on_time) best).1.1

pub invariant_of-self-2 : goal.invariant_of-self-2
invariant_of-self-2 c =
    let g = c.self.inside.forest in
    let s = c.self.inside.last in
    let t = c.unwrap-at.result in
    let p = c.self.inside.plan in
    let taken = tick_taken c.args.self.now c.args.at c.requires in
    let none : c.self.inside.round ≡ None = none_seen c.self.inside.round (ap (λ (s : CoreState). s.round) c.self.view_is ∙ taken.2) in
    let value : t ≡ c.args.at = moment_is c.new.result t c.args.at c.unwrap-at.ensures c.new.ensures.value in
    let last : s ≡ c.args.self.now.last = ap (λ (s : CoreState). s.last) c.self.view_is in
    let later : s ≤ t = (let l = taken.1 in omega arith) in
    let on_time : is_late t (first_of (moments_of (to_come p))) ≡ false = ap (λ (s : CoreState). is_late t (first_of s.to_come)) c.self.view_is ∙ sym c.is_late.ensures ∙ c.if-is_late.false in
    let whole : IsKeeper g s p None = subst (IsKeeper g s p) none c.self.invariant in
    subst (IsKeeper g t p) (sym none) (kept_keeper g s t p whole later (omega (arith, taken.0)) on_time)

pub wake-requires-2-clause-closed : goal.wake-requires-2-clause-closed
wake-requires-2-clause-closed c = ap (λ (s : CoreState). s.round) c.self.view_is ∙ (tick_taken c.args.self.now c.args.at c.requires).2

pub returns : goal.returns
returns c =
    let g = c.self.inside.forest in
    let s = c.self.inside.last in
    let t = c.unwrap-at.result in
    let p = c.self.inside.plan in
    let ts = moments_of (to_come p) in
    let taken = tick_taken c.args.self.now c.args.at c.requires in
    let none : c.self.inside.round ≡ None = none_seen c.self.inside.round (ap (λ (s : CoreState). s.round) c.self.view_is ∙ taken.2) in
    let value : t ≡ c.args.at = moment_is c.new.result t c.args.at c.unwrap-at.ensures c.new.ensures.value in
    let last : s ≡ c.args.self.now.last = ap (λ (s : CoreState). s.last) c.self.view_is in
    let later : s ≤ t = (let l = taken.1 in omega arith) in
    let on_time : is_late t (first_of ts) ≡ false = ap (λ (s : CoreState). is_late t (first_of s.to_come)) c.self.view_is ∙ sym c.is_late.ensures ∙ c.if-is_late.false in
    let old : CoreState = record { forest = g; last = s; to_come = ts; round = seen_round c.self.inside.round; shortened = c.self.inside.shortened.items } in
    let mid : CoreState = record { forest = g; last = t; to_come = ts; round = seen_round c.self.inside.round; shortened = c.self.inside.shortened.items } in
    let few : length ts ≤ LIMIT = (let l = count_moments (to_come p) in let n = c.self.invariant.few in omega arith) in
    let best = c.self.invariant.best none in
    let there : Replan old t mid = kept_plan old t (best, few) later (none_before g s t ts best on_time) in
    let step : StepTick old t c.wake-2.result c.wake-2.new.self = tick_step old mid c.wake-2.new.self t c.wake-2.result there c.wake-2.ensures in
    (c.requires, subst (λ (s : CoreState). StepTick s c.args.at c.wake-2.result c.wake-2.new.self) c.self.view_is (subst (λ n. StepTick old n c.wake-2.result c.wake-2.new.self) value step))
