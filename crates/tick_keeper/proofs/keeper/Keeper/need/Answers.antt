-- A need that is not refused is a moment of an entry, and planning anew with it makes a keeper.
use Rattle.std.proofs.Common.{◌≡◌, ◌∙◌, ◌<◌, Option, None, ap, arith, length, subst, sym}
use Rattle.plan_forest.specs.Push.{IsForest}
use Rattle.plan_rule.specs.Runs.{moments_of}
use Rattle.plan_search.specs.Planned.{to_come}
use Rattle.tick_keeper.specs.{declared.round.OpenRound.OpenRound, code.Keeping.IsKeeper, code.Keeping.seen_round, Replan.Replan, State.CoreState, Step.with_new_need}
use Rattle.tick_keeper.proofs.{Changed.needed_forest, Shortening.shorten_forest, Taken.moment_is, Refusals.need_taken}
use Rattle.tick_keeper.proofs.Made.{made, made_keeper, none_seen}
use Rattle.tick_keeper.proofs.keeper.Keeper.need.Goals as goal

pub unwrap-until-requires : goal.unwrap-until-requires
unwrap-until-requires c = c.new.ensures.within.1 (need_taken c.args.self.now c.args.i c.args.until c.requires).0

pub replan_with_need-requires : goal.replan_with_need-requires
replan_with_need-requires c =
    let same = ap (λ (s : CoreState). length s.forest.entries) c.self.view_is in
    let within = (need_taken c.args.self.now c.args.i c.args.until c.requires).1 in
    omega arith

pub invariant_of-self-2 : goal.invariant_of-self-2
invariant_of-self-2 c =
    let g = c.self.inside.forest in
    let t = c.self.inside.last in
    let h = c.replan_with_need.new.forest in
    let p = c.in_ok-plan.plan in
    let taken = need_taken c.args.self.now c.args.i c.args.until c.requires in
    let none : c.self.inside.round ≡ None = none_seen c.self.inside.round (ap (λ (s : CoreState). s.round) c.self.view_is ∙ taken.2) in
    let within : c.args.i < length g.entries = (let same = ap (λ (s : CoreState). length s.forest.entries) c.self.view_is in omega (arith, taken.1)) in
    let value : c.unwrap-until.result ≡ c.args.until = moment_is c.new.result c.unwrap-until.result c.args.until c.unwrap-until.ensures c.new.ensures.value in
    let set = needed_forest g c.self.invariant.forest c.args.i within c.unwrap-until.result (omega (arith, taken.0)) in
    let forest = subst IsForest (sym c.in_ok-plan.ensures.shortened.0) (shorten_forest _ set t) in
    subst (λ (r : Option OpenRound). IsKeeper h t p r) (sym none) (made_keeper h t p forest c.self.invariant.late c.in_ok-plan.ensures.planned)

pub returns : goal.returns
returns c =
    let h = c.replan_with_need.new.forest in
    let p = c.in_ok-plan.plan in
    let i = c.args.i in
    let list = c.replan_with_need.new.shortened.items in
    let old : CoreState = record { forest = c.self.inside.forest; last = c.self.inside.last; to_come = moments_of (to_come c.self.inside.plan); round = seen_round c.self.inside.round; shortened = c.self.inside.shortened.items } in
    let new : CoreState = record { forest = h; last = c.self.inside.last; to_come = moments_of (to_come p); round = seen_round c.self.inside.round; shortened = list } in
    let value : c.unwrap-until.result ≡ c.args.until = moment_is c.new.result c.unwrap-until.result c.args.until c.unwrap-until.ensures c.new.ensures.value in
    let there : Replan (with_new_need old i c.unwrap-until.result) c.self.inside.last new = made (with_new_need old i c.unwrap-until.result) c.self.inside.last h p list c.in_ok-plan.ensures.shortened.0 c.in_ok-plan.ensures.shortened.1 c.in_ok-plan.ensures.planned in
    (c.requires, subst (λ (s : CoreState). Replan (with_new_need s i c.args.until) s.last new) c.self.view_is (subst (λ n. Replan (with_new_need old i n) c.self.inside.last new) value there))
