-- A keeper whose round opens, with the first wake-up taken off the plan, is a keeper.
use Rattle.std.proofs.Common.{◌≡◌, ◌∙◌, Option, Some, None, ap, subst, sym}
use Rattle.plan_rule.specs.Runs.{moments_of}
use Rattle.plan_search.specs.Planned.{Planned, to_come}
use Rattle.tick_keeper.specs.{declared.opening.Opening.Opening, code.Keeping.IsKeeper, State.CoreState, code.Waking.IsRoundOpening, code.Waking.OpensRound}
use Rattle.tick_keeper.proofs.{Made.none_seen, Waking.opened_keeper}
use Rattle.tick_keeper.proofs.keeper.Keeper.wake.Goals as goal

pub invariant_of-self : goal.invariant_of-self
invariant_of-self c =
    let h = c.self.inside.forest in
    let t = c.self.inside.last in
    let p = c.self.inside.plan in
    let o = c.in-Some.opening in
    let none : c.self.inside.round ≡ None = none_seen c.self.inside.round (ap (λ (s : CoreState). s.round) c.self.view_is ∙ c.requires.closed) in
    let given : OpensRound c.args.self.now.forest c.args.self.now.last c.args.self.now.to_come (Some o) =
    subst (λ (q : Option Opening). OpensRound c.args.self.now.forest c.args.self.now.last c.args.self.now.to_come q) c.in-Some.is c.requires.opening in
    let opens : IsRoundOpening h t (moments_of (to_come p)) o = subst (λ (s : CoreState). OpensRound s.forest s.last s.to_come (Some o)) (sym c.self.view_is) given in
    let whole : IsKeeper h t p None = subst (IsKeeper h t p) none c.self.invariant in
    opened_keeper h t p c.drop_first.new.self o whole opens (ap (λ (q : Planned). q.start) c.drop_first.ensures.runs) (ap (λ (q : Planned). q.carried) c.drop_first.ensures.runs) c.drop_first.ensures.tail
