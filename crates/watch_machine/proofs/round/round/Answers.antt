-- A round opens where the definition says, and asks whom it says.
use Rattle.std.proofs.Common.{◌≡◌, ◌∙◌, true, subst, sym, ap}
use Rattle.plan_needs.specs.Carried.{IsCarried}
use Rattle.plan_rule.specs.Asks.{asks}
use Rattle.plan_forest.specs.Forest.{end_of}
use Rattle.watch_machine.specs.Clocks.{sec}
use Rattle.watch_machine.specs.Round.{IsSecond, opens_some, plan_view}
use Rattle.watch_machine.proofs.{Opening.plan_alike, Shorting.carries_alike}
use Rattle.watch_machine.proofs.round.round.Goals as goal

pub returns-then-not-opens_some-clause-round : goal.returns-then-not-opens_some-clause-round
returns-then-not-opens_some-clause-round c = λ sees. sym (c.opens_some.ensures sees.needs) ∙ c.if-not-opens_some.true

pub returns-clause-round : goal.returns-clause-round
returns-clause-round c = λ sees.
    let g = c.args.forest.now in
    let xs = c.args.tracks.now in
    let clocks = c.args.clocks in
    let v = c.write_plan_view.new.view in
    let now = c.moment_at-now.result in
    let loads = c.cut-cut.result.now in
    let next = c.second_round-next.result in
    let asked = c.in_ok-asks_before.field-0 in
    let any : opens_some g xs clocks ≡ true = sym (c.opens_some.ensures sees.needs) ∙ c.if-not-opens_some.false in
    let plan : v.entries ≡ plan_view g xs clocks = c.write_plan_view.ensures.planned sees.seen sees.needs in
    let margin = c.write_plan_view.ensures.view.margin in
    let at : now ≡ sec clocks.at = c.moment_at-now.ensures ∙ c.second.ensures.value in
    let carries : IsCarried v (sec clocks.at) loads =
    carries_alike c.args.view.now v (plan_alike c.args.view.now v g xs clocks c.write_plan_view.ensures.sound c.requires.view c.write_plan_view.ensures.view sees.seen plan) (sec clocks.at) loads
    (subst (IsCarried c.args.view.now (sec clocks.at)) (sym c.cut-cut.ensures) sees.cut) in
    let after : IsSecond v.entries v.margin now next = c.second_round-next.ensures (subst (λ t. IsCarried v t loads) (sym at) carries) in
    let after' : IsSecond (plan_view g xs clocks) g.margin (sec clocks.at) next =
    subst (λ t. IsSecond (plan_view g xs clocks) g.margin t next) at
    (subst (λ m. IsSecond (plan_view g xs clocks) m now next) margin (subst (λ es. IsSecond es v.margin now next) plan after)) in
    let asks_is : asked ≡ asks (plan_view g xs clocks) g.margin (sec clocks.at) (end_of (plan_view g xs clocks)) (sec clocks.at) next =
    c.in_ok-asks_before.ensures (sec clocks.at) carries ∙ ap (λ t. asks v.entries v.margin (sec clocks.at) (end_of v.entries) t next) at
    ∙ ap (λ m. asks v.entries m (sec clocks.at) (end_of v.entries) (sec clocks.at) next) margin
    ∙ ap (λ es. asks es g.margin (sec clocks.at) (end_of es) (sec clocks.at) next) plan in
    (any, (next, (after', asks_is)))
