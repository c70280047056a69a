-- Without its first wake-up the plan is still one, and what is to come is the tail of what was.
use Rattle.std.proofs.Common.{◌∙◌, ◌<◌, ap, arith, drop, length, subst, sym, ◌∷◌, List}
use Rattle.std.proofs.lemmas.List.{length-set}
use Rattle.plan_rule.specs.{declared.run.Run.Run, Runs.all_wakes}
use Rattle.plan_search.specs.Planned.{IsPlanned, Planned, to_come}
use Rattle.plan_search.proofs.Walking.{loses_head, passed_over, shortened_in_place, stands, still_planned}
use Rattle.plan_search.proofs.plans.Plan.drop_first.Goals as goal

pub invariant_of-self : goal.invariant_of-self
invariant_of-self c =
    let rs = c.self.inside.runs.items in
    let i = c.self.inside.first in
    let some : 0 < length (all_wakes (drop i rs)) = subst (λ p. 0 < length (to_come p)) (sym c.self.view_is) c.requires in
    let same = shortened_in_place rs i c.index.result.now c.in-Some.shortened (stands rs i some) c.index.ensures (sym c.in-Some.is ∙ c.behind_first.ensures) in
    let p : Planned = record { start = c.self.inside.start; carried = c.self.inside.carried; runs = drop i rs } in
    let Goal : List Run → Type 0 = λ runs. IsPlanned (record p { runs = runs }) in
    (omega (arith, stands rs i some, length-set rs i c.in-Some.shortened), subst Goal (sym same) (still_planned p c.self.invariant.1 some))

pub returns-in-Some-clause-tail : goal.returns-in-Some-clause-tail
returns-in-Some-clause-tail c =
    let rs = c.self.inside.runs.items in
    let i = c.self.inside.first in
    let some : 0 < length (all_wakes (drop i rs)) = subst (λ p. 0 < length (to_come p)) (sym c.self.view_is) c.requires in
    let same = shortened_in_place rs i c.index.result.now c.in-Some.shortened (stands rs i some) c.index.ensures (sym c.in-Some.is ∙ c.behind_first.ensures) in
    let tail = loses_head (drop i rs) c.self.invariant.1.runs some in
    (tail.0, sym (ap to_come c.self.view_is) ∙ tail.1 ∙ ap (λ runs. tail.0 ∷ all_wakes runs) (sym same))

pub returns-in-None-clause-tail : goal.returns-in-None-clause-tail
returns-in-None-clause-tail c =
    let rs = c.self.inside.runs.items in
    let i = c.self.inside.first in
    let some : 0 < length (all_wakes (drop i rs)) = subst (λ p. 0 < length (to_come p)) (sym c.self.view_is) c.requires in
    let same = passed_over rs i c.index.result.now (stands rs i some) c.index.ensures (sym c.in-None.is ∙ c.behind_first.ensures) in
    let tail = loses_head (drop i rs) c.self.invariant.1.runs some in
    (tail.0, sym (ap to_come c.self.view_is) ∙ tail.1 ∙ ap (λ runs. tail.0 ∷ all_wakes runs) (sym same))
