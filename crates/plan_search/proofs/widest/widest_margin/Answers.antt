-- The margin that is found is the widest, or none is enough where it is 0, and the forest gets its own margin back.
use Rattle.std.proofs.Common.{List, arith, subst, sym}
use Rattle.plan_forest.specs.{declared.entry.Entry.Entry, Margins.IsMargin}
use Rattle.plan_forest.proofs.Margins.{own_allowed}
use Rattle.plan_search.proofs.widest.widest_margin.Goals as goal

pub set_margin-requires : goal.set_margin-requires
set_margin-requires c =
    let g = c.args.forest.now in
    let own : IsMargin g.entries c.margin-own.result = subst (IsMargin g.entries) (sym c.margin-own.ensures) (own_allowed g c.len-entries.ensures.sound) in
    subst (λ (es : List Entry). IsMargin es c.margin-own.result) (sym c.bisect-found.ensures.entries) own

pub returns-then-widest-eq0-clause-value : goal.returns-then-widest-eq0-clause-value
returns-then-widest-eq0-clause-value c =
    λ margin enough.
    let least = c.in_ok-widest.ensures.value.none_over margin enough in
    let above = enough.allowed.above in
    let none = c.if-widest-eq0.true in
    omega arith
