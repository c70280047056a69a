-- A run fails at its first wake-up if that does not rise or is not forced, and else where those after it fail.
use Rattle.std.proofs.Common.{◌≡◌, ◌∙◌, ◌+◌, ◌-◌, ◌*◌, ◌<◌, ◌∷◌, ◌++◌, sym, ap, subst, arith}
use Rattle.plan_forest.specs.Forest.{end_of}
use Rattle.plan_rule.proofs.Keeping.{end_below_bound}
use Rattle.plan_rule.specs.{declared.force.Force.Force, Runs.wakes_of}
use Rattle.plan_check.specs.{code.Steps.WalkFinds, Walk.fault}
use Rattle.plan_check.proofs.Answers.{first_rises, forced_parts}
use Rattle.plan_check.proofs.Run.{falls, found_behind, run_first, unforced}
use Rattle.plan_check.proofs.walk.fault_of_run.Goals as goal

pub returns-then-not-rises : goal.returns-then-not-rises
returns-then-not-rises c = λ rest.
    let g = c.args.forest.now in
    let r = c.args.run.now in
    let w : Force = record { at = r.first; entry = r.entry; needed = r.needed } in
    let us = wakes_of (r.first + r.step) r.step (r.count - 1) r.entry r.needed in
    ap (λ ws. fault g.entries g.margin c.args.start (end_of g.entries) c.args.previous c.args.count (ws ++ rest)) (run_first r.first r.step r.count r.entry r.needed c.requires.fit.moments.some)
    ∙ falls g.entries g.margin c.args.start (end_of g.entries) c.args.previous c.args.count w (us ++ rest) (sym c.rises.ensures ∙ c.if-not-rises.true)

pub returns-then-not-is_forced : goal.returns-then-not-is_forced
returns-then-not-is_forced c = λ rest.
    let g = c.args.forest.now in
    let r = c.args.run.now in
    let w : Force = record { at = r.first; entry = r.entry; needed = r.needed } in
    let us = wakes_of (r.first + r.step) r.step (r.count - 1) r.entry r.needed in
    ap (λ ws. fault g.entries g.margin c.args.start (end_of g.entries) c.args.previous c.args.count (ws ++ rest)) (run_first r.first r.step r.count r.entry r.needed c.requires.fit.moments.some)
    ∙ unforced g.entries g.margin c.args.start (end_of g.entries) c.args.previous c.args.count w (us ++ rest) (sym c.rises.ensures ∙ c.if-not-rises.false) (sym c.is_forced.ensures ∙ c.if-not-is_forced.true)

pub fault_after_first-requires-clause-start : goal.fault_after_first-requires-clause-start
fault_after_first-requires-clause-start c = first_rises c.args.start c.args.previous c.args.run.now.first (sym c.rises.ensures ∙ c.if-not-rises.false)

pub fault_after_first-requires-clause-over : goal.fault_after_first-requires-clause-over
fault_after_first-requires-clause-over c =
    let g = c.args.forest.now in
    let r = c.args.run.now in
    (forced_parts g.entries g.margin c.args.start (end_of g.entries) c.args.previous r.first r.entry r.needed (sym c.is_forced.ensures ∙ c.if-not-is_forced.false)).over

pub fault_after_first-requires-clause-later : goal.fault_after_first-requires-clause-later
fault_after_first-requires-clause-later c =
    let g = c.args.forest.now in
    let r = c.args.run.now in
    (forced_parts g.entries g.margin c.args.start (end_of g.entries) c.args.previous r.first r.entry r.needed (sym c.is_forced.ensures ∙ c.if-not-is_forced.false)).later

pub fault_after_first-requires-clause-short : goal.fault_after_first-requires-clause-short
unfolding end_of
fault_after_first-requires-clause-short c =
    let g = c.args.forest.now in
    let r = c.args.run.now in
    let f = forced_parts g.entries g.margin c.args.start (end_of g.entries) c.args.previous r.first r.entry r.needed (sym c.is_forced.ensures ∙ c.if-not-is_forced.false) in
    let short = f.short in
    let least = end_below_bound g.entries (end_of g.entries) c.args.previous r.entry in
    omega (arith, short, least)

pub returns : goal.returns
returns c =
    let g = c.args.forest.now in
    let r = c.args.run.now in
    let w : Force = record { at = r.first; entry = r.entry; needed = r.needed } in
    let us = wakes_of (r.first + r.step) r.step (r.count - 1) r.entry r.needed in
    let last = r.first + (r.count - 1) * r.step in
    let some : 0 < r.count = c.requires.fit.moments.some in
    let number : c.args.count + 1 + (r.count - 1) ≡ c.args.count + r.count = omega arith in
    subst (λ ws. WalkFinds g c.args.start c.args.previous c.args.count ws last (c.args.count + r.count) c.fault_after_first.result) (sym (run_first r.first r.step r.count r.entry r.needed some))
    (subst (λ k. WalkFinds g c.args.start c.args.previous c.args.count (w ∷ us) last k c.fault_after_first.result) number
    (found_behind g c.args.start c.args.previous c.args.count w us last (c.args.count + 1 + (r.count - 1)) c.fault_after_first.result
    (sym c.rises.ensures ∙ c.if-not-rises.false) (sym c.is_forced.ensures ∙ c.if-not-is_forced.false) c.fault_after_first.ensures))
