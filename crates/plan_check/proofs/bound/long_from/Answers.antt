-- From a step before a need on, a renewal leads up to it, unless the entry cannot be renewed or its ceiling is lower.
use Rattle.std.proofs.Common.{◌≡◌, ◌-◌, arith}
use Rattle.plan_check.proofs.Longs.{long_fixed, long_free, long_high, long_low}
use Rattle.plan_check.proofs.bound.long_from.Goals as goal

pub returns-then-not-entry-clause-none : goal.returns-then-not-entry-clause-none
returns-then-not-entry-clause-none c = λ _. long_fixed c.args.entry.now c.args.need c.if-not-entry.true c.requires

pub returns-in-None-clause-found : goal.returns-in-None-clause-found
returns-in-None-clause-found c =
    let top : c.saturating_sub-top.result ≡ c.args.need - c.args.entry.now.step = omega (arith, c.saturating_sub-top.ensures) in
    (long_free c.args.entry.now c.args.need c.saturating_sub-top.result c.if-not-entry.false c.in-None.is c.requires top, omega (arith, top))

pub returns-then-ceiling-need-clause-none : goal.returns-then-ceiling-need-clause-none
returns-then-ceiling-need-clause-none c = λ _. long_low c.args.entry.now c.args.need c.in-Some.ceiling c.if-not-entry.false c.in-Some.is c.if-ceiling-need.true c.requires

pub returns-else-ceiling-need-clause-found : goal.returns-else-ceiling-need-clause-found
returns-else-ceiling-need-clause-found c =
    let top : c.saturating_sub-top.result ≡ c.args.need - c.args.entry.now.step = omega (arith, c.saturating_sub-top.ensures) in
    (long_high c.args.entry.now c.args.need c.in-Some.ceiling c.saturating_sub-top.result c.if-not-entry.false c.in-Some.is c.if-ceiling-need.false c.requires top, omega (arith, top))
