-- Each bound that falls short is compared with the first one before it; in the end that is the second moment.
use Rattle.std.proofs.Common.{◌≡◌, ◌∙◌, ◌+◌, Some, length, subst, sym, ap, arith}
use Rattle.plan_rule.specs.Forced.{latest_end}
use Rattle.plan_forest.specs.declared.entry.Entry.{Entry}
use Rattle.watch_machine.specs.code.Rounds.{IsFirstShort, first_with}
use Rattle.watch_machine.proofs.Shorting.{bounds, first_more, loads_of}
use Rattle.watch_machine.proofs.round.first_short.Goals as goal

pub loop-index-init : goal.loop-index-init
loop-index-init c = λ i below. absurd (omega arith)

pub loop-index-preserved : goal.loop-index-preserved
loop-index-preserved c =
    let es = c.args.view.now.entries in
    let B = bounds es c.args.now in
    let N = loads_of c.args.needs.now in
    let i = c.loop-index.index in
    let bound_is : c.bound-bound.result ≡ B i = c.bound-bound.ensures ∙ ap (λ (e : Entry). latest_end e e.end (Some c.args.now)) c.get.ensures.value in
    let is : c.first_with-first.result ≡ first_with c.loop-index.first (B i) (N i) =
    c.first_with-first.ensures ∙ ap (λ b. first_with c.loop-index.first b c.need.result) bound_is ∙ ap (first_with c.loop-index.first (B i)) c.need.ensures in
    subst (IsFirstShort B N (i + 1)) (sym is) (first_more B N i c.loop-index.first c.loop-index.invariant)

pub returns-clause-first : goal.returns-clause-first
returns-clause-first c =
    let all : c.loop-index.index ≡ length c.args.view.now.entries = omega (arith, c.len-index-end.ensures.value) in
    subst (λ n. IsFirstShort (bounds c.args.view.now.entries c.args.now) (loads_of c.args.needs.now) n c.loop-index.first) all c.loop-index.invariant
