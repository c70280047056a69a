-- A run with a wake-up after the moment answers for all runs, and one without is passed.
use Rattle.std.proofs.Common.{◌∙◌, ◌+◌, ap, arith, drop, get_or, subst, sym}
use Rattle.std.proofs.lemmas.List.{drop_more}
use Rattle.plan_rule.specs.{declared.run.Run.Run, Runs.AreRuns, Runs.all_wakes, Runs.wakes}
use Rattle.plan_search.specs.Planned.{next_after}
use Rattle.plan_search.proofs.Nexts.{found, next_in_front, next_later, none_found}
use Rattle.plan_search.proofs.runs.next_after.Goals as goal

pub next_in-next-requires : goal.next_in-next-requires
next_in-next-requires c =
    let rs = c.args.runs.now in
    let i = c.loop-run.run-index in
    let d : Run = record { first = 0; step = 0; count = 0; entry = 0; needed = 0 } in
    (subst AreRuns (drop_more rs i d (omega arith)) c.loop-run.invariant.runs).0

pub returns-then-is_some : goal.returns-then-is_some
returns-then-is_some c =
    let rs = c.args.runs.now in
    let i = c.loop-run.run-index in
    let d : Run = record { first = 0; step = 0; count = 0; entry = 0; needed = 0 } in
    let m = found c.next_in-next.result (sym c.is_some.ensures ∙ c.if-is_some.true) in
    m.1 ∙ sym (next_in_front c.args.at m.0 (wakes (get_or rs i d)) (all_wakes (drop (i + 1) rs)) (sym c.next_in-next.ensures ∙ m.1))
    ∙ sym (ap (λ xs. next_after c.args.at (all_wakes xs)) (drop_more rs i d (omega arith))) ∙ c.loop-run.invariant.next

pub loop-run-preserved : goal.loop-run-preserved
loop-run-preserved c =
    let rs = c.args.runs.now in
    let i = c.loop-run.run-index in
    let d : Run = record { first = 0; step = 0; count = 0; entry = 0; needed = 0 } in
    let none = none_found c.next_in-next.result (sym c.is_some.ensures ∙ c.if-is_some.false) in
    record {
      runs = (subst AreRuns (drop_more rs i d (omega arith)) c.loop-run.invariant.runs).1;
      next = sym (next_later c.args.at (wakes (get_or rs i d)) (all_wakes (drop (i + 1) rs)) (sym c.next_in-next.ensures ∙ none))
          ∙ sym (ap (λ xs. next_after c.args.at (all_wakes xs)) (drop_more rs i d (omega arith))) ∙ c.loop-run.invariant.next;
    }
