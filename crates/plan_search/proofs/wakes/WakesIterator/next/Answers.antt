-- The wake-up that is given is the first of those that were left, and the others are left.
use Rattle.std.proofs.Common.{◌≡◌, ◌∙◌, ◌∷◌, ap, arith, length, sym, subst}
use Rattle.std.specs.Option.{IfSome}
use Rattle.plan_rule.specs.Runs.{AreRuns, IsRun, all_wakes}
use Rattle.plan_search.specs.{Planned.behind_first, Planned.in_front, declared.wakes.Wakes.TheInside.Inside}
use Rattle.plan_search.proofs.Walking.{behind_wakes}
use Rattle.plan_search.proofs.wakes.WakesIterator.next.Goals as goal
use Rattle.plan_search.proofs.wakes.WakesIterator.next.Goals.{in-Some, in-None+in_ok-first-in-None}

pub returns-clause-steps : goal.returns-clause-steps
returns-clause-steps c =
    let run = c.match-self.run in
    let all = c.self.inside.rest.now in
    let rest = c.match-self.self-inside.rest.now in
    let walked : in_front c.self.inside.run all ≡ run ∷ rest = elim c.match-self.branch [
      | in-Some w ↦
          ap (λ o. in_front o all) w.in-Some.is ∙ ap (λ r. r ∷ all) (sym w.run-is) ∙ ap (λ (s : Inside). run ∷ s.rest.now) (sym w.self-inside-is)
      | in-None+in_ok-first-in-None w ↦
          ap (λ o. in_front o all) w.in-None.is ∙ w.in_ok-first-in-None.ensures.cases.0 ∙ ap (λ r. r ∷ w.in_ok-first-in-None.rest.now) (sym w.run-is)
          ∙ ap (λ (s : Inside). run ∷ s.rest.now) (sym w.self-inside-is)
    ] in
    let is : IsRun run = (subst AreRuns walked c.self.invariant).0 in
    let at : c.unwrap.result ≡ run.first = subst (λ o. IfSome o (λ m. m ≡ run.first)) c.unwrap.ensures c.new.ensures.value in
    sym c.self.view_is ∙ ap all_wakes walked ∙ behind_wakes run rest is
    ∙ ap (λ m. record { at = m; entry = run.entry; needed = run.needed } ∷ all_wakes (in_front (behind_first run) rest)) (sym at)
    ∙ ap (λ o. record { at = c.unwrap.result; entry = run.entry; needed = run.needed } ∷ all_wakes (in_front o rest)) (sym c.behind_first-self-inside.ensures)

pub returns-clause-goes : goal.returns-clause-goes
returns-clause-goes c = let s = ap length (returns-clause-steps c) in record { on = λ _. (tt, tt, omega arith); keeps = tt; rests = λ _. tt }
