-- An answer is heard while others are waited for, and closes the round where nobody is left.
use Rattle.std.proofs.Common.{◌≡◌, ◌∙◌, ◌<◌, None, Some, ap, arith, false, length, nat_lt, subst, sym, true}
use Rattle.std.proofs.lemmas.{Result.err_from_is_err_and, Bool.Decides.nat_tests}
use Rattle.tick_keeper.specs.declared.event.Output.TheVariants as out
use Rattle.tick_keeper.specs.{code.Hearing.heard_in_round, code.Hearing.others, Refusal.waits_for, Replan.Replan, State.Round, Step.entry_of_event, Step.state_after_answer}
use Rattle.tick_keeper.proofs.{Hearing.waits_in, Refusals.answer_taken}
use Rattle.tick_keeper.proofs.Heard.{as_answer, nobody, of_some, somebody, wants_turn}
use Rattle.tick_keeper.proofs.keeper.Keeper.answer.Goals as goal

pub waits_for_others-requires-clause-within : goal.waits_for_others-requires-clause-within
waits_for_others-requires-clause-within c =
    let now = c.args.self.now in
    subst (λ i. i < length now.forest.entries) c.requires.entry (answer_taken now c.args.event c.requires.answer c.requires.taken).within

pub waits_for_others-requires-clause-asked : goal.waits_for_others-requires-clause-asked
waits_for_others-requires-clause-asked c =
    let now = c.args.self.now in
    subst (λ i. waits_for now.round i ≡ true) c.requires.entry (answer_taken now c.args.event c.requires.answer c.requires.taken).waits

pub returns-then-waits_for_others : goal.returns-then-waits_for_others
returns-then-waits_for_others c =
    let now = c.args.self.now in
    let event = c.args.event in
    let taken = answer_taken now event c.requires.answer c.requires.taken in
    let round = waits_in now.round (entry_of_event event) taken.waits in
    let test : nat_lt 0 (length (others now.round c.args.i)) ≡ true = sym c.waits_for_others.ensures ∙ c.if-waits_for_others.true in
    let some : 0 < length (others now.round c.args.i) = grind (arith, nat_tests) in
    let left = ap (λ o. length (others o c.args.i)) round.1 ∙ ap (λ i. length (others (Some round.0) i)) (sym c.requires.entry) in (
      c.requires.taken,
      as_answer now event out.Waiting c.hear.new.self c.requires.answer
          (round.0, (round.1, (somebody _ (subst (λ n. 0 < n) left some), c.hear.ensures ∙ ap (λ o. heard_in_round o now event) round.1))),
    )

pub returns-in_err-close : goal.returns-in_err-close
returns-in_err-close c =
    let now = c.args.self.now in
    let event = c.args.event in
    let taken = answer_taken now event c.requires.answer c.requires.taken in
    let round = waits_in now.round (entry_of_event event) taken.waits in
    let test : nat_lt 0 (length (others now.round c.args.i)) ≡ false = sym c.waits_for_others.ensures ∙ c.if-waits_for_others.false in
    let none : length (others now.round c.args.i) ≡ 0 = grind (arith, nat_tests) in
    let left = ap (λ o. length (others o c.args.i)) round.1 ∙ ap (λ i. length (others (Some round.0) i)) (sym c.requires.entry) in
    let p = err_from_is_err_and c.from_residual.result c.from_residual.ensures.1 in
    let memory = p.2 ∙ c.in_err-close.ensures.refused in
    rw (p.1, memory) (wants_turn now c.close.new.self event round.0 c.requires.answer c.requires.taken round.1 (nobody _ (sym left ∙ none)) c.in_err-close.ensures.unchanged)

pub returns : goal.returns
returns c =
    let now = c.args.self.now in
    let event = c.args.event in
    let new = c.close.new.self in
    let taken = answer_taken now event c.requires.answer c.requires.taken in
    let round = waits_in now.round (entry_of_event event) taken.waits in
    let test : nat_lt 0 (length (others now.round c.args.i)) ≡ false = sym c.waits_for_others.ensures ∙ c.if-waits_for_others.false in
    let none : length (others now.round c.args.i) ≡ 0 = grind (arith, nat_tests) in
    let left = ap (λ o. length (others o c.args.i)) round.1 ∙ ap (λ i. length (others (Some round.0) i)) (sym c.requires.entry) in
    let planned = of_some now.round round.0 (λ (r : Round). Replan (state_after_answer now event r.at None) r.at new) round.1 c.in_ok-close.ensures.planned in
    (c.requires.taken, as_answer now event (out.Round c.next_seconds.result) new c.requires.answer (round.0, (round.1, (nobody _ (sym left ∙ none), (planned, c.next_seconds.ensures)))))
