-- Every round closes: for its law, and for that of the order of answers.
use Rattle.std.proofs.Common.{◌≡◌, ◌≢◌, ◌==◌, ◌∙◌, ℕ, ◌<◌, Bool, true, false, cond, List, [], ◌∷◌, Some, None, Result, Ok, Err, length, nat_le, nat_lt, refl, sym, ap, subst, arith}
use Rattle.std.proofs.lemmas.Bool.Decides.{nat_tests}
use Rattle.std.specs.List.{list_any}
use Rattle.plan_forest.specs.Forest.{end_of, entry_at}
use Rattle.plan_forest.proofs.Carrying.{and_left}
use Rattle.plan_rule.specs.Asks.{first_of, is_to_be_asked}
use Rattle.plan_rule.proofs.{Asking.asks_wanted, Next.renewable_within}
use Rattle.tick_keeper.specs.{declared.event.Event.Event, declared.event.Output.Output, declared.fault.StepFault.StepFault, declared.refusal.TheConstants.LONGEST, History.CoreHistory, History.CoreTurn, State.CoreState, State.Round}
use Rattle.tick_keeper.specs.{States.IsState, States.RoundIsOpened}
use Rattle.tick_keeper.specs.declared.event.Event.TheVariants.{Tick, Told, Refused, Lost, Need}
use Rattle.tick_keeper.specs.declared.fault.StepFault.TheVariants.{ClockBack, RoundOpen, NotAsked, BadIndex, OutOfRange, TooLong, OutOfMemory}
use Rattle.tick_keeper.specs.LawsOfHistories.{AllTaken, AnswerEach, ClosesLaw, IsAnswerEvent, NoneWants, OrderLaw, unanswered_after}
use Rattle.tick_keeper.specs.Refusal.{TellsSpan, step_refusal, waits_for}
use Rattle.tick_keeper.specs.Step.{StepAnswer, StepTooLong, entry_of_event, left}
use Rattle.tick_keeper.specs.declared.event.Output.TheVariants as out
use Rattle.tick_keeper.proofs.States.{turn_state}
use Rattle.tick_keeper.proofs.Orders.{AreAnswers, same_round, step_taken, taken_alike}

-- who is waited for is an entry
asked_within : (s : CoreState) (round : Round) (i : ℕ) → RoundIsOpened s.forest s.to_come round → waits_for (Some round) i ≡ true → i < length s.forest.entries
unfolding is_to_be_asked
asked_within s round i o waits =
    let es = o.before.entries in
    let next = first_of s.to_come in
    let wanted = sym (asks_wanted es o.before.margin round.at (end_of es) round.at next i) ∙ o.asked i waits in
    let within : i < length es = renewable_within es i (and_left (entry_at es i).renewable _ wanted) in
    let count = o.answered.count in
    omega arith

none_met : {X : Type 0} (a b c : Bool) (x y z : X) → a ≡ false → b ≡ false → c ≡ true → cond a (Some x) (cond b (Some y) (cond c None (Some z))) ≡ None
none_met false false true x y z p q r = refl
none_met true b c x y z p q r = absurd cc
none_met false true c x y z p q r = absurd cc
none_met false false false x y z p q r = absurd cc

not_refused : (s : CoreState) (event : Event) → IsAnswerEvent event → TellsSpan event → entry_of_event event < length s.forest.entries → waits_for s.round (entry_of_event event) ≡ true → step_refusal s event ≡ None
unfolding step_refusal
not_refused s (Told i seconds renewable) answer span within waits =
    let one : nat_lt LONGEST seconds ≡ false = grind (arith, nat_tests) in
    let other : nat_le (length s.forest.entries) i ≡ false = grind (arith, nat_tests) in
    none_met (nat_lt LONGEST seconds) (nat_le (length s.forest.entries) i) (waits_for s.round i) OutOfRange BadIndex NotAsked one other waits
not_refused s (Refused i) answer span within waits =
    let other : nat_le (length s.forest.entries) i ≡ false = grind (arith, nat_tests) in
    none_met false (nat_le (length s.forest.entries) i) (waits_for s.round i) OutOfRange BadIndex NotAsked refl other waits
not_refused s (Lost i) answer span within waits =
    let other : nat_le (length s.forest.entries) i ≡ false = grind (arith, nat_tests) in
    none_met false (nat_le (length s.forest.entries) i) (waits_for s.round i) OutOfRange BadIndex NotAsked refl other waits
not_refused s _ answer span within waits = absurd answer

-- no answer is too long
never_long : (old : CoreState) (event : Event) → IsAnswerEvent event → StepTooLong old event → ⊥
never_long old (Tick t) answer long = absurd answer
never_long old (Need i until) answer long = absurd answer
never_long old _ answer long = absurd long

-- after the last answer there is no other
none_behind :
    (mid new : CoreState) (round : Round) (events : List Event) (results : List (Result Output StepFault)) → round.unanswered ≡ [] → AnswerEach round events → mid.round ≡ None → CoreHistory mid events results new →
    AllTaken results × (new.round ≡ None)
none_behind mid new round [] [] none all closed history = (tt, ap (λ (s : CoreState). s.round) history ∙ closed)
none_behind mid new round [] (result ∷ results) none all closed history = absurd history
none_behind mid new round (event ∷ events) results none all closed history =
    let bad : true ≡ false = sym all.1.1.0 ∙ ap (λ xs. list_any (λ j. j == entry_of_event event) xs) none in absurd cc

abbrev Onward : List Event → List (Result Output StepFault) → CoreState → Type 0
Onward rest results new = (s : CoreState) (r : Round) → IsState s → s.round ≡ Some r → AnswerEach r rest → CoreHistory s rest results new → AllTaken results × (unanswered_after r rest ≡ [] → new.round ≡ None)

step_closes :
    (old mid new : CoreState) (round : Round) (event : Event) (rest : List Event) (output : Output) (results : List (Result Output StepFault)) → IsState mid → old.round ≡ Some round →
    AnswerEach (left round (entry_of_event event)) rest → StepAnswer old event output mid → CoreHistory mid rest results new → Onward rest results new → AllTaken results × (unanswered_after round (event ∷ rest) ≡ [] → new.round ≡ None)
step_closes old mid new round event rest out.Waiting results state is all step history onward =
    let r = same_round old step.0 round step.1.0 is in
    let open_now : mid.round ≡ Some (left round (entry_of_event event)) = ap (λ (s : CoreState). s.round) step.1.1.1 ∙ ap (λ (x : Round). Some (left x (entry_of_event event))) r in
    onward mid (left round (entry_of_event event)) state open_now all history
step_closes old mid new round event rest (out.Round next) results state is all step history onward =
    let r = same_round old step.0 round step.1.0 is in
    let none : (left round (entry_of_event event)).unanswered ≡ [] = subst (λ (x : Round). (left x (entry_of_event event)).unanswered ≡ []) r step.1.1.0 in
    let closed : mid.round ≡ None = ap (λ (s : CoreState). s.round) step.1.1.1.0.is in
    let end = none_behind mid new (left round (entry_of_event event)) rest results none all closed history in
    (end.0, λ _. end.1)
step_closes old mid new round event rest _ results state is all step history onward = absurd step

history_closes :
    (events : List Event) (results : List (Result Output StepFault)) (old new : CoreState) (round : Round) → IsState old → old.round ≡ Some round → AnswerEach round events → NoneWants results →
    CoreHistory old events results new → AllTaken results × (unanswered_after round events ≡ [] → new.round ≡ None)
history_closes [] [] old new round state is all wants history = (tt, λ none. absurd (state.waits round is none))
history_closes [] (result ∷ results) old new round state is all wants history = absurd history
history_closes (event ∷ rest) [] old new round state is all wants history = absurd history
history_closes (event ∷ rest) (result ∷ results) old new round state is all wants history =
    let waits = all.1.1.0 in
    let within = asked_within old round (entry_of_event event) (state.opened round is) waits in
    let taken = not_refused old event all.0 all.1.0 within (ap (λ r. waits_for r (entry_of_event event)) is ∙ waits) in
    by_result result taken (turn_state old event result history.0 state history.1.0) wants.0 history.1.0
    (λ s r there open_now still onward. history_closes rest results s new r there open_now still wants.1 onward) where
      Goal : Result Output StepFault → Type 0
      Goal result = AllTaken (result ∷ results) × (unanswered_after round (event ∷ rest) ≡ [] → new.round ≡ None)

      by_result : (result : Result Output StepFault) → step_refusal old event ≡ None → IsState history.0 → result ≢ Err OutOfMemory → CoreTurn old event result history.0 → Onward rest results new → Goal result
      by_result (Ok output) taken next has turn onward =
          step_closes old history.0 new round event rest output results next is all.1.1.1 (step_taken old event output history.0 all.0 turn.1) history.1.1 onward
      by_result (Err ClockBack) taken next has turn onward = (let bad : Some ClockBack ≡ None = sym turn.0 ∙ taken in absurd cc)
      by_result (Err RoundOpen) taken next has turn onward = (let bad : Some RoundOpen ≡ None = sym turn.0 ∙ taken in absurd cc)
      by_result (Err NotAsked) taken next has turn onward = (let bad : Some NotAsked ≡ None = sym turn.0 ∙ taken in absurd cc)
      by_result (Err BadIndex) taken next has turn onward = (let bad : Some BadIndex ≡ None = sym turn.0 ∙ taken in absurd cc)
      by_result (Err OutOfRange) taken next has turn onward = (let bad : Some OutOfRange ≡ None = sym turn.0 ∙ taken in absurd cc)
      by_result (Err TooLong) taken next has turn onward = absurd (never_long old event all.0 turn.1.0)
      by_result (Err OutOfMemory) taken next has turn onward = absurd (has refl)

pub closes : ClosesLaw
closes old new round events results = history_closes events results old new round

are_answers : (round : Round) (events : List Event) → AnswerEach round events → AreAnswers events
are_answers round [] each = tt
are_answers round (event ∷ events) each = (each.0, are_answers (left round (entry_of_event event)) events each.1.1.1)

pub order : OrderLaw
order old x y round state is these others each too same results more memory also history onward =
    taken_alike old x y round is (state.waits round is) these others (are_answers round these each) (are_answers round others too) same results more
    (history_closes these results old x round state is each memory history).0 (history_closes others more old y round state is too also onward).0 history onward
