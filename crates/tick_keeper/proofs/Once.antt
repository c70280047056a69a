-- An event gives one result and one state: what it gives is decided by the one state that planning anew makes.
use Rattle.std.proofs.Common.{◌≡◌, ◌≢◌, ◌∙◌, ℕ, ◌<◌, ◌≤◌, ◌⊎◌, true, false, cond, List, [], ◌∷◌, Some, None, Result, Ok, Err, nat_lt, refl, sym, ap, subst, arith, inl, inr}
use Rattle.std.proofs.lemmas.Bool.Decides.{nat_tests}
use Rattle.std.specs.List.{All}
use Rattle.plan_rule.specs.Asks.{first_of}
use Rattle.tick_keeper.specs.{declared.event.Event.Event, declared.event.Output.Output, declared.fault.StepFault.StepFault, LawsOfSteps.NextAsksLaw, LawsOfSteps.OneResultLaw, Refusal.step_refusal, History.CoreTurn}
use Rattle.tick_keeper.specs.{State.CoreState, State.Round}
use Rattle.tick_keeper.specs.declared.event.Event.TheVariants.{Tick, Told, Refused, Lost, Need}
use Rattle.tick_keeper.specs.declared.fault.StepFault.TheVariants.{ClockBack, RoundOpen, NotAsked, BadIndex, OutOfRange, TooLong, OutOfMemory}
use Rattle.tick_keeper.specs.Replan.{IsPlanOf, ReplanTooLong, Replan}
use Rattle.tick_keeper.specs.Step.{StepAnswer, StepNeed, StepTick, entry_of_event, left, round_opened, state_after_answer, with_new_need}
use Rattle.tick_keeper.specs.declared.event.Output.TheVariants as out
use Rattle.tick_keeper.proofs.{Orders.not_both, Orders.replan_once, Standing.best_first, Standing.kept_plan}

abbrev Same : Result Output StepFault → CoreState → Result Output StepFault → CoreState → Type 0
Same a x b y = (a ≡ b) × (x ≡ y)

-- planned anew from a state at a moment, and then decided by what that made; or too long, which leaves the old state
abbrev Comes : CoreState → CoreState → ℕ → (CoreState → Output) → (CoreState → CoreState) → Result Output StepFault → CoreState → Type 0
Comes old from at says leaves a x = ((mid : CoreState) × Replan from at mid × (a ≡ Ok (says mid)) × (x ≡ leaves mid)) ⊎ (ReplanTooLong from.forest at × (a ≡ Err TooLong) × (x ≡ old))

one_comes :
    (old from : CoreState) (at : ℕ) (says : CoreState → Output) (leaves : CoreState → CoreState) (a b : Result Output StepFault) (x y : CoreState) → Comes old from at says leaves a x →
    Comes old from at says leaves b y → Same a x b y
one_comes old from at says leaves a b x y one two = elim one [
  | inl p ↦ elim two [
    | inl q ↦ let same = replan_once from at p.0 q.0 p.1 q.1 in (p.2 ∙ ap (λ m. Ok (says m)) same ∙ sym q.2, p.3 ∙ ap leaves same ∙ sym q.3)
    | inr q ↦ absurd (not_both from at p.0 p.1 q.0)
  ]
  | inr p ↦ elim two [
    | inl q ↦ absurd (not_both from at q.0 q.1 p.0)
    | inr q ↦ (p.1 ∙ sym q.1, p.2 ∙ sym q.2)
  ]
]

-- a tick: what the first of the moments to come says
tick_says : CoreState → ℕ → List ℕ → Output
tick_says mid t [] = out.Idle
tick_says mid t (w ∷ rest) = cond (nat_lt t w) (out.Sleep w) (out.Ask (round_opened mid t (first_of rest)).unanswered)

tick_leaves : CoreState → ℕ → List ℕ → CoreState
tick_leaves mid t [] = mid
tick_leaves mid t (w ∷ rest) = cond (nat_lt t w) mid (record mid { to_come = rest; round = Some (round_opened mid t (first_of rest)) })

first_is : (ts : List ℕ) (w : ℕ) → first_of ts ≡ Some w → (rest : List ℕ) × (ts ≡ w ∷ rest)
first_is [] w e = absurd cc
first_is (t ∷ ts) w e = let same : t ≡ w = cc in (ts, ap (λ n. n ∷ ts) same)

tick_comes :
    (old : CoreState) (t : ℕ) (output : Output) (new : CoreState) → StepTick old t output new → Comes old old t (λ mid. tick_says mid t mid.to_come) (λ mid. tick_leaves mid t mid.to_come) (Ok output) new
unfolding tick_says tick_leaves
tick_comes old t out.Idle new step = inl (new, step.0, ap (λ ts. Ok (tick_says new t ts)) (sym step.1), ap (tick_leaves new t) (sym step.1))
tick_comes old t (out.Sleep w) new step =
    let front = first_is new.to_come w step.1.0 in
    let after : t < w = step.1.1 in
    let later : nat_lt t w ≡ true = grind (arith, nat_tests) in
    inl (
      new,
      step.0,
      ap (λ b. Ok (cond b (out.Sleep w) (out.Ask (round_opened new t (first_of front.0)).unanswered))) (sym later) ∙ ap (λ ts. Ok (tick_says new t ts)) (sym front.1),
      ap (λ b. cond b new (record new { to_come = front.0; round = Some (round_opened new t (first_of front.0)) })) (sym later) ∙ ap (tick_leaves new t) (sym front.1),
    )
tick_comes old t (out.Ask asked) new step =
    let mid = step.0 in
    let rest = step.1.1.0 in
    let front = step.1.1.1.0 in
    let now : nat_lt t t ≡ false = grind (arith, nat_tests) in
    inl (
      mid,
      step.1.0,
      ap (λ (ns : List ℕ). Ok (out.Ask ns)) step.1.1.1.1.0 ∙ ap (λ b. Ok (cond b (out.Sleep t) (out.Ask (round_opened mid t (first_of rest)).unanswered))) (sym now)
          ∙ ap (λ ts. Ok (tick_says mid t ts)) (sym front),
      step.1.1.1.1.1 ∙ ap (λ b. cond b mid (record mid { to_come = rest; round = Some (round_opened mid t (first_of rest)) })) (sym now) ∙ ap (tick_leaves mid t) (sym front),
    )
tick_comes old t _ new step = absurd step

need_comes : (old : CoreState) (i until : ℕ) (output : Output) (new : CoreState) → StepNeed old i until output new → Comes old (with_new_need old i until) old.last (λ mid. out.Planned) (λ mid. mid) (Ok output) new
need_comes old i until out.Planned new step = inl (new, step, refl, refl)
need_comes old i until _ new step = absurd step

-- an answer to a round: it waits for others, or is the last
abbrev Answered : CoreState → Event → Round → Result Output StepFault → CoreState → Type 0
Answered old event round a x =
    ((left round (entry_of_event event)).unanswered ≢ []) × (a ≡ Ok out.Waiting) × (x ≡ state_after_answer old event round.at (Some (left round (entry_of_event event))))
    ⊎ ((left round (entry_of_event event)).unanswered ≡ []) × Comes old (state_after_answer old event round.at None) round.at (λ mid. out.Round (first_of mid.to_come)) (λ mid. mid) a x

abbrev AnswerComes : CoreState → Event → Result Output StepFault → CoreState → Type 0
AnswerComes old event a x = (round : Round) × (old.round ≡ Some round) × Answered old event round a x

one_answer : (old : CoreState) (event : Event) (round : Round) (a b : Result Output StepFault) (x y : CoreState) → Answered old event round a x → Answered old event round b y → Same a x b y
one_answer old event round a b x y one two = elim one [
  | inl p ↦ elim two [
    | inl q ↦ (p.1 ∙ sym q.1, p.2 ∙ sym q.2)
    | inr q ↦ absurd (p.0 q.0)
  ]
  | inr p ↦ elim two [
    | inl q ↦ absurd (q.0 p.0)
    | inr q ↦ one_comes old (state_after_answer old event round.at None) round.at (λ mid. out.Round (first_of mid.to_come)) (λ mid. mid) a b x y p.1 q.1
  ]
]

one_round : (old : CoreState) (event : Event) (a b : Result Output StepFault) (x y : CoreState) → AnswerComes old event a x → AnswerComes old event b y → Same a x b y
one_round old event a b x y one two =
    let round_is : Some two.0 ≡ Some one.0 = sym two.1 ∙ one.1 in
    let same : two.0 ≡ one.0 = cc in
    one_answer old event one.0 a b x y one.2 (subst (λ (r : Round). Answered old event r b y) same two.2)

answer_comes : (old : CoreState) (event : Event) (output : Output) (new : CoreState) → StepAnswer old event output new → AnswerComes old event (Ok output) new
answer_comes old event out.Waiting new step = (step.0, step.1.0, inl (step.1.1.0, refl, step.1.1.1))
answer_comes old event (out.Round next) new step = (step.0, step.1.0, inr (step.1.1.0, inl (new, step.1.1.1.0, ap (λ o. Ok (out.Round o)) step.1.1.1.1, refl)))
answer_comes old event _ new step = absurd step

-- what an event gives that is not refused
abbrev EventComes : CoreState → Event → Result Output StepFault → CoreState → Type 0
EventComes old (Tick t) a x = Comes old old t (λ mid. tick_says mid t mid.to_come) (λ mid. tick_leaves mid t mid.to_come) a x
EventComes old (Told i seconds renewable) a x = AnswerComes old (Told i seconds renewable) a x
EventComes old (Refused i) a x = AnswerComes old (Refused i) a x
EventComes old (Lost i) a x = AnswerComes old (Lost i) a x
EventComes old (Need i until) a x = Comes old (with_new_need old i until) old.last (λ mid. out.Planned) (λ mid. mid) a x

one_event : (old : CoreState) (event : Event) (a b : Result Output StepFault) (x y : CoreState) → EventComes old event a x → EventComes old event b y → Same a x b y
one_event old (Tick t) a b x y one two = one_comes old old t (λ mid. tick_says mid t mid.to_come) (λ mid. tick_leaves mid t mid.to_come) a b x y one two
one_event old (Told i seconds renewable) a b x y one two = one_round old (Told i seconds renewable) a b x y one two
one_event old (Refused i) a b x y one two = one_round old (Refused i) a b x y one two
one_event old (Lost i) a b x y one two = one_round old (Lost i) a b x y one two
one_event old (Need i until) a b x y one two = one_comes old (with_new_need old i until) old.last (λ mid. out.Planned) (λ mid. mid) a b x y one two

-- a turn is a refusal, or what the event gives
abbrev Refuses : CoreState → Event → Result Output StepFault → CoreState → Type 0
Refuses old event a x = (fault : StepFault) × (step_refusal old event ≡ Some fault) × (a ≡ Err fault) × (x ≡ old)

abbrev Takes : CoreState → Event → Result Output StepFault → CoreState → Type 0
Takes old event a x = (step_refusal old event ≡ None) × EventComes old event a x

turn_comes : (old : CoreState) (event : Event) (a : Result Output StepFault) (x : CoreState) → a ≢ Err OutOfMemory → CoreTurn old event a x → Refuses old event a x ⊎ Takes old event a x
turn_comes old (Tick t) (Ok output) x memory turn = inr (turn.0, tick_comes old t output x turn.1)
turn_comes old (Told i seconds renewable) (Ok output) x memory turn = inr (turn.0, answer_comes old (Told i seconds renewable) output x turn.1)
turn_comes old (Refused i) (Ok output) x memory turn = inr (turn.0, answer_comes old (Refused i) output x turn.1)
turn_comes old (Lost i) (Ok output) x memory turn = inr (turn.0, answer_comes old (Lost i) output x turn.1)
turn_comes old (Need i until) (Ok output) x memory turn = inr (turn.0, need_comes old i until output x turn.1)
turn_comes old (Need i until) (Err TooLong) x memory turn = inr (turn.0, inr (turn.1.0, refl, turn.1.1))
turn_comes old event (Err ClockBack) x memory turn = inl (ClockBack, turn.0, refl, turn.1)
turn_comes old event (Err RoundOpen) x memory turn = inl (RoundOpen, turn.0, refl, turn.1)
turn_comes old event (Err NotAsked) x memory turn = inl (NotAsked, turn.0, refl, turn.1)
turn_comes old event (Err BadIndex) x memory turn = inl (BadIndex, turn.0, refl, turn.1)
turn_comes old event (Err OutOfRange) x memory turn = inl (OutOfRange, turn.0, refl, turn.1)
turn_comes old event (Err OutOfMemory) x memory turn = absurd (memory refl)
turn_comes old _ (Err TooLong) x memory turn = absurd turn.1.0

pub once : OneResultLaw
once old x y event a b memory other_memory one two = elim (turn_comes old event a x memory one) [
  | inl p ↦ elim (turn_comes old event b y other_memory two) [
    | inl q ↦
        let faults : Some p.0 ≡ Some q.0 = sym p.1 ∙ q.1 in
        let same : p.0 ≡ q.0 = cc in
        (p.2 ∙ ap (λ (f : StepFault). Err f) same ∙ sym q.2, p.3 ∙ sym q.3)
    | inr q ↦ absurd (let bad : Some p.0 ≡ None = sym p.1 ∙ q.0 in cc)
  ]
  | inr p ↦ elim (turn_comes old event b y other_memory two) [
    | inl q ↦ absurd (let bad : Some q.0 ≡ None = sym q.1 ∙ p.0 in cc)
    | inr q ↦ one_event old event a b x y p.1 q.1
  ]
]

-- a tick at the first moment to come asks: it keeps the plan, whose first moment that is
pub next_asks : NextAsksLaw
next_asks s new w output in_force first turn =
    let front = first_is s.to_come w first in
    let rest = front.0 in
    let plan : IsPlanOf s.forest s.last (w ∷ rest) = subst (IsPlanOf s.forest s.last) front.1 in_force.0 in
    let low = best_first s.forest s.last w rest plan in
    let replan = kept_plan s w in_force low.0 (subst (All (λ u. w ≤ u)) (sym front.1) low.1) in
    let mid : CoreState = record s { last = w } in
    let round = round_opened mid w (first_of rest) in
    let known : CoreTurn s (Tick w) (Ok (out.Ask round.unanswered)) (record mid { to_come = rest; round = Some round }) = (turn.0, (mid, (replan, (rest, (front.1, (refl, refl)))))) in
    let one = once s new (record mid { to_come = rest; round = Some round }) (Tick w) (Ok output) (Ok (out.Ask round.unanswered)) (λ bad. cc) (λ bad. cc) turn known in
    (round.unanswered, (let same : ◌≡◌ {A = Result Output StepFault} (Ok output) (Ok (out.Ask round.unanswered)) = one.0 in cc))
