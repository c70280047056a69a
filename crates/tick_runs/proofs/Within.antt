-- Within: who is asked, and whose need is shortened, is an entry of the forest.
use Rattle.std.proofs.Common.{◌≡◌, ℕ, zero, suc, ◌+◌, ◌<◌, ◌≤◌, Bool, List, [], ◌∷◌, ◌++◌, Option, Some, None, Ok, filter, length, nat_lt, inl, inr, sym, ap, ◌∙◌, subst, arith}
use Rattle.std.proofs.lemmas.{Bool.Decides.nat_tests, List.FromFn.length-range_with_len}
use Rattle.std.proofs.lemmas.List.Elements.{All-cons, All-nil, All-filter, All-map}
use Rattle.std.proofs.lemmas.Bool.{cases_Bool, cond-true, cond-false}
use Rattle.std.specs.List.{All, range_with_len}
use Rattle.base_moment.specs.declared.moment.TheConstants.{LAST}
use Rattle.tick_keeper.specs.{declared.fault.StepFault.TheVariants.OutOfRange, Refusal.step_refusal, declared.event.Event.Event, declared.event.Output.Output, declared.shortened.ShortNeed.ShortNeed, Replan.Replan, History.CoreTurn}
use Rattle.tick_keeper.specs.{State.CoreState}
use Rattle.tick_keeper.specs.declared.event.Event.TheVariants.{Tick, Told, Refused, Lost, Need}
use Rattle.tick_keeper.specs.Shorten.{is_short, pair_of, pairs}
use Rattle.tick_keeper.specs.Step.{StepAnswer, StepNeed, StepTick, state_after_answer, with_new_need}
use Rattle.plan_forest.specs.Forest.{Forest, end_of}
use Rattle.plan_rule.specs.Asks.{asks, first_of, is_to_be_asked}
use Rattle.tick_keeper.specs.declared.event.Output.TheVariants as out
use Rattle.tick_keeper.proofs.Shortening.{shorten_count}
use Rattle.tick_runs.specs.Closed.{asked_by_output}

pub all_to : (n k a : ℕ) → a + k ≤ n → All (λ i. i < n) (range_with_len a k)
all_to n zero a h = All-nil (λ i. i < n)
all_to n (suc k) a h = All-cons (λ i. i < n) a (range_with_len (a + 1) k) (omega arith) (all_to n k (a + 1) (omega arith))

-- the needs that these shorten are of entries
abbrev pub AreOf : ℕ → List ShortNeed → Type 0
AreOf n ps = All (λ p. p.entry < n) ps

pairs_within : (g : Forest) (t : ℕ) → AreOf (length g.entries) (pairs g t)
unfolding pairs
pairs_within g t =
    let is : List ℕ = range_with_len 0 (length g.entries) in
    All-map (λ (p : ShortNeed). p.entry < length g.entries) (pair_of g t) _ (All-filter (is_short g t) (λ i. i < length g.entries) is (all_to (length g.entries) (length g.entries) 0 (omega arith)))

pub replan_within : (old : CoreState) (t : ℕ) (new : CoreState) → old.shortened ≡ [] → Replan old t new → AreOf (length new.forest.entries) new.shortened
replan_within old t new quiet r =
    let count : length new.forest.entries ≡ length old.forest.entries = ap (λ (s : CoreState). length s.forest.entries) r.is ∙ shorten_count old.forest t in
    let is : new.shortened ≡ pairs old.forest t = ap (λ (s : CoreState). s.shortened) r.is ∙ ap (λ ps. ps ++ pairs old.forest t) quiet in
    subst (λ n. AreOf n new.shortened) (sym count) (subst (AreOf (length old.forest.entries)) (sym is) (pairs_within old.forest t))

none_within : (new : CoreState) → new.shortened ≡ [] → AreOf (length new.forest.entries) new.shortened
none_within new quiet = subst (AreOf (length new.forest.entries)) (sym quiet) (All-nil (λ (p : ShortNeed). p.entry < length new.forest.entries))

tick_within : (old : CoreState) (t : ℕ) (output : Output) (new : CoreState) → old.shortened ≡ [] → StepTick old t output new → AreOf (length new.forest.entries) new.shortened
tick_within old t out.Idle new quiet step = replan_within old t new quiet step.0
tick_within old t (out.Sleep w) new quiet step = replan_within old t new quiet step.0
tick_within old t (out.Ask asked) new quiet step =
    subst (λ (s : CoreState). AreOf (length s.forest.entries) s.shortened) (sym step.1.1.1.1.1) (replan_within old t step.0 quiet step.1.0)
tick_within old t _ new quiet step = absurd step

answer_within : (old : CoreState) (event : Event) (output : Output) (new : CoreState) → old.shortened ≡ [] → StepAnswer old event output new → AreOf (length new.forest.entries) new.shortened
answer_within old event out.Waiting new quiet step = none_within new (ap (λ (s : CoreState). s.shortened) step.1.1.1 ∙ quiet)
answer_within old event (out.Round next) new quiet step = replan_within (state_after_answer old event step.0.at None) step.0.at new quiet step.1.1.1.0
answer_within old event _ new quiet step = absurd step

need_within : (old : CoreState) (i until : ℕ) (output : Output) (new : CoreState) → old.shortened ≡ [] → StepNeed old i until output new → AreOf (length new.forest.entries) new.shortened
need_within old i until out.Planned new quiet step = replan_within (with_new_need old i until) old.last new quiet step
need_within old i until _ new quiet step = absurd step

-- what an event shortens is of entries
pub short_within : (old new : CoreState) (event : Event) (output : Output) → old.shortened ≡ [] → CoreTurn old event (Ok output) new → AreOf (length new.forest.entries) new.shortened
short_within old new (Tick t) output quiet turn = tick_within old t output new quiet turn.1
short_within old new (Told i seconds renewable) output quiet turn = answer_within old (Told i seconds renewable) output new quiet turn.1
short_within old new (Refused i) output quiet turn = answer_within old (Refused i) output new quiet turn.1
short_within old new (Lost i) output quiet turn = answer_within old (Lost i) output new quiet turn.1
short_within old new (Need i until) output quiet turn = need_within old i until output new quiet turn.1

asks_are_within : (g : Forest) (t : ℕ) (next : Option ℕ) → All (λ i. i < length g.entries) (asks g.entries g.margin t (end_of g.entries) t next)
unfolding asks
asks_are_within g t next =
    let is : List ℕ = range_with_len 0 (length g.entries) in
    All-filter (is_to_be_asked g.entries g.margin t (end_of g.entries) t next) (λ i. i < length g.entries) is (all_to (length g.entries) (length g.entries) 0 (omega arith))

-- who is asked is an entry
pub asked_within : (old new : CoreState) (t : ℕ) (output : Output) → CoreTurn old (Tick t) (Ok output) new → All (λ i. i < length new.forest.entries) (asked_by_output output)
asked_within old new t (out.Ask asked) turn =
    let step = turn.1 in
    let mid = step.0 in
    let count : length new.forest.entries ≡ length mid.forest.entries = ap (λ (s : CoreState). length s.forest.entries) step.1.1.1.1.1 in
    subst (λ n. All (λ i. i < n) asked) (sym count) (subst (All (λ i. i < length mid.forest.entries)) (sym step.1.1.1.1.0) (asks_are_within mid.forest t (first_of step.1.1.0)))
asked_within old new t _ turn = All-nil (λ i. i < length new.forest.entries)

filter_few : (p : ℕ → Bool) (is : List ℕ) → length (filter p is) ≤ length is
filter_few p [] = omega arith
filter_few p (i ∷ is) =
    let rest = filter_few p is in
    elim (cases_Bool (p i)) [
      | inl yes' ↦ (let e = ap length (cond-true (p i) (i ∷ filter p is) (filter p is) yes') in omega arith)
      | inr no' ↦ (let e = ap length (cond-false (p i) (i ∷ filter p is) (filter p is) no') in omega arith)
    ]

asks_few : (g : Forest) (t : ℕ) (next : Option ℕ) → length (asks g.entries g.margin t (end_of g.entries) t next) ≤ length g.entries
unfolding asks
asks_few g t next =
    let few = filter_few (is_to_be_asked g.entries g.margin t (end_of g.entries) t next) (range_with_len 0 (length g.entries)) in
    let count = length-range_with_len 0 (length g.entries) in
    omega arith

-- no more are asked than there are entries
pub asked_few : (old new : CoreState) (t : ℕ) (output : Output) → CoreTurn old (Tick t) (Ok output) new → length (asked_by_output output) ≤ length new.forest.entries
asked_few old new t (out.Ask asked) turn =
    let step = turn.1 in
    let mid = step.0 in
    let count : length new.forest.entries ≡ length mid.forest.entries = ap (λ (s : CoreState). length s.forest.entries) step.1.1.1.1.1 in
    let who = ap length step.1.1.1.1.0 in
    let few = asks_few mid.forest t (first_of step.1.1.0) in
    omega arith
asked_few old new t _ turn = omega arith

-- a moment that is told is in range
pub told_in_range : (old new : CoreState) (t : ℕ) (output : Output) → CoreTurn old (Tick t) (Ok output) new → t ≤ LAST
unfolding step_refusal
told_in_range old new t output turn = elim (cases_Bool (nat_lt LAST t)) [
  | inl late ↦ absurd (let bad : None ≡ Some OutOfRange = sym turn.0 ∙ cond-true (nat_lt LAST t) (Some OutOfRange) _ late in cc)
  | inr not_late ↦ grind (arith, nat_tests, not_late)
]
