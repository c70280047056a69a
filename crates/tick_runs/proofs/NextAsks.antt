-- Next asks: in a run, after its first tick, each tick asks.
use Rattle.std.proofs.Common.{◌≡◌, ◌∙◌, ℕ, suc, ◌<◌, cond, List, [], ◌∷◌, ◌++◌, Option, Some, None, Ok, length, map, refl, sym, ap, subst, arith}
use Rattle.plan_rule.specs.Asks.{first_of}
use Rattle.vault_inventory.specs.Inventories.{credential_at}
use Rattle.plan_forest.specs.Forest.{entry_at}
use Rattle.tick_keeper.specs.{declared.event.Event.Event, declared.event.Event.TheVariants.Tick, declared.event.Output.Output, InForce.InForce, History.CoreTurn, Replan.Replan, State.CoreState, State.Round}
use Rattle.tick_keeper.specs.{Step.StepAnswer, Step.state_after_answer}
use Rattle.tick_keeper.specs.declared.event.Output.TheVariants as out
use Rattle.tick_keeper.proofs.{Once.next_asks, Turns.replan_force}
use Rattle.tick_runs.specs.Closed.{AreAnswered, Beat, Exchanged, RequestIsAnswered, IsBeat, Played, World, asks_some, asked_by_output, closing, event_in, next_by, next_tick, rounds, shorts_taken, told_next}
use Rattle.tick_runs.proofs.{Goes.wakes_join, OneAnswer.answers_for, Refusing.answer_steps, Running.nobody_answers}

-- the next tick, if there is one, is at the first moment of the plan in force
abbrev AtNext : CoreState → Option ℕ → Type 0
AtNext s None = Unit {0}
AtNext s (Some t) = InForce s × (first_of s.to_come ≡ Some t)

-- likewise, and no round is open then
abbrev Closes : CoreState → Option ℕ → Type 0
Closes s None = Unit {0}
Closes s (Some t) = (s.round ≡ None) × AtNext s (Some t)

planned_next : (old : CoreState) (t : ℕ) (new : CoreState) (next : Option ℕ) → Replan old t new → next ≡ first_of new.to_come → AtNext new next
planned_next old t new None made is = tt
planned_next old t new (Some w) made is = (replan_force old t new made, sym is)

closes_at : (s : CoreState) (next : Option ℕ) → s.round ≡ None → AtNext s next → Closes s next
closes_at s None closed at = tt
closes_at s (Some w) closed at = (closed, at)

at_next : (s : CoreState) (next : Option ℕ) → Closes s next → AtNext s next
at_next s None closes = tt
at_next s (Some w) closes = closes.1

-- ---- answers

waits_on : (old new : CoreState) (before : Option ℕ) (round : Round) → Closes old before → old.round ≡ Some round → Closes new before
waits_on old new None round closes is = tt
waits_on old new (Some w) round closes is = absurd (let bad : None ≡ Some round = sym closes.0 ∙ is in cc)

answer_closes : (old new : CoreState) (event : Event) (output : Output) (before : Option ℕ) → Closes old before → StepAnswer old event output new → Closes new (told_next before output)
answer_closes old new event out.Waiting before closes step = waits_on old new before step.0 closes step.1.0
answer_closes old new event (out.Round next) before closes step =
    let made = step.1.1.1.0 in
    closes_at new next (ap (λ (s : CoreState). s.round) made.is) (planned_next (state_after_answer old event step.0.at None) step.0.at new next made step.1.1.1.1)
answer_closes old new event _ before closes step = absurd step

taken_closes : (s : CoreState) (next : Option ℕ) → Closes s next → Closes (shorts_taken s) next
taken_closes s None closes = tt
taken_closes s (Some w) closes = closes

one_closes : (port : ℕ) (cs : List (List ℕ)) (t : ℕ) (old new : World) (x : Exchanged) (before : Option ℕ) → Closes old.keeper before → RequestIsAnswered port cs t old x new → Closes new.keeper (told_next before x.output)
unfolding event_in
one_closes port cs t old new x before closes one =
    let e = entry_at old.keeper.forest.entries x.entry in
    let of = answers_for e.kind (credential_at cs x.entry) x.entry x.reply in
    let step = answer_steps old.keeper one.keeper (event_in cs old.keeper.forest x) x.output of.0 one.turn in
    subst (λ (k : CoreState). Closes k (told_next before x.output)) (sym one.taken_is)
    (taken_closes one.keeper (told_next before x.output) (answer_closes old.keeper one.keeper (event_in cs old.keeper.forest x) x.output before closes step))

all_close : (port : ℕ) (cs : List (List ℕ)) (t : ℕ) (xs : List Exchanged) (old new : World) (before : Option ℕ) → Closes old.keeper before → AreAnswered port cs t old xs new → Closes new.keeper (closing before xs)
all_close port cs t [] old new before closes answers = subst (λ (w : World). Closes w.keeper before) (sym answers) closes
all_close port cs t (x ∷ xs) old new before closes answers =
    all_close port cs t xs answers.0 new (told_next before x.output) (one_closes port cs t old answers.0 x before closes answers.1.0) answers.1.1

-- ---- ticks

beat_next :
    (port : ℕ) (cs : List (List ℕ)) (t : ℕ) (output : Output) (xs : List Exchanged) (old keeper : CoreState) (begun new : World) → begun.keeper ≡ shorts_taken keeper → CoreTurn old (Tick t) (Ok output) keeper →
    map (λ (y : Exchanged). y.entry) xs ≡ asked_by_output output → AreAnswered port cs t begun xs new → AtNext new.keeper (next_by output xs)
beat_next port cs t (out.Ask asked) xs old keeper begun new is turn who answers = at_next new.keeper (closing None xs) (all_close port cs t xs begun new None tt answers)
beat_next port cs t (out.Sleep w) xs old keeper begun new is turn who answers =
    let none = nobody_answers xs who in
    let stays : new ≡ begun = subst (λ ys. AreAnswered port cs t begun ys new) none answers in
    let step = turn.1 in
    let at : AtNext keeper (Some w) = (replan_force old t keeper step.0, step.1.0) in
    subst (λ (s : CoreState). AtNext s (Some w)) (sym (ap (λ (v : World). v.keeper) stays ∙ is)) at
beat_next port cs t _ xs old keeper begun new is turn who answers = tt

run_next : (port : ℕ) (cs : List (List ℕ)) (b : Beat) (bs : List Beat) (old new : World) (due next : Option ℕ) → Played port cs old due (b ∷ bs) new next → AtNext new.keeper next
run_next port cs b bs old new None next played = absurd played
run_next port cs b [] old new (Some t) next played =
    let beat = played.1.1.0 in
    let mid = played.1.0 in
    let after = beat_next port cs b.at b.output b.answers old.keeper beat.keeper (record { keeper = shorts_taken beat.keeper; behind = old.behind }) mid refl beat.turn beat.asked beat.answered in
    subst (λ (w : World). AtNext w.keeper next) (sym played.1.1.1.0) (subst (AtNext mid.keeper) (sym played.1.1.1.1) after)
run_next port cs b (c ∷ bs) old new (Some t) next played = run_next port cs c bs played.1.0 new (next_tick b) next played.1.1.1

-- a tick that asks is one round more
pub round_more : (asked : List ℕ) (b : Beat) (bs : List Beat) → b.output ≡ out.Ask asked → length (rounds (b ∷ bs)) ≡ suc (length (rounds bs))
unfolding rounds
round_more asked b bs is = ap (λ (o : Output). length (cond (asks_some o) (b ∷ rounds bs) (rounds bs))) is

next_round : (port : ℕ) (cs : List (List ℕ)) (old new : World) (b : Beat) → AtNext old.keeper (Some b.at) → IsBeat port cs old b new → (asked : List ℕ) × (b.output ≡ out.Ask asked)
next_round port cs old new b at beat = next_asks old.keeper beat.keeper b.at b.output at.0 at.1 beat.turn

-- after a first tick, a run that goes on makes a round more
pub no_more :
    (port : ℕ) (cs : List (List ℕ)) (front more : List Beat) (old mid new : World) (due at next : Option ℕ) → 0 < length (rounds front) → Played port cs old due front mid at → Played port cs mid at more new next →
    length (rounds (front ++ more)) ≡ length (rounds front) → more ≡ []
unfolding rounds
no_more port cs [] more old mid new due at next some first second same = absurd (let none : 0 < 0 = some in omega arith)
no_more port cs (b ∷ front) [] old mid new due at next some first second same = refl
no_more port cs (b ∷ front) (c ∷ more) old mid new due None next some first second same = absurd second
no_more port cs (b ∷ front) (c ∷ more) old mid new due (Some t) next some first second same =
    let at = run_next port cs b front old mid due (Some t) first in
    let asks = next_round port cs mid second.1.0 c (subst (λ n. AtNext mid.keeper (Some n)) (sym second.0) at) second.1.1.0 in
    let count = wakes_join (b ∷ front) (c ∷ more) in
    let one = round_more asks.0 c more asks.1 in
    absurd (omega arith)
