-- In a run, whatever the broker does, the keeper refuses nothing that the loop hands it, but for lack of memory.
use Rattle.std.specs.Prelude.{◌≢◌}
use Rattle.std.proofs.Common.{◌≡◌, ℕ, ◌+◌, ◌<◌, ◌≤◌, true, false, List, [], ◌∷◌, ◌++◌, Option, Some, None, Result, Ok, Err, drop, get_or, length, map, nat_le, nat_lt, refl, sym, ap, ◌∙◌, subst, arith}
use Rattle.std.proofs.lemmas.{Bool.cond-true, Bool.cond-false, Bool.Decides.nat_tests, List.Elements.All-head, List.Elements.All-tail}
use Rattle.std.proofs.lemmas.List.{drop_all, drop_more, length-set}
use Rattle.std.specs.List.{All}
use Rattle.base_moment.specs.declared.moment.TheConstants.{LAST}
use Rattle.plan_forest.specs.declared.entry.Entry.{Entry}
use Rattle.plan_forest.specs.Forest.{Forest, end_of, entry_at}
use Rattle.plan_rule.specs.Schedule.{RisesStrictly}
use Rattle.plan_rule.specs.Asks.{asks, first_of, is_to_be_asked}
use Rattle.vault_inventory.specs.Inventories.{credential_at}
use Rattle.tick_keeper.specs.{declared.event.Event.Event, declared.event.Output.Output, declared.fault.StepFault.StepFault, LawsOfHistories.IsAnswerEvent, LawsOfSteps.IsShaped, Replan.IsPlanOf, Replan.Replan, History.CoreTurn}
use Rattle.tick_keeper.specs.{Shorten.shorten, State.CoreState, State.Round, States.IsState}
use Rattle.tick_keeper.specs.declared.event.Event.TheVariants.{Tick, Told, Need}
use Rattle.tick_keeper.specs.declared.fault.StepFault.TheVariants.{ClockBack, RoundOpen, NotAsked, BadIndex, OutOfRange, TooLong, OutOfMemory}
use Rattle.tick_keeper.specs.Refusal.{TellsSpan, step_refusal, unless_closed, unless_waited_for, waits_for}
use Rattle.tick_keeper.specs.Step.{StepAnswer, StepTooLong, entry_after_answer, entry_of_event, state_after_answer, with_entry_changed, with_new_need, without_index}
use Rattle.tick_keeper.specs.declared.event.Output.TheVariants as out
use Rattle.tick_keeper.proofs.{Shaped.shape, Standing.best_first}
use Rattle.program_report.specs.declared.stop.Stop.TheVariants as stops
use Rattle.tick_runs.specs.{Replies.IsAnswerOf, Replies.event_for, Stops.NeverRefusedLaw, Stops.StepIsTaken}
use Rattle.tick_runs.specs.Closed.{AreAnswered, Beat, Exchanged, Played, RequestIsAnswered, World, asked_by_output, closing, event_in, next_by, next_tick, shorts_taken, told_next}
use Rattle.tick_runs.specs.code.Playing.{IsPlanFault, MayCome, RoundWaits, TakesAnswer, TickLeaves, stop_of}
use Rattle.tick_runs.proofs.{OneAnswer.answers_for, Running.nobody_answers, Running.within_last, Within.asked_within}
use Rattle.tick_runs.proofs.Midway.{filter_rises, here_first, without_first}

-- no round is open, and the next tick comes, if there is one
abbrev Rests : CoreState → Option ℕ → Type 0
Rests s None = Unit {0}
Rests s (Some u) = (s.round ≡ None) × MayCome s.last (Some u)

first_comes : (g : Forest) (t : ℕ) (ts : List ℕ) → IsPlanOf g t ts → MayCome t (first_of ts)
first_comes g t [] plan = tt
first_comes g t (v ∷ rest) plan = ((best_first g t v rest plan).0, within_last g t v rest plan)

-- planned anew, the first moment to come comes
replanned : (old : CoreState) (t : ℕ) (new : CoreState) → old.round ≡ None → Replan old t new → (new.round ≡ None) × ((new.last ≡ t) × MayCome t (first_of new.to_come))
replanned old t new closed r = (
  ap (λ (s : CoreState). s.round) r.is ∙ closed,
  (
    ap (λ (s : CoreState). s.last) r.is,
    subst (λ ts. MayCome t (first_of ts)) (sym (ap (λ (s : CoreState). s.to_come) r.is)) (first_comes (shorten old.forest t) t r.moments r.best),
  ),
)

comes_at : (t last : ℕ) (due : Option ℕ) → last ≡ t → MayCome t due → MayCome last due
comes_at t last None same comes = tt
comes_at t last (Some u) same comes = let le : t ≤ u = comes.0 in (omega arith, comes.1)

-- ---- refusals

tick_free : (s : CoreState) (t : ℕ) → s.round ≡ None → MayCome s.last (Some t) → step_refusal s (Tick t) ≡ None
unfolding step_refusal
tick_free s t closed comes =
    let late : t ≤ LAST = comes.1 in
    let le : s.last ≤ t = comes.0 in
    let a : nat_lt LAST t ≡ false = grind (arith, nat_tests) in
    let b : nat_lt t s.last ≡ false = grind (arith, nat_tests) in
    cond-false (nat_lt LAST t) _ _ a ∙ cond-false (nat_lt t s.last) _ _ b ∙ ap (λ o. unless_closed (record s { round = o })) closed

asked_free : (s : CoreState) (i : ℕ) → i < length s.forest.entries → waits_for s.round i ≡ true → unless_waited_for s i ≡ None
asked_free s i within waits =
    let b : nat_le (length s.forest.entries) i ≡ false = grind (arith, nat_tests) in
    cond-false (nat_le (length s.forest.entries) i) _ _ b ∙ cond-true (waits_for s.round i) None (Some NotAsked) waits

answer_free : (s : CoreState) (i : ℕ) (event : Event) → i < length s.forest.entries → waits_for s.round i ≡ true → IsAnswerOf i event → TellsSpan event → step_refusal s event ≡ None
unfolding step_refusal
answer_free s i (Told j seconds renewable) within waits of span =
    let small : seconds ≤ 4294967295 = span in
    let b : nat_lt 4294967295 seconds ≡ false = grind (arith, nat_tests) in
    cond-false (nat_lt 4294967295 seconds) _ (unless_waited_for s j) b ∙ ap (unless_waited_for s) of.1 ∙ asked_free s i within waits
answer_free s i (Tick u) within waits of span = absurd of.0
answer_free s i (Need j until) within waits of span = absurd of.0
answer_free s i _ within waits of span = ap (unless_waited_for s) of.1 ∙ asked_free s i within waits

free_taken :
    (s : CoreState) (event : Event) → step_refusal s event ≡ None → (StepTooLong s event → ⊥) → (result : Result Output StepFault) (new : CoreState) → CoreTurn s event result new → StepIsTaken result
free_taken s event free short (Ok output) new turn = tt
free_taken s event free short (Err TooLong) new turn = absurd (short turn.1.0)
free_taken s event free short (Err OutOfMemory) new turn = tt
free_taken s event free short (Err ClockBack) new turn = absurd (let bad : None ≡ Some ClockBack = sym free ∙ turn.0 in cc)
free_taken s event free short (Err RoundOpen) new turn = absurd (let bad : None ≡ Some RoundOpen = sym free ∙ turn.0 in cc)
free_taken s event free short (Err NotAsked) new turn = absurd (let bad : None ≡ Some NotAsked = sym free ∙ turn.0 in cc)
free_taken s event free short (Err BadIndex) new turn = absurd (let bad : None ≡ Some BadIndex = sym free ∙ turn.0 in cc)
free_taken s event free short (Err OutOfRange) new turn = absurd (let bad : None ≡ Some OutOfRange = sym free ∙ turn.0 in cc)

pub tick_taken : (s : CoreState) (t : ℕ) → s.round ≡ None → MayCome s.last (Some t) → (result : Result Output StepFault) (new : CoreState) → CoreTurn s (Tick t) result new → StepIsTaken result
tick_taken s t closed comes = free_taken s (Tick t) (tick_free s t closed comes) (λ long. long)

answer_short : (s : CoreState) (event : Event) → IsAnswerEvent event → StepTooLong s event → ⊥
answer_short s (Need j until) is long = is
answer_short s _ is long = long

pub answer_taken :
    (s : CoreState) (i : ℕ) (event : Event) → i < length s.forest.entries → waits_for s.round i ≡ true → IsAnswerOf i event → TellsSpan event →
    (result : Result Output StepFault) (new : CoreState) → CoreTurn s event result new → StepIsTaken result
answer_taken s i event within waits of span = free_taken s event (answer_free s i event within waits of span) (answer_short s event of.0)

-- what is refused for lack of memory alone stops a run as just that
pub taken_stop : (fault : StepFault) → StepIsTaken (Err fault) → IsPlanFault fault × (stop_of fault ≡ stops.Memory)
taken_stop OutOfMemory is = (tt, refl)
taken_stop _ is = absurd is

-- a new need is refused because the plan would be too long, or for lack of memory
pub need_fault :
    (s : CoreState) (i until : ℕ) (fault : StepFault) (new : CoreState) → i < length s.forest.entries → until ≤ LAST → s.round ≡ None → CoreTurn s (Need i until) (Err fault) new → IsPlanFault fault
unfolding step_refusal
need_fault s i until fault new within late closed turn = by_fault fault turn where
  a : nat_lt LAST until ≡ false
  a = grind (arith, nat_tests)

  b : nat_le (length s.forest.entries) i ≡ false
  b = grind (arith, nat_tests)

  free : step_refusal s (Need i until) ≡ None
  free = cond-false (nat_lt LAST until) _ _ a ∙ cond-false (nat_le (length s.forest.entries) i) _ _ b ∙ ap (λ o. unless_closed (record s { round = o })) closed

  by_fault : (f : StepFault) → CoreTurn s (Need i until) (Err f) new → IsPlanFault f
  by_fault ClockBack turn' = absurd (let bad : None ≡ Some ClockBack = sym free ∙ turn'.0 in cc)
  by_fault RoundOpen turn' = absurd (let bad : None ≡ Some RoundOpen = sym free ∙ turn'.0 in cc)
  by_fault NotAsked turn' = absurd (let bad : None ≡ Some NotAsked = sym free ∙ turn'.0 in cc)
  by_fault BadIndex turn' = absurd (let bad : None ≡ Some BadIndex = sym free ∙ turn'.0 in cc)
  by_fault OutOfRange turn' = absurd (let bad : None ≡ Some OutOfRange = sym free ∙ turn'.0 in cc)
  by_fault _ turn' = tt

-- it leaves no round open
pub needed_closed : (old : CoreState) (i until : ℕ) (output : Output) (new : CoreState) → old.round ≡ None → CoreTurn old (Need i until) (Ok output) new → new.round ≡ None
needed_closed old i until out.Planned new closed turn = (replanned (with_new_need old i until) old.last new closed turn.1).0
needed_closed old i until _ new closed turn = absurd turn.1

-- ---- an answer

pub answer_steps : (old new : CoreState) (event : Event) (output : Output) → IsAnswerEvent event → CoreTurn old event (Ok output) new → StepAnswer old event output new
answer_steps old new (Tick u) output is turn = absurd is
answer_steps old new (Need j until) output is turn = absurd is
answer_steps old new _ output is turn = turn.1

change_count : (g : Forest) (i : ℕ) (f : Entry → Entry) → length (with_entry_changed g i f).entries ≡ length g.entries
change_count g i f = length-set g.entries i (f (entry_at g.entries i))

-- what is left of a round: others are waited for, or it is closed and the next moment comes
abbrev pub Stands : ℕ → List ℕ → Option ℕ → CoreState → Type 0
Stands t [] next s = (s.round ≡ None) × MayCome s.last next
Stands t (j ∷ more) next s = RoundWaits s t (j ∷ more)

abbrev pub Leads : ℕ → List ℕ → Option ℕ → Output → CoreState → Type 0
Leads t todo before output new = Stands t todo (told_next before output) new

rises_on : (low i : ℕ) (todo : List ℕ) → RisesStrictly low (i ∷ todo) → RisesStrictly (i + 1) todo
rises_on low i todo r = r.1

round_is : (s : CoreState) (t : ℕ) (todo : List ℕ) (round : Round) → s.round ≡ Some (record { at = t; unanswered = todo }) → s.round ≡ Some round → (round.at ≡ t) × (round.unanswered ≡ todo)
round_is s t todo round one two =
    let same : record { at = t; unanswered = todo } ≡ round = (let e = sym one ∙ two in cc) in (ap (λ (r : Round). r.at) (sym same), ap (λ (r : Round). r.unanswered) (sym same))

answer_leads :
    (old new : CoreState) (t i : ℕ) (todo : List ℕ) (event : Event) (output : Output) (before : Option ℕ) → RoundWaits old t (i ∷ todo) → entry_of_event event ≡ i → StepAnswer old event output new → Leads t todo before output new
answer_leads old new t i [] event out.Waiting before a is step =
    let round = step.0 in
    let parts = round_is old t (i ∷ []) round a.round step.1.0 in
    let gone : without_index (entry_of_event event) round.unanswered ≡ [] = ap (λ k. without_index k round.unanswered) is ∙ ap (without_index i) parts.1 ∙ without_first i [] tt in
    absurd (step.1.1.0 gone)
answer_leads old new t i [] event (out.Round next) before a is step =
    let round = step.0 in
    let anew = replanned (state_after_answer old event round.at None) round.at new refl step.1.1.1.0 in
    (anew.0, comes_at round.at new.last next anew.1.0 (subst (MayCome round.at) (sym step.1.1.1.1) anew.1.1))
answer_leads old new t i (j ∷ more) event out.Waiting before a is step =
    let round = step.0 in
    let parts = round_is old t (i ∷ j ∷ more) round a.round step.1.0 in
    let gone : without_index (entry_of_event event) round.unanswered ≡ j ∷ more = ap (λ k. without_index k round.unanswered) is ∙ ap (without_index i) parts.1 ∙ without_first i (j ∷ more) a.rises.1 in
    let now = step.1.1.1 in
    let count : length new.forest.entries ≡ length old.forest.entries = ap (λ (s : CoreState). length s.forest.entries) now ∙ change_count old.forest (entry_of_event event) (entry_after_answer round.at event) in
    record {
      round = ap (λ (s : CoreState). s.round) now ∙ ap (λ n. Some (record { at = n; unanswered = without_index (entry_of_event event) round.unanswered })) parts.0 ∙ ap (λ us. Some (record { at = t; unanswered = us })) gone;
      last = ap (λ (s : CoreState). s.last) now ∙ a.last;
      low = i + 1;
      rises = rises_on a.low i (j ∷ more) a.rises;
      within = subst (λ n. All (λ k. k < n) (j ∷ more)) (sym count) (All-tail (λ k. k < length old.forest.entries) i (j ∷ more) a.within);
    }
answer_leads old new t i (j ∷ more) event (out.Round next) before a is step =
    let round = step.0 in
    let parts = round_is old t (i ∷ j ∷ more) round a.round step.1.0 in
    let gone : without_index (entry_of_event event) round.unanswered ≡ j ∷ more = ap (λ k. without_index k round.unanswered) is ∙ ap (without_index i) parts.1 ∙ without_first i (j ∷ more) a.rises.1 in
    absurd (let bad : j ∷ more ≡ [] = sym gone ∙ step.1.1.0 in cc)
answer_leads old new t i todo event _ before a is step = absurd step

waits_taken : (s : CoreState) (t : ℕ) (todo : List ℕ) → RoundWaits s t todo → RoundWaits (shorts_taken s) t todo
waits_taken s t todo a = record { round = a.round; last = a.last; low = a.low; rises = a.rises; within = a.within }

leads_taken : (s : CoreState) (t : ℕ) (todo : List ℕ) (before : Option ℕ) (output : Output) → Leads t todo before output s → Leads t todo before output (shorts_taken s)
leads_taken s t [] before output l = l
leads_taken s t (j ∷ more) before output l = waits_taken s t (j ∷ more) l

-- what an answer that is taken leads to
pub hears_leads :
    (old new : CoreState) (t i : ℕ) (todo : List ℕ) (output : Output) (before : Option ℕ) → RoundWaits old t (i ∷ todo) → TakesAnswer i old output new → Leads t todo before output new
hears_leads old new t i todo output before a h =
    subst (Leads t todo before output) (sym h.is)
    (leads_taken h.keeper t todo before output (answer_leads old h.keeper t i todo h.event output before a h.of.1 (answer_steps old h.keeper h.event output h.of.0 h.turn)))

pub hears_shaped : (old new : CoreState) (i : ℕ) (output : Output) → TakesAnswer i old output new → IsShaped old.forest new.forest
hears_shaped old new i output h = subst (λ (s : CoreState). IsShaped old.forest s.forest) (sym h.is) (shape old h.keeper h.event (Ok output) h.turn)

-- a round, by how many have answered
pub stands_first : (t : ℕ) (asked : List ℕ) (next : Option ℕ) (s : CoreState) → RoundWaits s t asked → asked ≢ [] → Stands t asked next s
stands_first t [] next s waits some = absurd (some refl)
stands_first t (i ∷ more) next s waits some = waits

pub stands_now : (t k : ℕ) (asked : List ℕ) (next : Option ℕ) (s : CoreState) → k < length asked → Stands t (drop k asked) next s → RoundWaits s t (get_or asked k 0 ∷ drop (k + 1) asked)
stands_now t k asked next s here stands = subst (λ todo. Stands t todo next s) (drop_more asked k 0 here) stands

pub stands_last : (t k : ℕ) (asked : List ℕ) (next : Option ℕ) (s : CoreState) → length asked ≤ k → Stands t (drop k asked) next s → (s.round ≡ None) × MayCome s.last next
stands_last t k asked next s past stands = subst (λ todo. Stands t todo next s) (drop_all k asked past) stands

pub first_within : (s : CoreState) (t i : ℕ) (todo : List ℕ) → RoundWaits s t (i ∷ todo) → i < length s.forest.entries
first_within s t i todo a = All-head (λ k. k < length s.forest.entries) i todo a.within

pub first_waits : (s : CoreState) (t i : ℕ) (todo : List ℕ) → RoundWaits s t (i ∷ todo) → waits_for s.round i ≡ true
first_waits s t i todo a = ap (λ o. waits_for o i) a.round ∙ here_first i todo

rests_of : (s : CoreState) (due : Option ℕ) → s.round ≡ None → MayCome s.last due → Rests s due
rests_of s None closed comes = tt
rests_of s (Some u) closed comes = (closed, comes)

one_leads :
    (port : ℕ) (cs : List (List ℕ)) (t : ℕ) (old new : World) (x : Exchanged) (todo : List ℕ) (before : Option ℕ) → RoundWaits old.keeper t (x.entry ∷ todo) → RequestIsAnswered port cs t old x new → Leads t todo before x.output new.keeper
unfolding event_in
one_leads port cs t old new x todo before a one =
    let e = entry_at old.keeper.forest.entries x.entry in
    let of = answers_for e.kind (credential_at cs x.entry) x.entry x.reply in
    hears_leads old.keeper new.keeper t x.entry todo x.output before a
    (record { event = event_for cs old.keeper.forest x.entry x.reply; of = of; keeper = one.keeper; turn = one.turn; is = one.taken_is })

all_lead : (port : ℕ) (cs : List (List ℕ)) (t : ℕ) (x : Exchanged) (xs : List Exchanged) (old new : World) (before : Option ℕ) → RoundWaits old.keeper t (map (λ (y : Exchanged). y.entry) (x ∷ xs)) → AreAnswered port cs t old (x ∷ xs) new → Rests new.keeper (closing before (x ∷ xs))
all_lead port cs t x [] old new before a answers =
    let leads = one_leads port cs t old answers.0 x [] before a answers.1.0 in
    subst (λ (w : World). Rests w.keeper (told_next before x.output)) (sym answers.1.1) (rests_of answers.0.keeper (told_next before x.output) leads.0 leads.1)
all_lead port cs t x (y ∷ ys) old new before a answers =
    all_lead port cs t y ys answers.0 new (told_next before x.output) (one_leads port cs t old answers.0 x (map (λ (z : Exchanged). z.entry) (y ∷ ys)) before a answers.1.0) answers.1.1

some_lead :
    (port : ℕ) (cs : List (List ℕ)) (t : ℕ) (xs : List Exchanged) (i : ℕ) (others : List ℕ) (old now : World) → RoundWaits old.keeper t (map (λ (y : Exchanged). y.entry) xs ++ (i ∷ others)) → AreAnswered port cs t old xs now →
    RoundWaits now.keeper t (i ∷ others)
some_lead port cs t [] i others old now a answers = subst (λ (w : World). RoundWaits w.keeper t (i ∷ others)) (sym answers) a
some_lead port cs t (x ∷ []) i others old now a answers =
    some_lead port cs t [] i others answers.0 now (one_leads port cs t old answers.0 x (i ∷ others) None a answers.1.0) answers.1.1
some_lead port cs t (x ∷ y ∷ ys) i others old now a answers =
    some_lead port cs t (y ∷ ys) i others answers.0 now (one_leads port cs t old answers.0 x (y.entry ∷ (map (λ (z : Exchanged). z.entry) ys ++ (i ∷ others))) None a answers.1.0) answers.1.1

-- ---- a tick

asks_rise : (g : Forest) (t : ℕ) (next : Option ℕ) → RisesStrictly 0 (asks g.entries g.margin t (end_of g.entries) t next)
unfolding asks
asks_rise g t next = filter_rises (is_to_be_asked g.entries g.margin t (end_of g.entries) t next) (length g.entries) 0

tick_opens : (old : CoreState) (t : ℕ) (asked : List ℕ) (new : CoreState) → CoreTurn old (Tick t) (Ok (out.Ask asked)) new → RoundWaits new t asked
tick_opens old t asked new turn =
    let step = turn.1 in
    let mid = step.0 in
    let rest = step.1.1.0 in
    let is = step.1.1.1.1.1 in
    let who = step.1.1.1.1.0 in
    record {
      round = ap (λ (s : CoreState). s.round) is ∙ ap (λ us. Some (record { at = t; unanswered = us })) (sym who);
      last = ap (λ (s : CoreState). s.last) is ∙ ap (λ (s : CoreState). s.last) step.1.0.is;
      low = 0;
      rises = subst (RisesStrictly 0) (sym who) (asks_rise mid.forest t (first_of rest));
      within = asked_within old new t (out.Ask asked) turn;
    }

-- what a tick leaves
pub tick_leaves : (old k new : CoreState) (t : ℕ) (output : Output) → old.round ≡ None → IsState k → CoreTurn old (Tick t) (Ok output) k → new ≡ shorts_taken k → TickLeaves t output new
tick_leaves old k new t (out.Ask asked) closed state turn is =
    let opens = tick_opens old t asked k turn in
    (subst (λ (s : CoreState). RoundWaits s t asked) (sym is) (waits_taken k t asked opens), state.waits (record { at = t; unanswered = asked }) opens.round)
tick_leaves old k new t (out.Sleep w) closed state turn is =
    let anew = replanned old t k closed turn.1.0 in
    let comes : MayCome k.last (Some w) = comes_at t k.last (Some w) anew.1.0 (subst (MayCome t) turn.1.1.0 anew.1.1) in
    subst (λ (s : CoreState). (s.round ≡ None) × MayCome s.last (Some w)) (sym is) (anew.0, comes)
tick_leaves old k new t out.Idle closed state turn is = let anew = replanned old t k closed turn.1.0 in ap (λ (s : CoreState). s.round) is ∙ anew.0
tick_leaves old k new t _ closed state turn is = absurd turn.1

pub leaves_asked : (t : ℕ) (output : Output) (asked : List ℕ) (new : CoreState) → output ≡ out.Ask asked → TickLeaves t output new → RoundWaits new t asked × (asked ≢ [])
leaves_asked t output asked new is leaves = subst (λ (o : Output). TickLeaves t o new) is leaves

pub leaves_sleeping : (t : ℕ) (output : Output) (w : ℕ) (new : CoreState) → output ≡ out.Sleep w → TickLeaves t output new → (new.round ≡ None) × MayCome new.last (Some w)
leaves_sleeping t output w new is leaves = subst (λ (o : Output). TickLeaves t o new) is leaves

pub leaves_closed :
    (t : ℕ) (output : Output) (new : CoreState) → ((asked : List ℕ) → output ≡ out.Ask asked → ⊥) → ((w : ℕ) → output ≡ out.Sleep w → ⊥) → TickLeaves t output new → new.round ≡ None
leaves_closed t (out.Ask asked) new no_ask no_sleep leaves = absurd (no_ask asked refl)
leaves_closed t (out.Sleep w) new no_ask no_sleep leaves = absurd (no_sleep w refl)
leaves_closed t _ new no_ask no_sleep leaves = leaves

beat_rests :
    (port : ℕ) (cs : List (List ℕ)) (t : ℕ) (output : Output) (xs : List Exchanged) (old : CoreState) (keeper : CoreState) (start new : World) → old.round ≡ None → start.keeper ≡ shorts_taken keeper →
    CoreTurn old (Tick t) (Ok output) keeper → map (λ (y : Exchanged). y.entry) xs ≡ asked_by_output output → AreAnswered port cs t start xs new → Rests new.keeper (next_by output xs)
beat_rests port cs t (out.Sleep w) xs old keeper start new closed is turn who answers =
    let none = nobody_answers xs who in
    let stays : new ≡ start = subst (λ ys. AreAnswered port cs t start ys new) none answers in
    let step = turn.1 in
    let anew = replanned old t keeper closed step.0 in
    let rests : Rests keeper (Some w) = (anew.0, comes_at t keeper.last (Some w) anew.1.0 (subst (MayCome t) step.1.0 anew.1.1)) in
    subst (λ (s : CoreState). Rests s (Some w)) (sym (ap (λ (v : World). v.keeper) stays ∙ is)) rests
beat_rests port cs t (out.Ask asked) (x ∷ xs) old keeper start new closed is turn who answers =
    let opens = tick_opens old t asked keeper turn in
    all_lead port cs t x xs start new None
    (subst (λ (s : CoreState). RoundWaits s t (map (λ (y : Exchanged). y.entry) (x ∷ xs))) (sym is) (waits_taken keeper t (map (λ (y : Exchanged). y.entry) (x ∷ xs)) (subst (RoundWaits keeper t) (sym who) opens))) answers
beat_rests port cs t _ _ old keeper start new closed is turn who answers = tt

run_rests : (port : ℕ) (cs : List (List ℕ)) (bs : List Beat) (old new : World) (due next : Option ℕ) → Rests old.keeper due → Played port cs old due bs new next → Rests new.keeper next
run_rests port cs [] old new due next rests played = subst (λ (w : World). Rests w.keeper next) (sym played.0) (subst (Rests old.keeper) (sym played.1) rests)
run_rests port cs (b ∷ bs) old new None next rests played = absurd played
run_rests port cs (b ∷ bs) old new (Some t) next rests played =
    let mid = played.1.0 in
    let beat = played.1.1.0 in
    let after = beat_rests port cs b.at b.output b.answers old.keeper beat.keeper (record { keeper = shorts_taken beat.keeper; behind = old.behind }) mid rests.0 refl beat.turn beat.asked beat.answered in
    run_rests port cs bs mid new (next_tick b) next after played.1.1.1

pub never_refused : NeverRefusedLaw
never_refused inventory faults start port short opening final beats t late o played =
    let keeper_is = ap (λ (w : World). w.keeper) o.is in
    let first : Rests o.keeper (Some start) = (ap (λ (s : CoreState). s.round) o.planned.is, (let l = ap (λ (s : CoreState). s.last) o.planned.is in omega arith, late)) in
    let begins : Rests opening.keeper (Some start) = subst (λ (s : CoreState). Rests s (Some start)) (sym keeper_is) first in
    let rests = run_rests port inventory.credentials beats opening final (Some start) (Some t) begins played in (
      tick_taken final.keeper t rests.0 rests.1,
      λ asked keeper turn xs now i others who answers event result new of span.
          let opens = tick_opens final.keeper t asked keeper turn in
          let waits = some_lead port inventory.credentials t xs i others (record { keeper = shorts_taken keeper; behind = final.behind }) now (waits_taken keeper t _ (subst (RoundWaits keeper t) (sym who) opens)) answers in
          answer_taken now.keeper i event (first_within now.keeper t i others waits) (first_waits now.keeper t i others waits) of span result new,
    )
