-- A keeper that has heard an answer: its invariant, and the plan that stands where the last answer is the rule's.
use Rattle.std.proofs.Common.{◌≡◌, ◌≢◌, ◌==◌, ◌∙◌, ◌++◌, ℕ, ◌+◌, ◌<◌, ◌&&◌, Bool, true, false, List, [], ◌∷◌, Option, Some, None, Err, IfSome, length, nat_lt, set, refl, sym, ap, subst, arith, inl, inr}
use Rattle.std.proofs.lemmas.{Bool.cases_lt, Bool.Decides.nat_tests, List.append-nil, List.length-set}
use Rattle.plan_forest.specs.{declared.entry.Entry.Entry, Forest.Forest, Forest.entry_at, Push.IsForest, Renewal.renewal}
use Rattle.plan_forest.proofs.Carrying.{and_left, and_right}
use Rattle.plan_needs.specs.Carried.{IsCarried}
use Rattle.plan_rule.specs.Runs.{moments_of}
use Rattle.plan_search.specs.Planned.{Planned, to_come}
use Rattle.tick_keeper.specs.{declared.event.Event.Event, declared.event.Output.Output, declared.fault.StepFault.StepFault, declared.round.OpenRound.OpenRound, declared.shortened.ShortNeed.ShortNeed}
use Rattle.tick_keeper.specs.{code.Hearing.is_rules, code.Hearing.others, LawsOfHistories.IsAnswerEvent, History.CoreTurn, Shorten.pairs, Shorten.shorten, State.CoreState, State.Round, States.RoundIsOpened}
use Rattle.tick_keeper.specs.declared.event.Event.TheVariants.{Tick, Told, Need}
use Rattle.tick_keeper.specs.declared.fault.StepFault.TheVariants.{TooLong, OutOfMemory}
use Rattle.tick_keeper.specs.code.Keeping.{IsKeeper, IsOpen, RoundIsByRule, flag_of, seen_round, shown_round, waited_for}
use Rattle.tick_keeper.specs.Replan.{IsPlanOf, PlanFails, Replan, ReplanTooLong}
use Rattle.tick_keeper.specs.Refusal.{TellsSpan, step_refusal, waits_for}
use Rattle.tick_keeper.specs.Step.{CoreStep, IsLastAnswer, StepAnswer, StepMayWantMemory, entry_after_answer, entry_of_event, left, with_entry_changed, without_index}
use Rattle.tick_keeper.proofs.{Changed.answered_forest, Opened.hears_more, Opened.last_fits, ByRule.closes_by_rule, ByRule.more_by_rule, Refusals.answer_taken, Made.count_moments, Waiting.waits_flag}
use Rattle.tick_keeper.proofs.Hearing.{carried_heard, waited_less, waited_set}

-- an answer that an round_is round takes
pub record Takes (h : Forest) (r : OpenRound) (event : Event) : Type 0 where
  pub seconds : TellsSpan event
  pub within : entry_of_event event < length h.entries
  pub there : entry_of_event event < length r.waiting.items
  pub waits : flag_of r.waiting.items (entry_of_event event) ≡ true

pub flag_waits : (flags : List Bool) (round : Option Round) (at i : ℕ) → i < length flags → round ≡ Some (record { at = at; unanswered = waited_for flags }) → waits_for round i ≡ true → flag_of flags i ≡ true
flag_waits flags round at i within is waits = sym (waits_flag flags i) ∙ sym (ap (λ o. waits_for o i) is) ∙ waits

pub takes : (s : CoreState) (p : Planned) (r : OpenRound) (event : Event) → s.round ≡ seen_round (Some r) → IsOpen s.forest s.last p r → IsAnswerEvent event → step_refusal s event ≡ None → Takes s.forest r event
takes s p r event is round_is answer none =
    let taken = answer_taken s event answer none in
    let there : entry_of_event event < length r.waiting.items = (let c = round_is.count in let w = taken.within in omega arith) in
    record { seconds = taken.seconds; within = taken.within; there = there; waits = flag_waits r.waiting.items s.round r.at (entry_of_event event) there is taken.waits }

-- the rule's answer
rules_told :
    (at : ℕ) (event : Event) (e : Entry) → is_rules at event e ≡ true → (end : ℕ) × ((end ≡ renewal e at) × (entry_after_answer at event e ≡ record e { end = end; renewable = true }))
unfolding is_rules entry_after_answer
rules_told at (Told i seconds renewable) e rules =
    let able = and_left renewable (at + seconds == renewal e at) rules in
    let ends : (at + seconds == renewal e at) ≡ true = and_right renewable (at + seconds == renewal e at) rules in
    (at + seconds, (grind (arith, nat_tests), ap (λ b. record e { end = at + seconds; renewable = b }) able))
rules_told at _ e rules = absurd cc

pub by_rule_more :
    (h : Forest) (last : ℕ) (p : Planned) (r : OpenRound) (event : Event) → IsOpen h last p r → Takes h r event → r.by_rule ≡ true → is_rules r.at event (entry_at h.entries (entry_of_event event)) ≡ true →
    RoundIsByRule (with_entry_changed h (entry_of_event event) (entry_after_answer r.at event)) last p (set r.waiting.items (entry_of_event event) false)
by_rule_more h last p r event round_is taken by_rule rules =
    let i = entry_of_event event in
    let e = entry_at h.entries i in
    let told = rules_told r.at event e rules in
    let rule = more_by_rule h last p r.waiting.items (round_is.by_rule by_rule) i told.0 taken.there taken.within taken.waits (told.1.0 ∙ ap (renewal e) round_is.at) in
    subst (λ (x : Entry). RoundIsByRule (record { entries = set h.entries i x; margin = h.margin }) last p (set r.waiting.items i false)) (sym told.1.1) rule

some_is : (r n : OpenRound) → Some r ≡ Some n → r ≡ n
some_is r n is = ap (λ (o : Option OpenRound). elim o [ None ↦ r | Some x ↦ x ]) is

-- its entry is waited for
waits_in_round : (r : OpenRound) (event : Event) {h : Forest} → Takes h r event → waits_for (Some (shown_round r)) (entry_of_event event) ≡ true
waits_in_round r event taken = waits_flag r.waiting.items (entry_of_event event) ∙ taken.waits

-- and it leaves a forest
pub answered_keeper : (h : Forest) (last : ℕ) (p : Planned) (r : OpenRound) (event : Event) → IsKeeper h last p (Some r) → Takes h r event → IsForest (with_entry_changed h (entry_of_event event) (entry_after_answer r.at event))
answered_keeper h last p r event keeper taken =
    let late = keeper.late in
    let at = (keeper.open_round r refl).at in
    answered_forest h keeper.forest event taken.seconds (entry_of_event event) taken.within r.at (omega arith)

-- planning anew after it is not too long
pub answer_fits :
    (h : Forest) (last : ℕ) (p : Planned) (r : OpenRound) (event : Event) → IsKeeper h last p (Some r) → Takes h r event → ReplanTooLong (with_entry_changed h (entry_of_event event) (entry_after_answer r.at event)) r.at → ⊥
answer_fits h last p r event keeper taken long =
    last_fits h (moments_of (to_come p)) (shown_round r) event (keeper.open_round r refl).opened taken.within (waits_in_round r event taken) (answered_keeper h last p r event keeper taken) long

-- a fault of planning anew that is not too long is lack of memory
pub only_memory : (g : Forest) (t : ℕ) (fault : StepFault) → PlanFails g t fault → (ReplanTooLong g t → ⊥) → fault ≡ OutOfMemory
only_memory g t OutOfMemory fails fits = refl
only_memory g t TooLong fails fits = absurd (fits fails)
only_memory g t _ fails fits = absurd fails

-- one answer more, and others are waited for
pub heard_keeper :
    (h k : Forest) (last : ℕ) (p : Planned) (r n : OpenRound) (event : Event) → IsKeeper h last p (Some r) → Takes h r event → k ≡ with_entry_changed h (entry_of_event event) (entry_after_answer r.at event) →
    n.at ≡ r.at → n.waiting.items ≡ set r.waiting.items (entry_of_event event) false → n.left + 1 ≡ r.left → n.by_rule ≡ r.by_rule && is_rules r.at event (entry_at h.entries (entry_of_event event)) →
    0 < length (without_index (entry_of_event event) (waited_for r.waiting.items)) → IsKeeper k last p (Some n)
heard_keeper h k last p r n event keeper taken is at flags less by_rule others =
    let i = entry_of_event event in
    let round_is = keeper.open_round r refl in
    let fewer = waited_less r.waiting.items i taken.there taken.waits in
    let set' = waited_set r.waiting.items i taken.there in
    let left_is : shown_round n ≡ left (shown_round r) i = ap (λ t. record { at = t; unanswered = waited_for n.waiting.items }) at ∙ ap (λ us. record { at = r.at; unanswered = us }) (ap waited_for flags ∙ set') in
    let opened : IsOpen k last p n = record {
      at = at ∙ round_is.at;
      count = ap length flags ∙ length-set r.waiting.items i false ∙ round_is.count ∙ sym (ap (λ (g : Forest). length g.entries) is ∙ length-set h.entries i (entry_after_answer r.at event (entry_at h.entries i)));
      left = (let e = ap (λ xs. length (waited_for xs)) flags in let l = round_is.left in omega arith);
      some = (let e = ap length set' in let l = round_is.left in omega arith);
      opened = subst (λ g. RoundIsOpened g (moments_of (to_come p)) (shown_round n)) (sym is)
          (subst (RoundIsOpened (with_entry_changed h i (entry_after_answer r.at event)) (moments_of (to_come p))) (sym left_is) (hears_more h (moments_of (to_come p)) (shown_round r) event round_is.opened taken.within (waits_in_round r event taken)));
      by_rule = λ yes'.
          let both = sym by_rule ∙ yes' in
          let rule = by_rule_more h last p r event round_is taken (and_left r.by_rule _ both) (and_right r.by_rule _ both) in
          subst (λ xs. RoundIsByRule k last p xs) (sym flags) (subst (λ g. RoundIsByRule g last p (set r.waiting.items i false)) (sym is) rule);
    } in
    record {
      forest = subst IsForest (sym is) (answered_keeper h last p r event keeper taken);
      late = keeper.late;
      carried = subst (λ g. IsCarried g p.start p.carried) (sym is) (carried_heard h i r.at event taken.within p.start p.carried keeper.carried);
      start = keeper.start;
      few = keeper.few;
      best = λ none. absurd cc;
      forced = λ none. absurd cc;
      open_round = λ m same. subst (λ x. IsOpen k last p x) (some_is n m same) opened;
    }

-- the last answer, where all are the rule's: the rest of the plan stands
pub record Stays (k : Forest) (t : ℕ) (p : Planned) : Type 0 where
  pub shorten : shorten k t ≡ k
  pub pairs : pairs k t ≡ []
  pub keeper : IsKeeper k t p None

pub nobody : (xs : List ℕ) → length xs ≡ 0 → xs ≡ []
nobody [] none = refl
nobody (x ∷ xs) none = absurd (omega arith)

pub stays :
    (h k : Forest) (last : ℕ) (p : Planned) (r : OpenRound) (event : Event) → IsKeeper h last p (Some r) → Takes h r event → k ≡ with_entry_changed h (entry_of_event event) (entry_after_answer r.at event) →
    r.by_rule ≡ true → is_rules r.at event (entry_at h.entries (entry_of_event event)) ≡ true → length (without_index (entry_of_event event) (waited_for r.waiting.items)) ≡ 0 → Stays k last p
stays h k last p r event keeper taken is by_rule rules none =
    let i = entry_of_event event in
    let round_is = keeper.open_round r refl in
    let rule = subst (λ g. RoundIsByRule g last p (set r.waiting.items i false)) (sym is) (by_rule_more h last p r event round_is taken by_rule rules) in
    let all = waited_set r.waiting.items i taken.there ∙ nobody (without_index i (waited_for r.waiting.items)) none in
    let closes = closes_by_rule k last p (set r.waiting.items i false) rule all in
    record {
      shorten = closes.0;
      pairs = closes.1;
      keeper = record {
        forest = subst IsForest (sym is) (answered_keeper h last p r event keeper taken);
        late = keeper.late;
        carried = subst (λ g. IsCarried g p.start p.carried) (sym is) (carried_heard h i r.at event taken.within p.start p.carried keeper.carried);
        start = keeper.start;
        few = keeper.few;
        best = λ _. closes.2;
        forced = λ _. closes.3;
        open_round = λ m same. absurd cc;
      };
    }

-- a plan that stands is what planning anew gives
pub stays_planned :
    (s : CoreState) (t : ℕ) (k : Forest) (p : Planned) → k ≡ s.forest → s.round ≡ None → Stays k t p → Replan s t (record { forest = k; last = t; to_come = moments_of (to_come p); round = None; shortened = s.shortened })
stays_planned s t k p is closed stay =
    let ts = moments_of (to_come p) in
    let same : k ≡ shorten s.forest t = sym stay.shorten ∙ ap (λ g. shorten g t) is in
    let none : s.shortened ≡ s.shortened ++ pairs s.forest t = sym (append-nil s.shortened) ∙ ap (λ xs. s.shortened ++ xs) (sym stay.pairs ∙ ap (λ g. pairs g t) is) in
    record {
      moments = ts;
      best = subst (λ g. IsPlanOf g t ts) same (stay.keeper.best refl);
      few = (let l = count_moments (to_come p) in let f = stay.keeper.few in omega arith);
      is = ap (λ g. record { forest = g; last = t; to_come = ts; round = None; shortened = s.shortened }) same
          ∙ ap (λ xs. record { forest = shorten s.forest t; last = t; to_come = ts; round = None; shortened = xs }) none
          ∙ ap (λ o. record { forest = shorten s.forest t; last = t; to_come = ts; round = o; shortened = s.shortened ++ pairs s.forest t }) (sym closed);
    }

-- Turns of answers.

pub as_answer : (old : CoreState) (event : Event) (output : Output) (new : CoreState) → IsAnswerEvent event → StepAnswer old event output new → CoreStep old event output new
as_answer old (Tick t) output new answer step = absurd answer
as_answer old (Need i until) output new answer step = absurd answer
as_answer old _ output new answer step = step

as_last : (old : CoreState) (event : Event) → IsAnswerEvent event → IsLastAnswer old event → StepMayWantMemory old event
as_last old (Tick t) answer last = absurd answer
as_last old (Need i until) answer last = absurd answer
as_last old _ answer last = last

pub wants_turn :
    (old new : CoreState) (event : Event) (round : Round) → IsAnswerEvent event → step_refusal old event ≡ None → old.round ≡ Some round → (left round (entry_of_event event)).unanswered ≡ [] →
    new ≡ old → CoreTurn old event (Err OutOfMemory) new
wants_turn old new event round answer none is last same = (none, (as_last old event answer (round, (is, last)), same))

pub somebody : (xs : List ℕ) → 0 < length xs → xs ≢ []
somebody xs some = λ none. let e = ap length none in omega arith

-- For the code: what a keeper has that is handed an answer.

pub record Hears (h : Forest) (last : ℕ) (p : Planned) (r : OpenRound) (event : Event) : Type 0 where
  pub keeper : IsKeeper h last p (Some r)
  pub taken : Takes h r event
  pub at : r.at ≡ last
  pub some : 0 < r.left

-- the state that callers see of these parts
abbrev pub state_of : Forest → ℕ → Planned → Option OpenRound → List ShortNeed → CoreState
state_of h last p round list = record { forest = h; last = last; to_come = moments_of (to_come p); round = seen_round round; shortened = list }

pub hears :
    (h : Forest) (last : ℕ) (p : Planned) (round : Option OpenRound) (list : List ShortNeed) (now : CoreState) (r : OpenRound) (event : Event) → state_of h last p round list ≡ now → IsKeeper h last p round →
    round ≡ Some r → IsAnswerEvent event → step_refusal now event ≡ None → Hears h last p r event
hears h last p round list now r event view keeper is answer none =
    let opened = keeper.open_round r is in
    let old = state_of h last p round list in
    record {
      keeper = subst (IsKeeper h last p) is keeper;
      taken = takes old p r event (ap seen_round is) opened answer (subst (λ (s : CoreState). step_refusal s event ≡ None) (sym view) none);
      at = opened.at;
      some = opened.some;
    }

-- the answer to an open round is of an entry i, and tells a duration
module _ {h : Forest} {last : ℕ} {p : Planned} {round : Option OpenRound} {list : List ShortNeed} {now : CoreState} {r : OpenRound} (event : Event)
    (view : state_of h last p round list ≡ now) (keeper : IsKeeper h last p round) (is : round ≡ Some r) (answer : IsAnswerEvent event) (none : step_refusal now event ≡ None) where
  pub handed_within : (i : ℕ) → entry_of_event event ≡ i → i < length h.entries
  handed_within i entry = subst (λ n. n < length h.entries) entry (hears h last p round list now r event view keeper is answer none).taken.within

  pub handed_seconds : TellsSpan event
  handed_seconds = (hears h last p round list now r event view keeper is answer none).taken.seconds

pub others_are : (round : Option Round) (r : OpenRound) (i j : ℕ) → round ≡ seen_round (Some r) → j ≡ i → length (others round i) ≡ length (without_index j (waited_for r.waiting.items))
others_are round r i j is same = ap (λ o. length (others o i)) is ∙ ap (λ n. length (without_index n (waited_for r.waiting.items))) (sym same)

pub one_more : (n m : ℕ) → m + 1 ≡ n → nat_lt 1 n ≡ nat_lt 0 m
one_more n m less = elim (cases_lt 0 m) [
  | inl some ↦ let one : nat_lt 1 n ≡ true = grind (arith, nat_tests) in let other : nat_lt 0 m ≡ true = grind (arith, nat_tests) in one ∙ sym other
  | inr none ↦ let one : nat_lt 1 n ≡ false = grind (arith, nat_tests) in let other : nat_lt 0 m ≡ false = grind (arith, nat_tests) in one ∙ sym other
]

pub if_some : (o : Option Round) (r : Round) (P : Round → Type 0) → o ≡ Some r → P r → IfSome o P
if_some o r P is there = subst (λ (x : Option Round). IfSome x P) (sym is) there

pub of_some : (o : Option Round) (r : Round) (P : Round → Type 0) → o ≡ Some r → IfSome o P → P r
of_some o r P is there = subst (λ (x : Option Round). IfSome x P) is there
