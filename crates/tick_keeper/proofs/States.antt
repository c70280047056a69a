-- The states that events lead to, what each event adds to the pairs, and when entries are asked: for the laws of steps.
use Rattle.std.proofs.Common.{◌≡◌, ◌∙◌, ℕ, ◌<◌, ◌≤◌, ◌++◌, true, List, [], ◌∷◌, Some, None, Result, Ok, Err, length, set, refl, sym, ap, subst, arith, inl, inr}
use Rattle.std.proofs.lemmas.{Bool.cases_eq, List.append-nil, List.length-set}
use Rattle.std.proofs.lemmas.List.Elements.{All-from_get_or, All-get_or, All-nil}
use Rattle.std.specs.List.{All}
use Rattle.base_moment.specs.declared.moment.TheConstants.{LAST}
use Rattle.plan_forest.specs.{declared.entry.Entry.Entry, Push.IsForest}
use Rattle.plan_forest.specs.Forest.{Forest, end_of, entry_at}
use Rattle.plan_forest.proofs.Entries.{entry_at_set_other, entry_at_set_same}
use Rattle.plan_rule.specs.{Asks.asks, Asks.first_of, declared.limit.TheConstants.LIMIT}
use Rattle.tick_keeper.specs.{declared.event.Event.Event, declared.event.Output.Output, declared.fault.StepFault.StepFault, declared.shortened.ShortNeed.ShortNeed, LawsOfHistories.IsAnswerEvent, LawsOfNeeds.IsShortened}
use Rattle.tick_keeper.specs.{Refusal.step_refusal, Refusal.waits_for, Replan.IsPlanOf, Replan.Replan, History.CoreHistory, History.CoreTurn, Shorten.pairs, Shorten.shorten, States.IsState, States.RoundIsOpened}
use Rattle.tick_keeper.specs.declared.event.Event.TheVariants.{Tick, Told, Refused, Lost, Need}
use Rattle.tick_keeper.specs.declared.fault.StepFault.TheVariants.{TooLong, OutOfMemory}
use Rattle.tick_keeper.specs.LawsOfSteps.{Adds, AddsLaw, AskLaw, StateLaw, state_with_need}
use Rattle.tick_keeper.specs.State.{CoreState, Round, unplanned}
use Rattle.tick_keeper.specs.Step.{StepAnswer, StepNeed, StepTick, entry_after_answer, entry_of_event, left, round_opened, state_after_answer, with_entry_changed, with_new_need}
use Rattle.tick_keeper.specs.declared.event.Output.TheVariants as out
use Rattle.tick_keeper.proofs.{Changed.answered_forest, Changed.needed_forest, Kept.shortened, Kept.unchanged, Orders.replan_once, Shortening.shorten_forest, Standing.kept_plan, Standing.someone, Turns.open_sound, Turns.replan_force}
use Rattle.tick_keeper.proofs.Refusals.{answer_taken, need_taken, tick_taken}
use Rattle.tick_keeper.proofs.Opened.{answered_only, hears_more, opens}

-- an answer that is taken: its entry is one, and is waited for, and leaves a forest at whatever moment
pub record Hears (s : CoreState) (event : Event) : Type 0 where
  pub within : entry_of_event event < length s.forest.entries
  pub waits : waits_for s.round (entry_of_event event) ≡ true
  pub forest : (at : ℕ) → at ≤ LAST → IsForest (with_entry_changed s.forest (entry_of_event event) (entry_after_answer at event))

pub hears : (s : CoreState) → IsForest s.forest → (event : Event) → IsAnswerEvent event → step_refusal s event ≡ None → Hears s event
hears s forest event answer none =
    let taken = answer_taken s event answer none in
    record { within = taken.within; waits = taken.waits; forest = answered_forest s.forest forest event taken.seconds (entry_of_event event) taken.within }

-- what is planned anew from a forest is a state
planned_state : (s : CoreState) (t : ℕ) (new : CoreState) → IsForest s.forest → t ≤ LAST → s.round ≡ None → Replan s t new → IsState new
planned_state s t new forest late closed r = record {
  forest = subst (λ (x : CoreState). IsForest x.forest) (sym r.is) (shorten_forest s.forest forest t);
  last = subst (λ (x : CoreState). x.last ≤ LAST) (sym r.is) late;
  open_since = λ round is. absurd (let none : Some round ≡ None = sym is ∙ ap (λ (x : CoreState). x.round) r.is ∙ closed in cc);
  waits = λ round is nobody. (let none : Some round ≡ None = sym is ∙ ap (λ (x : CoreState). x.round) r.is ∙ closed in absurd cc);
  opened = λ round is. (let none : Some round ≡ None = sym is ∙ ap (λ (x : CoreState). x.round) r.is ∙ closed in absurd cc);
  sound = λ _. replan_force s t new r;
}

-- what is shortened of a forest is shortened of one with the same needs
moved :
    (g k h : Forest) (t : ℕ) (pair : ShortNeed) → length g.entries ≡ length k.entries → ((i : ℕ) → (entry_at g.entries i).need ≡ (entry_at k.entries i).need) → IsShortened g h t pair →
    IsShortened k h t pair
moved g k h t pair count needs x =
    let n = needs pair.entry in
    let w = x.within in
    let l = x.later in
    let s = x.less in
    record { within = omega arith; later = omega arith; less = omega arith; in_force = x.in_force; kept = x.kept; no_longer = x.no_longer; gone = x.gone; never = x.never }

-- and adds the pairs of that planning
planned_adds :
    (before from : CoreState) (t : ℕ) (new : CoreState) → IsForest from.forest → from.shortened ≡ before.shortened → length from.forest.entries ≡ length before.forest.entries →
    ((i : ℕ) → (entry_at from.forest.entries i).need ≡ (entry_at before.forest.entries i).need) → Replan from t new → Adds before new
planned_adds before from t new forest same count alike r =
    let g = from.forest in
    let h = shorten g t in
    let none : ShortNeed = record { entry = 0; need = 0 } in
    let each : All (IsShortened before.forest h t) (pairs g t) =
    All-from_get_or (IsShortened before.forest h t) (pairs g t) none
    (λ i within. moved g before.forest h t _ count alike (All-get_or (IsShortened g h t) (pairs g t) i none within (shortened g t forest))) in
    record {
      pairs = pairs g t;
      noted = ap (λ (x : CoreState). x.shortened) r.is ∙ ap (λ xs. xs ++ pairs g t) same;
      each = subst (λ (x : CoreState). All (IsShortened before.forest x.forest x.last) (pairs g t)) (sym r.is) each;
      others = λ i whole. ap (λ (x : CoreState). (entry_at x.forest.entries i).need) r.is ∙ ap (λ (e : Entry). e.need) ((unchanged g t).1.1 i whole) ∙ alike i;
    }

-- what plans nothing anew adds none
adds_none : (before new : CoreState) → new.shortened ≡ before.shortened → ((i : ℕ) → (entry_at new.forest.entries i).need ≡ (entry_at before.forest.entries i).need) → Adds before new
adds_none before new same needs = record { pairs = []; noted = same ∙ sym (append-nil before.shortened); each = All-nil _; others = λ i whole. needs i }

-- an answer changes no need
heard_need : (s : CoreState) (event : Event) → Hears s event → (at : ℕ) (i : ℕ) → (entry_at (with_entry_changed s.forest (entry_of_event event) (entry_after_answer at event)).entries i).need ≡ (entry_at s.forest.entries i).need
heard_need s event hears at i =
    let es = s.forest.entries in
    let k = entry_of_event event in
    let e = entry_after_answer at event (entry_at es k) in
    elim (cases_eq i k) [
      | inl same ↦ ap (λ j. (entry_at (set es k e) j).need) same ∙ ap (λ (x : Entry). x.need) (entry_at_set_same es k e hears.within) ∙ ap (λ (x : Entry). x.need) (answered_only at event (entry_at es k)) ∙ ap (λ j. (entry_at es j).need) (sym same)
      | inr apart ↦ ap (λ (x : Entry). x.need) (entry_at_set_other es k i e apart)
    ]

abbrev Leads : CoreState → Event → CoreState → Type 0
Leads old event new = IsState new × Adds (state_with_need old event) new

tick_leads : (old : CoreState) (t : ℕ) (output : Output) (new : CoreState) → IsState old → step_refusal old (Tick t) ≡ None → StepTick old t output new → Leads old (Tick t) new
tick_leads old t output new state taken step = by_output output step where
  planned_leads : (mid : CoreState) → Replan old t mid → Leads old (Tick t) mid
  planned_leads mid r =
      let parts = tick_taken old t taken in
      (planned_state old t mid state.forest parts.0 parts.2 r, planned_adds old old t mid state.forest refl refl (λ i. refl) r)

  by_output : (output : Output) → StepTick old t output new → Leads old (Tick t) new
  by_output out.Idle step = planned_leads new step.0
  by_output (out.Sleep w) step = planned_leads new step.0
  by_output (out.Ask asked) step =
      let mid = step.0 in
      let leads = planned_leads mid step.1.0 in
      let is = step.1.1.1.1.1 in
      let last : mid.last ≡ t = ap (λ (s : CoreState). s.last) step.1.0.is in
      let a = leads.1 in (
        record {
          forest = subst (λ (s : CoreState). IsForest s.forest) (sym is) leads.0.forest;
          last = subst (λ (s : CoreState). s.last ≤ LAST) (sym is) leads.0.last;
          open_since = λ round open_now.
              let same : Some (record { at = t; unanswered = _ }) ≡ Some round = sym (ap (λ (s : CoreState). s.round) is) ∙ open_now in
              let at : t ≡ round.at = cc in
              sym at ∙ sym last ∙ ap (λ (s : CoreState). s.last) (sym is);
          waits = λ round open_now nobody.
              let rest = step.1.1.0 in
              let in_force = replan_force old t mid step.1.0 in
              let best = subst (λ n. IsPlanOf mid.forest n (t ∷ rest)) last (subst (IsPlanOf mid.forest mid.last) step.1.1.1.0 in_force.0) in
              let some = someone mid.forest t t rest leads.0.forest best in
              let same : Some (round_opened mid t (first_of rest)) ≡ Some round = sym (ap (λ (s : CoreState). s.round) is) ∙ open_now in
              let inner : round_opened mid t (first_of rest) ≡ round = cc in
              let none : (round_opened mid t (first_of rest)).unanswered ≡ [] = ap (λ (x : Round). x.unanswered) inner ∙ nobody in
              let short : length (asks mid.forest.entries mid.forest.margin t (end_of mid.forest.entries) t (first_of rest)) ≡ 0 = ap length none in
              absurd (omega arith);
          opened = λ round open_now.
              let rest = step.1.1.0 in
              let in_force = replan_force old t mid step.1.0 in
              let best = subst (λ n. IsPlanOf mid.forest n (t ∷ rest)) last (subst (IsPlanOf mid.forest mid.last) step.1.1.1.0 in_force.0) in
              let few : length (t ∷ rest) ≤ LIMIT = subst (λ (ts : List ℕ). length ts ≤ LIMIT) step.1.1.1.0 in_force.1 in
              let same : Some (round_opened mid t (first_of rest)) ≡ Some round = sym (ap (λ (s : CoreState). s.round) is) ∙ open_now in
              let inner : round_opened mid t (first_of rest) ≡ round = cc in
              subst (λ (s : CoreState). RoundIsOpened s.forest s.to_come round) (sym is) (subst (RoundIsOpened mid.forest rest) inner (opens mid.forest t rest leads.0.forest best few));
          sound = open_sound new _ (ap (λ (s : CoreState). s.round) is);
        },
        record {
          pairs = a.pairs;
          noted = ap (λ (s : CoreState). s.shortened) is ∙ a.noted;
          each = subst (λ (s : CoreState). All (IsShortened old.forest s.forest s.last) a.pairs) (sym is) a.each;
          others = λ i whole. ap (λ (s : CoreState). (entry_at s.forest.entries i).need) is ∙ a.others i whole;
        },
      )
  by_output _ step = absurd step

answer_leads : (old : CoreState) (event : Event) (output : Output) (new : CoreState) → IsState old → Hears old event → state_with_need old event ≡ old → StepAnswer old event output new → Leads old event new
answer_leads old event out.Waiting new state hears plain step =
    let round = step.0 in
    let is = step.1.1.1 in
    let since = state.open_since round step.1.0 in
    let late = state.last in (
      record {
        forest = subst (λ (s : CoreState). IsForest s.forest) (sym is) (hears.forest round.at (omega arith));
        last = subst (λ (s : CoreState). s.last ≤ LAST) (sym is) state.last;
        open_since = λ now open_now.
            let same : Some (left round (entry_of_event event)) ≡ Some now = sym (ap (λ (s : CoreState). s.round) is) ∙ open_now in
            let at : round.at ≡ now.at = cc in
            sym at ∙ since ∙ ap (λ (s : CoreState). s.last) (sym is);
        waits = λ now open_now nobody.
            let same : Some (left round (entry_of_event event)) ≡ Some now = sym (ap (λ (s : CoreState). s.round) is) ∙ open_now in
            let inner : left round (entry_of_event event) ≡ now = cc in
            step.1.1.0 (ap (λ (x : Round). x.unanswered) inner ∙ nobody);
        opened = λ now open_now.
            let same : Some (left round (entry_of_event event)) ≡ Some now = sym (ap (λ (s : CoreState). s.round) is) ∙ open_now in
            let inner : left round (entry_of_event event) ≡ now = cc in
            let waits = sym (ap (λ r. waits_for r (entry_of_event event)) step.1.0) ∙ hears.waits in
            subst (λ (s : CoreState). RoundIsOpened s.forest s.to_come now) (sym is) (subst (RoundIsOpened (with_entry_changed old.forest (entry_of_event event) (entry_after_answer round.at event)) old.to_come) inner (hears_more old.forest old.to_come round event (state.opened round step.1.0) hears.within waits));
        sound = open_sound new _ (ap (λ (s : CoreState). s.round) is);
      },
      subst (λ s. Adds s new) (sym plain) (adds_none old new (ap (λ (s : CoreState). s.shortened) is) (λ i. ap (λ (s : CoreState). (entry_at s.forest.entries i).need) is ∙ heard_need old event hears round.at i)),
    )
answer_leads old event (out.Round next) new state hears plain step =
    let round = step.0 in
    let since = state.open_since round step.1.0 in
    let late = state.last in
    let from = state_after_answer old event round.at None in
    let forest : IsForest from.forest = hears.forest round.at (omega arith) in
    (planned_state from round.at new forest (omega arith) refl step.1.1.1.0, subst (λ s. Adds s new) (sym plain) (planned_adds old from round.at new forest refl (length-set old.forest.entries (entry_of_event event) _) (heard_need old event hears round.at) step.1.1.1.0))
answer_leads old event _ new state hears plain step = absurd step

need_leads : (old : CoreState) (i until : ℕ) (output : Output) (new : CoreState) → IsState old → step_refusal old (Need i until) ≡ None → StepNeed old i until output new → Leads old (Need i until) new
need_leads old i until out.Planned new state taken step =
    let parts = need_taken old i until taken in
    let from = with_new_need old i until in
    let forest = needed_forest old.forest state.forest i parts.1 until parts.0 in
    (planned_state from old.last new forest state.last parts.2 step, planned_adds from from old.last new forest refl refl (λ k. refl) step)
need_leads old i until _ new state taken step = absurd step

step_leads : (old : CoreState) (event : Event) (output : Output) (new : CoreState) → IsState old → CoreTurn old event (Ok output) new → Leads old event new
step_leads old (Tick t) output new state turn = tick_leads old t output new state turn.0 turn.1
step_leads old (Told i seconds renewable) output new state turn = let e = Told i seconds renewable in answer_leads old e output new state (hears old state.forest e tt turn.0) refl turn.1
step_leads old (Refused i) output new state turn = answer_leads old (Refused i) output new state (hears old state.forest (Refused i) tt turn.0) refl turn.1
step_leads old (Lost i) output new state turn = answer_leads old (Lost i) output new state (hears old state.forest (Lost i) tt turn.0) refl turn.1
step_leads old (Need i until) output new state turn = need_leads old i until output new state turn.0 turn.1

-- a refusal leaves the state
pub turn_state : (old : CoreState) (event : Event) (result : Result Output StepFault) (new : CoreState) → IsState old → CoreTurn old event result new → IsState new
turn_state old event (Ok output) new state turn = (step_leads old event output new state turn).0
turn_state old event (Err TooLong) new state turn = subst IsState (sym turn.1.1) state
turn_state old event (Err OutOfMemory) new state turn = subst IsState (sym turn.1.1) state
turn_state old event (Err _) new state turn = subst IsState (sym turn.1) state

pub adds : AddsLaw
adds = (
  λ g start new forest r. planned_adds (unplanned g) (unplanned g) start new forest refl refl (λ i. refl) r,
  λ old new event output state turn. (step_leads old event output new state turn).1,
)

history_state : (old new : CoreState) (events : List Event) (results : List (Result Output StepFault)) → IsState old → CoreHistory old events results new → IsState new
history_state old new [] [] state history = subst IsState (sym history) state
history_state old new (event ∷ events) (result ∷ results) state history = history_state history.0 new events results (turn_state old event result history.0 state history.1.0) history.1.1
history_state old new _ _ state history = absurd history

pub states : StateLaw
states g start old new events results forest late r history =
    let first = planned_state (unplanned g) start old forest late refl r in
    (first, history_state old new events results first history)

pub asked_at : AskLaw
asked_at old new (Tick t) asked state turn =
    let mid = turn.1.0 in
    let r = turn.1.1.0 in
    let rest = turn.1.1.1.0 in
    let is = turn.1.1.1.1.1.1 in
    let parts = tick_taken old t turn.0 in
    let in_force = replan_force old t mid r in
    let last : mid.last ≡ t = ap (λ (s : CoreState). s.last) r.is in
    let forest = (planned_state old t mid state.forest parts.0 parts.2 r).forest in
    let left_over : new.to_come ≡ rest = ap (λ (s : CoreState). s.to_come) is in
    let best = subst (λ n. IsPlanOf mid.forest n (t ∷ rest)) last (subst (IsPlanOf mid.forest mid.last) turn.1.1.1.1.0 in_force.0) in (
      t,
      (
        refl,
        record {
          plan = mid;
          made = r;
          in_force = in_force;
          kept = λ after_none. replan_once old t mid (record old { last = t }) r (kept_plan old t (state.sound parts.2) parts.1 after_none);
          first = turn.1.1.1.1.0 ∙ ap (λ ts. t ∷ ts) (sym left_over);
          asks = turn.1.1.1.1.1.0 ∙ ap (λ ts. asks mid.forest.entries mid.forest.margin t (end_of mid.forest.entries) t (first_of ts)) (sym left_over);
          someone = subst (λ (ns : List ℕ). 0 < length ns) (sym turn.1.1.1.1.1.0) (someone mid.forest t t rest forest best);
        },
      ),
    )
asked_at old new _ asked state turn = absurd turn.1
