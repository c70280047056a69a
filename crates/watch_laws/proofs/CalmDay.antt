-- CalmDay: a watch that is at rest goes by its plan while all goes well. For the law of calm.
use Rattle.std.proofs.Common.{◌≡◌, ◌⊎◌, ◌∙◌, ℕ, zero, suc, ◌<◌, ◌≤◌, Bool, true, false, ◌==◌, List, [], ◌∷◌, Option, Some, None, Result, Ok, Err, IfSome, is_none, length, refl, sym, ap, subst, arith, inl, inr}
use Rattle.std.proofs.lemmas.{Bool.cases_Bool, Bool.cases_lt, List.Elements.All-nil}
use Rattle.std.specs.List.{list_any}
use Rattle.plan_rule.specs.{declared.wake.Wake.Wake, Asks.with_asks}
use Rattle.plan_forest.specs.Forest.{Forest}
use Rattle.watch_machine.specs.{declared.clocks.Clocks.Clocks, declared.command.WatchCommand.WatchCommand, declared.command.WatchOutput.WatchOutput, declared.event.WatchEvent.WatchEvent, declared.event.Operation.TheVariants.Renew}
use Rattle.watch_machine.specs.{declared.fault.WatchFault.WatchFault, declared.lanes.Out.Out, declared.notes.Notes.Notes, declared.track.Try.Try, Answers.noted, Answers.replied, Clocks.sec, Press.pressed, Refusal.request_out}
use Rattle.watch_machine.specs.{Renewed.state_renewed, Round.asked_by_round, Settling.timed}
use Rattle.watch_machine.specs.declared.command.WatchCommand.TheVariants.{Go, Taken}
use Rattle.watch_machine.specs.declared.event.WatchEvent.TheVariants.{Clock, Looked, Renewed, Need, Begin, Known}
use Rattle.watch_machine.specs.declared.event.WatchReply.TheVariants.{Told, Refused, Busy, Lost}
use Rattle.watch_machine.specs.History.{AllHappen, Changes, Happening, Hands, Turn}
use Rattle.watch_machine.specs.State.{WatchState, attempt_at, second}
use Rattle.watch_machine.specs.Step.{Step, StepClock, StepCommand, StepRenewed, readied}
use Rattle.watch_machine.proofs.Cases.{if_both}
use Rattle.watch_laws.specs.{Load.requests_asked_by as asked_for, Load.requests_at_turn, Time.round_of}
use Rattle.watch_laws.specs.Calm.{AreCalm, CalmLaw, EndAs, GoBy, GrantIsByRule, IsCalmClock, IsCalmEvent, IsCalmSecond, IsCalmTurn, IsPlanNow, NonePassed, OpensNextWakeUp, StateIsAtRest, believed_forest, ends, ends_left_by, began_after, no_wake_up, wake_ups_from}
use Rattle.watch_laws.proofs.{CalmGrant.answer_goes, Calming.IsIdle, Calming.unpressed}
use Rattle.watch_laws.proofs.CalmClock.{IsStep, after_clock, forest_of, going_on, resting_on}
use Rattle.watch_laws.proofs.Clocking.{begun_some, readied_clocks, refused_stays}
use Rattle.watch_laws.proofs.Foreseen.{short_led, there_is_plan, wanted_short}
use Rattle.watch_laws.proofs.OnPlan.{Goes, IsOn, IsSent, none_passed, plan_schedule, readied_timed, some_not_none}

-- all of some numbers pass a test, or one does not
all_or_one : (p : ℕ → Bool) (n : ℕ) → ((i : ℕ) → i < n → p i ≡ true) ⊎ ((i : ℕ) × ((i < n) × (p i ≡ false)))
all_or_one p zero = inl (λ i within. absurd (omega arith))
all_or_one p (suc n) =
    elim (all_or_one p n) as (λ _. ((i : ℕ) → i < suc n → p i ≡ true) ⊎ ((i : ℕ) × ((i < suc n) × (p i ≡ false)))) [
      | inr one' ↦ inr (one'.0, (let w = one'.1.0 in omega arith, one'.1.1))
      | inl all ↦ elim (cases_Bool (p n)) as (λ _. ((i : ℕ) → i < suc n → p i ≡ true) ⊎ ((i : ℕ) × ((i < suc n) × (p i ≡ false)))) [
        | inr last ↦ inr (n, (omega arith, last))
        | inl last ↦ inl (λ i within. elim (cases_lt i n) as (λ _. p i ≡ true) [
          | inl low ↦ all i low
          | inr high ↦ (let e : n ≡ i = omega arith in subst (λ k. p k ≡ true) e last)
        ])
      ]
    ]

if_some : (P : Try → Type 0) (o : Option Try) (t : Try) → o ≡ Some t → P t → IfSome o P
if_some P o t is h = subst (λ x. IfSome x P) (sym is) h

if_none : (P : Try → Type 0) (o : Option Try) → o ≡ None → IfSome o P
if_none P o is = subst (λ x. IfSome x P) (sym is) tt

-- a turn that asks nobody, and leaves the moment
stays_on :
    (s new : WatchState) (g : Forest) (e : ℕ → ℕ) (last : Wake) (wakes : List Wake) (ts : List ℕ) (s0 : ℕ) → Goes new g e last ts → wakes ≡ with_asks g.entries g.margin s0 e ts → s0 ≤ second s → second new ≡ second s →
    IsOn new g s0 e last wakes None []
stays_on s new g e last wakes ts s0 goes to_come from now = record {
  now = last;
  next = wakes;
  e = e;
  ts = ts;
  opens = (refl, (refl, subst (λ ws. NonePassed new ws) (sym to_come) (none_passed g.entries g.margin s0 e e new ts (plan_schedule g (forest_of new g e last ts goes) (second new) e ts goes.plan).1)));
  sends = All-nil (IsSent last new);
  goes = goes;
  to_come = to_come;
  from = omega arith;
  so = refl;
}

-- a clock
clock_to :
    (s new : WatchState) (wall elapsed : ℕ) (output : WatchOutput) (command : WatchCommand) (g : Forest) (e : ℕ → ℕ) (last : Wake) (wakes : List Wake) (ts : List ℕ) (s0 : ℕ) → Goes s g e last ts → wakes ≡ with_asks g.entries g.margin s0 e ts → s0 ≤ second s →
    (step : StepClock s wall elapsed output new) → StepCommand (pressed (readied s wall elapsed) (asked_by_round step.round)) command new → IsCalmClock s last.at wall elapsed → IsOn new g s0 e last wakes step.round (asked_for command)
clock_to s new wall elapsed output Taken g e last wakes ts s0 goes to_come from step h clock = absurd h
clock_to s new wall elapsed output (Go requests until) g e last wakes ts s0 goes to_come from step h clock =
    let r = readied s wall elapsed in
    let n = length s.forest.entries in
    let round = asked_by_round step.round in
    let whole : (i : ℕ) → IfSome (attempt_at s i) (λ t. t.failed ≡ false) = λ i. elim (goes.each i) as (λ _. IfSome (attempt_at s i) (λ t. t.failed ≡ false)) [
      | inl idle ↦ if_none (λ t. t.failed ≡ false) (attempt_at s i) idle.none
      | inr tried ↦ if_some (λ t. t.failed ≡ false) (attempt_at s i) tried.try tried.is tried.failed
    ] in
    let is : IsStep s r round requests = record {
      timed = readied_timed s last.at wall elapsed goes.begun clock whole;
      begun = begun_some s wall elapsed;
      going = (h.0.0, refl);
    } in
    let now : second r ≡ second (timed s wall elapsed) = ap (λ (x : Clocks). sec x.at) (readied_clocks s wall elapsed) in
    subst (λ x. IsOn x g s0 e last wakes step.round requests) (sym h.0.1)
    (elim (all_or_one (λ i. is_none (attempt_at s i)) n) as (λ _. IsOn (after_clock r round requests) g s0 e last wakes step.round requests) [
      | inl all ↦
          let idle : (i : ℕ) → IsIdle s e i = λ i. elim (goes.each i) as (λ _. IsIdle s e i) [
            | inl so ↦ so
            | inr tried ↦ absurd (let a : is_none (attempt_at s i) ≡ true = all i tried.within in let b : is_none (attempt_at s i) ≡ false = ap is_none tried.is in cc)
          ] in
          resting_on s r g e last wakes ts s0 requests step.round goes is to_come from step.is_round idle
          (λ i within wanted. let l = clock.in_time i within wanted (unpressed s i (idle i).none) in omega arith)
      | inr one' ↦
          let i = one'.0 in
          elim (goes.each i) as (λ _. IsOn (after_clock r round requests) g s0 e last wakes step.round requests) [
            | inl idle ↦ absurd (let a : is_none (attempt_at s i) ≡ false = one'.1.1 in let b : is_none (attempt_at s i) ≡ true = ap is_none idle.none in cc)
            | inr tried ↦ going_on s r g e last wakes ts s0 requests step.round goes is to_come from step.is_round (subst (IsCalmSecond s last.at) (sym now) (clock.answered i one'.1.0 one'.1.1))
          ]
    ])

clock_on :
    (s new : WatchState) (wall elapsed : ℕ) (output : WatchOutput) (g : Forest) (e : ℕ → ℕ) (last : Wake) (wakes : List Wake) (ts : List ℕ) (s0 : ℕ) → Goes s g e last ts → wakes ≡ with_asks g.entries g.margin s0 e ts → s0 ≤ second s →
    StepClock s wall elapsed output new → IsCalmClock s last.at wall elapsed → IsOn new g s0 e last wakes output.notes.round (asked_for output.command)
clock_on s new wall elapsed output g e last wakes ts s0 goes to_come from step clock =
    subst (λ o. IsOn new g s0 e last wakes o (asked_for output.command)) (sym (ap (λ (x : Notes). x.round) step.notes))
    (clock_to s new wall elapsed output output.command g e last wakes ts s0 goes to_come from step step.command clock)

second_replied : (s : WatchState) (q : Out) (seconds : ℕ) (date : Option ℕ) → second (replied (state_renewed (noted s q (Told seconds true date)) q (Told seconds true date)) q (Told seconds true date)) ≡ second s
second_replied s q seconds date = if_both (λ (t : WatchState). second t ≡ second s) s.presence.away _ _ refl refl

renewed_on :
    (s new : WatchState) (i seconds : ℕ) (date : Option ℕ) (found : Option Out) (output : WatchOutput) (g : Forest) (e : ℕ → ℕ) (last : Wake) (wakes : List Wake) (ts : List ℕ) (s0 : ℕ) → Goes s g e last ts → wakes ≡ with_asks g.entries g.margin s0 e ts → s0 ≤ second s →
    request_out s.out i Renew ≡ found → StepRenewed s found (Told seconds true date) output new → IfSome found (GrantIsByRule s last.at i seconds) →
    IsOn new g s0 e last wakes output.notes.round (asked_for output.command)
renewed_on s new i seconds date None output g e last wakes ts s0 goes to_come from is step rule = absurd step
renewed_on s new i seconds date (Some q) output g e last wakes ts s0 goes to_come from is step rule =
    let reply = Told seconds true date in
    let there = answer_goes s g e last ts goes q i seconds date is rule in
    let on = stays_on s (replied (state_renewed (noted s q reply) q reply) q reply) g e last wakes ts s0 there to_come from (second_replied s q seconds date) in
    subst (λ (x : WatchOutput). IsOn new g s0 e last wakes x.notes.round (asked_for x.command)) (sym step.0) (subst (λ x. IsOn x g s0 e last wakes None []) (sym step.1) on)

step_on :
    (s new : WatchState) (event : WatchEvent) (output : WatchOutput) (g : Forest) (e : ℕ → ℕ) (last : Wake) (wakes : List Wake) (ts : List ℕ) (s0 : ℕ) → Goes s g e last ts → wakes ≡ with_asks g.entries g.margin s0 e ts → s0 ≤ second s →
    Step s event output new → IsCalmEvent s last.at event → IsOn new g s0 e last wakes output.notes.round (asked_for output.command)
step_on s new (Clock wall elapsed) output g e last wakes ts s0 goes to_come from step calm = clock_on s new wall elapsed output g e last wakes ts s0 goes to_come from step calm
step_on s new (Renewed i (Told seconds renewable date)) output g e last wakes ts s0 goes to_come from step calm =
    renewed_on s new i seconds date (request_out s.out i Renew) output g e last wakes ts s0 goes to_come from refl
    (subst (λ b. StepRenewed s (request_out s.out i Renew) (Told seconds b date) output new) calm.0 step) calm.1
step_on s new (Renewed i (Refused status date)) output g e last wakes ts s0 goes to_come from step calm = absurd calm
step_on s new (Renewed i Busy) output g e last wakes ts s0 goes to_come from step calm = absurd calm
step_on s new (Renewed i Lost) output g e last wakes ts s0 goes to_come from step calm = absurd calm
step_on s new (Looked i reply terms) output g e last wakes ts s0 goes to_come from step calm = absurd calm
step_on s new (Need i until) output g e last wakes ts s0 goes to_come from step calm = absurd calm
step_on s new Begin output g e last wakes ts s0 goes to_come from step calm = absurd calm
step_on s new (Known i end renewable) output g e last wakes ts s0 goes to_come from step calm = absurd calm

turn_on :
    (s new : WatchState) (event : WatchEvent) (result : Result WatchOutput WatchFault) (g : Forest) (e : ℕ → ℕ) (last : Wake) (wakes : List Wake) (ts : List ℕ) (s0 : ℕ) → Goes s g e last ts → wakes ≡ with_asks g.entries g.margin s0 e ts → s0 ≤ second s →
    Turn s event result new → IsCalmTurn s last.at event result → IsOn new g s0 e last wakes (round_of result) (requests_at_turn result)
turn_on s new event (Ok output) g e last wakes ts s0 goes to_come from turn calm = step_on s new event output g e last wakes ts s0 goes to_come from turn.1 calm
turn_on s new event (Err fault) g e last wakes ts s0 goes to_come from turn calm =
    subst (λ x. IsOn x g s0 e last wakes None []) (sym (refused_stays s new event fault turn)) (stays_on s s g e last wakes ts s0 goes to_come from refl)

-- whoever has no try ends as it should
as_it_should : (s : WatchState) (g : Forest) (e : ℕ → ℕ) (last : Wake) (ts : List ℕ) → Goes s g e last ts → EndAs e s
as_it_should s g e last ts goes i none =
    elim (goes.each i) as (λ _. ends s i ≡ e i) [
      | inl idle ↦ idle.end
      | inr tried ↦ absurd (some_not_none (attempt_at s i) tried.try tried.is none)
    ]

-- the second of the wake-up before is that in which the last round opened
opened_at : (new : WatchState) (round : Option (List ℕ)) (last : Wake) (wakes : List Wake) (now : Wake) (next : List Wake) → OpensNextWakeUp new round last wakes now next → began_after round last.at (second new) ≡ now.at
opened_at new None last wakes now next h = sym (ap (λ (w : Wake). w.at) h.0)
opened_at new (Some asked) last wakes now next h = sym (ap (λ (w : Wake). w.at) h.0)

-- a watch at rest
idle_at_rest : (s : WatchState) → StateIsAtRest s → (i : ℕ) → IsIdle s (ends s) i
idle_at_rest s rest i = record {
  none = rest.idle i;
  end = refl;
  owes = rest.owes i;
  out = rest.unmarked i;
  in_plan = λ wanted. rest.calm.in_plan i (short_led s rest.forest rest.calm.keepable i (wanted_short s i wanted (rest.calm.untopped i wanted))).within wanted;
  untopped = λ wanted. rest.calm.untopped i wanted;
  led = λ wanted. rest.calm.led i (short_led s rest.forest rest.calm.keepable i (wanted_short s i wanted (rest.calm.untopped i wanted))).within wanted;
}

-- there is a plan from it on
record IsPlanned (s : WatchState) : Type 0 where
  ts : List ℕ
  best : IsPlanNow s ts
  goes : Goes s (believed_forest s) (ends s) (no_wake_up s) ts
  to_come : wake_ups_from s ts ≡ with_asks (believed_forest s).entries (believed_forest s).margin (second s) (ends s) ts

planned : (s : WatchState) → StateIsAtRest s → IsPlanned s
unfolding believed_forest
planned s rest =
    let some = there_is_plan s rest.forest rest.calm.keepable rest.calm.in_plan rest.calm.untopped in
    record {
      ts = some.0;
      best = some.1.best;
      goes = record {
        forest = rest.forest;
        count = rest.count;
        begun = rest.begun;
        there = rest.there;
        same = refl;
        plan = some.1.best;
        each = λ i. inl (idle_at_rest s rest i);
        waits = λ i waiting none. (let k = sym (ap (list_any (λ (r : Out). r.entry == i)) rest.out) ∙ waiting in absurd cc);
      };
      to_come = refl;
    }

goes_by :
    (hs : List Happening) (s : WatchState) (g : Forest) (e : ℕ → ℕ) (last : Wake) (wakes : List Wake) (ts : List ℕ) (s0 : ℕ) → Goes s g e last ts → wakes ≡ with_asks g.entries g.margin s0 e ts → s0 ≤ second s →
    AllHappen s hs → AreCalm last.at s hs → GoBy g e last wakes hs
goes_by [] s g e last wakes ts s0 goes to_come from h calm = tt
goes_by (Hands turn ∷ hs) s g e last wakes ts s0 goes to_come from h calm =
    let on = turn_on s turn.state turn.event turn.result g e last wakes ts s0 goes to_come from h.0 calm.0 in
    let d = ends_left_by g e (round_of turn.result) on.now in
    let ends' : EndAs d turn.state = subst (λ f. EndAs f turn.state) on.so (as_it_should turn.state g on.e on.now on.ts on.goes) in
    let rest : GoBy g d on.now on.next hs = subst (λ f. GoBy g f on.now on.next hs) on.so (goes_by hs turn.state g on.e on.now on.next on.ts s0 on.goes on.to_come on.from h.1 (subst (λ n. AreCalm n turn.state hs) (opened_at turn.state (round_of turn.result) last wakes on.now on.next on.opens) calm.1)) in
    (on.now, (on.next, (on.opens, (on.sends, (ends', rest)))))
goes_by (Changes c ∷ hs) s g e last wakes ts s0 goes to_come from h calm =
    let new = c.state in
    let p = planned new calm.0 in
    (p.ts, (p.best, goes_by hs new (believed_forest new) (ends new) (no_wake_up new) (wake_ups_from new p.ts) p.ts (second new) p.goes p.to_come (omega arith) h.1 calm.1))

pub calm_days : CalmLaw
calm_days s hs rest happens calm =
    let p = planned s rest in
    (p.ts, (p.best, goes_by hs s (believed_forest s) (ends s) (no_wake_up s) (wake_ups_from s p.ts) p.ts (second s) p.goes p.to_come (omega arith) happens calm))
