-- The whole run: each tick by the plan in force, and so every list of ticks.
use Rattle.std.proofs.Common.{◌≡◌, ℕ, suc, ◌+◌, ◌<◌, ◌≤◌, true, false, cond, List, [], ◌∷◌, ◌++◌, Option, Some, None, Result, Ok, length, map, nat_lt, refl, sym, ap, ◌∙◌, subst, arith, inl, inr}
use Rattle.std.proofs.lemmas.{Bool.Decides.nat_tests, List.length-map, List.Sums.sum_by-cons}
use Rattle.std.proofs.lemmas.Bool.{cases_lt, cond-true, cond-false}
use Rattle.std.proofs.lemmas.List.Elements.{All-cons, All-nil, All-head, All-tail}
use Rattle.std.specs.List.{All}
use Rattle.base_moment.specs.declared.moment.TheConstants.{LAST}
use Rattle.plan_forest.specs.Forest.{Forest, end_of}
use Rattle.plan_rule.specs.{declared.wake.Wake.Wake, Plans.IsPlan, Plans.moments, Requests.requests, declared.limit.TheConstants.LIMIT}
use Rattle.plan_rule.specs.Asks.{asking, asks, first_of, with_asks}
use Rattle.plan_rule.proofs.LaterStart.{same_requests}
use Rattle.vault_inventory.specs.Inventories.{Inventory}
use Rattle.tick_keeper.specs.{declared.event.Event.TheVariants.Tick, declared.event.Output.Output, declared.fault.StepFault.StepFault, Refusal.step_refusal, Replan.IsPlanOf, Replan.Replan, History.CoreTurn, State.CoreState, Step.StepTick}
use Rattle.tick_keeper.specs.declared.event.Output.TheVariants as out
use Rattle.tick_keeper.proofs.Once.{once}
use Rattle.tick_keeper.proofs.Standing.{best_first, best_from, kept_plan, someone, tick}
use Rattle.tick_runs.specs.Closed.{AreAnswered, Beat, Exchanged, IsBeat, Played, World, asked_by_output, asks_some, next_by, next_tick, request_count, rounds, shorts_taken}
use Rattle.tick_runs.specs.Laws.{IsQuietBeat, IsToldByRule}
use Rattle.tick_runs.proofs.Asking.{asks_on}
use Rattle.tick_runs.proofs.Midway.{midway_first, settled, waiting}
use Rattle.tick_runs.proofs.Round.{AtRest, InRound, ok_same, round_goes}

-- when the next tick is, by the plan in force at t
abbrev pub Awaits : ℕ → List ℕ → Option ℕ → Type 0
Awaits t ts None = ts ≡ []
Awaits t ts (Some u) = (t ≤ u) × ((u ≤ LAST) × All (λ v. u ≤ v) ts)

-- ---- the keeper's turn at a tick

pub tick_says : Forest → ℕ → List ℕ → Output
tick_says g u [] = out.Idle
tick_says g u (v ∷ rest) = cond (nat_lt u v) (out.Sleep v) (out.Ask (asks g.entries g.margin u (end_of g.entries) u (first_of rest)))

pub tick_leaves : Forest → ℕ → List ℕ → CoreState
tick_leaves g u [] = settled g u []
tick_leaves g u (v ∷ rest) = cond (nat_lt u v) (settled g u (v ∷ rest)) (waiting g u rest (asks g.entries g.margin u (end_of g.entries) u (first_of rest)))

takes_tick : (g : Forest) (t u : ℕ) (ts : List ℕ) → t ≤ u → u ≤ LAST → step_refusal (settled g t ts) (Tick u) ≡ None
unfolding step_refusal
takes_tick g t u ts le late =
    let a : nat_lt LAST u ≡ false = grind (arith, nat_tests) in
    let b : nat_lt u t ≡ false = grind (arith, nat_tests) in
    cond-false (nat_lt LAST u) _ _ a ∙ cond-false (nat_lt u t) _ _ b

pub tick_turn :
    (g : Forest) (t u : ℕ) (ts : List ℕ) → IsPlanOf g t ts → length ts ≤ LIMIT → t ≤ u → u ≤ LAST → All (λ v. u ≤ v) ts →
    CoreTurn (settled g t ts) (Tick u) (Ok (tick_says g u ts)) (tick_leaves g u ts)
unfolding tick_says tick_leaves
tick_turn g t u [] plan few le late all =
    let replan : Replan (settled g t []) u (settled g u []) = kept_plan (settled g t []) u (plan, few) le all in
    (takes_tick g t u [] le late, (replan, refl))
tick_turn g t u (v ∷ rest) plan few le late all =
    let replan : Replan (settled g t (v ∷ rest)) u (settled g u (v ∷ rest)) = kept_plan (settled g t (v ∷ rest)) u (plan, few) le all in
    let asked = asks g.entries g.margin u (end_of g.entries) u (first_of rest) in
    let old = settled g t (v ∷ rest) in
    let first : u ≤ v = All-head (λ w. u ≤ w) v rest all in (
      takes_tick g t u (v ∷ rest) le late,
      elim (cases_lt u v) [
        | inl before ↦
            let yes' : nat_lt u v ≡ true = grind (arith, nat_tests) in
            subst (λ b. StepTick old u (cond b (out.Sleep v) (out.Ask asked)) (cond b (settled g u (v ∷ rest)) (waiting g u rest asked))) (sym yes') (replan, (refl, before))
        | inr not_before ↦
            let no' : nat_lt u v ≡ false = grind (arith, nat_tests) in
            let same : v ≡ u = omega arith in
            subst (λ b. StepTick old u (cond b (out.Sleep v) (out.Ask asked)) (cond b (settled g u (v ∷ rest)) (waiting g u rest asked))) (sym no')
            (settled g u (v ∷ rest), (replan, (rest, (ap (λ w. w ∷ rest) same, (refl, refl)))))
      ],
    )

-- ---- one tick

abbrev pub requests_from : Forest → ℕ → List ℕ → ℕ
requests_from g t ts = requests (with_asks g.entries g.margin t (end_of g.entries) ts)

-- what one tick leaves: the moments that are left, and what is still to be asked at them
pub record BeatDone (inventory : Inventory) (g : Forest) (ts : List ℕ) (b : Beat) (new : World) : Type 0 where
  pub rest : List ℕ
  pub rests : AtRest inventory new b.at rest
  pub awaits : Awaits b.at rest (next_tick b)
  pub moments : ts ≡ map (λ (c : Beat). c.at) (rounds (b ∷ [])) ++ rest
  pub requests : requests_from g b.at ts ≡ length b.answers + requests_from rests.g b.at rest
  pub quiet : IsQuietBeat inventory b

-- the same side by side, after an equation
moved : (inventory : Inventory) (w v : World) (t : ℕ) (ts : List ℕ) → AtRest inventory w t ts → v ≡ w → AtRest inventory v t ts
moved inventory w v t ts r same = record {
  g = r.g;
  keeper = ap (λ (x : World). x.keeper) same ∙ r.keeper;
  plan = r.plan;
  few = r.few;
  late = r.late;
  same = r.same;
  supplied = r.supplied;
  behind = r.behind;
  known = ap (λ (x : World). x.behind) same ∙ r.known;
  mirrors = r.mirrors;
  none = r.none;
}

pub nobody_answers : (xs : List Exchanged) → map (λ (x : Exchanged). x.entry) xs ≡ [] → xs ≡ []
nobody_answers [] e = refl
nobody_answers (x ∷ xs) e = absurd cc

pub within_last : (g : Forest) (t v : ℕ) (rest : List ℕ) → IsPlanOf g t (v ∷ rest) → v ≤ LAST
within_last g t v rest best = by_plan best.plan best.in_order best.at_these where
  by_plan : (ws : List Wake) → IsPlan t ws → moments ws ≡ v ∷ rest → v ≤ LAST
  by_plan [] plan is = absurd cc
  by_plan (w ∷ ws) plan is = let first : w.at ≡ v = cc in let l : w.at ≤ LAST = plan.1.0 in omega arith

-- the next tick is at the first moment that is left
awaits_first : (g : Forest) (t : ℕ) (ts : List ℕ) → IsPlanOf g t ts → Awaits t ts (first_of ts)
awaits_first g t [] plan = refl
awaits_first g t (v ∷ rest) plan = let first = best_first g t v rest plan in (first.0, (within_last g t v rest plan, first.1))

-- a tick at which nobody is asked
still :
    (inventory : Inventory) (port : ℕ) (w new : World) (t : ℕ) (ts : List ℕ) (b : Beat) (r : AtRest inventory w t ts) → t ≤ b.at → b.at ≤ LAST → All (λ v. b.at ≤ v) ts → (beat : IsBeat port inventory.credentials w b new) →
    asked_by_output b.output ≡ [] → asks_some b.output ≡ false → beat.keeper ≡ settled r.g b.at ts → Awaits b.at ts (next_tick b) → BeatDone inventory r.g ts b new
unfolding rounds
still inventory port w new t ts b r le late all beat nobody quiet is awaits =
    let none = nobody_answers b.answers (beat.asked ∙ nobody) in
    let stays : new ≡ record { keeper = shorts_taken beat.keeper; behind = w.behind } =
    subst (λ xs. AreAnswered port inventory.credentials b.at (record { keeper = shorts_taken beat.keeper; behind = w.behind }) xs new) none beat.answered in
    record {
      rest = ts;
      rests = record {
        g = r.g;
        keeper = ap (λ (x : World). x.keeper) stays ∙ ap shorts_taken is;
        plan = (tick r.g t b.at ts le all r.plan).1.1;
        few = r.few;
        late = late;
        same = r.same;
        supplied = r.supplied;
        behind = r.behind;
        known = ap (λ (x : World). x.behind) stays ∙ r.known;
        mirrors = λ m from. r.mirrors m (omega arith);
        none = r.none;
      };
      awaits = awaits;
      moments = sym (ap (λ c. map (λ (d : Beat). d.at) (cond c (b ∷ []) []) ++ ts) quiet);
      requests = (let zero' : length b.answers ≡ 0 = ap length none in omega arith);
      quiet = record { short = beat.short ∙ ap (λ (q : CoreState). q.shortened) is; told = subst (All (IsToldByRule inventory b.at)) (sym none) (All-nil (IsToldByRule inventory b.at)) };
    }

some_of : (xs : List ℕ) → 0 < length xs → (i : ℕ) × ((todo : List ℕ) × (xs ≡ i ∷ todo))
some_of [] some = absurd (omega arith)
some_of (x ∷ xs) some = (x, (xs, refl))

-- a tick that opens a round
opens :
    (inventory : Inventory) (port : ℕ) (w new : World) (t : ℕ) (rest : List ℕ) (b : Beat) (r : AtRest inventory w t (b.at ∷ rest)) → t ≤ b.at → b.at ≤ LAST → All (λ v. b.at ≤ v) (b.at ∷ rest) → (beat : IsBeat port inventory.credentials w b new) →
    b.output ≡ out.Ask (asks r.g.entries r.g.margin b.at (end_of r.g.entries) b.at (first_of rest)) →
    beat.keeper ≡ waiting r.g b.at rest (asks r.g.entries r.g.margin b.at (end_of r.g.entries) b.at (first_of rest)) → BeatDone inventory r.g (b.at ∷ rest) b new
unfolding rounds
opens inventory port w new t rest b r le late all beat asks_is is =
    let g = r.g in
    let u = b.at in
    let asked = asks g.entries g.margin u (end_of g.entries) u (first_of rest) in
    let plan = (tick g t u (u ∷ rest) le all r.plan).1.1 in
    let some = some_of asked (someone g u u rest r.supplied.forest plan) in
    let i = some.0 in
    let todo = some.1.0 in
    let first : asked ≡ i ∷ todo = some.1.1 in
    let start : World = record { keeper = shorts_taken beat.keeper; behind = w.behind } in
    let open' : InRound inventory start g g u rest asked = record {
      keeper = ap shorts_taken is;
      forest = r.supplied.forest;
      plan = plan;
      mid = midway_first g u rest;
      few = let f : suc (length rest) ≤ LIMIT = r.few in omega arith;
      late = late;
      same = r.same;
      supplied = r.supplied;
      behind = r.behind;
      known = r.known;
      mirrors = λ m from. r.mirrors m (omega arith);
      none = r.none;
    } in
    let who : map (λ (x : Exchanged). x.entry) b.answers ≡ asked = beat.asked ∙ ap asked_by_output asks_is in
    let done = round_goes inventory port g u rest i todo b.answers start new g None (subst (InRound inventory start g g u rest) first open') (who ∙ first) beat.answered in
    let next : next_tick b ≡ first_of rest = ap (λ o. next_by o b.answers) asks_is ∙ done.closes in
    let count : length b.answers ≡ length asked = sym (length-map b.answers (λ (x : Exchanged). x.entry)) ∙ ap length who in
    record {
      rest = rest;
      rests = done.rests;
      awaits = subst (Awaits u rest) (sym next) (awaits_first done.rests.g u rest done.rests.plan);
      moments = sym (ap (λ c. map (λ (d : Beat). d.at) (cond c (b ∷ []) []) ++ rest) (ap asks_some asks_is));
      requests =
          ap requests (asks_on g done.rests.g r.supplied.forest u rest done.answered)
          ∙ sum_by-cons (λ (v : Wake). length v.asked) (asking g.entries g.margin u (end_of g.entries) u (first_of rest)) (with_asks done.rests.g.entries done.rests.g.margin u (end_of done.rests.g.entries) rest)
          ∙ ap (λ n. n + requests_from done.rests.g u rest) (sym count);
      quiet = record { short = beat.short ∙ ap (λ (q : CoreState). q.shortened) is; told = done.told };
    }

at_moment : (inventory : Inventory) (w : World) (t v u : ℕ) (rest : List ℕ) → AtRest inventory w t (v ∷ rest) → v ≡ u → AtRest inventory w t (u ∷ rest)
at_moment inventory w t v u rest r same = record {
  g = r.g;
  keeper = r.keeper ∙ ap (λ n. settled r.g t (n ∷ rest)) same;
  plan = subst (λ n. IsPlanOf r.g t (n ∷ rest)) same r.plan;
  few = r.few;
  late = r.late;
  same = r.same;
  supplied = r.supplied;
  behind = r.behind;
  known = r.known;
  mirrors = r.mirrors;
  none = r.none;
}

pub beat_goes :
    (inventory : Inventory) (port : ℕ) (w new : World) (t : ℕ) (ts : List ℕ) (b : Beat) (r : AtRest inventory w t ts) → Awaits t ts (Some b.at) → IsBeat port inventory.credentials w b new → BeatDone inventory r.g ts b new
unfolding tick_says tick_leaves at_moment
beat_goes inventory port w new t [] b r awaits beat =
    let u = b.at in
    let turn : CoreTurn (settled r.g t []) (Tick u) (Ok b.output) beat.keeper = subst (λ (q : CoreState). CoreTurn q (Tick u) (Ok b.output) beat.keeper) r.keeper beat.turn in
    let one = once (settled r.g t []) beat.keeper (settled r.g u []) (Tick u) (Ok b.output) (Ok out.Idle) (λ bad. cc) (λ bad. cc) turn (tick_turn r.g t u [] r.plan r.few awaits.0 awaits.1.0 awaits.1.1) in
    let output = ok_same b.output out.Idle one.0 in
    still inventory port w new t [] b r awaits.0 awaits.1.0 awaits.1.1 beat (ap asked_by_output output) (ap asks_some output) one.1 (subst (Awaits u []) (sym (ap (λ o. next_by o b.answers) output)) refl)
beat_goes inventory port w new t (v ∷ rest) b r awaits beat =
    let u = b.at in
    let ts = v ∷ rest in
    let turn : CoreTurn (settled r.g t ts) (Tick u) (Ok b.output) beat.keeper = subst (λ (q : CoreState). CoreTurn q (Tick u) (Ok b.output) beat.keeper) r.keeper beat.turn in
    let one = once (settled r.g t ts) beat.keeper (tick_leaves r.g u ts) (Tick u) (Ok b.output) (Ok (tick_says r.g u ts)) (λ bad. cc) (λ bad. cc) turn (tick_turn r.g t u ts r.plan r.few awaits.0 awaits.1.0 awaits.1.1) in
    let asked = asks r.g.entries r.g.margin u (end_of r.g.entries) u (first_of rest) in
    let says = ok_same b.output (tick_says r.g u ts) one.0 in
    let low : u ≤ v = All-head (λ n. u ≤ n) v rest awaits.1.1 in
    elim (cases_lt u v) [
      | inl before ↦
          let yes' : nat_lt u v ≡ true = grind (arith, nat_tests) in
          let output = says ∙ cond-true (nat_lt u v) (out.Sleep v) (out.Ask asked) yes' in
          let keeper = one.1 ∙ cond-true (nat_lt u v) (settled r.g u ts) (waiting r.g u rest asked) yes' in
          let first = best_first r.g t v rest r.plan in
          still inventory port w new t ts b r awaits.0 awaits.1.0 awaits.1.1 beat (ap asked_by_output output) (ap asks_some output) keeper
          (subst (Awaits u ts) (sym (ap (λ o. next_by o b.answers) output)) (low, (within_last r.g t v rest r.plan, first.1)))
      | inr not_before ↦
          let no' : nat_lt u v ≡ false = grind (arith, nat_tests) in
          let same : v ≡ u = omega arith in
          let output = says ∙ cond-false (nat_lt u v) (out.Sleep v) (out.Ask asked) no' in
          let keeper = one.1 ∙ cond-false (nat_lt u v) (settled r.g u ts) (waiting r.g u rest asked) no' in
          subst (λ n. BeatDone inventory r.g (n ∷ rest) b new) (sym same)
          (opens inventory port w new t rest b (at_moment inventory w t v u rest r same) awaits.0 awaits.1.0 (subst (λ n. All (λ k. u ≤ k) (n ∷ rest)) same awaits.1.1) beat output keeper)
    ]

same_asked : (a b : List ℕ) → ◌≡◌ {A = Result Output StepFault} (Ok (out.Ask a)) (Ok (out.Ask b)) → a ≡ b
same_asked a b e = cc

-- a tick that asks has a moment to come
pub asks_left :
    (inventory : Inventory) (w : World) (t : ℕ) (ts : List ℕ) (u : ℕ) (r : AtRest inventory w t ts) → Awaits t ts (Some u) → (asked : List ℕ) (keeper : CoreState) → CoreTurn w.keeper (Tick u) (Ok (out.Ask asked)) keeper → 0 < length ts
unfolding tick_says tick_leaves
asks_left inventory w t [] u r awaits asked keeper turn =
    let now : CoreTurn (settled r.g t []) (Tick u) (Ok (out.Ask asked)) keeper = subst (λ (q : CoreState). CoreTurn q (Tick u) (Ok (out.Ask asked)) keeper) r.keeper turn in
    let one = once (settled r.g t []) keeper (settled r.g u []) (Tick u) (Ok (out.Ask asked)) (Ok out.Idle) (λ bad. cc) (λ bad. cc) now (tick_turn r.g t u [] r.plan r.few awaits.0 awaits.1.0 awaits.1.1) in
    absurd (let bad = one.0 in cc)
asks_left inventory w t (v ∷ rest) u r awaits asked keeper turn = omega arith

-- a tick that asks opens a round
pub asks_open :
    (inventory : Inventory) (w : World) (t : ℕ) (ts : List ℕ) (u : ℕ) (r : AtRest inventory w t ts) → Awaits t ts (Some u) → (asked : List ℕ) (keeper : CoreState) → CoreTurn w.keeper (Tick u) (Ok (out.Ask asked)) keeper →
    (rest : List ℕ) × InRound inventory (record { keeper = shorts_taken keeper; behind = w.behind }) r.g r.g u rest asked
unfolding tick_says tick_leaves
asks_open inventory w t [] u r awaits asked keeper turn =
    let now : CoreTurn (settled r.g t []) (Tick u) (Ok (out.Ask asked)) keeper = subst (λ (q : CoreState). CoreTurn q (Tick u) (Ok (out.Ask asked)) keeper) r.keeper turn in
    let one = once (settled r.g t []) keeper (settled r.g u []) (Tick u) (Ok (out.Ask asked)) (Ok out.Idle) (λ bad. cc) (λ bad. cc) now (tick_turn r.g t u [] r.plan r.few awaits.0 awaits.1.0 awaits.1.1) in
    absurd (let bad = one.0 in cc)
asks_open inventory w t (v ∷ rest) u r awaits asked keeper turn =
    let g = r.g in
    let ts = v ∷ rest in
    let now : CoreTurn (settled g t ts) (Tick u) (Ok (out.Ask asked)) keeper = subst (λ (q : CoreState). CoreTurn q (Tick u) (Ok (out.Ask asked)) keeper) r.keeper turn in
    let one = once (settled g t ts) keeper (tick_leaves g u ts) (Tick u) (Ok (out.Ask asked)) (Ok (tick_says g u ts)) (λ bad. cc) (λ bad. cc) now (tick_turn g t u ts r.plan r.few awaits.0 awaits.1.0 awaits.1.1) in
    let want = asks g.entries g.margin u (end_of g.entries) u (first_of rest) in
    let low : u ≤ v = All-head (λ n. u ≤ n) v rest awaits.1.1 in
    elim (cases_lt u v) [
      | inl before ↦
          let yes' : nat_lt u v ≡ true = grind (arith, nat_tests) in
          let says : ◌≡◌ {A = Result Output StepFault} (Ok (out.Ask asked)) (Ok (out.Sleep v)) = one.0 ∙ ap (λ o. Ok o) (cond-true (nat_lt u v) (out.Sleep v) (out.Ask want) yes') in
          absurd cc
      | inr not_before ↦
          let no' : nat_lt u v ≡ false = grind (arith, nat_tests) in
          let same : v ≡ u = omega arith in
          let says = one.0 ∙ ap (λ o. Ok o) (cond-false (nat_lt u v) (out.Sleep v) (out.Ask want) no') in
          let who : asked ≡ want = same_asked asked want says in
          let leaves = one.1 ∙ cond-false (nat_lt u v) (settled g u ts) (waiting g u rest want) no' in (
            rest,
            subst (InRound inventory (record { keeper = shorts_taken keeper; behind = w.behind }) g g u rest) (sym who) (record {
              keeper = ap shorts_taken leaves;
              forest = r.supplied.forest;
              plan = subst (λ n. IsPlanOf g u (n ∷ rest)) same (tick g t u ts awaits.0 awaits.1.1 r.plan).1.1;
              mid = midway_first g u rest;
              few = (let f : suc (length rest) ≤ LIMIT = r.few in omega arith);
              late = awaits.1.0;
              same = r.same;
              supplied = r.supplied;
              behind = r.behind;
              known = r.known;
              mirrors = λ m from. r.mirrors m (let le : t ≤ u = awaits.0 in omega arith);
              none = r.none;
            }),
          )
    ]

-- ---- the run

pub record RunDone (inventory : Inventory) (g : Forest) (t : ℕ) (ts : List ℕ) (beats : List Beat) (final : World) (next : Option ℕ) : Type 0 where
  pub last : ℕ
  pub rest : List ℕ
  pub rests : AtRest inventory final last rest
  pub awaits : Awaits last rest next
  pub moments : ts ≡ map (λ (c : Beat). c.at) (rounds beats) ++ rest
  pub requests : requests_from g t ts ≡ request_count beats + requests_from rests.g last rest
  pub quiet : All (IsQuietBeat inventory) beats
  pub bound : (m : ℕ) → t ≤ m → All (λ (c : Beat). c.at ≤ m) beats → last ≤ m

more_moments : (b : Beat) (bs : List Beat) (rest : List ℕ) → map (λ (c : Beat). c.at) (rounds (b ∷ [])) ++ (map (λ (c : Beat). c.at) (rounds bs) ++ rest) ≡ map (λ (c : Beat). c.at) (rounds (b ∷ bs)) ++ rest
unfolding rounds
more_moments b bs rest = elim (asks_some b.output) as (λ c. map (λ (d : Beat). d.at) (cond c (b ∷ []) []) ++ (map (λ (d : Beat). d.at) (rounds bs) ++ rest) ≡ map (λ (d : Beat). d.at) (cond c (b ∷ rounds bs) (rounds bs)) ++ rest) [
  | true ↦ refl
  | false ↦ refl
]

pub more_requests : (b : Beat) (bs : List Beat) → request_count (b ∷ bs) ≡ length b.answers + request_count bs
unfolding request_count
more_requests b bs = sum_by-cons (λ (c : Beat). length c.answers) b bs

no_moments : (ts : List ℕ) → ts ≡ map (λ (c : Beat). c.at) (rounds []) ++ ts
unfolding rounds
no_moments ts = refl

no_beats : request_count [] ≡ 0
unfolding request_count
no_beats = refl

no_requests : (n : ℕ) → n ≡ request_count [] + n
no_requests n = let none = no_beats in omega arith

pub run_goes :
    (inventory : Inventory) (port : ℕ) (beats : List Beat) (w final : World) (t : ℕ) (ts : List ℕ) (r : AtRest inventory w t ts) (due next : Option ℕ) → Awaits t ts due →
    Played port inventory.credentials w due beats final next → RunDone inventory r.g t ts beats final next
unfolding moved
run_goes inventory port [] w final t ts r due next awaits played = record {
  last = t;
  rest = ts;
  rests = moved inventory w final t ts r played.0;
  awaits = subst (Awaits t ts) (sym played.1) awaits;
  moments = no_moments ts;
  requests = no_requests (requests_from r.g t ts);
  quiet = All-nil (IsQuietBeat inventory);
  bound = λ m from all. from;
}
run_goes inventory port (b ∷ bs) w final t ts r None next awaits played = absurd played
run_goes inventory port (b ∷ bs) w final t ts r (Some u) next awaits played =
    let here : b.at ≡ u = played.0 in
    let mid = played.1.0 in
    let now : Awaits t ts (Some b.at) = subst (λ n. Awaits t ts (Some n)) (sym here) awaits in
    let one = beat_goes inventory port w mid t ts b r now played.1.1.0 in
    let more = run_goes inventory port bs mid final b.at one.rest one.rests (next_tick b) next one.awaits played.1.1.1 in
    let earlier = same_requests r.g.entries r.g.margin t b.at (end_of r.g.entries) ts (best_from r.g t ts r.plan) now.1.1 in
    record {
      last = more.last;
      rest = more.rest;
      rests = more.rests;
      awaits = more.awaits;
      moments = one.moments ∙ ap (λ xs. map (λ (c : Beat). c.at) (rounds (b ∷ [])) ++ xs) more.moments ∙ more_moments b bs more.rest;
      requests = (let a = ap requests earlier in let c = one.requests in let d = more.requests in let e = more_requests b bs in omega arith);
      quiet = All-cons (IsQuietBeat inventory) b bs one.quiet more.quiet;
      bound = λ m from all. more.bound m (All-head (λ (c : Beat). c.at ≤ m) b bs all) (All-tail (λ (c : Beat). c.at ≤ m) b bs all);
    }
