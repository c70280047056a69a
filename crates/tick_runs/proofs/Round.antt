-- One round: each asked entry is granted the rule's end, and the round closes on the rest of the plan.
use Rattle.std.proofs.Common.{◌≡◌, ℕ, ◌+◌, ◌-◌, ◌<◌, ◌≤◌, true, List, [], ◌∷◌, ◌++◌, Option, Some, Result, Ok, length, map, refl, sym, ap, ◌∙◌, subst, arith, inl, inr}
use Rattle.std.proofs.lemmas.{Bool.cases_eq, List.Elements.All-cons, List.Elements.All-nil}
use Rattle.std.specs.List.{All}
use Rattle.base_moment.specs.declared.moment.TheConstants.{LAST}
use Rattle.plan_forest.specs.{declared.entry.Entry.Entry, Forest.Forest, Forest.entry_at, Push.IsForest, Renewal.renewal}
use Rattle.plan_rule.specs.{Asks.first_of, declared.limit.TheConstants.LIMIT}
use Rattle.vault_inventory.specs.Inventories.{IsInventory, Inventory, credential_at}
use Rattle.broker_rule.specs.{Table.BrokerTable, Faults.next_number, Renewing.with_row, Listed.rows_listed, Granted.call_for}
use Rattle.broker_rule.specs.Step.{BrokerOutcome, SaysAnswer, broker_step, tells}
use Rattle.vault_http.specs.declared.reply.Reply.{Reply}
use Rattle.tick_keeper.specs.{declared.event.Event.TheVariants.Told, declared.event.Output.Output, declared.fault.StepFault.StepFault, LawsOfPlans.IsAnsweredByRule, Replan.IsPlanOf, History.CoreTurn, State.CoreState}
use Rattle.tick_keeper.proofs.{Once.once, Standing.tail_kept}
use Rattle.tick_runs.specs.{Laws.IsToldByRule, Replies.event_for, Replies.event_of}
use Rattle.tick_runs.specs.Closed.{AreAnswered, Exchanged, RequestIsAnswered, World, closing, event_in, shorts_taken, told_next}
use Rattle.tick_runs.specs.Mirrors.{Mirrors, with_entry_end, with_forest}
use Rattle.vault_exchange.specs.{Exchanges.Behind, Requests.RequestIsAsked, Requests.renewal_request}
use Rattle.tick_runs.proofs.{OneAnswer.asked_known, OneAnswer.table_after, Replying.tells_rule, Serving.renewed_row, Serving.serves}
use Rattle.tick_runs.proofs.Mirroring.{ended_other, ended_same, ended_supplied, mirrors_listed, renewal_within, with_row_listed}
use Rattle.tick_runs.proofs.Midway.{Midway, heard_as, heard_state, here_first, is_due, midway_last, midway_more, settled, told_turn, waiting}

-- h is g but for the ends
abbrev pub SameBut : Forest → Forest → Type 0
SameBut g h = (i : ℕ) → entry_at h.entries i ≡ record (entry_at g.entries i) { end = (entry_at h.entries i).end }

same_after : (g h : Forest) (i end : ℕ) → i < length h.entries → SameBut g h → SameBut g (with_entry_end h i end)
same_after g h i end within same j = elim (cases_eq j i) [
  | inl here ↦
      let k = with_entry_end h i end in
      let is : entry_at k.entries j ≡ record (entry_at h.entries j) { end = end } = ap (entry_at k.entries) here ∙ ended_same h i end within ∙ ap (λ n. record (entry_at h.entries n) { end = end }) (sym here) in
      is ∙ ap (λ (e : Entry). record e { end = end }) (same j) ∙ ap (λ n. record (entry_at g.entries j) { end = n }) (sym (ap (λ (e : Entry). e.end) is))
  | inr apart ↦
      let is = ended_other h i end j apart in
      is ∙ same j ∙ ap (λ n. record (entry_at g.entries j) { end = n }) (sym (ap (λ (e : Entry). e.end) is))
]

same_renewal : (g h : Forest) → SameBut g h → (i t : ℕ) → renewal (entry_at h.entries i) t ≡ renewal (entry_at g.entries i) t
unfolding renewal
same_renewal g h same i t = ap (λ (e : Entry). renewal e t) (same i)

-- no round is open: the plan in force is these moments, and the table mirrors the forest
pub record AtRest (inventory : Inventory) (w : World) (t : ℕ) (ts : List ℕ) : Type 0 where
  pub g : Forest
  pub keeper : w.keeper ≡ settled g t ts
  pub plan : IsPlanOf g t ts
  pub few : length ts ≤ LIMIT
  pub late : t ≤ LAST
  pub same : SameBut inventory.forest g
  pub supplied : IsInventory (with_forest inventory g)
  pub behind : Behind
  pub known : w.behind ≡ Some behind
  pub mirrors : Mirrors (with_forest inventory g) t behind.table.rows
  pub none : behind.table.faults ≡ []

-- a round is open over g, and has led to h
pub record InRound (inventory : Inventory) (w : World) (g h : Forest) (t : ℕ) (rest todo : List ℕ) : Type 0 where
  pub keeper : w.keeper ≡ waiting h t rest todo
  pub forest : IsForest g
  pub plan : IsPlanOf g t (t ∷ rest)
  pub mid : Midway g t rest todo h
  pub few : length rest ≤ LIMIT
  pub late : t ≤ LAST
  pub same : SameBut inventory.forest h
  pub supplied : IsInventory (with_forest inventory h)
  pub behind : Behind
  pub known : w.behind ≡ Some behind
  pub mirrors : Mirrors (with_forest inventory h) t behind.table.rows
  pub none : behind.table.faults ≡ []

-- what one answer leaves
pub record IsGranted (inventory : Inventory) (h : Forest) (t : ℕ) (rest : List ℕ) (i : ℕ) (todo : List ℕ) (x : Exchanged) (new : World) : Type 0 where
  pub output : x.output ≡ heard_as rest todo
  pub told : IsToldByRule inventory t x
  pub keeper : new.keeper ≡ heard_state (with_entry_end h i (renewal (entry_at h.entries i) t)) t rest todo
  pub supplied : IsInventory (with_forest inventory (with_entry_end h i (renewal (entry_at h.entries i) t)))
  pub behind : Behind
  pub known : new.behind ≡ Some behind
  pub mirrors : Mirrors (with_forest inventory (with_entry_end h i (renewal (entry_at h.entries i) t))) t behind.table.rows
  pub none : behind.table.faults ≡ []

heard_short : (h : Forest) (t : ℕ) (rest todo : List ℕ) → (heard_state h t rest todo).shortened ≡ []
heard_short h t rest [] = refl
heard_short h t rest (j ∷ more) = refl

heard_taken : (h : Forest) (t : ℕ) (rest todo : List ℕ) → shorts_taken (heard_state h t rest todo) ≡ heard_state h t rest todo
heard_taken h t rest [] = refl
heard_taken h t rest (j ∷ more) = refl

event_is : (port : ℕ) (cs : List (List ℕ)) (g : Forest) (x : Exchanged) → event_in cs g x ≡ event_for cs g x.entry x.reply
unfolding event_in
event_is port cs g x = refl

pub ok_same : (a b : Output) → ◌≡◌ {A = Result Output StepFault} (Ok a) (Ok b) → a ≡ b
ok_same a b e = cc

pub grants :
    (inventory : Inventory) (port : ℕ) (w new : World) (g h : Forest) (t : ℕ) (rest : List ℕ) (i : ℕ) (todo : List ℕ) (x : Exchanged) → InRound inventory w g h t rest (i ∷ todo) →
    RequestIsAnswered port inventory.credentials t w x new → x.entry ≡ i → IsGranted inventory h t rest i todo x new
grants inventory port w new g h t rest i todo x r a here =
    let s = with_forest inventory h in
    let cs = inventory.credentials in
    let e = entry_at h.entries i in
    let end = renewal e t in
    let n = end - t in
    let k = with_entry_end h i end in
    let due = is_due g r.forest t rest (i ∷ todo) h r.mid i (here_first i todo) in
    let late = r.late in
    let within = due.within in
    let far : end ≤ t + 4294967295 = renewal_within e t late (r.supplied.steps i within) in
    let grows : e.end < end = due.grows in
    let later : t < e.end = due.later in
    let sums : t + n ≡ end = omega arith in
    let forest_is : w.keeper.forest ≡ h = ap (λ (q : CoreState). q.forest) r.keeper in
    let request : renewal_request port cs w.keeper.forest x.entry ≡ renewal_request port cs h i = ap (λ f. renewal_request port cs f x.entry) forest_is ∙ ap (renewal_request port cs h) here in
    let served = asked_known w.behind r.behind t (renewal_request port cs w.keeper.forest x.entry) x.reply new.behind r.known a.asked in
    let left = table_after r.behind.table t (renewal_request port cs w.keeper.forest x.entry) x.reply new.behind served in
    let outcome = ap (broker_step r.behind.table t) request ∙ serves s r.supplied port t i r.behind.table within due.able due.alive r.none (r.mirrors t (omega arith)) in
    let says : SaysAnswer t (tells (call_for e.kind) (renewed_row s t i)) served.sent = subst (λ (o : BrokerOutcome). SaysAnswer t o.answer served.sent) outcome served.says in
    let told : event_for cs h i x.reply ≡ Told i n true = ap (event_for cs h i) served.reply_is ∙ tells_rule s r.supplied t i late within due.able served.sent says in
    let event : event_in cs w.keeper.forest x ≡ Told i n true = event_is port cs w.keeper.forest x ∙ ap (λ f. event_for cs f x.entry x.reply) forest_is ∙ ap (λ j. event_for cs h j x.reply) here ∙ told in
    let turn : CoreTurn (waiting h t rest (i ∷ todo)) (Told i n true) (Ok x.output) a.keeper = subst (λ (q : CoreState). CoreTurn q (Told i n true) (Ok x.output) a.keeper) r.keeper
    (subst (λ v. CoreTurn w.keeper v (Ok x.output) a.keeper) event a.turn) in
    let known = told_turn g r.forest t rest i todo h r.plan r.few r.mid due n (omega arith) sums in
    let one = once (waiting h t rest (i ∷ todo)) a.keeper (heard_state k t rest todo) (Told i n true) (Ok x.output) (Ok (heard_as rest todo)) (λ bad. cc) (λ bad. cc) turn known in
    let table : left.0.table ≡ record { rows = with_row (rows_listed s t) (renewed_row s t i); faults = []; count = next_number r.behind.table.count } = left.1.1 ∙ ap (λ (o : BrokerOutcome). o.table) outcome in
    let supplied = ended_supplied s r.supplied i end within (omega arith) in
    let rows = ap (λ (l : BrokerTable). l.rows) table ∙ with_row_listed s r.supplied.forest t i end within later (omega arith) in
    let kind : e.kind ≡ (entry_at inventory.forest.entries i).kind = ap (λ (y : Entry). y.kind) (r.same i) in
    record {
      output = ok_same x.output (heard_as rest todo) one.0;
      told = record {
        seconds = n;
        told = event_is port cs inventory.forest x ∙ ap (λ j. event_for cs inventory.forest j x.reply) here
            ∙ ap (λ q. event_of q (credential_at cs i) i x.reply) (sym kind) ∙ told ∙ ap (λ j. Told j n true) (sym here);
        by_rule = sums ∙ same_renewal inventory.forest h r.same i t ∙ ap (λ j. renewal (entry_at inventory.forest.entries j) t) (sym here);
        short = a.short ∙ ap (λ (q : CoreState). q.shortened) one.1 ∙ heard_short k t rest todo;
      };
      keeper = a.taken_is ∙ ap shorts_taken one.1 ∙ heard_taken k t rest todo;
      supplied = supplied;
      behind = left.0;
      known = left.1.0;
      mirrors = subst (Mirrors (with_forest inventory k) t) (sym rows) (mirrors_listed (with_forest inventory k) supplied.forest t);
      none = ap (λ (l : BrokerTable). l.faults) table;
    }

-- what a whole round leaves
pub record RoundDone (inventory : Inventory) (g : Forest) (t : ℕ) (rest : List ℕ) (xs : List Exchanged) (before : Option ℕ) (new : World) : Type 0 where
  pub rests : AtRest inventory new t rest
  pub answered : IsAnsweredByRule g rests.g t (first_of rest)
  pub told : All (IsToldByRule inventory t) xs
  pub closes : closing before xs ≡ first_of rest

pub round_goes :
    (inventory : Inventory) (port : ℕ) (g : Forest) (t : ℕ) (rest : List ℕ) (i : ℕ) (todo : List ℕ) (xs : List Exchanged) (w new : World) (h : Forest) (before : Option ℕ) →
    InRound inventory w g h t rest (i ∷ todo) → map (λ (x : Exchanged). x.entry) xs ≡ i ∷ todo → AreAnswered port inventory.credentials t w xs new → RoundDone inventory g t rest xs before new
round_goes inventory port g t rest i todo [] w new h before r asked answers = absurd cc
round_goes inventory port g t rest i [] (x ∷ []) w new h before r asked answers =
    let here : x.entry ≡ i = cc in
    let mid = answers.0 in
    let e = grants inventory port w mid g h t rest i [] x r answers.1.0 here in
    let last : new ≡ mid = answers.1.1 in
    let k = with_entry_end h i (renewal (entry_at h.entries i) t) in
    let due = is_due g r.forest t rest (i ∷ []) h r.mid i (here_first i []) in
    let after = midway_last g t rest k (midway_more g t rest i [] h r.mid due.within) in
    let stays = tail_kept g k t rest r.forest r.plan after in
    record {
      rests = record {
        g = k;
        keeper = ap (λ (v : World). v.keeper) last ∙ e.keeper;
        plan = stays.1.1;
        few = r.few;
        late = r.late;
        same = same_after inventory.forest h i (renewal (entry_at h.entries i) t) due.within r.same;
        supplied = e.supplied;
        behind = e.behind;
        known = ap (λ (v : World). v.behind) last ∙ e.known;
        mirrors = e.mirrors;
        none = e.none;
      };
      answered = after;
      told = All-cons (IsToldByRule inventory t) x [] e.told (All-nil (IsToldByRule inventory t));
      closes = ap (told_next before) e.output;
    }
round_goes inventory port g t rest i [] (x ∷ y ∷ xs) w new h before r asked answers = absurd cc
round_goes inventory port g t rest i (j ∷ more) (x ∷ xs) w new h before r asked answers =
    let here : x.entry ≡ i = cc in
    let others : map (λ (y : Exchanged). y.entry) xs ≡ j ∷ more = cc in
    let mid = answers.0 in
    let e = grants inventory port w mid g h t rest i (j ∷ more) x r answers.1.0 here in
    let k = with_entry_end h i (renewal (entry_at h.entries i) t) in
    let due = is_due g r.forest t rest (i ∷ j ∷ more) h r.mid i (here_first i (j ∷ more)) in
    let next : InRound inventory mid g k t rest (j ∷ more) = record {
      keeper = e.keeper;
      forest = r.forest;
      plan = r.plan;
      mid = midway_more g t rest i (j ∷ more) h r.mid due.within;
      few = r.few;
      late = r.late;
      same = same_after inventory.forest h i (renewal (entry_at h.entries i) t) due.within r.same;
      supplied = e.supplied;
      behind = e.behind;
      known = e.known;
      mirrors = e.mirrors;
      none = e.none;
    } in
    let done = round_goes inventory port g t rest j more xs mid new k before next others answers.1.1 in
    record {
      rests = done.rests;
      answered = done.answered;
      told = All-cons (IsToldByRule inventory t) x xs e.told done.told;
      closes = ap (λ o. closing o xs) (ap (told_next before) e.output) ∙ done.closes;
    }

-- ---- a part of a round

goes_on :
    (inventory : Inventory) (port : ℕ) (g : Forest) (t : ℕ) (rest : List ℕ) (i j : ℕ) (more : List ℕ) (x : Exchanged) (w mid : World) (h : Forest) → InRound inventory w g h t rest (i ∷ j ∷ more) →
    RequestIsAnswered port inventory.credentials t w x mid → x.entry ≡ i → InRound inventory mid g (with_entry_end h i (renewal (entry_at h.entries i) t)) t rest (j ∷ more)
goes_on inventory port g t rest i j more x w mid h r a here =
    let e = grants inventory port w mid g h t rest i (j ∷ more) x r a here in
    let due = is_due g r.forest t rest (i ∷ j ∷ more) h r.mid i (here_first i (j ∷ more)) in
    record {
      keeper = e.keeper;
      forest = r.forest;
      plan = r.plan;
      mid = midway_more g t rest i (j ∷ more) h r.mid due.within;
      few = r.few;
      late = r.late;
      same = same_after inventory.forest h i (renewal (entry_at h.entries i) t) due.within r.same;
      supplied = e.supplied;
      behind = e.behind;
      known = e.known;
      mirrors = e.mirrors;
      none = e.none;
    }

pub part_goes :
    (inventory : Inventory) (port : ℕ) (g : Forest) (t : ℕ) (rest : List ℕ) (xs : List Exchanged) (i : ℕ) (others : List ℕ) (w now : World) (h : Forest) →
    InRound inventory w g h t rest (map (λ (x : Exchanged). x.entry) xs ++ (i ∷ others)) → AreAnswered port inventory.credentials t w xs now → (k : Forest) × InRound inventory now g k t rest (i ∷ others)
part_goes inventory port g t rest [] i others w now h r answers = (h, subst (λ v. InRound inventory v g h t rest (i ∷ others)) (sym answers) r)
part_goes inventory port g t rest (x ∷ []) i others w now h r answers =
    part_goes inventory port g t rest [] i others answers.0 now _ (goes_on inventory port g t rest x.entry i others x w answers.0 h r answers.1.0 refl) answers.1.1
part_goes inventory port g t rest (x ∷ y ∷ xs) i others w now h r answers =
    part_goes inventory port g t rest (y ∷ xs) i others answers.0 now _
    (goes_on inventory port g t rest x.entry y.entry (map (λ (z : Exchanged). z.entry) xs ++ (i ∷ others)) x w answers.0 h r answers.1.0 refl) answers.1.1

-- what the reply to the next of them tells, and the turn that the keeper makes of it
pub next_turn :
    (inventory : Inventory) (port : ℕ) (g : Forest) (t : ℕ) (rest : List ℕ) (i : ℕ) (todo : List ℕ) (w : World) (h : Forest) (r : InRound inventory w g h t rest (i ∷ todo)) → (reply : Option Reply) (left : Option Behind) → RequestIsAsked r.behind.table t (renewal_request port inventory.credentials w.keeper.forest i) reply left →
    (output : Output) × ((new : CoreState) × CoreTurn w.keeper (event_for inventory.credentials w.keeper.forest i reply) (Ok output) new)
next_turn inventory port g t rest i todo w h r reply left served =
    let s = with_forest inventory h in
    let cs = inventory.credentials in
    let e = entry_at h.entries i in
    let end = renewal e t in
    let n = end - t in
    let due = is_due g r.forest t rest (i ∷ todo) h r.mid i (here_first i todo) in
    let late = r.late in
    let within = due.within in
    let far : end ≤ t + 4294967295 = renewal_within e t late (r.supplied.steps i within) in
    let grows : e.end < end = due.grows in
    let later : t < e.end = due.later in
    let forest_is : w.keeper.forest ≡ h = ap (λ (q : CoreState). q.forest) r.keeper in
    let outcome = ap (broker_step r.behind.table t) (ap (λ f. renewal_request port cs f i) forest_is) ∙ serves s r.supplied port t i r.behind.table within due.able due.alive r.none (r.mirrors t (omega arith)) in
    let says : SaysAnswer t (tells (call_for e.kind) (renewed_row s t i)) served.sent = subst (λ (o : BrokerOutcome). SaysAnswer t o.answer served.sent) outcome served.says in
    let event : event_for cs w.keeper.forest i reply ≡ Told i n true = ap (λ f. event_for cs f i reply) forest_is ∙ ap (event_for cs h i) served.reply_is ∙ tells_rule s r.supplied t i late within due.able served.sent says in
    let known = told_turn g r.forest t rest i todo h r.plan r.few r.mid due n (omega arith) (let sums : t + n ≡ end = omega arith in sums) in (
      heard_as rest todo,
      (
        heard_state (with_entry_end h i end) t rest todo,
        subst (λ v. CoreTurn w.keeper v (Ok (heard_as rest todo)) (heard_state (with_entry_end h i end) t rest todo)) (sym event)
            (subst (λ (q : CoreState). CoreTurn q (Told i n true) (Ok (heard_as rest todo)) (heard_state (with_entry_end h i end) t rest todo)) (sym r.keeper) known),
      ),
    )
