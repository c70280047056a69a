-- Alike answers: over two brokers whose tables differ in credentials alone, the answers of a round are told by one text, and
-- leave one keeper.
use Rattle.std.proofs.Common.{◌≡◌, ◌∙◌, ◌==◌, ℕ, suc, ◌<◌, cond, List, [], ◌∷◌, ◌++◌, Option, Some, Result, Ok, codes, decimal, flat_map, length, map, refl, sym, ap, subst}
use Rattle.std.proofs.lemmas.List.Elements.{All-head, All-tail}
use Rattle.std.specs.List.{All}
use Rattle.plan_forest.specs.{declared.entry.Kind.Kind, Forest.Forest, Forest.entry_at}
use Rattle.vault_inventory.specs.declared.terms.Terms.{Terms}
use Rattle.vault_inventory.specs.Inventories.{IsInventory, Inventory, credential_at}
use Rattle.vault_inventory.proofs.Inventories.{credential_text}
use Rattle.vault_http.specs.{declared.reply.Reply.Reply, declared.request.Request.Request}
use Rattle.broker_rule.specs.{declared.call.ApiCall.ApiCall, declared.refusal.Refusal.Refusal, declared.refusal.Refusal.TheVariants.UnsupportedPath, declared.row.BrokerRow.BrokerRow, declared.served.Served.Served, Granted.call_for}
use Rattle.broker_rule.specs.{Request.status_of_refusal}
use Rattle.broker_rule.specs.Step.{BrokerAnswer, SaysAnswer, TellsRow, broker_step, drops, refuses as answer_refuses, seconds_to, tells}
use Rattle.broker_rule.specs.declared.served.Served.TheVariants as served
use Rattle.tick_keeper.specs.{declared.event.Event.Event, declared.event.Output.Output, declared.fault.StepFault.StepFault, History.CoreTurn, State.CoreState}
use Rattle.tick_keeper.specs.declared.event.Event.TheVariants.{Told, Refused, Lost}
use Rattle.tick_keeper.proofs.{Once.once, Shaped.shape}
use Rattle.vault_exchange.specs.{Exchanges.Behind, Requests.renewal_request, Requests.reply_in_served}
use Rattle.broker_alike.specs.Answers.{AnswersOf, OutcomesOf}
use Rattle.broker_alike.specs.Alike.{AreBrokersAlike, AreTablesAlike, KeepsSupplied}
use Rattle.tick_runs.specs.Stops.{both}
use Rattle.tick_runs.specs.Closed.{AreAnswered, Exchanged, RequestIsAnswered, World, closing, event_in, shorts_taken, told_next}
use Rattle.tick_runs.specs.Replies.{event_if_refused, event_of, told_by_body}
use Rattle.tick_runs.specs.Text.{answer_line, answer_text, short_need_lines, status_in}
use Rattle.program_lines.specs.Text.{line, name_of}
use Rattle.broker_alike.proofs.Kept.{renewals_both}
use Rattle.tick_runs.proofs.{Shaped.kept_shaped, OneAnswer.asked_known, OneAnswer.table_after, Replying.sent_told}

-- ---- what is said of it

by_status : (kind : Kind) (id : List ℕ) (i : ℕ) (body : List ℕ) (n : ℕ) → Event
by_status kind id i body n = cond (n == 200) (told_by_body kind id i body) (event_if_refused n (Refused i) (Lost i))

refused_status : (kind : Kind) (id : List ℕ) (i : ℕ) (body : List ℕ) (v : Refusal) → by_status kind id i body (status_of_refusal v) ≡ event_if_refused (status_of_refusal v) (Refused i) (Lost i)
unfolding by_status
refused_status kind id i body UnsupportedPath = refl
refused_status kind id i body _ = refl

refused_by : (kind : Kind) (id : List ℕ) (i : ℕ) (v : Refusal) (r : Reply) → r.status ≡ status_of_refusal v → event_of kind id i (Some r) ≡ event_if_refused (status_of_refusal v) (Refused i) (Lost i)
unfolding event_of by_status
refused_by kind id i v r is = ap (by_status kind id i r.body) is ∙ refused_status kind id i r.body v

-- one meaning, and one status
abbrev pub MeanSame : Kind → List ℕ → List ℕ → ℕ → Served → Served → Type 0
MeanSame kind c d i x y = (event_of kind d i (reply_in_served y) ≡ event_of kind c i (reply_in_served x)) × (status_in (reply_in_served y) ≡ status_in (reply_in_served x))

refused_same : (kind : Kind) (c d : List ℕ) (i t : ℕ) (v w : Refusal) → w ≡ v → (x y : Served) → SaysAnswer t (answer_refuses v) x → SaysAnswer t (answer_refuses w) y → MeanSame kind c d i x y
refused_same kind c d i t v w same served.Dropped y a b = absurd a
refused_same kind c d i t v w same (served.Reply r) served.Dropped a b = absurd b
refused_same kind c d i t v w same (served.Reply r) (served.Reply q) a b =
    let status : q.status ≡ status_of_refusal v = b.0 ∙ ap status_of_refusal same in
    (refused_by kind d i v q status ∙ sym (refused_by kind c i v r a.0), status ∙ sym a.0)

dropped_same : (kind : Kind) (c d : List ℕ) (i t : ℕ) (x y : Served) → SaysAnswer t drops x → SaysAnswer t drops y → MeanSame kind c d i x y
unfolding event_of
dropped_same kind c d i t served.Dropped served.Dropped a b = (refl, refl)
dropped_same kind c d i t (served.Reply r) y a b = absurd a
dropped_same kind c d i t served.Dropped (served.Reply q) a b = absurd b

told_status : (t : ℕ) (call : ApiCall) (r : BrokerRow) (x : Served) → TellsRow t call r x → status_in (reply_in_served x) ≡ 200
told_status t call r (served.Reply reply) is = is.0
told_status t call r served.Dropped is = absurd is

kept_event : (g h : Forest) → KeepsSupplied g h → (xs : List (List ℕ)) (x : Exchanged) → event_in xs h x ≡ event_in xs g x
unfolding event_in
kept_event g h kept xs x = ap (λ k. event_of k (credential_at xs x.entry) x.entry x.reply) (kept.kinds x.entry)

module _ (g : Forest) (cs ds : List (List ℕ)) (ts : List Terms) (one : IsInventory (record { forest = g; credentials = cs; terms = ts })) (two : IsInventory (record { forest = g; credentials = ds; terms = ts })) where
  abbrev s : Inventory
  s = record { forest = g; credentials = cs; terms = ts }

  abbrev u : Inventory
  u = record { forest = g; credentials = ds; terms = ts }

  said_same : (i t : ℕ) → i < length g.entries → (a b : BrokerAnswer) → AnswersOf g cs ds (call_for (entry_at g.entries i).kind) i a b → (x y : Served) → SaysAnswer t a x → SaysAnswer t b y → MeanSame (entry_at g.entries i).kind (credential_at cs i) (credential_at ds i) i x y
  said_same i t within (answer_refuses v) (answer_refuses w) same x y a b = refused_same (entry_at g.entries i).kind (credential_at cs i) (credential_at ds i) i t v w same x y a b
  said_same i t within (answer_refuses v) (tells d q) same x y a b = absurd same
  said_same i t within (answer_refuses v) drops same x y a b = absurd same
  said_same i t within (tells c r) (answer_refuses w) same x y a b = absurd same
  said_same i t within (tells c r) drops same x y a b = absurd same
  said_same i t within drops (answer_refuses w) same x y a b = absurd same
  said_same i t within drops (tells d q) same x y a b = absurd same
  said_same i t within drops drops same x y a b = dropped_same (entry_at g.entries i).kind (credential_at cs i) (credential_at ds i) i t x y a b
  said_same i t within (tells c r) (tells d q) same x y a b =
      let kind = (entry_at g.entries i).kind in
      let first = subst (λ call. TellsRow t call r x) same.0 a in
      let second = subst (λ call. TellsRow t call q y) same.1.0 b in
      let rows = same.1.1 in (
        sent_told kind (credential_at ds i) i t q rows.1.1 (λ lease. credential_text u two i within) y second
            ∙ ap (λ (row : BrokerRow). Told i (seconds_to row.end t) row.renewable) rows.0.same
            ∙ sym (sent_told kind (credential_at cs i) i t r rows.1.0 (λ lease. credential_text s one i within) x first),
        told_status t (call_for kind) q y second ∙ sym (told_status t (call_for kind) r x first),
      )

  -- ---- one answer

  -- told by the names of a forest that has kept what this one had
  module _ (names : Forest) (us : List Terms) (told : KeepsSupplied g names) where
    abbrev v : Inventory
    v = record { forest = names; credentials = cs; terms = us }

    abbrev w : Inventory
    w = record { forest = names; credentials = ds; terms = us }

    line_same : (event : Event) (x y : Option Reply) → status_in y ≡ status_in x → answer_line names event y ≡ answer_line names event x
    line_same (Refused i) x y same = ap (λ n. line (codes "refused" ∷ name_of names i ∷ decimal n ∷ [])) same
    line_same _ x y same = refl

    -- what the answers x and y leave
    pub record AreAnswersAlike (x y : Exchanged) (new last : World) : Type 0 where
      pub output : y.output ≡ x.output
      pub keeper : last.keeper ≡ new.keeper
      pub brokers : AreBrokersAlike g cs ds new.behind last.behind
      pub text : answer_text w y ≡ answer_text v x
      pub kept : KeepsSupplied g new.keeper.forest

    answer_both : (port other t : ℕ) (k : CoreState) (b c : Option Behind) (x y : Exchanged) (new last : World) → KeepsSupplied g k.forest → x.entry < length g.entries → y.entry ≡ x.entry → AreBrokersAlike g cs ds b c →
        RequestIsAnswered port cs t (both k b) x new → RequestIsAnswered other ds t (both k c) y last → AreAnswersAlike x y new last
    unfolding event_in answer_text
    answer_both port other t k b c x y new last like within here alike a d =
        let i = x.entry in
        let h = k.forest in
        let l = alike.behind in
        let m = alike.other_behind in
        let r = renewal_request port cs h i in
        let q = renewal_request other ds h i in
        let outcome : OutcomesOf g cs ds (call_for (entry_at g.entries i).kind) i (broker_step l.table t r) (broker_step m.table t q) = renewals_both g cs ds ts one two port other t i h l.table m.table within like alike.tables in
        let ask' : renewal_request other ds h y.entry ≡ q = ap (renewal_request other ds h) here in
        let served = asked_known b l t r x.reply new.behind alike.known a.asked in
        let served' = asked_known c m t (renewal_request other ds h y.entry) y.reply last.behind alike.other_known d.asked in
        let left = table_after l.table t r x.reply new.behind served in
        let left' = table_after m.table t (renewal_request other ds h y.entry) y.reply last.behind served' in
        let says' = subst (λ (p : Request). SaysAnswer t (broker_step m.table t p).answer served'.sent) ask' served'.says in
        let means = said_same i t within (broker_step l.table t r).answer (broker_step m.table t q).answer outcome.0 served.sent served'.sent served.says says' in
        let status : status_in y.reply ≡ status_in x.reply = ap status_in served'.reply_is ∙ means.1 ∙ sym (ap status_in served.reply_is) in
        let event : event_in ds g y ≡ event_in cs g x =
        ap (λ j. event_of (entry_at g.entries j).kind (credential_at ds j) j y.reply) here
        ∙ ap (event_of (entry_at g.entries i).kind (credential_at ds i) i) served'.reply_is
        ∙ means.0
        ∙ sym (ap (event_of (entry_at g.entries i).kind (credential_at cs i) i) served.reply_is) in
        let event' : event_in ds h y ≡ event_in cs h x = kept_event g h like ds y ∙ event ∙ sym (kept_event g h like cs x) in
        let event'' : event_in ds names y ≡ event_in cs names x = kept_event g names told ds y ∙ event ∙ sym (kept_event g names told cs x) in
        let turns = once k a.keeper d.keeper (event_in cs h x) (Ok x.output) (Ok y.output) (λ bad. cc) (λ bad. cc) a.turn (subst (λ e. CoreTurn k e (Ok y.output) d.keeper) event' d.turn) in
        let output : y.output ≡ x.output = (let same : ◌≡◌ {A = Result Output StepFault} (Ok x.output) (Ok y.output) = turns.0 in cc) in
        let short : y.short ≡ x.short = d.short ∙ ap (λ (z : CoreState). z.shortened) (sym turns.1) ∙ sym a.short in
        let table : left.0.table ≡ (broker_step l.table t r).table = left.1.1 in
        let table' : left'.0.table ≡ (broker_step m.table t q).table = left'.1.1 ∙ ap (λ (p : Request). (broker_step m.table t p).table) ask' in
        let first : new.keeper ≡ shorts_taken a.keeper = a.taken_is in
        record {
          output = output;
          keeper = d.taken_is ∙ ap shorts_taken (sym turns.1) ∙ sym first;
          brokers = record {
            behind = left.0;
            known = left.1.0;
            other_behind = left'.0;
            other_known = left'.1.0;
            tables = subst (λ z. AreTablesAlike g cs ds z left'.0.table) (sym table) (subst (AreTablesAlike g cs ds (broker_step l.table t r).table) (sym table') outcome.1);
          };
          text = ap (λ e. answer_line names e y.reply ++ short_need_lines names y.short) event''
              ∙ ap (λ z. z ++ short_need_lines names y.short) (line_same (event_in cs names x) x.reply y.reply status)
              ∙ ap (λ ps. answer_line names (event_in cs names x) x.reply ++ short_need_lines names ps) short;
          kept = subst (λ (z : CoreState). KeepsSupplied g z.forest) (sym first) (kept_shaped g h a.keeper.forest like (shape k a.keeper (event_in cs h x) (Ok x.output) a.turn));
        }

    -- ---- the answers of a round

    pub record AreAllAlike (xs ys : List Exchanged) (new last : World) : Type 0 where
      pub closes : (next : Option ℕ) → closing next ys ≡ closing next xs
      pub count : length ys ≡ length xs
      pub keeper : last.keeper ≡ new.keeper
      pub brokers : AreBrokersAlike g cs ds new.behind last.behind
      pub text : flat_map (answer_text w) ys ≡ flat_map (answer_text v) xs
      pub kept : KeepsSupplied g new.keeper.forest

    pub answers_both : (port other t : ℕ) (k : CoreState) (b c : Option Behind) (xs ys : List Exchanged) (new last : World) → KeepsSupplied g k.forest → All (λ i. i < length g.entries) (map (λ (x : Exchanged). x.entry) xs) →
        map (λ (y : Exchanged). y.entry) ys ≡ map (λ (x : Exchanged). x.entry) xs → AreBrokersAlike g cs ds b c → AreAnswered port cs t (both k b) xs new → AreAnswered other ds t (both k c) ys last → AreAllAlike xs ys new last
    answers_both port other t k b c [] [] new last like within who alike a d =
        record {
          closes = λ next. refl;
          count = refl;
          keeper = ap (λ (z : World). z.keeper) d ∙ ap (λ (z : World). z.keeper) (sym a);
          brokers = subst (λ (z : World). AreBrokersAlike g cs ds z.behind last.behind) (sym a) (subst (λ (z : World). AreBrokersAlike g cs ds b z.behind) (sym d) alike);
          text = refl;
          kept = subst (λ (z : World). KeepsSupplied g z.keeper.forest) (sym a) like;
        }
    answers_both port other t k b c (x ∷ xs) (y ∷ ys) new last like within who alike a d =
        let here : y.entry ≡ x.entry = cc in
        let rest : map (λ (z : Exchanged). z.entry) ys ≡ map (λ (z : Exchanged). z.entry) xs = cc in
        let mid = a.0 in
        let mid' = d.0 in
        let first = answer_both port other t k b c x y mid mid' like (All-head (λ i. i < length g.entries) x.entry (map (λ (z : Exchanged). z.entry) xs) within) here alike a.1.0 d.1.0 in
        let more = answers_both port other t mid.keeper mid.behind mid'.behind xs ys new last first.kept (All-tail (λ i. i < length g.entries) x.entry (map (λ (z : Exchanged). z.entry) xs) within) rest first.brokers a.1.1
        (subst (λ (z : CoreState). AreAnswered other ds t (both z mid'.behind) ys last) first.keeper d.1.1) in
        record {
          closes = λ next. ap (λ (o : Output). closing (told_next next o) ys) first.output ∙ more.closes (told_next next x.output);
          count = ap (λ n. suc n) more.count;
          keeper = more.keeper;
          brokers = more.brokers;
          text = ap (λ l. l ++ flat_map (answer_text w) ys) first.text ∙ ap (λ l. answer_text v x ++ l) more.text;
          kept = more.kept;
        }
    answers_both port other t k b c _ _ new last like within who alike a d = absurd cc
