-- One answer, from what the calls of its code say.
use Rattle.std.proofs.Common.{◌≡◌, ℕ, ◌++◌, Bool, true, false, cond, List, Option, Some, None, IfSome, Ok, refl, ap, ◌∙◌, sym, subst, ◌==◌}
use Rattle.std.proofs.lemmas.List.{append_assoc}
use Rattle.plan_forest.specs.declared.entry.Kind.{Kind}
use Rattle.vault_json.specs.declared.renewed.Renewed.{Renewed}
use Rattle.vault_http.specs.{declared.reply.Reply.Reply, declared.request.Request.Request}
use Rattle.broker_rule.specs.{Step.broker_step, Table.BrokerTable}
use Rattle.vault_exchange.specs.{Exchanges.Behind, Exchanges.wire_of, Heard.renewed_in, Requests.RequestIsAsked, Requests.renewal_request}
use Rattle.tick_keeper.specs.{LawsOfSteps.IsShaped, declared.event.Event.Event, declared.event.Output.Output, History.CoreTurn, State.CoreState}
use Rattle.tick_keeper.specs.declared.event.Event.TheVariants.{Refused, Lost}
use Rattle.tick_keeper.proofs.Shaped.{shape}
use Rattle.tick_runs.specs.{Closed.event_in, Closed.shorts_taken, code.Playing.Answers, Stops.both}
use Rattle.tick_runs.specs.Replies.{IsAnswerOf, event_for, event_of, told_of_body}
use Rattle.tick_runs.specs.Text.{answer_line, answer_text, short_need_lines}
use Rattle.tick_runs.proofs.Texts.{same_shorts}

-- ---- what a reply means is an answer of its entry

either : (i : ℕ) (b : Bool) (x y : Event) → IsAnswerOf i x → IsAnswerOf i y → IsAnswerOf i (cond b x y)
either i true x y a c = a
either i false x y a c = c

told_for : (i : ℕ) (x : Option Renewed) → IsAnswerOf i (told_of_body i x)
told_for i (Some r) = (tt, refl)
told_for i None = (tt, refl)

pub answers_for : (kind : Kind) (id : List ℕ) (i : ℕ) (reply : Option Reply) → IsAnswerOf i (event_of kind id i reply)
unfolding event_of
answers_for kind id i None = (tt, refl)
answers_for kind id i (Some r) = either i (r.status == 200) _ _ (told_for i (renewed_in kind id r.body)) (either i _ (Refused i) (Lost i) (tt, refl) (tt, refl))

-- ---- the exchange

-- what came of a request, where the broker's table is known
pub asked_known :
    (o : Option Behind) (b : Behind) (t : ℕ) (request : Request) (reply : Option Reply) (new : Option Behind) → o ≡ Some b → IfSome o (λ c. RequestIsAsked c.table t request reply new) → RequestIsAsked b.table t request reply new
asked_known o b t request reply new known asked = subst (λ (q : Option Behind). IfSome q (λ c. RequestIsAsked c.table t request reply new)) known asked

-- and then it is known again
pub table_after : (old : BrokerTable) (t : ℕ) (request : Request) (reply : Option Reply) (new : Option Behind) → RequestIsAsked old t request reply new → (b : Behind) × ((new ≡ Some b) × (b.table ≡ (broker_step old t request).table))
table_after old t request reply new asked = (record { table = (broker_step old t request).table; wire = wire_of request reply }, (asked.is, refl))

-- ---- the answer

pub one_answer :
    (o new : Option Behind) (port : ℕ) (cs : List (List ℕ)) (t i : ℕ) (old : CoreState) (reply : Option Reply) (event : Event) (output : Output) (k after' : CoreState) (before mid after : List ℕ) →
    IfSome o (λ b. RequestIsAsked b.table t (renewal_request port cs old.forest i) reply new) → event ≡ event_for cs old.forest i reply → CoreTurn old event (Ok output) k → after' ≡ shorts_taken k →
    mid ≡ before ++ answer_line old.forest event reply → after ≡ mid ++ short_need_lines after'.forest k.shortened → Answers port cs t (both old o) i output (both after' new) before after
unfolding event_in answer_text
one_answer o new port cs t i old reply event output k after' before mid after asked means turn quiet told short =
    let like : IsShaped old.forest after'.forest = subst (λ (s : CoreState). IsShaped old.forest s.forest) (sym quiet) (shape old k event (Ok output) turn) in
    let line = answer_line old.forest event reply in
    record {
      x = record { entry = i; reply = reply; output = output; short = k.shortened };
      entry = refl;
      output_is = refl;
      answered = record { asked = asked; keeper = k; turn = subst (λ e. CoreTurn old e (Ok output) k) means turn; short = refl; taken_is = quiet };
      text_is = short
          ∙ ap (λ xs. mid ++ xs) (same_shorts old.forest after'.forest like k.shortened)
          ∙ ap (λ xs. xs ++ short_need_lines old.forest k.shortened) told
          ∙ append_assoc before line (short_need_lines old.forest k.shortened)
          ∙ ap (λ e. before ++ (answer_line old.forest e reply ++ short_need_lines old.forest k.shortened)) means;
    }
