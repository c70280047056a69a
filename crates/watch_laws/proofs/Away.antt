-- Away: what each turn makes of the broker's presence, and of who has heard of an answer. For the law of presence.
use Rattle.std.proofs.Common.{◌≡◌, ◌≢◌, ◌∙◌, ℕ, suc, ◌≤◌, Bool, true, false, not, ◌&&◌, ◌||◌, ◌==◌, List, [], ◌∷◌, ◌++◌, Option, Some, None, All, Result, Ok, Err, get_or, length, map, refl, sym, ap, subst, arith}
use Rattle.std.proofs.lemmas.{Bool.and_parts, Bool.eqb-true, Bool.Decides.nat_tests}
use Rattle.std.proofs.lemmas.List.Elements.{All-append, All-cons, All-filter, All-head, All-map, All-nil, All-tail, All-weaker}
use Rattle.std.specs.List.{list_any}
use Rattle.watch_machine.specs.{declared.change.Was.Was, declared.command.WatchCommand.WatchCommand, declared.command.WatchOutput.WatchOutput, declared.command.WatchRequest.WatchRequest, declared.event.WatchEvent.WatchEvent}
use Rattle.watch_machine.specs.{declared.event.WatchReply.WatchReply, declared.event.WatchTerms.WatchTerms, declared.fault.WatchFault.WatchFault, declared.lanes.LaneAnswer.LaneAnswer, declared.lanes.Out.Out}
use Rattle.watch_machine.specs.{declared.lanes.Presence.Presence, declared.track.Track.Track, Looked.looked, Press.pressed, Refusal.request_out, Renewed.state_renewed, Round.asked_by_round, Sending.out_at, Sending.sent, State.WatchState}
use Rattle.watch_machine.specs.declared.command.WatchCommand.TheVariants.{Go, Taken}
use Rattle.watch_machine.specs.declared.event.WatchEvent.TheVariants.{Clock, Looked, Renewed}
use Rattle.watch_machine.specs.declared.event.Operation.TheVariants.{Look, Renew}
use Rattle.watch_machine.specs.declared.event.WatchReply.TheVariants.{Told, Refused, Busy, Lost}
use Rattle.watch_machine.specs.Answers.{answers_all, heard, lane_freed, noted, replied, silent, without_request}
use Rattle.watch_machine.specs.Change.{index_or, moved_out, out_after, place_now}
use Rattle.watch_machine.specs.History.{AllHappen, Changed, Changes, Happening, Happens, Hands, IsChanged, Turn, Turned, state_after, state_after_all}
use Rattle.watch_machine.specs.Settling.{held_back, is_silent, presence_after, timed}
use Rattle.watch_machine.specs.Step.{Step, StepClock, StepCommand, StepLooked, StepRenewed, readied}
use Rattle.watch_machine.proofs.Within.{out_all, out_entry}
use Rattle.watch_machine.proofs.Cases.{if_both, if_cases, not_both, of_value}
use Rattle.watch_laws.specs.Load.{requests_asked_by, requests_at_turn}
use Rattle.watch_laws.specs.Presence.{AwayLaw, IsIndexNow, MayHaveBeen, NoneGoesOut, answers, is_answer_at, is_answer_taken, is_answered, is_loss, is_loss_at, loses}
use Rattle.watch_laws.proofs.{Clocking.refused_stays, Following.changed_out, Holding.looked_presence, Holding.ready_presence, Spacing.looked_out, Spacing.readied_out}

-- a reply: mid is the state before what it says of the broker
away_back : (s : WatchState) → (answers_all s).presence.away ≡ false
away_back s = if_cases (λ (t : WatchState). t.presence.away ≡ false) s.presence.away _ _ (λ e. refl) (λ e. e)

all_hear : (s : WatchState) → (answers_all s).out ≡ map heard s.out
all_hear s = if_both (λ (t : WatchState). t.out ≡ map heard s.out) s.presence.away _ _ refl refl

away_gone : (s : WatchState) → (silent s).presence.away ≡ true
away_gone s = if_cases (λ (t : WatchState). t.presence.away ≡ true) s.presence.away s _ (λ e. e) (λ e. refl)

none_hears : (s : WatchState) → (silent s).out ≡ s.out
none_hears s = if_both (λ (t : WatchState). t.out ≡ s.out) s.presence.away s _ refl refl

module _ (mid : WatchState) (q : Out) where
  answered_away : (reply : WatchReply) → is_answered reply ≡ true → (replied mid q reply).presence.away ≡ false
  answered_away Lost yes' = absurd cc
  answered_away _ yes' = away_back (lane_freed mid q)

  answered_out : (reply : WatchReply) → is_answered reply ≡ true → (replied mid q reply).out ≡ map heard (without_request q.entry mid.out)
  answered_out Lost yes' = absurd cc
  answered_out _ yes' = all_hear (lane_freed mid q)

  lost_unheard : (reply : WatchReply) → is_answered reply ≡ false → q.heard ≡ false → (replied mid q reply).presence.away ≡ true
  lost_unheard Lost no' unheard =
      if_cases (λ (t : WatchState). t.presence.away ≡ true) q.heard (lane_freed mid q) (silent (lane_freed mid q)) (λ e. absurd (not_both e unheard)) (λ e. away_gone (lane_freed mid q))
  lost_unheard _ no' unheard = absurd cc

  lost_heard : (reply : WatchReply) → is_answered reply ≡ false → q.heard ≡ true → (replied mid q reply).presence.away ≡ mid.presence.away
  lost_heard Lost no' hears =
      if_cases (λ (t : WatchState). t.presence.away ≡ mid.presence.away) q.heard (lane_freed mid q) (silent (lane_freed mid q)) (λ e. refl) (λ e. absurd (not_both hears e))
  lost_heard _ no' hears = absurd cc

  lost_out : (reply : WatchReply) → is_answered reply ≡ false → (replied mid q reply).out ≡ without_request q.entry mid.out
  lost_out Lost no' =
      if_both (λ (t : WatchState). t.out ≡ without_request q.entry mid.out) q.heard (lane_freed mid q) (silent (lane_freed mid q)) refl (none_hears (lane_freed mid q))
  lost_out _ no' = absurd cc

-- a turn that is a reply to a request of i, and one that is none
record Replies (old : WatchState) (i : ℕ) (reply : WatchReply) (new : WatchState) : Type 1 where
  mid : WatchState
  q : Out
  is : new ≡ replied mid q reply
  out : mid.out ≡ old.out
  away : mid.presence.away ≡ old.presence.away
  entry : q.entry ≡ i
  found : (P : Out → Type 0) → All P old.out → P q

pub record Leaves (old : WatchState) (requests : List WatchRequest) (new : WatchState) : Type 1 where
  pub away : new.presence.away ≡ old.presence.away
  pub kept : (P : Out → Type 0) → All P old.out → All P (map (out_at new.clocks.at) requests) → All P new.out

abbrev Acts : WatchState → WatchEvent → List WatchRequest → WatchState → Type 1
Acts old (Looked i reply terms) requests new = Replies old i reply new
Acts old (Renewed i reply) requests new = Replies old i reply new
Acts old _ requests new = Leaves old requests new

looked_replies : (old new : WatchState) (i : ℕ) (reply : WatchReply) (terms : WatchTerms) (output : WatchOutput) (found : Option Out) → request_out old.out i Look ≡ found → StepLooked old found reply terms output new → Replies old i reply new
looked_replies old new i reply terms output None is step = absurd step
looked_replies old new i reply terms output (Some q) is step =
    let s = noted old q reply in record {
      mid = looked s q reply terms;
      q = q;
      is = step.1;
      out = looked_out s q reply terms;
      away = ap (λ (p : Presence). p.away) (looked_presence s q reply terms);
      entry = out_entry old.out i Look q is;
      found = λ P all. of_value P (request_out old.out i Look) q (out_all P old.out i Look all) is;
    }

renewed_replies : (old new : WatchState) (i : ℕ) (reply : WatchReply) (output : WatchOutput) (found : Option Out) → request_out old.out i Renew ≡ found → StepRenewed old found reply output new → Replies old i reply new
renewed_replies old new i reply output None is step = absurd step
renewed_replies old new i reply output (Some q) is step = record {
  mid = state_renewed (noted old q reply) q reply;
  q = q;
  is = step.1;
  out = refl;
  away = refl;
  entry = out_entry old.out i Renew q is;
  found = λ P all. of_value P (request_out old.out i Renew) q (out_all P old.out i Renew all) is;
}

settled_away : (margin at : ℕ) (xs : List Track) (answers : List LaneAnswer) (p : Presence) → (presence_after margin at xs answers p).away ≡ p.away
unfolding presence_after held_back
settled_away margin at xs answers p = if_both (λ (q : Presence). q.away ≡ p.away) (p.away && list_any is_silent answers) _ p refl refl

pub sent_requests : (mid new : WatchState) (command : WatchCommand) → StepCommand mid command new → new ≡ sent mid (requests_asked_by command)
sent_requests mid new (Go requests until) h = h.0.1
sent_requests mid new Taken h = absurd h

pub clock_leaves : (old new : WatchState) (wall elapsed : ℕ) (output : WatchOutput) → StepClock old wall elapsed output new → Leaves old (requests_asked_by output.command) new
clock_leaves old new wall elapsed output step =
    let mid = pressed (readied old wall elapsed) (asked_by_round step.round) in
    let requests = requests_asked_by output.command in
    let is = sent_requests mid new output.command step.command in
    let at : new.clocks.at ≡ mid.clocks.at = ap (λ (x : WatchState). x.clocks.at) is in
    let out : new.out ≡ old.out ++ map (out_at new.clocks.at) requests =
    ap (λ (x : WatchState). x.out) is ∙ ap (λ os. os ++ map (out_at mid.clocks.at) requests) (readied_out old wall elapsed) ∙ ap (λ n. old.out ++ map (out_at n) requests) (sym at) in record {
      away = ap (λ (x : WatchState). x.presence.away) is ∙ ap (λ (p : Presence). p.away) (ready_presence old wall elapsed)
          ∙ settled_away old.forest.margin (timed old wall elapsed).clocks.at old.tracks old.answers old.presence;
      kept = λ P all more. subst (All P) (sym out) (All-append P old.out (map (out_at new.clocks.at) requests) all more);
    }

same_leaves : (old new mid : WatchState) (requests : List WatchRequest) → new ≡ mid → mid.presence ≡ old.presence → mid.out ≡ old.out → Leaves old requests new
same_leaves old new mid requests is presence out = record {
  away = ap (λ (x : WatchState). x.presence.away) is ∙ ap (λ (p : Presence). p.away) presence;
  kept = λ P all more. subst (All P) (sym (ap (λ (x : WatchState). x.out) is ∙ out)) all;
}

acts : (old new : WatchState) (event : WatchEvent) (output : WatchOutput) → Step old event output new → Acts old event (requests_asked_by output.command) new
acts old new (Clock wall elapsed) output step = clock_leaves old new wall elapsed output step
acts old new (Looked i reply terms) output step = looked_replies old new i reply terms output (request_out old.out i Look) refl step
acts old new (Renewed i reply) output step = renewed_replies old new i reply output (request_out old.out i Renew) refl step
acts old new _ output step = same_leaves old new _ (requests_asked_by output.command) step.1 refl refl

-- each request of i that is out has heard of an answer; or none has
abbrev AreHeard : Bool → ℕ → List Out → Type 0
AreHeard b i out = All (λ (q : Out). q.entry ≡ i → q.heard ≡ b) out

pub left : (P : Out → Type 0) (i : ℕ) (out : List Out) → All P out → All P (without_request i out)
unfolding without_request
left P i out all = All-filter (λ q. not (q.entry == i)) P out all

-- a reply
replied_back : (old new : WatchState) (i : ℕ) (reply : WatchReply) → Replies old i reply new → is_answered reply ≡ true → new.presence.away ≡ false
replied_back old new i reply h yes' = ap (λ (x : WatchState). x.presence.away) h.is ∙ answered_away h.mid h.q reply yes'

replied_hears : (old new : WatchState) (i j : ℕ) (reply : WatchReply) → Replies old i reply new → is_answered reply ≡ true → AreHeard true j new.out
replied_hears old new i j reply h yes' =
    let out = without_request h.q.entry h.mid.out in
    subst (AreHeard true j) (sym (ap (λ (x : WatchState). x.out) h.is ∙ answered_out h.mid h.q reply yes'))
    (All-map (λ (q : Out). q.entry ≡ j → q.heard ≡ true) heard out (λ k d below of. refl))

replied_kept : (old new : WatchState) (i : ℕ) (reply : WatchReply) → Replies old i reply new → is_answered reply ≡ false → (P : Out → Type 0) → All P old.out → All P new.out
replied_kept old new i reply h no' P all =
    subst (All P) (sym (ap (λ (x : WatchState). x.out) h.is ∙ lost_out h.mid h.q reply no')) (left P h.q.entry h.mid.out (subst (All P) (sym h.out) all))

replied_lost : (old new : WatchState) (i : ℕ) (reply : WatchReply) → Replies old i reply new → is_answered reply ≡ false → AreHeard false i old.out → new.presence.away ≡ true
replied_lost old new i reply h no' unheard =
    ap (λ (x : WatchState). x.presence.away) h.is ∙ lost_unheard h.mid h.q reply no' (h.found (λ (q : Out). q.entry ≡ i → q.heard ≡ false) unheard h.entry)

replied_same : (old new : WatchState) (i : ℕ) (reply : WatchReply) → Replies old i reply new → is_answered reply ≡ false → AreHeard true i old.out → new.presence.away ≡ old.presence.away
replied_same old new i reply h no' hears =
    ap (λ (x : WatchState). x.presence.away) h.is ∙ lost_heard h.mid h.q reply no' (h.found (λ (q : Out). q.entry ≡ i → q.heard ≡ true) hears h.entry) ∙ h.away

-- an event that is taken
answer_back : (old new : WatchState) (event : WatchEvent) (requests : List WatchRequest) → Acts old event requests new → answers event ≡ true → new.presence.away ≡ false
answer_back old new (Looked i reply terms) requests h yes' = replied_back old new i reply h yes'
answer_back old new (Renewed i reply) requests h yes' = replied_back old new i reply h yes'
answer_back old new _ requests h yes' = absurd cc

answer_hears : (j : ℕ) (old new : WatchState) (event : WatchEvent) (requests : List WatchRequest) → Acts old event requests new → answers event ≡ true → AreHeard true j new.out
answer_hears j old new (Looked i reply terms) requests h yes' = replied_hears old new i j reply h yes'
answer_hears j old new (Renewed i reply) requests h yes' = replied_hears old new i j reply h yes'
answer_hears j old new _ requests h yes' = absurd cc

pub neither : (a b : Bool) → a || b ≡ false → (a ≡ false) × (b ≡ false)
neither true b no' = absurd cc
neither false b no' = (refl, no')

-- a request that goes out has heard of none
unheard_out : (j at : ℕ) (requests : List WatchRequest) → AreHeard false j (map (out_at at) requests)
unheard_out j at requests = All-map (λ (q : Out). q.entry ≡ j → q.heard ≡ false) (out_at at) requests (λ k d below of. refl)

other_out : (j at : ℕ) (requests : List WatchRequest) → list_any (λ (r : WatchRequest). r.entry == j) requests ≡ false → AreHeard true j (map (out_at at) requests)
other_out j at [] none = All-nil (λ (q : Out). q.entry ≡ j → q.heard ≡ true)
other_out j at (r ∷ requests) none =
    let parts = neither (r.entry == j) (list_any (λ (x : WatchRequest). x.entry == j) requests) none in
    All-cons (λ (q : Out). q.entry ≡ j → q.heard ≡ true) (out_at at r) (map (out_at at) requests) (λ is. absurd (not_both (eqb-is r.entry j is) parts.0)) (other_out j at requests parts.1) where
      eqb-is : (m n : ℕ) → m ≡ n → (m == n) ≡ true
      eqb-is m n is = grind (arith, nat_tests)

stays_unheard : (j : ℕ) (old new : WatchState) (event : WatchEvent) (requests : List WatchRequest) → Acts old event requests new → answers event ≡ false → AreHeard false j old.out → AreHeard false j new.out
stays_unheard j old new (Looked i reply terms) requests h no' all = replied_kept old new i reply h no' (λ (q : Out). q.entry ≡ j → q.heard ≡ false) all
stays_unheard j old new (Renewed i reply) requests h no' all = replied_kept old new i reply h no' (λ (q : Out). q.entry ≡ j → q.heard ≡ false) all
stays_unheard j old new _ requests h no' all = h.kept (λ (q : Out). q.entry ≡ j → q.heard ≡ false) all (unheard_out j new.clocks.at requests)

replied_heard : (old new : WatchState) (i j : ℕ) (reply : WatchReply) → Replies old i reply new → AreHeard true j old.out → AreHeard true j new.out
replied_heard old new i j (Told seconds renewable date) h all = replied_hears old new i j (Told seconds renewable date) h refl
replied_heard old new i j (Refused status date) h all = replied_hears old new i j (Refused status date) h refl
replied_heard old new i j Busy h all = replied_hears old new i j Busy h refl
replied_heard old new i j Lost h all = replied_kept old new i Lost h refl (λ (q : Out). q.entry ≡ j → q.heard ≡ true) all

stays_heard :
    (j : ℕ) (old new : WatchState) (event : WatchEvent) (requests : List WatchRequest) → Acts old event requests new → list_any (λ (r : WatchRequest). r.entry == j) requests ≡ false → AreHeard true j old.out →
    AreHeard true j new.out
stays_heard j old new (Looked i reply terms) requests h none all = replied_heard old new i j reply h all
stays_heard j old new (Renewed i reply) requests h none all = replied_heard old new i j reply h all
stays_heard j old new _ requests h none all = h.kept (λ (q : Out). q.entry ≡ j → q.heard ≡ true) all (other_out j new.clocks.at requests none)

not_true : (b : Bool) → not b ≡ true → b ≡ false
not_true true no' = absurd cc
not_true false no' = refl

loss_lost : (i : ℕ) (old new : WatchState) (event : WatchEvent) (requests : List WatchRequest) → Acts old event requests new → loses i event ≡ true → AreHeard false i old.out → new.presence.away ≡ true
loss_lost i old new (Looked j reply terms) requests h yes' all =
    let both = and_parts (j == i) (not (is_answered reply)) yes' in
    replied_lost old new j reply h (not_true (is_answered reply) both.1) (subst (λ k. AreHeard false k old.out) (sym (eqb-true j i both.0)) all)
loss_lost i old new (Renewed j reply) requests h yes' all =
    let both = and_parts (j == i) (not (is_answered reply)) yes' in
    replied_lost old new j reply h (not_true (is_answered reply) both.1) (subst (λ k. AreHeard false k old.out) (sym (eqb-true j i both.0)) all)
loss_lost i old new _ requests h yes' all = absurd cc

loss_same : (i : ℕ) (old new : WatchState) (event : WatchEvent) (requests : List WatchRequest) → Acts old event requests new → loses i event ≡ true → AreHeard true i old.out → new.presence.away ≡ old.presence.away
loss_same i old new (Looked j reply terms) requests h yes' all =
    let both = and_parts (j == i) (not (is_answered reply)) yes' in
    replied_same old new j reply h (not_true (is_answered reply) both.1) (subst (λ k. AreHeard true k old.out) (sym (eqb-true j i both.0)) all)
loss_same i old new (Renewed j reply) requests h yes' all =
    let both = and_parts (j == i) (not (is_answered reply)) yes' in
    replied_same old new j reply h (not_true (is_answered reply) both.1) (subst (λ k. AreHeard true k old.out) (sym (eqb-true j i both.0)) all)
loss_same i old new _ requests h yes' all = absurd cc

-- a reply is an answer or a loss
neither_reply : {X : Type 0} (i : ℕ) (reply : WatchReply) → is_answered reply ≡ false → (i == i && not (is_answered reply)) ≡ false → X
neither_reply i reply no' none =
    let same : (i == i) ≡ true = grind (arith, nat_tests) in
    absurd (let bad : true ≡ false = sym (ap (λ b. b && true) same) ∙ sym (ap (λ b. i == i && not b) no') ∙ none in cc)

else_same : (old new : WatchState) (event : WatchEvent) (requests : List WatchRequest) → Acts old event requests new → answers event ≡ false → ((i : ℕ) → loses i event ≡ false) → new.presence.away ≡ old.presence.away
else_same old new (Looked i reply terms) requests h no' none = neither_reply i reply no' (none i)
else_same old new (Renewed i reply) requests h no' none = neither_reply i reply no' (none i)
else_same old new _ requests h no' none = h.away

-- a turn
turn_unheard :
    (j : ℕ) (old new : WatchState) (event : WatchEvent) (result : Result WatchOutput WatchFault) → Turn old event result new → is_answer_taken (record { event = event; result = result; state = new }) ≡ false →
    AreHeard false j old.out → AreHeard false j new.out
turn_unheard j old new event (Ok output) turn no' all = stays_unheard j old new event (requests_asked_by output.command) (acts old new event output turn.1) no' all
turn_unheard j old new event (Err fault) turn no' all = subst (λ (x : WatchState). AreHeard false j x.out) (sym (refused_stays old new event fault turn)) all

turn_heard :
    (j : ℕ) (old new : WatchState) (event : WatchEvent) (result : Result WatchOutput WatchFault) → Turn old event result new → list_any (λ (r : WatchRequest). r.entry == j) (requests_at_turn result) ≡ false →
    AreHeard true j old.out → AreHeard true j new.out
turn_heard j old new event (Ok output) turn none all = stays_heard j old new event (requests_asked_by output.command) (acts old new event output turn.1) none all
turn_heard j old new event (Err fault) turn none all = subst (λ (x : WatchState). AreHeard true j x.out) (sym (refused_stays old new event fault turn)) all

abbrev turned : WatchEvent → Result WatchOutput WatchFault → WatchState → Turned
turned event result new = record { event = event; result = result; state = new }

turn_back : (old new : WatchState) (event : WatchEvent) (result : Result WatchOutput WatchFault) → Turn old event result new → is_answer_taken (turned event result new) ≡ true → new.presence.away ≡ false
turn_back old new event (Ok output) turn yes' = answer_back old new event (requests_asked_by output.command) (acts old new event output turn.1) yes'
turn_back old new event (Err fault) turn yes' = absurd cc

turn_hears : (j : ℕ) (old new : WatchState) (event : WatchEvent) (result : Result WatchOutput WatchFault) → Turn old event result new → is_answer_taken (turned event result new) ≡ true → AreHeard true j new.out
turn_hears j old new event (Ok output) turn yes' = answer_hears j old new event (requests_asked_by output.command) (acts old new event output turn.1) yes'
turn_hears j old new event (Err fault) turn yes' = absurd cc

turn_lost : (i : ℕ) (old new : WatchState) (event : WatchEvent) (result : Result WatchOutput WatchFault) → Turn old event result new → is_loss i (turned event result new) ≡ true → AreHeard false i old.out → new.presence.away ≡ true
turn_lost i old new event (Ok output) turn yes' all = loss_lost i old new event (requests_asked_by output.command) (acts old new event output turn.1) yes' all
turn_lost i old new event (Err fault) turn yes' all = absurd cc

turn_same :
    (i : ℕ) (old new : WatchState) (event : WatchEvent) (result : Result WatchOutput WatchFault) → Turn old event result new → is_loss i (turned event result new) ≡ true → AreHeard true i old.out →
    new.presence.away ≡ old.presence.away
turn_same i old new event (Ok output) turn yes' all = loss_same i old new event (requests_asked_by output.command) (acts old new event output turn.1) yes' all
turn_same i old new event (Err fault) turn yes' all = absurd cc

turn_else :
    (old new : WatchState) (event : WatchEvent) (result : Result WatchOutput WatchFault) → Turn old event result new → is_answer_taken (turned event result new) ≡ false →
    ((i : ℕ) → is_loss i (turned event result new) ≡ false) → new.presence.away ≡ old.presence.away
turn_else old new event (Ok output) turn no' none = else_same old new event (requests_asked_by output.command) (acts old new event output turn.1) no' none
turn_else old new event (Err fault) turn no' none = ap (λ (x : WatchState). x.presence.away) (refused_stays old new event fault turn)

-- a change of what is watched
else_at : (old : WatchState) (happening : Happening) → Happens old happening → is_answer_at happening ≡ false → ((i : ℕ) → is_loss_at i happening ≡ false) → (state_after happening).presence.away ≡ old.presence.away
else_at old (Hands turn) h no' none = turn_else old turn.state turn.event turn.result h no' none
else_at old (Changes c) h no' none = ap (λ (x : WatchState). x.presence.away) h.state

-- who has heard of an answer, and who has not
heard_moved :
    (b : Bool) (k many n : ℕ) (was : List Was) (out : List Out) → many ≤ n → All (λ (q : Out). IsIndexNow many (place_now was q.entry) k → q.heard ≡ b) out → AreHeard b k (out_after was n out)
heard_moved b k many n was [] le all = All-nil (λ (q : Out). q.entry ≡ k → q.heard ≡ b)
heard_moved b k many n was (r ∷ rest) le all =
    let P : Out → Type 0 = λ q. IsIndexNow many (place_now was q.entry) k → q.heard ≡ b in
    All-cons (λ (q : Out). q.entry ≡ k → q.heard ≡ b) (moved_out was n r) (out_after was (suc n) rest) (λ is. All-head P r rest all (by (place_now was r.entry) is))
    (heard_moved b k many (suc n) was rest (omega (arith, le)) (All-tail P r rest all)) where
      by : (o : Option ℕ) → index_or n o ≡ k → IsIndexNow many o k
      by None is = let same : n ≡ k = is in let past : many ≤ k = omega (arith, le, same) in past
      by (Some j) is = sym is

heard_over :
    (b : Bool) (old : WatchState) (c : Changed) (k : ℕ) → IsChanged old c → ((i : ℕ) → IsIndexNow (length c.forest.entries) (place_now c.was i) k → AreHeard b i old.out) → AreHeard b k c.state.out
heard_over b old c k h all =
    let n = length c.forest.entries in
    subst (AreHeard b k) (sym (changed_out old c h)) (heard_moved b k n n c.was old.out (omega arith) (λ j d below now. all (get_or old.out j d).entry now j d below refl))

-- over turns and changes
ran_lost :
    (between : List Happening) (old : WatchState) (loss : Turned) (k : ℕ) → AllHappen old (between ++ Hands loss ∷ []) → ((i : ℕ) → MayHaveBeen between k i → AreHeard false i old.out) → list_any is_answer_at between ≡ false →
    is_loss k loss ≡ true → loss.state.presence.away ≡ true
ran_lost [] old loss k h all none is = turn_lost k old loss.state loss.event loss.result h.0 is (all k refl)
ran_lost (Hands turn ∷ between) old loss k h all none is =
    let parts = neither (is_answer_taken turn) (list_any is_answer_at between) none in
    ran_lost between turn.state loss k h.1 (λ i was. turn_unheard i old turn.state turn.event turn.result h.0 parts.0 (all i was)) parts.1 is
ran_lost (Changes c ∷ between) old loss k h all none is = ran_lost between c.state loss k h.1 (λ j was. heard_over false old c j h.0 (λ i now. all i (j, (now, was)))) none is

ran_same :
    (between : List Happening) (old : WatchState) (loss : Turned) (k : ℕ) → AllHappen old (between ++ Hands loss ∷ []) → ((i : ℕ) → MayHaveBeen between k i → AreHeard true i old.out) → NoneGoesOut k between → is_loss k loss ≡ true →
    loss.state.presence.away ≡ (state_after_all old between).presence.away
ran_same [] old loss k h all none is = turn_same k old loss.state loss.event loss.result h.0 is (all k refl)
ran_same (Hands turn ∷ between) old loss k h all none is =
    ran_same between turn.state loss k h.1 (λ i was. turn_heard i old turn.state turn.event turn.result h.0 (none.0 i was) (all i was)) none.1 is
ran_same (Changes c ∷ between) old loss k h all none is = ran_same between c.state loss k h.1 (λ j was. heard_over true old c j h.0 (λ i now. all i (j, (now, was)))) none is

pub away_by : AwayLaw
away_by = record {
  lost = λ old between loss k h out none is.
      ran_lost between old loss k h (λ i was. All-weaker (λ (q : Out). q.entry ≢ i) (λ (q : Out). q.entry ≡ i → q.heard ≡ false) (λ q other is'. absurd (other is')) old.out (out i was)) none is;
  back = λ old turn h yes'. turn_back old turn.state turn.event turn.result h.0 yes';
  heard = λ old answer loss between k h yes' none is. ran_same between answer.state loss k h.1 (λ i was. turn_hears i old answer.state answer.event answer.result h.0 yes') none is;
  others = else_at;
}
