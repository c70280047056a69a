-- Dating: what each turn makes of the clocks, and of the answers whose dates set them. For the law of clocks.
use Rattle.std.proofs.Common.{◌≡◌, ◌≢◌, ◌∙◌, ℕ, ◌+◌, ◌<◌, ◌≤◌, true, false, ◌||◌, ◌==◌, if◌then◌else◌, List, [], ◌∷◌, ◌++◌, Option, Some, None, All, Result, Ok, Err, is_none, is_some, map, min, nat_lt, refl, sym, ap, subst, append-nil, append_assoc, length, arith, inl, inr}
use Rattle.std.proofs.lemmas.Bool.Decides.{nat_tests}
use Rattle.std.proofs.lemmas.Bool.{cases_Bool, cond-false, cond-true}
use Rattle.std.proofs.lemmas.List.Elements.{All-append, All-cons, All-head, All-map, All-nil, All-tail, All-weaker}
use Rattle.std.specs.List.{list_any}
use Rattle.base_moment.specs.declared.moment.TheConstants.{LAST}
use Rattle.plan_forest.specs.Forest.{Forest}
use Rattle.watch_machine.specs.{declared.clocks.BrokerOffset.BrokerOffset, declared.clocks.Clocks.Clocks, declared.command.WatchOutput.WatchOutput, declared.command.WatchRequest.WatchRequest, declared.event.WatchEvent.WatchEvent}
use Rattle.watch_machine.specs.{declared.event.WatchReply.WatchReply, declared.event.WatchTerms.WatchTerms, declared.fault.WatchFault.WatchFault, declared.lanes.LaneAnswer.LaneAnswer, declared.lanes.Out.Out}
use Rattle.watch_machine.specs.{declared.notes.BeginReason.BeginReason, Beginning.begun, Change.out_after, Looked.looked, Press.pressed, Refusal.request_out, Renewed.state_renewed, Round.asked_by_round, Sending.out_at}
use Rattle.watch_machine.specs.{State.WatchState, State.opened}
use Rattle.watch_machine.specs.declared.event.WatchEvent.TheVariants.{Clock, Looked, Renewed}
use Rattle.watch_machine.specs.declared.event.Operation.TheVariants.{Look, Renew}
use Rattle.watch_machine.specs.declared.event.WatchReply.TheVariants.{Told, Refused, Busy, Lost}
use Rattle.watch_machine.specs.Answers.{answers_all, heard, lane_freed, noted, replied, silent, without_request}
use Rattle.watch_machine.specs.Clocks.{dated_by, first_clocks, is_ahead, is_behind, is_stepped, moment_at_reading, of_wall, phase_of, reading, sec, to_broker, to_wall, unset, walled}
use Rattle.watch_machine.specs.History.{Changed, History, IsChanged, IsReached, Turn, Turned, after_all}
use Rattle.watch_machine.specs.Settling.{at_reading, clocks_after, date_of, dated, dated_by_all, dated_on, is_real, read, settled, timed}
use Rattle.watch_machine.specs.Step.{Step, StepClock, StepLooked, StepRenewed, readied, why}
use Rattle.watch_machine.proofs.Within.{out_all, out_entry}
use Rattle.watch_machine.proofs.Cases.{if_both, if_cases, not_both, of_value}
use Rattle.watch_laws.specs.{Absence.is_event_taken, Beginnings.HasParted, Load.requests_asked_by, Load.requests_at_turn, Presence.is_asked_at_turn}
use Rattle.watch_laws.specs.Clocks.{ClocksStay, DateLaw, IsDateOf, ReadingLaw, ShowsDate, ShowsReadings, StaysLaw, UndatedLaw, date_told, is_set, sets}
use Rattle.watch_laws.proofs.{Bases.changed_since, Following.changed_out, Reached.ran_keeps, Reached.reached_has, Spacing.looked_out}
use Rattle.watch_laws.proofs.Answering.{looked_leaves, renewed_leaves, rest_of}
use Rattle.watch_laws.proofs.Away.{clock_leaves, left, neither, sent_requests}
use Rattle.watch_laws.proofs.Clocking.{begun_some, clock_rises, readied_clocks, refused_stays}

-- dates leave this clock, its phase and the wall's
abbrev frame : Clocks → Clocks
frame c = record c { broker = record { here = 0; there = 0 }; dated = false }

dated_frame : (since : ℕ) (c : Clocks) (date : ℕ) → frame (dated_by since c date) ≡ frame c
unfolding dated_by
dated_frame since c date = if_both (λ (x : Clocks). frame x ≡ frame c) (is_ahead c date || is_behind c since date) (record c { broker = record { here = c.at; there = date }; dated = true }) (record c { dated = true }) refl refl

dated_on_frame : (since : ℕ) (c : Clocks) (date : Option ℕ) → frame (dated_on since c date) ≡ frame c
dated_on_frame since c None = refl
dated_on_frame since c (Some date) = dated_frame since c (min LAST date)

all_frame : (c : Clocks) (answers : List LaneAnswer) → frame (dated_by_all c answers) ≡ frame c
all_frame c [] = refl
all_frame c (a ∷ answers) = all_frame (dated c a) answers ∙ dated_on_frame a.since c (date_of a.reply)

-- no clock was set ahead of this one, and until a date is taken the broker's is the wall's
pub record IsSet (c : Clocks) : Type 0 where
  pub phase : c.phase < 1000
  pub wall : c.wall.here ≤ c.at
  pub broker : c.broker.here ≤ c.at
  pub undated : c.dated ≡ false → c.broker ≡ of_wall c.wall

set_first : (wall elapsed : ℕ) → IsSet (first_clocks wall elapsed)
unfolding first_clocks phase_of
set_first wall elapsed = record { phase = omega arith; wall = omega arith; broker = omega arith; undated = λ none. refl }

set_read : (c : Clocks) (wall elapsed : ℕ) → IsSet c → IsSet (read c wall elapsed)
unfolding walled moment_at_reading
set_read c wall elapsed h =
    let w = h.wall in
    let b = h.broker in
    let now = at_reading c elapsed in
    if_cases IsSet (is_stepped now (reading wall))
    (record now { wall = record { here = now.at; there = reading wall }; broker = if c.dated then c.broker else record { here = now.at; there = sec (reading wall) } }) now
    (λ e. record {
      phase = h.phase;
      wall = omega arith;
      broker = if_both (λ (o : BrokerOffset). o.here ≤ now.at) c.dated c.broker (record { here = now.at; there = sec (reading wall) }) (omega (arith, b)) (omega arith);
      undated = λ none. cond-false c.dated c.broker (record { here = now.at; there = sec (reading wall) }) none;
    })
    (λ e. record { phase = h.phase; wall = omega (arith, w); broker = omega (arith, b); undated = h.undated })

set_dated : (since : ℕ) (c : Clocks) (date : ℕ) → IsSet c → IsSet (dated_by since c date)
unfolding dated_by
set_dated since c date h =
    if_both IsSet (is_ahead c date || is_behind c since date) (record c { broker = record { here = c.at; there = date }; dated = true }) (record c { dated = true })
    (record { phase = h.phase; wall = h.wall; broker = omega arith; undated = λ none. absurd cc })
    (record { phase = h.phase; wall = h.wall; broker = h.broker; undated = λ none. absurd cc })

set_on : (since : ℕ) (c : Clocks) (date : Option ℕ) → IsSet c → IsSet (dated_on since c date)
set_on since c None h = h
set_on since c (Some date) h = set_dated since c (min LAST date) h

set_all : (c : Clocks) (answers : List LaneAnswer) → IsSet c → IsSet (dated_by_all c answers)
set_all c [] h = h
set_all c (a ∷ answers) h = set_all (dated c a) answers (set_on a.since c (date_of a.reply) h)

set_after : (s : WatchState) (wall elapsed : ℕ) → IsSet s.clocks → IsSet (clocks_after s wall elapsed)
unfolding clocks_after
set_after s wall elapsed h =
    if_both IsSet (is_none s.begun) (first_clocks wall elapsed) (dated_by_all (read s.clocks wall elapsed) s.answers) (set_first wall elapsed)
    (set_all (read s.clocks wall elapsed) s.answers (set_read s.clocks wall elapsed h))

-- the readings are shown
pub not_parted : (c : Clocks) (wall : ℕ) → c.wall.here ≤ c.at → is_stepped c wall ≡ false → HasParted c.wall c.at wall → ⊥
unfolding is_stepped to_wall
not_parted c wall here no' parted =
    let parts = neither (nat_lt (to_wall c.wall c.at + 2000) wall) (nat_lt (wall + 2000) (to_wall c.wall c.at)) no' in
    let one = parts.0 in
    let two = parts.1 in
    let less : wall ≤ to_wall c.wall c.at + 2000 = grind (arith, nat_tests) in
    let more : to_wall c.wall c.at ≤ wall + 2000 = grind (arith, nat_tests) in
    elim parted [ inl ahead ↦ omega (arith, less, ahead, here) | inr behind ↦ omega (arith, more, behind, here) ]

just_set : (c : Clocks) (wall : ℕ) → HasParted (record { here = c.at; there = wall }) c.at wall → ⊥
just_set c wall parted = elim parted [ inl ahead ↦ omega (arith, ahead) | inr behind ↦ omega (arith, behind) ]

shown_first : (wall elapsed : ℕ) → ShowsReadings unset (first_clocks wall elapsed) wall elapsed
unfolding first_clocks phase_of
shown_first wall elapsed = record { in_phase = omega arith; this = omega arith; of_wall = just_set (first_clocks wall elapsed) (reading wall) }

shown_read : (c : Clocks) (wall elapsed : ℕ) → IsSet c → ShowsReadings c (read c wall elapsed) wall elapsed
unfolding walled moment_at_reading
shown_read c wall elapsed h =
    let w = h.wall in
    let now = at_reading c elapsed in
    if_cases (λ (d : Clocks). ShowsReadings c d wall elapsed) (is_stepped now (reading wall))
    (record now { wall = record { here = now.at; there = reading wall }; broker = if c.dated then c.broker else record { here = now.at; there = sec (reading wall) } }) now
    (λ e. record { in_phase = h.phase; this = refl; of_wall = just_set now (reading wall) })
    (λ e. record { in_phase = h.phase; this = refl; of_wall = not_parted now (reading wall) (omega (arith, w)) e })

shown_frame : (c d e : Clocks) (wall elapsed : ℕ) → frame e ≡ frame d → ShowsReadings c d wall elapsed → ShowsReadings c e wall elapsed
shown_frame c d e wall elapsed same h = of (subst (λ (x : Clocks). ShowsReadings c x wall elapsed) (sym same) (to h)) where
  to : ShowsReadings c d wall elapsed → ShowsReadings c (frame d) wall elapsed
  to k = record { in_phase = k.in_phase; this = k.this; of_wall = k.of_wall }

  of : ShowsReadings c (frame e) wall elapsed → ShowsReadings c e wall elapsed
  of k = record { in_phase = k.in_phase; this = k.this; of_wall = k.of_wall }

shown_after : (s : WatchState) (wall elapsed : ℕ) → (is_none s.begun ≡ true → s.clocks ≡ unset) → IsSet s.clocks → ShowsReadings s.clocks (clocks_after s wall elapsed) wall elapsed
unfolding clocks_after
shown_after s wall elapsed fresh h =
    let c = read s.clocks wall elapsed in
    if_cases (λ (d : Clocks). ShowsReadings s.clocks d wall elapsed) (is_none s.begun) (first_clocks wall elapsed) (dated_by_all c s.answers)
    (λ none. subst (λ (x : Clocks). ShowsReadings x (first_clocks wall elapsed) wall elapsed) (sym (fresh none)) (shown_first wall elapsed))
    (λ some. shown_frame s.clocks c (dated_by_all c s.answers) wall elapsed (all_frame c s.answers) (shown_read s.clocks wall elapsed h))

-- a date is shown, once it is taken
shown_by : (since : ℕ) (c : Clocks) (date : ℕ) → since ≤ c.at → c.broker.here ≤ c.at → ShowsDate (dated_by since c date) since date
unfolding dated_by is_ahead is_behind to_broker sec
shown_by since c date past here =
    if_cases (λ (d : Clocks). ShowsDate d since date) (is_ahead c date || is_behind c since date) (record c { broker = record { here = c.at; there = date }; dated = true }) (record c { dated = true })
    (λ e. record { no_less = omega arith; no_more = omega (arith, past); told = refl })
    (λ no'.
    let parts = neither (is_ahead c date) (is_behind c since date) no' in
    let one = parts.0 in
    let two = parts.1 in
    let less : date ≤ to_broker c.broker (sec c.at) + 2 = grind (arith, nat_tests) in
    let more : to_broker c.broker (sec since) ≤ date + 3 = grind (arith, nat_tests) in
    record { no_less = omega (arith, less, here); no_more = omega (arith, more); told = refl })

all_then : (c : Clocks) (first rest : List LaneAnswer) → dated_by_all c (first ++ rest) ≡ dated_by_all (dated_by_all c first) rest
all_then c [] rest = refl
all_then c (a ∷ first) rest = all_then (dated c a) first rest

abbrev HaveNone : List LaneAnswer → Type 0
HaveNone answers = All (λ (b : LaneAnswer). date_of b.reply ≡ None) answers

none_sets : (c : Clocks) (answers : List LaneAnswer) → HaveNone answers → dated_by_all c answers ≡ c
none_sets c [] none = refl
none_sets c (a ∷ answers) none =
    ap (λ (d : Clocks). dated_by_all d answers) (ap (dated_on a.since c) (All-head (λ (b : LaneAnswer). date_of b.reply ≡ None) a answers none))
    ∙ none_sets c answers (All-tail (λ (b : LaneAnswer). date_of b.reply ≡ None) a answers none)

shown_last : (c : Clocks) (first rest : List LaneAnswer) (a : LaneAnswer) (date : ℕ) → IsSet c → a.since ≤ c.at → date_of a.reply ≡ Some date → HaveNone rest → ShowsDate (dated_by_all c (first ++ a ∷ rest)) a.since (min LAST date)
shown_last c first rest a date h past is none =
    let mid = dated_by_all c first in
    let at = ap (λ (d : Clocks). d.at) (all_frame c first) in
    let whole : dated_by_all c (first ++ a ∷ rest) ≡ dated_by a.since mid (min LAST date) =
    all_then c first (a ∷ rest) ∙ none_sets (dated mid a) rest none ∙ ap (dated_on a.since mid) is in
    subst (λ (d : Clocks). ShowsDate d a.since (min LAST date)) (sym whole) (shown_by a.since mid (min LAST date) (omega (arith, at, past)) (set_all c first h).broker)

-- a reply: it is kept with the moment of its request
replied_answers : (mid : WatchState) (q : Out) (reply : WatchReply) → (replied mid q reply).answers ≡ mid.answers
replied_answers mid q reply =
    let free = lane_freed mid q in
    let P : WatchState → Type 0 = λ t. t.answers ≡ mid.answers in
    if_both P (is_real reply) (answers_all free) (if q.heard then free else silent free) (if_both P mid.presence.away _ _ refl refl)
    (if_both P q.heard free (silent free) refl (if_both P mid.presence.away _ _ refl refl))

replied_all : (P : Out → Type 0) → ((q : Out) → P q → P (heard q)) → (mid : WatchState) (q : Out) (reply : WatchReply) → All P mid.out → All P (replied mid q reply).out
replied_all P stable mid q reply all =
    let free = lane_freed mid q in
    let W : WatchState → Type 0 = λ t. All P t.out in
    let rest = left P q.entry mid.out all in
    let hears = All-map P heard (without_request q.entry mid.out) (All-weaker P (λ (r : Out). P (heard r)) stable (without_request q.entry mid.out) rest) in
    if_both W (is_real reply) (answers_all free) (if q.heard then free else silent free) (if_both W mid.presence.away _ _ hears hears)
    (if_both W q.heard free (silent free) rest (if_both W mid.presence.away _ _ rest rest))

looked_answers : (s : WatchState) (q : Out) (reply : WatchReply) (terms : WatchTerms) → (looked s q reply terms).answers ≡ s.answers
looked_answers s q (Told seconds renewable date) terms = refl
looked_answers s q _ terms = refl

abbrev pub kept_as : Out → WatchReply → LaneAnswer
kept_as q reply = record { since = q.since; heard = q.heard; reply = reply }

pub record Adds (old : WatchState) (i : ℕ) (reply : WatchReply) (new : WatchState) : Type 1 where
  pub q : Out
  pub entry : q.entry ≡ i
  pub found : (P : Out → Type 0) → All P old.out → P q
  pub answers : new.answers ≡ old.answers ++ kept_as q reply ∷ []
  pub out : (P : Out → Type 0) → ((q : Out) → P q → P (heard q)) → All P old.out → All P new.out
  pub rest : rest_of new ≡ rest_of old

looked_adds : (old new : WatchState) (i : ℕ) (reply : WatchReply) (terms : WatchTerms) (output : WatchOutput) (found : Option Out) → request_out old.out i Look ≡ found → StepLooked old found reply terms output new → Adds old i reply new
looked_adds old new i reply terms output None is step = absurd step
looked_adds old new i reply terms output (Some q) is step =
    let s = noted old q reply in
    let mid = looked s q reply terms in record {
      q = q;
      entry = out_entry old.out i Look q is;
      found = λ P all. of_value P (request_out old.out i Look) q (out_all P old.out i Look all) is;
      answers = ap (λ (x : WatchState). x.answers) step.1 ∙ replied_answers mid q reply ∙ looked_answers s q reply terms;
      out = λ P stable all. subst (λ (x : WatchState). All P x.out) (sym step.1) (replied_all P stable mid q reply (subst (All P) (sym (looked_out s q reply terms)) all));
      rest = ap rest_of step.1 ∙ looked_leaves old q reply terms;
    }

renewed_adds : (old new : WatchState) (i : ℕ) (reply : WatchReply) (output : WatchOutput) (found : Option Out) → request_out old.out i Renew ≡ found → StepRenewed old found reply output new → Adds old i reply new
renewed_adds old new i reply output None is step = absurd step
renewed_adds old new i reply output (Some q) is step =
    let mid = state_renewed (noted old q reply) q reply in record {
      q = q;
      entry = out_entry old.out i Renew q is;
      found = λ P all. of_value P (request_out old.out i Renew) q (out_all P old.out i Renew all) is;
      answers = ap (λ (x : WatchState). x.answers) step.1 ∙ replied_answers mid q reply;
      out = λ P stable all. subst (λ (x : WatchState). All P x.out) (sym step.1) (replied_all P stable mid q reply all);
      rest = ap rest_of step.1 ∙ renewed_leaves old q reply;
    }

-- a clock: the answers so far have set the clocks
pub record Goes (old : WatchState) (wall elapsed : ℕ) (requests : List WatchRequest) (new : WatchState) : Type 1 where
  pub clocks : new.clocks ≡ clocks_after old wall elapsed
  pub answers : new.answers ≡ []
  pub begun : is_none new.begun ≡ false
  pub out : (P : Out → Type 0) → All P old.out → All P (map (out_at new.clocks.at) requests) → All P new.out

begun_answers : (s : WatchState) (w : Option BeginReason) → (begun s w).answers ≡ s.answers
begun_answers s None = refl
begun_answers s (Some w) = refl

readied_answers : (s : WatchState) (wall elapsed : ℕ) → (readied s wall elapsed).answers ≡ []
unfolding readied
readied_answers s wall elapsed = begun_answers (settled (timed s wall elapsed)) (why s wall elapsed)

clock_goes : (old new : WatchState) (wall elapsed : ℕ) (output : WatchOutput) → StepClock old wall elapsed output new → Goes old wall elapsed (requests_asked_by output.command) new
clock_goes old new wall elapsed output step =
    let mid = pressed (readied old wall elapsed) (asked_by_round step.round) in
    let is = sent_requests mid new output.command step.command in record {
      clocks = ap (λ (x : WatchState). x.clocks) is ∙ readied_clocks old wall elapsed;
      answers = ap (λ (x : WatchState). x.answers) is ∙ readied_answers old wall elapsed;
      begun = ap (λ (x : WatchState). is_none x.begun) is ∙ begun_some old wall elapsed;
      out = λ P all more. (clock_leaves old new wall elapsed output step).kept P all more;
    }

-- any other event
pub record Keeps (old new : WatchState) : Type 1 where
  pub rest : rest_of new ≡ rest_of (record old { asked = new.asked })
  pub answers : new.answers ≡ old.answers
  pub out : new.out ≡ old.out

abbrev pub Does : WatchState → WatchEvent → List WatchRequest → WatchState → Type 1
Does old (Clock wall elapsed) requests new = Goes old wall elapsed requests new
Does old (Looked i reply terms) requests new = Adds old i reply new
Does old (Renewed i reply) requests new = Adds old i reply new
Does old _ requests new = Keeps old new

keeps_by : (old new mid : WatchState) → new ≡ mid → rest_of mid ≡ rest_of (record old { asked = mid.asked }) → mid.answers ≡ old.answers → mid.out ≡ old.out → Keeps old new
keeps_by old new mid is rest answers out = subst (Keeps old) (sym is) (record { rest = rest; answers = answers; out = out })

pub does : (old new : WatchState) (event : WatchEvent) (output : WatchOutput) → Step old event output new → Does old event (requests_asked_by output.command) new
does old new (Clock wall elapsed) output step = clock_goes old new wall elapsed output step
does old new (Looked i reply terms) output step = looked_adds old new i reply terms output (request_out old.out i Look) refl step
does old new (Renewed i reply) output step = renewed_adds old new i reply output (request_out old.out i Renew) refl step
does old new _ output step = keeps_by old new _ step.1 refl refl refl

-- before the first clock nothing is out, and no clock is set; and no request went out after now
pub record Clocked (s : WatchState) : Type 0 where
  pub fresh : is_none s.begun ≡ true → (s.out ≡ []) × ((s.answers ≡ []) × (s.clocks ≡ unset))
  pub since : All (λ (q : Out). q.since ≤ s.clocks.at) s.out
  pub set : IsSet s.clocks

goes_up : (s : WatchState) (wall elapsed : ℕ) → Clocked s → s.clocks.at ≤ (clocks_after s wall elapsed).at
goes_up s wall elapsed h =
    elim (cases_Bool (is_none s.begun)) [
      | inl none ↦ let zero' = ap (λ (c : Clocks). c.at) (h.fresh none).1.1 in omega (arith, zero')
      | inr some ↦ clock_rises s wall elapsed some
    ]

goes_clocked : (old new : WatchState) (wall elapsed : ℕ) (requests : List WatchRequest) → Goes old wall elapsed requests new → Clocked old → Clocked new
goes_clocked old new wall elapsed requests h o =
    let up = goes_up old wall elapsed o in
    let at = ap (λ (c : Clocks). c.at) h.clocks in record {
      fresh = λ none. absurd (not_both none h.begun);
      since =
          h.out (λ (q : Out). q.since ≤ new.clocks.at) (All-weaker (λ (q : Out). q.since ≤ old.clocks.at) (λ (q : Out). q.since ≤ new.clocks.at) (λ q le. omega (arith, le, up, at)) old.out o.since)
          (All-map (λ (q : Out). q.since ≤ new.clocks.at) (out_at new.clocks.at) requests (λ k d below. omega arith));
      set = subst IsSet (sym h.clocks) (set_after old wall elapsed o.set);
    }

adds_clocked : (old new : WatchState) (i : ℕ) (reply : WatchReply) → Adds old i reply new → Clocked old → Clocked new
adds_clocked old new i reply h o =
    let clocks : new.clocks ≡ old.clocks = ap (λ (x : WatchState). x.clocks) h.rest in
    let at = ap (λ (c : Clocks). c.at) clocks in record {
      fresh = λ none. absurd (h.found (λ q. ⊥) (subst (All (λ q. ⊥)) (sym (o.fresh (sym (ap (λ (x : WatchState). is_none x.begun) h.rest) ∙ none)).0) (All-nil (λ (q : Out). ⊥))));
      since = h.out (λ (q : Out). q.since ≤ new.clocks.at) (λ q le. le)
          (All-weaker (λ (q : Out). q.since ≤ old.clocks.at) (λ (q : Out). q.since ≤ new.clocks.at) (λ q le. omega (arith, le, at)) old.out o.since);
      set = subst IsSet (sym clocks) o.set;
    }

keeps_clocked : (old new : WatchState) → Keeps old new → Clocked old → Clocked new
keeps_clocked old new h o =
    let clocks : new.clocks ≡ old.clocks = ap (λ (x : WatchState). x.clocks) h.rest in
    let at = ap (λ (c : Clocks). c.at) clocks in record {
      fresh = λ none. let f = o.fresh (sym (ap (λ (x : WatchState). is_none x.begun) h.rest) ∙ none) in (h.out ∙ f.0, (h.answers ∙ f.1.0, clocks ∙ f.1.1));
      since = subst (All (λ (q : Out). q.since ≤ new.clocks.at)) (sym h.out)
          (All-weaker (λ (q : Out). q.since ≤ old.clocks.at) (λ (q : Out). q.since ≤ new.clocks.at) (λ q le. omega (arith, le, at)) old.out o.since);
      set = subst IsSet (sym clocks) o.set;
    }

does_clocked : (old new : WatchState) (event : WatchEvent) (requests : List WatchRequest) → Does old event requests new → Clocked old → Clocked new
does_clocked old new (Clock wall elapsed) requests h o = goes_clocked old new wall elapsed requests h o
does_clocked old new (Looked i reply terms) requests h o = adds_clocked old new i reply h o
does_clocked old new (Renewed i reply) requests h o = adds_clocked old new i reply h o
does_clocked old new _ requests h o = keeps_clocked old new h o

turn_clocked : (old new : WatchState) (event : WatchEvent) (result : Result WatchOutput WatchFault) → Turn old event result new → Clocked old → Clocked new
turn_clocked old new event (Ok output) turn o = does_clocked old new event (requests_asked_by output.command) (does old new event output turn.1) o
turn_clocked old new event (Err fault) turn o = subst Clocked (sym (refused_stays old new event fault turn)) o

pub ran_clocked : (turns : List Turned) (old : WatchState) → History old turns → Clocked old → Clocked (after_all old turns)
ran_clocked turns old h o = ran_keeps Clocked turn_clocked turns old h o

changed_clocked : (old : WatchState) (c : Changed) → IsChanged old c → Clocked old → Clocked c.state
changed_clocked old c h o = record {
  fresh = λ none.
      let f = o.fresh (sym (ap (λ (s : WatchState). is_none s.begun) h.state) ∙ none) in (
        changed_out old c h ∙ ap (out_after c.was (length c.forest.entries)) f.0,
        (ap (λ (s : WatchState). s.answers) h.state ∙ f.1.0, ap (λ (s : WatchState). s.clocks) h.state ∙ f.1.1),
      );
  since = changed_since old c h o.since;
  set = subst IsSet (sym (ap (λ (s : WatchState). s.clocks) h.state)) o.set;
}

opened_clocked : (g : Forest) (width : ℕ) → Clocked (opened g width)
unfolding sec
opened_clocked g width = record {
  fresh = λ none. (refl, (refl, refl));
  since = All-nil (λ (q : Out). q.since ≤ 0);
  set = record { phase = omega arith; wall = omega arith; broker = omega arith; undated = λ none. refl };
}

pub reached_clocked : (s : WatchState) → IsReached s → Clocked s
reached_clocked s r = reached_has Clocked turn_clocked changed_clocked opened_clocked s r

-- a history up to a turn, and from there on
pub parts : (before rest : List Turned) (old : WatchState) → History old (before ++ rest) → History old before × History (after_all old before) rest
parts [] rest old h = (tt, h)
parts (turn ∷ before) rest old h = let p = parts before rest turn.state h.1 in ((h.0, p.0), p.1)

-- a clock that is taken
pub clock_of :
    (old new : WatchState) (event : WatchEvent) (result : Result WatchOutput WatchFault) (wall elapsed : ℕ) → Turn old event result new → event ≡ Clock wall elapsed → is_event_taken result ≡ true →
    Goes old wall elapsed (requests_at_turn result) new
clock_of old new event (Ok output) wall elapsed turn is taken' = clock_goes old new wall elapsed output (subst (λ e. Step old e output new) is turn.1)
clock_of old new event (Err fault) wall elapsed turn is taken' = absurd cc

pub readings_shown : ReadingLaw
readings_shown old turn wall elapsed reached h clock =
    let o = reached_clocked old reached in
    let goes = clock_of old turn.state turn.event turn.result wall elapsed h.0 clock.0 clock.1 in
    subst (λ (c : Clocks). ShowsReadings old.clocks c wall elapsed) (sym goes.clocks) (shown_after old wall elapsed (λ none. (o.fresh none).1.1) o.set)

pub undated_shown : UndatedLaw
undated_shown s reached none =
    let is = (reached_clocked s reached).set.undated none in
    record { here = ap (λ (o : BrokerOffset). o.here) is; there = ap (λ (o : BrokerOffset). o.there) is }

-- a turn that sets no clock
record Quiet (old new : WatchState) : Type 0 where
  clocks : new.clocks ≡ old.clocks
  begun : is_none new.begun ≡ is_none old.begun
  more : List LaneAnswer
  answers : new.answers ≡ old.answers ++ more
  none : HaveNone more

no_date : (reply : WatchReply) → is_some (date_told reply) ≡ false → date_of reply ≡ None
no_date (Told seconds renewable None) none = refl
no_date (Told seconds renewable (Some date)) none = absurd cc
no_date (Refused status None) none = refl
no_date (Refused status (Some date)) none = absurd cc
no_date Busy none = refl
no_date Lost none = refl

adds_quiet : (old new : WatchState) (i : ℕ) (reply : WatchReply) → Adds old i reply new → is_some (date_told reply) ≡ false → Quiet old new
adds_quiet old new i reply h none = record {
  clocks = ap (λ (x : WatchState). x.clocks) h.rest;
  begun = ap (λ (x : WatchState). is_none x.begun) h.rest;
  more = kept_as h.q reply ∷ [];
  answers = h.answers;
  none = All-cons (λ (b : LaneAnswer). date_of b.reply ≡ None) (kept_as h.q reply) [] (no_date reply none) (All-nil (λ (b : LaneAnswer). date_of b.reply ≡ None));
}

keeps_quiet : (old new : WatchState) → Keeps old new → Quiet old new
keeps_quiet old new h = record {
  clocks = ap (λ (x : WatchState). x.clocks) h.rest;
  begun = ap (λ (x : WatchState). is_none x.begun) h.rest;
  more = [];
  answers = h.answers ∙ sym (append-nil old.answers);
  none = All-nil (λ (b : LaneAnswer). date_of b.reply ≡ None);
}

does_quiet : (old new : WatchState) (event : WatchEvent) (requests : List WatchRequest) → Does old event requests new → sets event ≡ false → Quiet old new
does_quiet old new (Clock wall elapsed) requests h none = absurd cc
does_quiet old new (Looked i reply terms) requests h none = adds_quiet old new i reply h none
does_quiet old new (Renewed i reply) requests h none = adds_quiet old new i reply h none
does_quiet old new _ requests h none = keeps_quiet old new h

turn_quiet : (old new : WatchState) (event : WatchEvent) (result : Result WatchOutput WatchFault) → Turn old event result new → is_set (record { event = event; result = result; state = new }) ≡ false → Quiet old new
turn_quiet old new event (Ok output) turn none = does_quiet old new event (requests_asked_by output.command) (does old new event output turn.1) none
turn_quiet old new event (Err fault) turn none =
    let same = refused_stays old new event fault turn in record {
      clocks = ap (λ (x : WatchState). x.clocks) same;
      begun = ap (λ (x : WatchState). is_none x.begun) same;
      more = [];
      answers = ap (λ (x : WatchState). x.answers) same ∙ sym (append-nil old.answers);
      none = All-nil (λ (b : LaneAnswer). date_of b.reply ≡ None);
    }

-- several such turns
ran_quiet : (turns : List Turned) (old : WatchState) → History old turns → list_any is_set turns ≡ false → Quiet old (after_all old turns)
ran_quiet [] old h none = record { clocks = refl; begun = refl; more = []; answers = sym (append-nil old.answers); none = All-nil (λ (b : LaneAnswer). date_of b.reply ≡ None) }
ran_quiet (turn ∷ turns) old h none =
    let both = neither (is_set turn) (list_any is_set turns) none in
    let first = turn_quiet old turn.state turn.event turn.result h.0 both.0 in
    let rest = ran_quiet turns turn.state h.1 both.1 in record {
      clocks = rest.clocks ∙ first.clocks;
      begun = rest.begun ∙ first.begun;
      more = first.more ++ rest.more;
      answers = rest.answers ∙ ap (λ xs. xs ++ rest.more) first.answers ∙ append_assoc old.answers first.more rest.more;
      none = All-append (λ (b : LaneAnswer). date_of b.reply ≡ None) first.more rest.more first.none rest.none;
    }

-- the request goes out, and stays out as it is
abbrev pub WentOut : ℕ → ℕ → Out → Type 0
WentOut i since q = q.entry ≡ i → q.since ≡ since

other_out : (i since at : ℕ) (requests : List WatchRequest) → list_any (λ (r : WatchRequest). r.entry == i) requests ≡ false → All (WentOut i since) (map (out_at at) requests)
other_out i since at [] none = All-nil (WentOut i since)
other_out i since at (r ∷ requests) none =
    let both = neither (r.entry == i) (list_any (λ (x : WatchRequest). x.entry == i) requests) none in
    All-cons (WentOut i since) (out_at at r) (map (out_at at) requests) (λ is. absurd (not_both (eqb-is r.entry i is) both.0)) (other_out i since at requests both.1) where
      eqb-is : (m n : ℕ) → m ≡ n → (m == n) ≡ true
      eqb-is m n is = grind (arith, nat_tests)

does_out :
    (i since : ℕ) (old new : WatchState) (event : WatchEvent) (requests : List WatchRequest) → Does old event requests new → list_any (λ (r : WatchRequest). r.entry == i) requests ≡ false → All (WentOut i since) old.out →
    All (WentOut i since) new.out
does_out i since old new (Clock wall elapsed) requests h none all = h.out (WentOut i since) all (other_out i since new.clocks.at requests none)
does_out i since old new (Looked j reply terms) requests h none all = h.out (WentOut i since) (λ q w. w) all
does_out i since old new (Renewed j reply) requests h none all = h.out (WentOut i since) (λ q w. w) all
does_out i since old new _ requests h none all = subst (All (WentOut i since)) (sym h.out) all

turn_out :
    (i since : ℕ) (old new : WatchState) (event : WatchEvent) (result : Result WatchOutput WatchFault) → Turn old event result new → list_any (λ (r : WatchRequest). r.entry == i) (requests_at_turn result) ≡ false →
    All (WentOut i since) old.out → All (WentOut i since) new.out
turn_out i since old new event (Ok output) turn none all = does_out i since old new event (requests_asked_by output.command) (does old new event output turn.1) none all
turn_out i since old new event (Err fault) turn none all = subst (λ (x : WatchState). All (WentOut i since) x.out) (sym (refused_stays old new event fault turn)) all

pub ran_out :
    (i since : ℕ) (turns : List Turned) (old : WatchState) → History old turns → list_any (is_asked_at_turn i) turns ≡ false → All (WentOut i since) old.out → All (WentOut i since) (after_all old turns).out
ran_out i since [] old h none all = all
ran_out i since (turn ∷ turns) old h none all =
    let both = neither (is_asked_at_turn i turn) (list_any (is_asked_at_turn i) turns) none in
    ran_out i since turns turn.state h.1 both.1 (turn_out i since old turn.state turn.event turn.result h.0 both.0 all)

none_out : (i since : ℕ) (out : List Out) → All (λ (q : Out). q.entry ≢ i) out → All (WentOut i since) out
none_out i since out none = All-weaker (λ (q : Out). q.entry ≢ i) (WentOut i since) (λ q other is. absurd (other is)) out none

-- at that turn
does_ask : (i : ℕ) (old new : WatchState) (event : WatchEvent) (requests : List WatchRequest) → Does old event requests new → All (λ (q : Out). q.entry ≢ i) old.out → All (WentOut i new.clocks.at) new.out
does_ask i old new (Clock wall elapsed) requests h none =
    h.out (WentOut i new.clocks.at) (none_out i new.clocks.at old.out none) (All-map (WentOut i new.clocks.at) (out_at new.clocks.at) requests (λ k d below is. refl))
does_ask i old new (Looked j reply terms) requests h none = h.out (WentOut i new.clocks.at) (λ q w. w) (none_out i new.clocks.at old.out none)
does_ask i old new (Renewed j reply) requests h none = h.out (WentOut i new.clocks.at) (λ q w. w) (none_out i new.clocks.at old.out none)
does_ask i old new _ requests h none = subst (All (WentOut i new.clocks.at)) (sym h.out) (none_out i new.clocks.at old.out none)

pub turn_asks : (i : ℕ) (old new : WatchState) (event : WatchEvent) (result : Result WatchOutput WatchFault) → Turn old event result new → All (λ (q : Out). q.entry ≢ i) old.out → All (WentOut i new.clocks.at) new.out
turn_asks i old new event (Ok output) turn none = does_ask i old new event (requests_asked_by output.command) (does old new event output turn.1) none
turn_asks i old new event (Err fault) turn none =
    subst (λ (x : WatchState). All (WentOut i new.clocks.at) x.out) (sym (refused_stays old new event fault turn)) (none_out i new.clocks.at old.out none)

-- the date is kept
record HasDate (since date : ℕ) (s : WatchState) : Type 0 where
  first : List LaneAnswer
  a : LaneAnswer
  rest : List LaneAnswer
  is : s.answers ≡ first ++ a ∷ rest
  at : a.since ≡ since
  told : date_of a.reply ≡ Some date
  none : HaveNone rest
  past : since ≤ s.clocks.at

date_is : (reply : WatchReply) (date : ℕ) → date_told reply ≡ Some date → date_of reply ≡ Some date
date_is (Told seconds renewable d) date is = is
date_is _ date is = is

adds_date : (i since date : ℕ) (old new : WatchState) (j : ℕ) (reply : WatchReply) → Adds old j reply new → j ≡ i → date_told reply ≡ Some date → All (WentOut i since) old.out → Clocked old → HasDate since date new
adds_date i since date old new j reply h of told all o =
    let went = h.found (WentOut i since) all (h.entry ∙ of) in
    let now = h.found (λ (q : Out). q.since ≤ old.clocks.at) o.since in
    let at = ap (λ (x : WatchState). x.clocks.at) h.rest in record {
      first = old.answers;
      a = kept_as h.q reply;
      rest = [];
      is = h.answers;
      at = went;
      told = date_is reply date told;
      none = All-nil (λ (b : LaneAnswer). date_of b.reply ≡ None);
      past = omega (arith, went, now, at);
    }

does_date : (i since date : ℕ) (old new : WatchState) (event : WatchEvent) (requests : List WatchRequest) → Does old event requests new → IsDateOf i date event → All (WentOut i since) old.out → Clocked old → HasDate since date new
does_date i since date old new (Looked j reply terms) requests h is all o = adds_date i since date old new j reply h is.0 is.1 all o
does_date i since date old new (Renewed j reply) requests h is all o = adds_date i since date old new j reply h is.0 is.1 all o
does_date i since date old new _ requests h is all o = absurd is

turn_date :
    (i since date : ℕ) (old new : WatchState) (event : WatchEvent) (result : Result WatchOutput WatchFault) → Turn old event result new → IsDateOf i date event → is_event_taken result ≡ true →
    All (WentOut i since) old.out → Clocked old → HasDate since date new
turn_date i since date old new event (Ok output) turn is taken' all o = does_date i since date old new event (requests_asked_by output.command) (does old new event output turn.1) is all o
turn_date i since date old new event (Err fault) turn is taken' all o = absurd cc

quiet_date : (since date : ℕ) (old new : WatchState) → Quiet old new → HasDate since date old → HasDate since date new
quiet_date since date old new h d =
    let clocks = ap (λ (c : Clocks). c.at) h.clocks in
    let before = d.past in record {
      first = d.first;
      a = d.a;
      rest = d.rest ++ h.more;
      is = h.answers ∙ ap (λ xs. xs ++ h.more) d.is ∙ append_assoc d.first (d.a ∷ d.rest) h.more;
      at = d.at;
      told = d.told;
      none = All-append (λ (b : LaneAnswer). date_of b.reply ≡ None) d.rest h.more d.none h.none;
      past = omega (arith, clocks, before);
    }

no_list : (first rest : List LaneAnswer) (a : LaneAnswer) → first ++ a ∷ rest ≡ [] → ⊥
no_list [] rest a is = cc
no_list (x ∷ first) rest a is = cc

date_shown : (since date : ℕ) (s : WatchState) (wall elapsed : ℕ) → HasDate since date s → Clocked s → ShowsDate (clocks_after s wall elapsed) since (min LAST date)
unfolding clocks_after
date_shown since date s wall elapsed d o =
    let c = read s.clocks wall elapsed in
    if_cases (λ (x : Clocks). ShowsDate x since (min LAST date)) (is_none s.begun) (first_clocks wall elapsed) (dated_by_all c s.answers)
    (λ none. absurd (no_list d.first d.rest d.a (sym d.is ∙ (o.fresh none).1.0)))
    (λ some.
    let past = d.past in
    let went = d.at in
    let up = goes_up s wall elapsed o in
    let at = ap (λ (x : Clocks). x.at) (cond-false (is_none s.begun) (first_clocks wall elapsed) (dated_by_all c s.answers) some) in
    let same = ap (λ (x : Clocks). x.at) (all_frame c s.answers) in
    let all = shown_last c d.first d.rest d.a date (set_read s.clocks wall elapsed o.set) (omega (arith, past, went, up, at, same)) d.told d.none in
    subst (λ n. ShowsDate (dated_by_all c s.answers) n (min LAST date)) went (subst (λ xs. ShowsDate (dated_by_all c xs) d.a.since (min LAST date)) (sym d.is) all))

pub dates_shown : DateLaw
dates_shown old between later asking answer turn i date wall elapsed reached h none unasked told quiet clock =
    let asked' = h.0 in
    let o0 = reached_clocked old reached in
    let o1 = turn_clocked old asking.state asking.event asking.result asked' o0 in
    let all1 = turn_asks i old asking.state asking.event asking.result asked' none in
    let p2 = parts between (answer ∷ (later ++ turn ∷ [])) asking.state h.1 in
    let s2 = after_all asking.state between in
    let o2 = ran_clocked between asking.state p2.0 o1 in
    let all2 = ran_out i asking.state.clocks.at between asking.state p2.0 unasked all1 in
    let o3 = turn_clocked s2 answer.state answer.event answer.result p2.1.0 o2 in
    let d3 = turn_date i asking.state.clocks.at date s2 answer.state answer.event answer.result p2.1.0 told.0 told.1 all2 o2 in
    let p4 = parts later (turn ∷ []) answer.state p2.1.1 in
    let s4 = after_all answer.state later in
    let o4 = ran_clocked later answer.state p4.0 o3 in
    let d4 = quiet_date asking.state.clocks.at date answer.state s4 (ran_quiet later answer.state p4.0 quiet) d3 in
    let goes = clock_of s4 turn.state turn.event turn.result wall elapsed p4.1.0 clock.0 clock.1 in
    subst (λ (c : Clocks). ShowsDate c asking.state.clocks.at (min LAST date)) (sym goes.clocks) (date_shown asking.state.clocks.at date s4 wall elapsed d4 o4)

-- where there is no date the clocks are only read
read_stays : (c : Clocks) (wall elapsed : ℕ) → ClocksStay c (read c wall elapsed)
unfolding walled
read_stays c wall elapsed =
    let now = at_reading c elapsed in
    if_both (ClocksStay c) (is_stepped now (reading wall))
    (record now { wall = record { here = now.at; there = reading wall }; broker = if c.dated then c.broker else record { here = now.at; there = sec (reading wall) } }) now
    (record { phase = refl; dated = refl; broker = λ told. cond-true c.dated c.broker (record { here = now.at; there = sec (reading wall) }) told })
    (record { phase = refl; dated = refl; broker = λ told. refl })

begun_after : (s : WatchState) (wall elapsed : ℕ) → is_none s.begun ≡ false → clocks_after s wall elapsed ≡ dated_by_all (read s.clocks wall elapsed) s.answers
unfolding clocks_after
begun_after s wall elapsed some = cond-false (is_none s.begun) (first_clocks wall elapsed) (dated_by_all (read s.clocks wall elapsed) s.answers) some

pub clocks_stay : StaysLaw
clocks_stay old between first turn wall elapsed wall' elapsed' h clock quiet clock' =
    let goes = clock_of old first.state first.event first.result wall elapsed h.0 clock.0 clock.1 in
    let p2 = parts between (turn ∷ []) first.state h.1 in
    let s = after_all first.state between in
    let q = ran_quiet between first.state p2.0 quiet in
    let goes' = clock_of s turn.state turn.event turn.result wall' elapsed' p2.1.0 clock'.0 clock'.1 in
    let only : s.answers ≡ q.more = q.answers ∙ ap (λ xs. xs ++ q.more) goes.answers in
    let is : turn.state.clocks ≡ read first.state.clocks wall' elapsed' =
    goes'.clocks ∙ begun_after s wall' elapsed' (q.begun ∙ goes.begun) ∙ ap (dated_by_all (read s.clocks wall' elapsed')) only ∙ none_sets (read s.clocks wall' elapsed') q.more q.none
    ∙ ap (λ (c : Clocks). read c wall' elapsed') q.clocks in
    subst (ClocksStay first.state.clocks) (sym is) (read_stays first.state.clocks wall' elapsed')
