-- Grounds: what holds of every state of a history, and how a history is taken apart. For the laws of recovery, starts and outages.
use Rattle.std.proofs.Common.{◌≡◌, ◌⊎◌, ◌∙◌, ℕ, ◌+◌, ◌<◌, ◌≤◌, true, false, ◌&&◌, ◌==◌, List, [], ◌∷◌, ◌++◌, Option, Some, None, All, Result, Ok, Err, length, nat_le, refl, sym, ap, subst, arith, inl, inr, true≢false}
use Rattle.std.proofs.lemmas.{Bool.and_parts, Bool.eqb-true, List.length-map, List.Elements.All-nil, List.Elements.All-weaker}
use Rattle.plan_forest.specs.Forest.{Forest}
use Rattle.watch_machine.specs.{declared.command.WatchOutput.WatchOutput, declared.event.WatchEvent.WatchEvent, declared.event.WatchReply.WatchReply, declared.event.WatchTerms.WatchTerms, declared.fault.WatchFault.WatchFault}
use Rattle.watch_machine.specs.{declared.lanes.Out.Out, Answers.noted, Answers.replied, Clocks.sec, Looked.looked, Press.pressed, Refusal.request_out, Renewed.state_renewed, Wait.wait}
use Rattle.watch_machine.specs.declared.event.WatchEvent.TheVariants.{Clock, Looked, Renewed}
use Rattle.watch_machine.specs.declared.event.Operation.TheVariants.{Look, Renew}
use Rattle.watch_machine.specs.History.{AllHappen, Happening, History, Turn, Turned, after_all, state_after, state_after_all}
use Rattle.watch_machine.specs.State.{WatchState, fresh_track, opened, track_at}
use Rattle.watch_machine.specs.Step.{Step, StepLooked, StepRenewed, readied}
use Rattle.watch_laws.specs.Absence.{is_clock, is_event_taken}
use Rattle.watch_laws.specs.Outage.{Outage, comes, how_many, is_request_served, is_request_whole, is_tried, outage_next_after, outage_next_after_command, outage_next_by, waits_to_be_asked}
use Rattle.watch_laws.proofs.{Alone.IsAlone, Alone.turn_alone, Clocking.readied_clocks, Clocking.refused_stays, Going.entry_by, Spacing.looked_out, Topping.readied_count, Topping.turn_count, Width.Fits, Width.turn_fits}
use Rattle.watch_laws.proofs.Answering.{looked_leaves, renewed_leaves, rest_of}
use Rattle.watch_laws.proofs.Counting.{counted, sums, sums_past}
use Rattle.watch_laws.proofs.Lanes.{Sends, Ticks, all_left, all_sent, anew_served, is_anew, no_lane_free, pressed_count, served_tried, ticks}
use Rattle.watch_laws.proofs.Marked.{AllMarked, first_free, turn_marked}
use Rattle.watch_laws.proofs.Owed.{AllTry, first_tries, turn_outcome}
use Rattle.watch_laws.proofs.Retrying.{IsPast, first_past, rises, turn_past}

-- what holds of every state of a history. A request whose entry is no more is out under an index past the last entry, but no further past it
-- than there are lanes
pub record IsBase (width n : ℕ) (s : WatchState) : Type 0 where
  pub fits : Fits width s
  pub alone : IsAlone s
  pub tries : AllTry s
  pub count : length s.tracks ≡ n
  pub past : IsPast s
  pub within : All (λ (q : Out). q.entry < n + width) s.out
  pub since : All (λ (q : Out). q.since ≤ s.clocks.at) s.out
  pub marked : AllMarked s

-- an entry has a track
pub tracked : (width n : ℕ) (s : WatchState) (j : ℕ) → IsBase width n s → j < n → j < length s.tracks
tracked width n s j base low = let count = base.count in omega (arith, count, low)

abbrev pub Bounds : ℕ → WatchState → Type 0
Bounds n s = All (λ (q : Out). q.entry < n) s.out × All (λ (q : Out). q.since ≤ s.clocks.at) s.out

since_later : (a b : ℕ) (out : List Out) → a ≤ b → All (λ (q : Out). q.since ≤ a) out → All (λ (q : Out). q.since ≤ b) out
since_later a b out le all = All-weaker (λ (q : Out). q.since ≤ a) (λ (q : Out). q.since ≤ b) (λ q h. omega (arith, h, le)) out all

clock_bounds : (n : ℕ) (old new : WatchState) (wall elapsed : ℕ) (output : WatchOutput) → Ticks old new wall elapsed output → length old.tracks ≤ n → IsPast old → Bounds n old → Bounds n new
clock_bounds n old new wall elapsed output h count past b =
    let mid = pressed (readied old wall elapsed) h.round in
    let many = pressed_count (readied old wall elapsed) h.round in
    let more = readied_count old wall elapsed in
    let up = rises old wall elapsed past.start in
    let clock : new.clocks.at ≡ mid.clocks.at = ap (λ (x : WatchState). x.clocks.at) h.new_is in
    let same = ap (λ c. c.at) (readied_clocks old wall elapsed) in (
      all_sent (λ (q : Out). q.entry < n) old new wall elapsed output h b.0
          (λ k low due named. let e = entry_by mid.presence (sec mid.clocks.at) mid.tracks k in omega (arith, e, low, many, more, count)),
      all_sent (λ (q : Out). q.since ≤ new.clocks.at) old new wall elapsed output h (since_later old.clocks.at new.clocks.at old.out (omega (arith, up, clock, same)) b.1) (λ k low due named. omega (arith, clock)),
    )

answer_bounds : (n : ℕ) (old mid new : WatchState) (q : Out) (reply : WatchReply) → new ≡ replied mid q reply → mid.out ≡ old.out → new.clocks ≡ old.clocks → Bounds n old → Bounds n new
answer_bounds n old mid new q reply is out clocks b =
    let clock = ap (λ c. c.at) clocks in (
      subst (λ (x : WatchState). All (λ (r : Out). r.entry < n) x.out) (sym is) (all_left (λ (r : Out). r.entry < n) (λ r h. h) mid q reply (subst (All (λ (r : Out). r.entry < n)) (sym out) b.0)),
      subst (λ (x : WatchState). All (λ (r : Out). r.since ≤ new.clocks.at) x.out) (sym is)
          (all_left (λ (r : Out). r.since ≤ new.clocks.at) (λ r h. h) mid q reply
          (subst (All (λ (r : Out). r.since ≤ new.clocks.at)) (sym out) (since_later old.clocks.at new.clocks.at old.out (omega (arith, clock)) b.1))),
    )

looked_bounds : (n : ℕ) (old new : WatchState) (found : Option Out) (reply : WatchReply) (terms : WatchTerms) (output : WatchOutput) → StepLooked old found reply terms output new → Bounds n old → Bounds n new
looked_bounds n old new None reply terms output step b = absurd step
looked_bounds n old new (Some q) reply terms output step b =
    let s = noted old q reply in
    answer_bounds n old (looked s q reply terms) new q reply step.1 (looked_out s q reply terms) (ap (λ (x : WatchState). x.clocks) (ap rest_of step.1 ∙ looked_leaves old q reply terms)) b

renewed_bounds : (n : ℕ) (old new : WatchState) (found : Option Out) (reply : WatchReply) (output : WatchOutput) → StepRenewed old found reply output new → Bounds n old → Bounds n new
renewed_bounds n old new None reply output step b = absurd step
renewed_bounds n old new (Some q) reply output step b =
    answer_bounds n old (state_renewed (noted old q reply) q reply) new q reply step.1 refl (ap (λ (x : WatchState). x.clocks) (ap rest_of step.1 ∙ renewed_leaves old q reply)) b

step_bounds : (n : ℕ) (old new : WatchState) (event : WatchEvent) (output : WatchOutput) → Step old event output new → length old.tracks ≤ n → IsPast old → Bounds n old → Bounds n new
step_bounds n old new (Clock wall elapsed) output step count past b = clock_bounds n old new wall elapsed output (ticks old new wall elapsed output step) count past b
step_bounds n old new (Looked j reply terms) output step count past b = looked_bounds n old new (request_out old.out j Look) reply terms output step b
step_bounds n old new (Renewed j reply) output step count past b = renewed_bounds n old new (request_out old.out j Renew) reply output step b
step_bounds n old new _ output step count past b = subst (Bounds n) (sym step.1) b

pub turn_bounds : (n : ℕ) (old new : WatchState) (event : WatchEvent) (result : Result WatchOutput WatchFault) → Turn old event result new → length old.tracks ≤ n → IsPast old → Bounds n old → Bounds n new
turn_bounds n old new event (Ok output) turn count past b = step_bounds n old new event output turn.1 count past b
turn_bounds n old new event (Err fault) turn count past b = subst (Bounds n) (sym (refused_stays old new event fault turn)) b

pub turn_base : (width n : ℕ) (old new : WatchState) (event : WatchEvent) (result : Result WatchOutput WatchFault) → Turn old event result new → IsBase width n old → IsBase width n new
turn_base width n old new event result turn h =
    let count = h.count in
    let bounds = turn_bounds (n + width) old new event result turn (omega (arith, count)) h.past (h.within, h.since) in
    record {
      fits = turn_fits width old new event result turn h.fits;
      alone = turn_alone old new event result turn h.alone;
      tries = (turn_outcome old new event result turn h.tries).0;
      count = turn_count old new event result turn ∙ h.count;
      past = turn_past old new event result turn h.past;
      within = bounds.0;
      since = bounds.1;
      marked = turn_marked old new event result turn h.marked;
    }

-- over a history
pub ran_base : (width n : ℕ) (turns : List Turned) (old : WatchState) → History old turns → IsBase width n old → IsBase width n (after_all old turns)
ran_base width n [] old h base = base
ran_base width n (turn ∷ turns) old h base = ran_base width n turns turn.state h.1 (turn_base width n old turn.state turn.event turn.result h.0 base)

pub opened_base : (g : Forest) (width : ℕ) → IsBase width (length g.entries) (opened g width)
opened_base g width = record {
  fits = (refl, omega arith);
  alone = record { once = λ j low. omega arith; single = λ j. omega arith };
  tries = first_tries g.entries;
  count = length-map g.entries fresh_track;
  past = record { start = λ none. refl; hold = λ there. refl; last = λ i. let l = first_past g.entries i in omega (arith, l) };
  within = All-nil (λ (q : Out). q.entry < length g.entries + width);
  since = All-nil (λ (q : Out). q.since ≤ 0);
  marked = λ i out. absurd (true≢false (sym out ∙ first_free g.entries i));
}

-- those that wait after a turn, and those that are out anew, waited before, came to wait, or were out anew
pub fewer_wait :
    (o : Outage) (from width n : ℕ) (old new : WatchState) → IsBase width n old → IsBase width n new → Sends old new n →
    how_many n (waits_to_be_asked o new) + how_many (n + width) (is_anew o from new) ≤ how_many n (waits_to_be_asked o old) + how_many n (comes o old new) + how_many (n + width) (is_anew o from old)
fewer_wait o from width n old new was is sends =
    sums_past n width (waits_to_be_asked o new) (is_anew o from new) (waits_to_be_asked o old) (comes o old new) (is_anew o from old)
    (sums n (waits_to_be_asked o new) (is_anew o from new) (waits_to_be_asked o old) (comes o old new) (is_anew o from old)
    (λ j low.
    counted (is_tried new j) (is_request_served o new j) (is_tried old j) (is_request_served o old j) (is_anew o from new j) (is_anew o from old j) (served_tried o new j (tracked width n new j is low) is.alone is.tries)
    (λ anew.
    elim (sends (λ k since. k == j && (is_request_whole o since && nat_le from since)) anew) as (λ _. (is_anew o from old j ≡ true) ⊎ ((is_request_served o new j ≡ true) × (is_request_served o old j ≡ false))) [
      | inl before ↦ inl before
      | inr now ↦
          let free = subst (λ k. (track_at old k).out ≡ false) (named j now.0 now.1.0) now.1.1.1 in
          inr (anew_served o from new j anew, no_lane_free old j (λ q. is_request_whole o q.since) (tracked width n old j was low) was.alone free)
    ])))
    (λ j past anew.
    elim (sends (λ k since. k == j && (is_request_whole o since && nat_le from since)) anew) as (λ _. is_anew o from old j ≡ true) [
      | inl before ↦ before
      | inr now ↦ (let below = now.1.1.0 in let same = named j now.0 now.1.0 in absurd (omega (arith, below, same, past)))
    ]) where
      named : (j k : ℕ) → (k == j && (is_request_whole o new.clocks.at && nat_le from new.clocks.at)) ≡ true → k ≡ j
      named j k h = eqb-true k j (and_parts (k == j) (is_request_whole o new.clocks.at && nat_le from new.clocks.at) h).0

-- the first turns, and the others
pub first_turns : (xs ys : List Turned) (old : WatchState) → History old (xs ++ ys) → History old xs
first_turns [] ys old h = tt
first_turns (x ∷ xs) ys old h = (h.0, first_turns xs ys x.state h.1)

pub last_turns : (xs ys : List Turned) (old : WatchState) → History old (xs ++ ys) → History (after_all old xs) ys
last_turns [] ys old h = h
last_turns (x ∷ xs) ys old h = last_turns xs ys x.state h.1

-- and of all that happens
pub first_happen : (xs ys : List Happening) (old : WatchState) → AllHappen old (xs ++ ys) → AllHappen old xs
first_happen [] ys old h = tt
first_happen (x ∷ xs) ys old h = (h.0, first_happen xs ys (state_after x) h.1)

pub last_happen : (xs ys : List Happening) (old : WatchState) → AllHappen old (xs ++ ys) → AllHappen (state_after_all old xs) ys
last_happen [] ys old h = h
last_happen (x ∷ xs) ys old h = last_happen xs ys (state_after x) h.1

-- the clock from which on it is lived
pub record Starts (o : Outage) (old : WatchState) (last : Turned) : Type 0 where
  pub wall : ℕ
  pub elapsed : ℕ
  pub output : WatchOutput
  pub ticks' : Ticks old last.state wall elapsed output
  pub due : outage_next_after o last.result last.state 0 ≡ outage_next_by o (wait last.state) last.state.out

pub starts : (o : Outage) (old : WatchState) (last : Turned) (event : WatchEvent) (result : Result WatchOutput WatchFault) → last.result ≡ result → Turn old event result last.state → is_clock event ≡ true → is_event_taken result ≡ true → Starts o old last
starts o old last (Clock wall elapsed) (Ok output) same turn clock taken' =
    let go = ticks old last.state wall elapsed output turn.1 in
    record {
      wall = wall;
      elapsed = elapsed;
      output = output;
      ticks' = go;
      due = ap (λ r. outage_next_after o r last.state 0) same ∙ ap (λ c. outage_next_after_command o c last.state 0) go.command;
    }
starts o old last event (Err fault) same turn clock taken' = absurd (true≢false (sym taken'))
starts o old last _ (Ok output) same turn clock taken' = absurd (true≢false (sym clock))
