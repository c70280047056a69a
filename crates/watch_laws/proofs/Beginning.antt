-- Beginning: what every turn keeps of the last beginning, and when the next one comes. For the law of beginnings.
use Rattle.std.proofs.Common.{◌≡◌, ◌⊎◌, ◌∙◌, ℕ, ◌+◌, ◌<◌, ◌≤◌, Bool, true, false, min, not, ◌&&◌, ◌||◌, if◌then◌else◌, List, [], ◌∷◌, ◌++◌, Option, Some, None, Result, Ok, Err, is_none, is_some, nat_le, nat_lt, refl, sym, ap, subst, arith, inl, inr}
use Rattle.std.proofs.lemmas.Bool.Decides.{nat_tests}
use Rattle.std.proofs.lemmas.Bool.{and_parts, cases_Bool, cond-false, or_left, or_right}
use Rattle.std.specs.List.{list_any}
use Rattle.plan_forest.proofs.Carrying.{or_parts}
use Rattle.watch_machine.specs.{declared.clocks.Clocks.Clocks, declared.command.WatchOutput.WatchOutput, declared.command.WatchRequest.WatchRequest, declared.event.WatchEvent.WatchEvent, declared.event.WatchReply.WatchReply}
use Rattle.watch_machine.specs.{declared.event.WatchTerms.WatchTerms, declared.fault.WatchFault.WatchFault, declared.lanes.Out.Out, declared.notes.Notes.Notes, declared.notes.BeginReason.BeginReason}
use Rattle.watch_machine.specs.{declared.reading.TheConstants.READING_MAX, declared.track.Track.Track, Answers.noted, Press.pressed, Refusal.request_out, Round.asked_by_round, Sending.sent, State.WatchState}
use Rattle.watch_machine.specs.declared.event.WatchEvent.TheVariants.{Clock, Looked, Renewed, Begin}
use Rattle.watch_machine.specs.declared.event.Operation.TheVariants.{Look, Renew}
use Rattle.watch_machine.specs.declared.notes.BeginReason.TheVariants.{Asked, Jump, Day}
use Rattle.watch_machine.specs.Beginning.{beginning, begun, is_past, is_urgent}
use Rattle.watch_machine.specs.Clocks.{is_stepped, moment_at_reading, reading, sec, to_wall}
use Rattle.watch_machine.specs.History.{AllHappen, Changed, Changes, Hands, Happening, IsChanged, Turn, Turned, state_after_all}
use Rattle.watch_machine.specs.Settling.{at_reading, has_jumped, settled, timed}
use Rattle.watch_machine.specs.Step.{Step, StepClock, StepLooked, StepRenewed, readied, why}
use Rattle.watch_laws.specs.Beginnings.{FewLaw, HasParted, IsBeginning, Jumps, asks_beginning, asks_beginning_at, is_begin, why_begun}
use Rattle.watch_laws.proofs.Answering.{looked_begins, looked_leaves, renewed_begins, renewed_leaves, rest_of}
use Rattle.watch_laws.proofs.Clocking.{clock_at, clock_rises, readied_clocks, refused_stays, sent_by}

-- the last beginning was at that clock or later, and is past; and came says whether a Begin came since that clock, as it did where
-- one is still asked for
record Since (at : ℕ) (came : Bool) (s : WatchState) : Type 0 where
  begun : ℕ
  begun_is : s.begun ≡ Some begun
  from : at ≤ begun
  past : at ≤ s.clocks.at
  asked : s.asked ≡ true → came ≡ true

-- what leaves the clocks and the last beginning leaves this
left_since : (at : ℕ) (came : Bool) (old new : WatchState) → rest_of new ≡ rest_of old → Since at came old → Since at came new
left_since at came old new same h = record {
  begun = h.begun;
  begun_is = ap (λ (x : WatchState). x.begun) same ∙ h.begun_is;
  from = h.from;
  past = let e = ap (λ (x : WatchState). x.clocks.at) same in let p = h.past in omega (arith, e, p);
  asked = λ yes'. h.asked (sym (ap (λ (x : WatchState). x.asked) same) ∙ yes');
}

-- a clock
begun_since : (at : ℕ) (came : Bool) (s : WatchState) (w : Option BeginReason) → at ≤ s.clocks.at → Since at came s → Since at came (begun s w)
begun_since at came s None later h = record { begun = h.begun; begun_is = h.begun_is; from = h.from; past = later; asked = h.asked }
begun_since at came s (Some w) later h = record { begun = s.clocks.at; begun_is = refl; from = later; past = later; asked = λ yes'. absurd cc }

some_begun : (o : Option ℕ) (b : ℕ) → o ≡ Some b → is_none o ≡ false
some_begun o b is = ap (λ (x : Option ℕ). is_none x) is

readied_since : (at : ℕ) (came : Bool) (s : WatchState) (wall elapsed : ℕ) → Since at came s → Since at came (readied s wall elapsed)
unfolding readied
readied_since at came s wall elapsed h =
    let rises = clock_rises s wall elapsed (some_begun s.begun h.begun h.begun_is) in
    let p = h.past in
    let later : at ≤ (timed s wall elapsed).clocks.at = omega (arith, rises, p) in
    begun_since at came (settled (timed s wall elapsed)) (why s wall elapsed) later
    (record { begun = h.begun; begun_is = h.begun_is; from = h.from; past = later; asked = h.asked })

clock_since : (at : ℕ) (came : Bool) (old new : WatchState) (wall elapsed : ℕ) (output : WatchOutput) → StepClock old wall elapsed output new → Since at came old → Since at came new
clock_since at came old new wall elapsed output step h =
    let mid = pressed (readied old wall elapsed) (asked_by_round step.round) in
    let is = sent_by mid new output.command step.command in
    let ready = readied_since at came old wall elapsed h in
    left_since at came (readied old wall elapsed) new (ap rest_of is.1) ready

-- an answer
looked_since : (at : ℕ) (came : Bool) (old new : WatchState) (o : Option Out) (reply : WatchReply) (terms : WatchTerms) (output : WatchOutput) → StepLooked old o reply terms output new → Since at came old → Since at came new
looked_since at came old new None reply terms output step h = absurd step
looked_since at came old new (Some r) reply terms output step h = left_since at came old new (ap rest_of step.1 ∙ looked_leaves old r reply terms) h

renewed_since : (at : ℕ) (came : Bool) (old new : WatchState) (o : Option Out) (reply : WatchReply) (output : WatchOutput) → StepRenewed old o reply output new → Since at came old → Since at came new
renewed_since at came old new None reply output step h = absurd step
renewed_since at came old new (Some r) reply output step h = left_since at came old new (ap rest_of step.1 ∙ renewed_leaves old r reply) h

or_false : (b : Bool) → b || false ≡ b
or_false true = refl
or_false false = refl

-- a step, and a turn
step_since : (at : ℕ) (came : Bool) (old new : WatchState) (event : WatchEvent) (output : WatchOutput) → Step old event output new → Since at came old → Since at (came || is_begin event) new
step_since at came old new (Clock wall elapsed) output step h = subst (λ b. Since at b new) (sym (or_false came)) (clock_since at came old new wall elapsed output step h)
step_since at came old new (Looked i reply terms) output step h = subst (λ b. Since at b new) (sym (or_false came)) (looked_since at came old new (request_out old.out i Look) reply terms output step h)
step_since at came old new (Renewed i reply) output step h = subst (λ b. Since at b new) (sym (or_false came)) (renewed_since at came old new (request_out old.out i Renew) reply output step h)
step_since at came old new Begin output step h =
    subst (Since at (came || true)) (sym step.1) (record { begun = h.begun; begun_is = h.begun_is; from = h.from; past = h.past; asked = λ yes'. or_right came true refl })
step_since at came old new _ output step h = subst (λ b. Since at b new) (sym (or_false came)) (left_since at came old new (ap rest_of step.1) h)

stays : (at : ℕ) (came more : Bool) (s : WatchState) → Since at came s → Since at (came || more) s
stays at came more s h = record { begun = h.begun; begun_is = h.begun_is; from = h.from; past = h.past; asked = λ yes'. or_left came more (h.asked yes') }

turn_since : (at : ℕ) (came : Bool) (old new : WatchState) (event : WatchEvent) (result : Result WatchOutput WatchFault) → Turn old event result new → Since at came old → Since at (came || is_begin event) new
turn_since at came old new event (Ok output) turn h = step_since at came old new event output turn.1 h
turn_since at came old new event (Err fault) turn h = subst (Since at (came || is_begin event)) (sym (refused_stays old new event fault turn)) (stays at came (is_begin event) old h)

-- why a clock begins anew after a beginning: the wall has jumped, ten minutes have passed, or it is asked for
reasons :
    (b at : ℕ) (asked stepped jumped : Bool) (xs : List Track) → is_some (beginning (Some b) asked stepped jumped at xs) ≡ true →
    (jumped ≡ true) ⊎ ((asked ≡ true) ⊎ (b + 600000 ≤ at))
unfolding beginning
reasons b at asked stepped true xs yes' = inl refl
reasons b at asked stepped false xs yes' =
    let due = stepped && is_past 600000 (Some b) at in
    let day = is_past 86400000 (Some b) at && not (list_any (is_urgent (sec at)) xs) in
    elim (cases_Bool due) [
      | inl long ↦ inr (inr (let l = (and_parts stepped (nat_le (b + 600000) at) long).1 in grind (arith, nat_tests)))
      | inr short ↦
          elim (cases_Bool asked) [
            | inl begs ↦ inr (inl begs)
            | inr silent ↦
                elim (cases_Bool day) [
                  | inl long ↦ inr (inr (let l = (and_parts (nat_le (b + 86400000) at) (not (list_any (is_urgent (sec at)) xs)) long).0 in let d : b + 86400000 ≤ at = grind (arith, nat_tests) in omega (arith, d)))
                  | inr short' ↦
                      let none = ap is_some (cond-false due (Some Jump) (if asked then Some Asked else (if day then Some Day else None)) short
                      ∙ cond-false asked (Some Asked) (if day then Some Day else None) silent ∙ cond-false day (Some Day) None short') in
                      absurd (let bad : true ≡ false = sym yes' ∙ none in cc)
                ]
          ]
    ]

-- a wall that has stepped has parted from what it was expected to show
parted : (c : Clocks) (wall : ℕ) → is_stepped c wall ≡ true → HasParted c.wall c.at wall
unfolding is_stepped to_wall
parted c wall is =
    or_parts (nat_lt (to_wall c.wall c.at + 2000) wall) (nat_lt (wall + 2000) (to_wall c.wall c.at)) (HasParted c.wall c.at wall) is
    (λ ahead. let more : to_wall c.wall c.at + 2000 < wall = grind (arith, nat_tests) in inl (omega (arith, more)))
    (λ behind. let less : wall + 2000 < to_wall c.wall c.at = grind (arith, nat_tests) in inr (omega (arith, less)))

jumps : (s : WatchState) (wall elapsed at : ℕ) → at ≡ moment_at_reading s.clocks elapsed → has_jumped s wall elapsed ≡ true → HasParted s.clocks.wall at (min wall READING_MAX)
unfolding has_jumped
jumps s wall elapsed at is jumped = subst (λ n. HasParted s.clocks.wall n (min wall READING_MAX)) (sym is) (parted (at_reading s.clocks elapsed) (reading wall) jumped)

-- a beginning after that
clock_begins :
    (at : ℕ) (came : Bool) (old new : WatchState) (wall elapsed : ℕ) (output : WatchOutput) → StepClock old wall elapsed output new → is_some output.notes.began ≡ true → Since at came old →
    Jumps old (Clock wall elapsed) new ⊎ ((came ≡ true) ⊎ (at + 600000 ≤ new.clocks.at))
unfolding why
clock_begins at came old new wall elapsed output step begins h =
    let t = settled (timed old wall elapsed) in
    let mid = pressed (readied old wall elapsed) (asked_by_round step.round) in
    let is = sent_by mid new output.command step.command in
    let clock : new.clocks.at ≡ t.clocks.at = ap (λ (x : WatchState). x.clocks.at) is.1 ∙ ap (λ c. c.at) (readied_clocks old wall elapsed) in
    let noted' = sym (ap (λ (x : Notes). is_some x.began) step.notes) ∙ begins in
    let late = h.from in
    elim (reasons h.begun t.clocks.at t.asked t.stepped (has_jumped old wall elapsed) t.tracks
    (subst (λ o. is_some (beginning o t.asked t.stepped (has_jumped old wall elapsed) t.clocks.at t.tracks) ≡ true) h.begun_is noted')) [
      | inl jumped ↦ inl (jumps old wall elapsed new.clocks.at (clock ∙ clock_at old wall elapsed (some_begun old.begun h.begun h.begun_is)) jumped)
      | inr rest ↦ elim rest [ inl begs ↦ inr (inl (h.asked begs)) | inr long ↦ inr (inr (omega (arith, clock, late, long))) ]
    ]

no_beginning : {X : Type 0} (output o : WatchOutput) → output ≡ o → o.notes.began ≡ None → is_some output.notes.began ≡ true → X
no_beginning output o is none begins = absurd (let bad : true ≡ false = sym begins ∙ ap (λ (x : WatchOutput). is_some x.notes.began) is ∙ ap is_some none in cc)

looked_none : {X : Type 0} (old new : WatchState) (o : Option Out) (reply : WatchReply) (terms : WatchTerms) (output : WatchOutput) → StepLooked old o reply terms output new → is_some output.notes.began ≡ true → X
looked_none old new None reply terms output step begins = absurd step
looked_none old new (Some r) reply terms output step begins = no_beginning output _ step.0 (looked_begins (noted old r reply) r reply terms) begins

renewed_none : {X : Type 0} (old new : WatchState) (o : Option Out) (reply : WatchReply) (output : WatchOutput) → StepRenewed old o reply output new → is_some output.notes.began ≡ true → X
renewed_none old new None reply output step begins = absurd step
renewed_none old new (Some r) reply output step begins = no_beginning output _ step.0 (renewed_begins (noted old r reply) r reply) begins

abbrev Few : ℕ → Bool → WatchState → WatchEvent → WatchState → Type 0
Few at came old event new = Jumps old event new ⊎ ((came ≡ true) ⊎ (at + 600000 ≤ new.clocks.at))

step_begins : (at : ℕ) (came : Bool) (old new : WatchState) (event : WatchEvent) (output : WatchOutput) → Step old event output new → is_some output.notes.began ≡ true → Since at came old → Few at came old event new
step_begins at came old new (Clock wall elapsed) output step begins h = clock_begins at came old new wall elapsed output step begins h
step_begins at came old new (Looked i reply terms) output step begins h = looked_none old new (request_out old.out i Look) reply terms output step begins
step_begins at came old new (Renewed i reply) output step begins h = renewed_none old new (request_out old.out i Renew) reply output step begins
step_begins at came old new _ output step begins h = no_beginning output _ step.0 refl begins

turn_begins :
    (at : ℕ) (came : Bool) (old new : WatchState) (event : WatchEvent) (result : Result WatchOutput WatchFault) → Turn old event result new → is_some (why_begun result) ≡ true → Since at came old →
    Few at came old event new
turn_begins at came old new event (Ok output) turn begins h = step_begins at came old new event output turn.1 begins h
turn_begins at came old new event (Err fault) turn begins h = absurd cc

-- the first beginning
begun_starts : (s : WatchState) (w : Option BeginReason) → is_some w ≡ true → (begun s w).begun ≡ Some (begun s w).clocks.at
begun_starts s None some = absurd cc
begun_starts s (Some w) some = refl

begun_asked : (s : WatchState) (w : Option BeginReason) → is_some w ≡ true → (begun s w).asked ≡ true → false ≡ true
begun_asked s None some yes' = absurd cc
begun_asked s (Some w) some yes' = yes'

readied_starts :
    (old : WatchState) (wall elapsed : ℕ) (round : List ℕ) (requests : List WatchRequest) → is_some (why old wall elapsed) ≡ true →
    Since (readied old wall elapsed).clocks.at false (sent (pressed (readied old wall elapsed) round) requests)
unfolding readied
readied_starts old wall elapsed round requests some = record {
  begun = (readied old wall elapsed).clocks.at;
  begun_is = begun_starts (settled (timed old wall elapsed)) (why old wall elapsed) some;
  from = omega arith;
  past = omega arith;
  asked = begun_asked (settled (timed old wall elapsed)) (why old wall elapsed) some;
}

clock_starts : (old new : WatchState) (wall elapsed : ℕ) (output : WatchOutput) → StepClock old wall elapsed output new → is_some output.notes.began ≡ true → Since new.clocks.at false new
clock_starts old new wall elapsed output step begins =
    let mid = pressed (readied old wall elapsed) (asked_by_round step.round) in
    let is = sent_by mid new output.command step.command in
    let noted' : is_some (why old wall elapsed) ≡ true = sym (ap (λ (x : Notes). is_some x.began) step.notes) ∙ begins in
    subst (λ (x : WatchState). Since x.clocks.at false x) (sym is.1) (readied_starts old wall elapsed (asked_by_round step.round) is.0 noted')

step_starts : (old new : WatchState) (event : WatchEvent) (output : WatchOutput) → Step old event output new → is_some output.notes.began ≡ true → Since new.clocks.at false new
step_starts old new (Clock wall elapsed) output step begins = clock_starts old new wall elapsed output step begins
step_starts old new (Looked i reply terms) output step begins = looked_none old new (request_out old.out i Look) reply terms output step begins
step_starts old new (Renewed i reply) output step begins = renewed_none old new (request_out old.out i Renew) reply output step begins
step_starts old new _ output step begins = no_beginning output _ step.0 refl begins

turn_starts : (old new : WatchState) (event : WatchEvent) (result : Result WatchOutput WatchFault) → Turn old event result new → is_some (why_begun result) ≡ true → Since new.clocks.at false new
turn_starts old new event (Ok output) turn begins = step_starts old new event output turn.1 begins
turn_starts old new event (Err fault) turn begins = absurd cc

-- whether a Begin came among some turns
any_more : (came here : Bool) (rest : Bool) → (came || here) || rest ≡ came || (here || rest)
any_more true here rest = refl
any_more false here rest = refl

-- a change is no beginning
changed_since : (at : ℕ) (came : Bool) (old : WatchState) (c : Changed) → IsChanged old c → Since at came old → Since at came c.state
changed_since at came old c h since = record {
  begun = since.begun;
  begun_is = ap (λ (s : WatchState). s.begun) h.state ∙ since.begun_is;
  from = since.from;
  past = (let clock = ap (λ (s : WatchState). s.clocks.at) h.state in let past = since.past in omega (arith, clock, past));
  asked = λ asked'. since.asked (sym (ap (λ (s : WatchState). s.asked) h.state) ∙ asked');
}

ran :
    (between : List Happening) (second : Turned) (at : ℕ) (came : Bool) (old : WatchState) → AllHappen old (between ++ Hands second ∷ []) → IsBeginning second → Since at came old →
    Few at (came || list_any asks_beginning_at between) (state_after_all old between) second.event second.state
ran [] second at came old h begins since = subst (λ b. Few at b old second.event second.state) (sym (or_false came)) (turn_begins at came old second.state second.event second.result h.0 begins since)
ran (Changes c ∷ between) second at came old h begins since = ran between second at came c.state h.1 begins (changed_since at came old c h.0 since)
ran (Hands turn ∷ between) second at came old h begins since =
    subst (λ b. Few at b (state_after_all turn.state between) second.event second.state) (any_more came (asks_beginning turn) (list_any asks_beginning_at between))
    (ran between second at (came || asks_beginning turn) turn.state h.1 begins (turn_since at came old turn.state turn.event turn.result h.0 since))

pub few : FewLaw
few old first second between h first_begins second_begins =
    ran between second first.state.clocks.at false first.state h.1 second_begins (turn_starts old first.state first.event first.result h.0 first_begins)
