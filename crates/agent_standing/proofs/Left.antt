-- Left: what a turn of the Watch leaves: as many entries and tracks, and what it believes of every entry of which it is told nothing.
-- For the turns of an agent.
use Rattle.std.proofs.Common.{◌≡◌, ◌∙◌, ℕ, zero, suc, ◌<◌, Bool, true, false, ◌&&◌, ◌||◌, ◌==◌, if◌then◌else◌, List, [], ◌∷◌, Option, Some, None, Result, Ok, Err, is_none, length, min, nat_le, refl, sym, ap, subst, arith, inl, inr}
use Rattle.std.proofs.lemmas.{Bool.cases_lt, Bool.Decides.nat_tests}
use Rattle.std.proofs.lemmas.List.{get_or_past, get_or-set_other, length-set}
use Rattle.std.specs.List.{list_any}
use Rattle.std.specs.Prelude.{slice_set}
use Rattle.base_moment.specs.declared.moment.TheConstants.{LAST}
use Rattle.plan_forest.specs.{declared.entry.Entry.Entry, Forest.Forest, Forest.entry_at}
use Rattle.watch_machine.specs.{declared.clocks.Clocks.Clocks, declared.command.WatchCommand.WatchCommand, declared.command.WatchOutput.WatchOutput, declared.command.WatchRequest.WatchRequest, declared.event.WatchEvent.WatchEvent}
use Rattle.watch_machine.specs.{declared.event.WatchReply.WatchReply, declared.event.WatchTerms.WatchTerms, declared.fault.WatchFault.WatchFault, declared.lanes.LaneAnswer.LaneAnswer, declared.lanes.Out.Out}
use Rattle.watch_machine.specs.{declared.notes.BeginReason.BeginReason, declared.track.Track.Track, History.Turn, Refusal.request_out, Refusal.unless_within, Round.asked_by_round}
use Rattle.watch_machine.specs.declared.command.WatchCommand.TheVariants.{Go, Taken}
use Rattle.watch_machine.specs.declared.event.WatchEvent.TheVariants.{Clock, Looked, Renewed, Need, Begin, Known}
use Rattle.watch_machine.specs.declared.event.Operation.TheVariants.{Look, Renew}
use Rattle.watch_machine.specs.declared.event.WatchReply.TheVariants.{Told, Refused, Busy, Lost}
use Rattle.watch_machine.specs.declared.fault.WatchFault.TheVariants.{BadIndex, OutOfMemory}
use Rattle.watch_machine.specs.Answers.{answers_all, back_track, lane_freed, noted, replied, silent}
use Rattle.watch_machine.specs.Beginning.{begun, is_called, is_start, owing, owing_lookup, owing_past, soon, sooner_try, untopped, untopped_track}
use Rattle.watch_machine.specs.Clocks.{dated_by, first_clocks, is_ahead, is_behind, is_stepped, phase_of, reading, sec, walled}
use Rattle.watch_machine.specs.Looked.{looked, told_state, untold_track}
use Rattle.watch_machine.specs.Press.{asked_track, dropped, is_fresh, press, pressed, pressed_alone, pressed_track, track_asked_in}
use Rattle.watch_machine.specs.Renewed.{renewed_track, state_renewed, ungranted_track}
use Rattle.watch_machine.specs.Sending.{sent, sent_in, sent_track}
use Rattle.watch_machine.specs.Settling.{at_reading, clocks_after, date_of, dated, dated_by_all, dated_on, is_real, read, settled, settled_track, timed}
use Rattle.watch_machine.specs.State.{WatchState, each, no_track, track_at, track_in}
use Rattle.watch_machine.specs.Step.{Step, StepClock, StepCommand, StepLooked, StepRenewed, readied, why}
use Rattle.watch_machine.specs.Wanted.{is_alive, is_open, need_of, wants}
use Rattle.watch_machine.proofs.{Cases.if_both, Seeing.each_past, Seeing.each_read, Within.out_entry, Written.each_length}

-- what is believed of an entry
abbrev pub word : Track → Track
word x = record no_track { end = x.end; renewable = x.renewable }

abbrev pub Word : Track → Track → Type 0
Word y x = word y ≡ word x

each_word : (f : ℕ → Track → Track) (xs : List Track) → ((i : ℕ) (x : Track) → Word (f i x) x) → (i : ℕ) → Word (track_in (each f xs) i) (track_in xs i)
each_word f xs made i =
    elim (cases_lt i (length xs)) [
      | inl within ↦ ap word (each_read f xs i within) ∙ made i (track_in xs i)
      | inr past ↦ ap word (each_past f xs i past ∙ sym (get_or_past xs i no_track past))
    ]

set_word : (xs : List Track) (j : ℕ) (y : Track) → Word y (track_in xs j) → (i : ℕ) → Word (track_in (slice_set xs j y) i) (track_in xs i)
set_word [] j y made i = refl
set_word (x ∷ xs) zero y made zero = made
set_word (x ∷ xs) (suc j) y made (suc i) = set_word xs j y made i
set_word (x ∷ xs) _ y made _ = refl

-- ---- a clock

settled_word : (margin at : ℕ) (x : Track) → Word (settled_track margin at x) x
unfolding settled_track
settled_word margin at x = refl

pub lookup_word : (at : ℕ) (x : Track) → Word (owing_lookup at x) x
lookup_word at x = if_both (λ y. Word y x) x.out (record x { owes = true }) (record x { owes = true; attempt = Some (sooner_try (soon at x) x.attempt) }) refl refl

owing_word : (at : ℕ) (first called : Bool) (x : Track) → Word (owing at first called x) x
unfolding owing
owing_word at first called x = if_both (λ y. Word y x) (called && (first || is_open (sec at) x)) (owing_lookup at x) x (lookup_word at x) refl

pressed_word : (margin : ℕ) (e : Entry) (need at : ℕ) (x : Track) → Word (pressed_track margin e need at x) x
unfolding pressed_track
pressed_word margin e need at x =
    if_both (λ y. Word y x) (is_fresh margin e x need (sec at)) (record x { attempt = Some (press at x) }) (if wants x need || x.out then x else record x { attempt = dropped x x.attempt }) refl
    (if_both (λ y. Word y x) (wants x need || x.out) x (record x { attempt = dropped x x.attempt }) refl refl)

asked_word : (at : ℕ) (round : List ℕ) (i : ℕ) (x : Track) → Word (track_asked_in at round i x) x
unfolding asked_track
asked_word at round i x =
    if_both (λ y. Word y x) (list_any (λ j. j == i) round) (asked_track at x) x
    (if_both (λ y. Word y x) x.out x (record x { attempt = Some (press at x) }) refl refl) refl

sent_word : (at : ℕ) (requests : List WatchRequest) (i : ℕ) (x : Track) → Word (sent_in at requests i x) x
sent_word at requests i x = if_both (λ y. Word y x) (list_any (λ (r : WatchRequest). r.entry == i) requests) (sent_track at x) x refl refl

begun_word : (s : WatchState) (w : Option BeginReason) (i : ℕ) → Word (track_at (begun s w) i) (track_at s i)
begun_word s None i = refl
begun_word s (Some w) i =
    let xs = untopped s.tracks in
    each_word (λ j. owing s.clocks.at (is_start w) (is_called s.forest xs s.clocks j)) xs (λ j x. owing_word s.clocks.at (is_start w) (is_called s.forest xs s.clocks j) x) i
    ∙ each_word (λ j. untopped_track) s.tracks (λ j x. refl) i

readied_word : (s : WatchState) (wall elapsed i : ℕ) → Word (track_at (readied s wall elapsed) i) (track_at s i)
unfolding readied
readied_word s wall elapsed i =
    let t = timed s wall elapsed in
    begun_word (settled t) (why s wall elapsed) i ∙ each_word (λ j. settled_track t.forest.margin t.clocks.at) s.tracks (λ j x. settled_word t.forest.margin t.clocks.at x) i

gone_word : (s : WatchState) (round : List ℕ) (requests : List WatchRequest) (i : ℕ) → Word (track_at (sent (pressed s round) requests) i) (track_at s i)
gone_word s round requests i =
    let c = s.clocks in
    let g = s.forest in
    let alone = pressed_alone g c s.tracks in
    let mid = pressed s round in
    each_word (sent_in c.at requests) mid.tracks (λ j x. sent_word c.at requests j x) i
    ∙ each_word (track_asked_in c.at round) alone (asked_word c.at round) i
    ∙ each_word (λ j. pressed_track g.margin (entry_at g.entries j) (need_of g.entries s.tracks c j) c.at) s.tracks (λ j x. pressed_word g.margin (entry_at g.entries j) (need_of g.entries s.tracks c j) c.at x) i

-- what goes out at a clock
sent_by : (mid new : WatchState) (command : WatchCommand) → StepCommand mid command new → (requests : List WatchRequest) × (new ≡ sent mid requests)
sent_by mid new (Go requests until) h = (requests, h.0.1)
sent_by mid new Taken h = absurd h

clock_word : (old new : WatchState) (wall elapsed : ℕ) (output : WatchOutput) (i : ℕ) → StepClock old wall elapsed output new → Word (track_at new i) (track_at old i)
clock_word old new wall elapsed output i step =
    let ready = readied old wall elapsed in
    let is = sent_by (pressed ready (asked_by_round step.round)) new output.command step.command in
    ap (λ (s : WatchState). word (track_at s i)) is.1 ∙ gone_word ready (asked_by_round step.round) is.0 i ∙ readied_word old wall elapsed i

-- as many tracks and entries
begun_count : (s : WatchState) (w : Option BeginReason) → (length (begun s w).tracks ≡ length s.tracks) × (((begun s w).forest ≡ s.forest) × ((begun s w).clocks ≡ s.clocks))
begun_count s None = (refl, (refl, refl))
begun_count s (Some w) =
    let xs = untopped s.tracks in
    (each_length (λ j. owing s.clocks.at (is_start w) (is_called s.forest xs s.clocks j)) xs ∙ each_length (λ j. untopped_track) s.tracks, (refl, refl))

readied_count : (s : WatchState) (wall elapsed : ℕ) →
    (length (readied s wall elapsed).tracks ≡ length s.tracks) × (((readied s wall elapsed).forest ≡ s.forest) × ((readied s wall elapsed).clocks ≡ (timed s wall elapsed).clocks))
unfolding readied
readied_count s wall elapsed =
    let t = timed s wall elapsed in
    let h = begun_count (settled t) (why s wall elapsed) in
    (h.0 ∙ each_length (λ j. settled_track t.forest.margin t.clocks.at) s.tracks, h.1)

-- the milliseconds that bring a reading in phase are fewer than a second
dated_phase : (since : ℕ) (c : Clocks) (date : ℕ) → (dated_by since c date).phase ≡ c.phase
unfolding dated_by
dated_phase since c date =
    if_both (λ (x : Clocks). x.phase ≡ c.phase) (is_ahead c date || is_behind c since date) (record c { broker = record { here = c.at; there = date }; dated = true }) (record c { dated = true }) refl refl

dated_on_phase : (since : ℕ) (c : Clocks) (date : Option ℕ) → (dated_on since c date).phase ≡ c.phase
dated_on_phase since c None = refl
dated_on_phase since c (Some date) = dated_phase since c (min LAST date)

all_dated_phase : (c : Clocks) (answers : List LaneAnswer) → (dated_by_all c answers).phase ≡ c.phase
all_dated_phase c [] = refl
all_dated_phase c (a ∷ answers) = all_dated_phase (dated c a) answers ∙ dated_on_phase a.since c (date_of a.reply)

walled_phase : (c : Clocks) (wall : ℕ) → (walled c wall).phase ≡ c.phase
unfolding walled
walled_phase c wall = if_both (λ (x : Clocks). x.phase ≡ c.phase) (is_stepped c wall) _ c refl refl

first_phase : (wall elapsed : ℕ) → (first_clocks wall elapsed).phase < 1000
unfolding first_clocks phase_of
first_phase wall elapsed = omega arith

timed_phase : (s : WatchState) (wall elapsed : ℕ) → s.clocks.phase < 1000 → (timed s wall elapsed).clocks.phase < 1000
unfolding clocks_after
timed_phase s wall elapsed below =
    let later = all_dated_phase (read s.clocks wall elapsed) s.answers ∙ walled_phase (at_reading s.clocks elapsed) (reading wall) in
    if_both (λ (x : Clocks). x.phase < 1000) (is_none s.begun) (first_clocks wall elapsed) (dated_by_all (read s.clocks wall elapsed) s.answers) (first_phase wall elapsed)
    (subst (λ n. n < 1000) (sym later) below)

-- ---- an answer

-- as many entries and tracks, and the same clocks
abbrev pub Shape : WatchState → WatchState → Type 0
Shape new old = (length new.forest.entries ≡ length old.forest.entries) × ((length new.tracks ≡ length old.tracks) × (new.clocks ≡ old.clocks))

back_word : (x : Track) → Word (back_track x) x
unfolding back_track
back_word x = refl

replied_word : (s : WatchState) (r : Out) (reply : WatchReply) (i : ℕ) → Word (track_at (replied s r reply) i) (track_at s i)
replied_word s r reply i =
    let free = lane_freed s r in
    let P : WatchState → Type 0 = λ t. Word (track_at t i) (track_at s i) in
    if_both P (is_real reply) (answers_all free) (if r.heard then free else silent free)
    (if_both P s.presence.away _ _ (each_word (λ j. back_track) s.tracks (λ j x. back_word x) i) refl)
    (if_both P r.heard free (silent free) refl (if_both P s.presence.away _ _ refl refl))

replied_shape : (s : WatchState) (r : Out) (reply : WatchReply) → Shape (replied s r reply) s
replied_shape s r reply =
    let free = lane_freed s r in
    let P : WatchState → Type 0 = λ t. Shape t s in
    if_both P (is_real reply) (answers_all free) (if r.heard then free else silent free)
    (if_both P s.presence.away _ _ (refl, (each_length (λ j. back_track) s.tracks, refl)) (refl, (refl, refl)))
    (if_both P r.heard free (silent free) (refl, (refl, refl)) (if_both P s.presence.away _ _ (refl, (refl, refl)) (refl, (refl, refl))))

looked_shape : (s : WatchState) (r : Out) (reply : WatchReply) (terms : WatchTerms) → Shape (looked s r reply terms) s
looked_shape s r (Told seconds renewable date) terms = (length-set s.forest.entries r.entry _, (length-set _ r.entry _ ∙ length-set s.tracks r.entry _, refl))
looked_shape s r _ terms = (refl, (length-set s.tracks r.entry _, refl))

-- an answer tells of the entry of that index
abbrev pub Tells : WatchReply → ℕ → ℕ → Type 0
Tells (Told seconds renewable date) j i = i ≡ j
Tells _ j i = ⊥

untold_word : (at : ℕ) (heard : Bool) (reply : WatchReply) (x : Track) → Word (untold_track at heard reply x) x
unfolding untold_track
untold_word at heard reply x = refl

ungranted_word : (at : ℕ) (heard : Bool) (reply : WatchReply) (x : Track) → Word (ungranted_track at heard reply x) x
unfolding ungranted_track
ungranted_word at heard reply x = refl

looked_word : (s : WatchState) (r : Out) (reply : WatchReply) (terms : WatchTerms) (i : ℕ) → (Tells reply r.entry i → ⊥) → Word (track_at (looked s r reply terms) i) (track_at s i)
looked_word s r (Told seconds renewable date) terms i other =
    ap word (get_or-set_other (told_state s r.entry r.since seconds renewable terms).tracks r.entry i _ no_track other ∙ get_or-set_other s.tracks r.entry i _ no_track other)
looked_word s r (Refused status date) terms i other = set_word s.tracks r.entry _ (untold_word s.clocks.at r.heard (Refused status date) (track_at s r.entry)) i
looked_word s r Busy terms i other = set_word s.tracks r.entry _ (untold_word s.clocks.at r.heard Busy (track_at s r.entry)) i
looked_word s r Lost terms i other = set_word s.tracks r.entry _ (untold_word s.clocks.at r.heard Lost (track_at s r.entry)) i

renewed_word : (s : WatchState) (r : Out) (reply : WatchReply) (i : ℕ) → (Tells reply r.entry i → ⊥) → Word (track_at (state_renewed s r reply) i) (track_at s i)
unfolding renewed_track
renewed_word s r (Told seconds renewable date) i other = ap word (get_or-set_other s.tracks r.entry i _ no_track other)
renewed_word s r (Refused status date) i other = set_word s.tracks r.entry _ (ungranted_word s.clocks.at r.heard (Refused status date) (track_at s r.entry)) i
renewed_word s r Busy i other = set_word s.tracks r.entry _ (ungranted_word s.clocks.at r.heard Busy (track_at s r.entry)) i
renewed_word s r Lost i other = set_word s.tracks r.entry _ (ungranted_word s.clocks.at r.heard Lost (track_at s r.entry)) i

-- ---- every event

-- it tells of the entry of that index
abbrev pub TellsOf : WatchEvent → ℕ → Type 0
TellsOf (Looked j reply terms) i = Tells reply j i
TellsOf (Renewed j reply) i = Tells reply j i
TellsOf (Known j end renewable) i = i ≡ j
TellsOf _ i = ⊥

-- what is left by a turn that tells of that entry, if of any
pub record IsLeft (old : WatchState) (event : WatchEvent) (new : WatchState) : Type 0 where
  pub entries : length new.forest.entries ≡ length old.forest.entries
  pub tracks : length new.tracks ≡ length old.tracks
  pub phase : old.clocks.phase < 1000 → new.clocks.phase < 1000
  pub words : (i : ℕ) → (TellsOf event i → ⊥) → Word (track_at new i) (track_at old i)

left_clock : (old new : WatchState) (wall elapsed : ℕ) (output : WatchOutput) → StepClock old wall elapsed output new → IsLeft old (Clock wall elapsed) new
left_clock old new wall elapsed output step =
    let ready = readied old wall elapsed in
    let round = asked_by_round step.round in
    let mid = pressed ready round in
    let is = sent_by mid new output.command step.command in
    let h = readied_count old wall elapsed in
    record {
      entries = ap (λ (s : WatchState). length s.forest.entries) is.1 ∙ ap (λ (g : Forest). length g.entries) h.1.0;
      tracks =
          ap (λ (s : WatchState). length s.tracks) is.1 ∙ each_length (sent_in mid.clocks.at is.0) mid.tracks
          ∙ each_length (track_asked_in ready.clocks.at round) (pressed_alone ready.forest ready.clocks ready.tracks)
          ∙ each_length (λ j. pressed_track ready.forest.margin (entry_at ready.forest.entries j) (need_of ready.forest.entries ready.tracks ready.clocks j) ready.clocks.at) ready.tracks
          ∙ h.0;
      phase = λ below. subst (λ (c : Clocks). c.phase < 1000) (sym (ap (λ (s : WatchState). s.clocks) is.1 ∙ h.1.1)) (timed_phase old wall elapsed below);
      words = λ i other. clock_word old new wall elapsed output i step;
    }

-- an answer, once it is taken for its entry
left_answer : (old mid new : WatchState) (event : WatchEvent) (r : Out) (reply : WatchReply) → new ≡ replied mid r reply → Shape mid old → ((i : ℕ) → (TellsOf event i → ⊥) → Word (track_at mid i) (track_at old i)) → IsLeft old event new
left_answer old mid new event r reply is shape words =
    let after = replied_shape mid r reply in
    record {
      entries = ap (λ (s : WatchState). length s.forest.entries) is ∙ after.0 ∙ shape.0;
      tracks = ap (λ (s : WatchState). length s.tracks) is ∙ after.1.0 ∙ shape.1.0;
      phase = λ below. subst (λ (c : Clocks). c.phase < 1000) (sym (ap (λ (s : WatchState). s.clocks) is ∙ after.1.1 ∙ shape.1.1)) below;
      words = λ i other. ap (λ (s : WatchState). word (track_at s i)) is ∙ replied_word mid r reply i ∙ words i other;
    }

left_looked : (old new : WatchState) (j : ℕ) (found : Option Out) (reply : WatchReply) (terms : WatchTerms) (output : WatchOutput) → request_out old.out j Look ≡ found → StepLooked old found reply terms output new → IsLeft old (Looked j reply terms) new
left_looked old new j None reply terms output is step = absurd step
left_looked old new j (Some r) reply terms output is step =
    let s = noted old r reply in
    left_answer old (looked s r reply terms) new (Looked j reply terms) r reply step.1 (looked_shape s r reply terms)
    (λ i other. looked_word s r reply terms i (subst (λ k. Tells reply k i → ⊥) (sym (out_entry old.out j Look r is)) other))

left_renewed : (old new : WatchState) (j : ℕ) (found : Option Out) (reply : WatchReply) (output : WatchOutput) → request_out old.out j Renew ≡ found → StepRenewed old found reply output new → IsLeft old (Renewed j reply) new
left_renewed old new j None reply output is step = absurd step
left_renewed old new j (Some r) reply output is step =
    let s = noted old r reply in
    left_answer old (state_renewed s r reply) new (Renewed j reply) r reply step.1 (refl, (length-set s.tracks r.entry _, refl))
    (λ i other. renewed_word s r reply i (subst (λ k. Tells reply k i → ⊥) (sym (out_entry old.out j Renew r is)) other))

left_step : (old new : WatchState) (event : WatchEvent) (output : WatchOutput) → Step old event output new → IsLeft old event new
left_step old new (Clock wall elapsed) output step = left_clock old new wall elapsed output step
left_step old new (Looked j reply terms) output step = left_looked old new j (request_out old.out j Look) reply terms output refl step
left_step old new (Renewed j reply) output step = left_renewed old new j (request_out old.out j Renew) reply output refl step
left_step old new (Need j until) output step =
    subst (IsLeft old (Need j until)) (sym step.1) (record { entries = length-set old.forest.entries j _; tracks = refl; phase = λ below. below; words = λ i other. refl })
left_step old new Begin output step = subst (IsLeft old Begin) (sym step.1) (record { entries = refl; tracks = refl; phase = λ below. below; words = λ i other. refl })
left_step old new (Known j end renewable) output step =
    subst (IsLeft old (Known j end renewable)) (sym step.1)
    (record { entries = refl; tracks = length-set old.tracks j _; phase = λ below. below; words = λ i other. ap word (get_or-set_other old.tracks j i _ no_track other) })

pub left_turn : (old new : WatchState) (event : WatchEvent) (output : WatchOutput) → Turn old event (Ok output) new → IsLeft old event new
left_turn old new event output turn = left_step old new event output turn.1

refused_stays : (old new : WatchState) (event : WatchEvent) (fault : WatchFault) → Turn old event (Err fault) new → new ≡ old
refused_stays old new event OutOfMemory h = h.1.1
refused_stays old new event _ h = h.1

pub turn_entries : (old new : WatchState) (event : WatchEvent) (result : Result WatchOutput WatchFault) → Turn old event result new → length new.forest.entries ≡ length old.forest.entries
turn_entries old new event (Ok output) turn = (left_turn old new event output turn).entries
turn_entries old new event (Err fault) turn = ap (λ (s : WatchState). length s.forest.entries) (refused_stays old new event fault turn)

-- ---- indices

pub by_index : (s : WatchState) (i : ℕ) (other : Option WatchFault) → unless_within s i other ≡ None → i < length s.forest.entries
by_index s i other free = by (nat_le (length s.forest.entries) i) refl free where
  by : (b : Bool) → nat_le (length s.forest.entries) i ≡ b → (if b then Some BadIndex else other) ≡ None → i < length s.forest.entries
  by true is free = absurd cc
  by false is free = grind (arith, nat_tests)
