-- Ends: what every turn that was lived keeps of the believed end of an entry, and of the requests that may tell another. For the law of
-- ends.
use Rattle.std.proofs.Common.{◌≡◌, ◌≢◌, ◌∙◌, ℕ, zero, suc, ◌+◌, ◌-◌, ◌<◌, ◌≤◌, Bool, true, false, not, ◌&&◌, ◌||◌, ◌==◌, if◌then◌else◌, List, [], ◌∷◌, Option, Some, None, Result, Ok, Err, All, is_none, map, min, max, length, refl, sym, ap, subst, arith, inl, inr}
use Rattle.std.proofs.lemmas.List.{get_or-set_other, get_or_past}
use Rattle.std.proofs.lemmas.Bool.{cases_Bool, cases_lt, cond-false, cond-true, eqb-true}
use Rattle.std.proofs.lemmas.List.Elements.{All-append, All-cons, All-filter, All-nil, All-weaker}
use Rattle.std.specs.List.{list_any}
use Rattle.base_moment.specs.declared.moment.TheConstants.{LAST}
use Rattle.plan_forest.specs.{declared.entry.Entry.Entry, declared.forest.TheConstants.END_MAX, Forest.Forest}
use Rattle.watch_machine.specs.{declared.clocks.Clocks.Clocks, declared.command.WatchCommand.WatchCommand, declared.command.WatchOutput.WatchOutput, declared.command.WatchRequest.WatchRequest, declared.event.WatchEvent.WatchEvent}
use Rattle.watch_machine.specs.{declared.event.Operation.Operation, declared.event.WatchReply.WatchReply, declared.event.WatchTerms.WatchTerms, declared.fault.WatchFault.WatchFault, declared.lanes.LaneAnswer.LaneAnswer}
use Rattle.watch_machine.specs.{declared.lanes.Out.Out, declared.track.End.End, declared.track.Track.Track, Beginning.owing_past, Change.former_at, Press.pressed, Refusal.request_out, Round.asked_by_round as round_of}
use Rattle.watch_machine.specs.declared.command.WatchCommand.TheVariants.{Go, Taken}
use Rattle.watch_machine.specs.declared.event.WatchEvent.TheVariants.{Clock, Looked, Renewed, Need, Begin, Known}
use Rattle.watch_machine.specs.declared.event.Operation.TheVariants.{Look, Renew}
use Rattle.watch_machine.specs.declared.event.WatchReply.TheVariants.{Told, Refused, Busy, Lost}
use Rattle.watch_machine.specs.declared.track.End.TheVariants.{Unknown, At, Never}
use Rattle.watch_machine.specs.Answers.{noted, replied, with_track, without_request}
use Rattle.watch_machine.specs.Clocks.{dated_by, first_clocks, is_ahead, is_behind, is_stepped, moment_at_reading, ms, reading, sec, walled}
use Rattle.watch_machine.specs.History.{Changed, Changes, Hands, Happening, Happens, IsChanged, Turn, Turned, state_after, stood, stood_at_some}
use Rattle.watch_machine.specs.Looked.{is_called_for, looked, told_state, told_track, told_try, untold_track}
use Rattle.watch_machine.specs.Renewed.{from_try, granted_from, renewed_track, state_renewed, track_renewed, ungranted_track}
use Rattle.watch_machine.specs.Sending.{out_at, sent, sent_in, sent_track}
use Rattle.watch_machine.specs.Settling.{at_reading, clocks_after, date_of, dated, dated_by_all, dated_on, read}
use Rattle.watch_machine.specs.State.{WatchState, entry_of, fresh_track, no_track, opened, track_at, track_in}
use Rattle.watch_machine.specs.Step.{Step, StepClock, StepCommand, StepLooked, StepRenewed, known, readied, told_earlier}
use Rattle.watch_machine.proofs.Within.{out_all, out_entry}
use Rattle.watch_machine.proofs.Cases.{if_both, not_both, of_value}
use Rattle.watch_laws.specs.{Absence.is_event_taken, Load.requests_asked_by, Load.requests_at_turn, Presence.is_told}
use Rattle.watch_laws.specs.Ends.{AllNoLater, AreLivedFrom, IsHonest, IsNoLater, IsNoLaterAt, IsTrueAt, IsTrueEvent, IsTrueReading, IsTrueReply, Lived, NeverPastLaw, Origin, TimedWorld, asked_at, happened, no_origin, tells, told_at}
use Rattle.watch_laws.proofs.{Bases.changed_alone, Sparing.found_lane, Topping.turn_count}
use Rattle.watch_laws.proofs.Alone.{IsAlone, flag, turn_alone}
use Rattle.watch_laws.proofs.Answering.{looked_leaves, renewed_leaves, rest_of}
use Rattle.watch_laws.proofs.Basing.{BaseBy, Passes, Timely, back_passes, base_later, from_try_by, granted_base, known_timely, later_timely, mid_passes, none_timely, owed_passes, readied_passes, same_passes, told_base, ungranted_base, untold_base}
use Rattle.watch_laws.proofs.Clocking.{begun_some, readied_clocks, refused_stays}
use Rattle.watch_laws.proofs.Following.{IsCounted, changed_counted, changed_tracks, kept_over, named_new, named_over, new_over, opened_counted, stays_there, turn_counted}
use Rattle.watch_laws.proofs.Spacing.{looked_other, looked_out, not_of, passed_over, readied_out, replied_out, same_index}
use Rattle.watch_laws.proofs.Tracking.{back_kept, each_holds, known_is, set_holds, set_kept}

-- an end, if it is one, comes no later than the real one
abbrev EndBy : TimedWorld → ℕ → ℕ → Origin → End → Type 0
EndBy w phase real o (At end) = IsNoLater w phase end real o
EndBy w phase real o _ = Unit {0}

later_end : (w : TimedWorld) → IsHonest w → (phase more real far : ℕ) (o : Origin) (e : End) → phase ≤ more → real ≤ far → EndBy w phase real o e → EndBy w more far o e
later_end w honest phase more real far o (At end) p r h =
    let b = h.before in
    let n = h.no_later in
    let rises = honest.rises real far r in
    let adds = honest.adds o.since real far b r in
    record { before = omega (arith, b, r); no_later = omega (arith, n, p, rises, adds) }
later_end w honest phase more real far o _ p r h = tt

-- a request of i went out no later than its last one
abbrev SinceBy : ℕ → ℕ → Out → Type 0
SinceBy i n q = q.entry ≡ i → q.since ≤ n

-- what holds after a turn that was lived, where the clocks are c: last is the moment of that turn, asked that of the clock at which the
-- last request of i went out, and its end was told so
record StandsBy (w : TimedWorld) (i last asked : ℕ) (told : Origin) (real : ℕ) (c : Clocks) (s : WatchState) : Type 0 where
  alone : IsAlone s
  past : asked ≤ last
  at : c.at ≤ w.reading last + c.phase
  unbegun : is_none s.begun ≡ true → (c.at ≡ 0) × (c.phase ≡ 0)
  out : All (SinceBy i (w.reading asked + c.phase)) s.out
  end : EndBy w c.phase real told (track_at s i).end
  timely : Timely c.at (w.reading asked + c.phase) (track_at s i)

-- the clock shows no more than the reading of that moment
record HasClock (w : TimedWorld) (last : ℕ) (s : WatchState) : Type 0 where
  at : s.clocks.at ≤ w.reading last + s.clocks.phase
  unbegun : is_none s.begun ≡ true → (s.clocks.at ≡ 0) × (s.clocks.phase ≡ 0)

abbrev Stands : TimedWorld → ℕ → ℕ → ℕ → Origin → ℕ → WatchState → Type 0
Stands w i last asked told real s = StandsBy w i last asked told real s.clocks s

-- time passes, and the real end may come to be later
later_stands : (w : TimedWorld) → IsHonest w → (i last next asked : ℕ) (told : Origin) (real far : ℕ) (s : WatchState) → last ≤ next → real ≤ far → Stands w i last asked told real s → Stands w i next asked told far s
later_stands w honest i last next asked told real far s le further h =
    let rises = honest.rises last next le in
    let at = h.at in
    let past = h.past in
    record {
      alone = h.alone;
      past = omega (arith, past, le);
      at = omega (arith, at, rises);
      unbegun = h.unbegun;
      out = h.out;
      end = later_end w honest s.clocks.phase s.clocks.phase real far told (track_at s i).end (omega arith) further h.end;
      timely = h.timely;
    }

-- the moment of a clock
abbrev SameMoment : Clocks → Clocks → Type 0
SameMoment d c = (d.at ≡ c.at) × (d.phase ≡ c.phase)

dated_moment : (since : ℕ) (c : Clocks) (date : ℕ) → SameMoment (dated_by since c date) c
unfolding dated_by
dated_moment since c date =
    if_both (λ (x : Clocks). SameMoment x c) (is_ahead c date || is_behind c since date) (record c { broker = record { here = c.at; there = date }; dated = true }) (record c { dated = true }) (refl, refl) (refl, refl)

dated_on_moment : (since : ℕ) (c : Clocks) (date : Option ℕ) → SameMoment (dated_on since c date) c
dated_on_moment since c None = (refl, refl)
dated_on_moment since c (Some date) = dated_moment since c (min LAST date)

all_moment : (c : Clocks) (answers : List LaneAnswer) → SameMoment (dated_by_all c answers) c
all_moment c [] = (refl, refl)
all_moment c (a ∷ answers) =
    let rest = all_moment (dated c a) answers in
    let one = dated_on_moment a.since c (date_of a.reply) in
    (rest.0 ∙ one.0, rest.1 ∙ one.1)

walled_moment : (c : Clocks) (wall : ℕ) → SameMoment (walled c wall) c
unfolding walled
walled_moment c wall = if_both (λ (x : Clocks). SameMoment x c) (is_stepped c wall) _ c (refl, refl) (refl, refl)

-- the clocks at a later clock: no later than its reading says, and no earlier than before
record IsOn (r : ℕ) (c d : Clocks) : Type 0 where
  at : d.at ≤ r + d.phase
  since : c.at ≤ d.at
  phase : c.phase ≤ d.phase

moved : (c : Clocks) (wall elapsed r : ℕ) (answers : List LaneAnswer) → c.at ≤ r + c.phase → elapsed ≤ r → IsOn r c (dated_by_all (read c wall elapsed) answers)
unfolding moment_at_reading
moved c wall elapsed r answers at read' =
    let all = all_moment (read c wall elapsed) answers in
    let one = walled_moment (at_reading c elapsed) (reading wall) in
    let a : (dated_by_all (read c wall elapsed) answers).at ≡ max c.at (reading (elapsed + c.phase)) = all.0 ∙ one.0 in
    let p : (dated_by_all (read c wall elapsed) answers).phase ≡ c.phase = all.1 ∙ one.1 in
    record { at = omega (arith, a, p, at, read'); since = omega (arith, a); phase = omega (arith, p) }

first_on : (c : Clocks) (wall elapsed r : ℕ) → c.at ≡ 0 → c.phase ≡ 0 → elapsed ≤ r → IsOn r c (first_clocks wall elapsed)
unfolding first_clocks
first_on c wall elapsed r at phase read' = record { at = omega (arith, read'); since = omega (arith, at); phase = omega (arith, phase) }

clocks_on : (w : TimedWorld) (now : ℕ) (s : WatchState) (wall elapsed : ℕ) → HasClock w now s → elapsed ≤ w.reading now → IsOn (w.reading now) s.clocks (clocks_after s wall elapsed)
unfolding clocks_after
clocks_on w now s wall elapsed h read' =
    let first = first_clocks wall elapsed in
    let next = dated_by_all (read s.clocks wall elapsed) s.answers in
    elim (cases_Bool (is_none s.begun)) as (λ _. IsOn (w.reading now) s.clocks (if is_none s.begun then first else next)) [
      | inl none ↦ subst (IsOn (w.reading now) s.clocks) (sym (cond-true (is_none s.begun) first next none)) (first_on s.clocks wall elapsed (w.reading now) (h.unbegun none).0 (h.unbegun none).1 read')
      | inr some ↦ subst (IsOn (w.reading now) s.clocks) (sym (cond-false (is_none s.begun) first next some)) (moved s.clocks wall elapsed (w.reading now) s.answers h.at read')
    ]

-- what goes out at a clock
since_later : (i n m : ℕ) (out : List Out) → n ≤ m → All (SinceBy i n) out → All (SinceBy i m) out
since_later i n m out le all = All-weaker (SinceBy i n) (SinceBy i m) (λ q by is. let b = by is in omega (arith, b, le)) out all

all_since : (i n at : ℕ) (rs : List WatchRequest) → at ≤ n → All (SinceBy i n) (map (out_at at) rs)
all_since i n at [] le = All-nil (SinceBy i n)
all_since i n at (r ∷ rs) le = All-cons (SinceBy i n) (out_at at r) (map (out_at at) rs) (λ is. le) (all_since i n at rs le)

named_timely : (now asked at i : ℕ) (requests : List WatchRequest) (x : Track) → list_any (λ (r : WatchRequest). r.entry == i) requests ≡ true → now ≤ asked → BaseBy now x.attempt → Timely now asked (sent_in at requests i x)
named_timely now asked at i requests x named le base =
    subst (Timely now asked) (sym (cond-true (list_any (λ (r : WatchRequest). r.entry == i) requests) (sent_track at x) x named))
    (record { base = base; out = λ o. base_later now asked x.attempt le base })

sent_end : (at i : ℕ) (requests : List WatchRequest) (x : Track) → (sent_in at requests i x).end ≡ x.end
sent_end at i requests x = if_both (λ (y : Track). y.end ≡ x.end) (list_any (λ (r : WatchRequest). r.entry == i) requests) (sent_track at x) x refl refl

-- before it does
record Ready (w : TimedWorld) (i now asked : ℕ) (told : Origin) (real : ℕ) (c : Clocks) (s : WatchState) : Type 0 where
  past : asked ≤ now
  at : c.at ≤ w.reading now + c.phase
  clocks : s.clocks ≡ c
  begun : is_none s.begun ≡ false
  out : All (SinceBy i (w.reading asked + c.phase)) s.out
  end : EndBy w c.phase real told (track_at s i).end
  timely : Timely c.at (w.reading asked + c.phase) (track_at s i)

goes_stands :
    (w : TimedWorld) → IsHonest w → (i now asked : ℕ) (told : Origin) (real : ℕ) (c : Clocks) (s : WatchState) (requests : List WatchRequest) → Ready w i now asked told real c s → IsAlone (sent s requests) →
    StandsBy w i now (if list_any (λ (r : WatchRequest). r.entry == i) requests then now else asked) told real c (sent s requests)
goes_stands w honest i now asked told real c s requests h alone =
    let named = list_any (λ (r : WatchRequest). r.entry == i) requests in
    let new = sent s requests in
    let at = s.clocks.at in
    let is_at = ap (λ (x : Clocks). x.at) h.clocks in
    let most = h.at in
    let past = h.past in
    let there : EndBy w c.phase real told (track_at new i).end =
    each_holds (λ x. EndBy w c.phase real told x.end) tt (sent_in at requests) s.tracks i (subst (EndBy w c.phase real told) (sym (sent_end at i requests (track_at s i))) h.end) in
    elim (cases_Bool named) as (λ _. StandsBy w i now (if named then now else asked) told real c new) [
      | inl yes' ↦
          let n = w.reading now + c.phase in
          let rises = honest.rises asked now past in
          subst (λ a. StandsBy w i now a told real c new) (sym (cond-true named now asked yes'))
          (record {
            alone = alone;
            past = omega arith;
            at = most;
            unbegun = λ none. absurd (not_both none h.begun);
            out =
                All-append (SinceBy i n) s.out (map (out_at at) requests) (since_later i (w.reading asked + c.phase) n s.out (omega (arith, rises)) h.out)
                (all_since i n at requests (omega (arith, is_at, most)));
            end = there;
            timely = each_holds (Timely c.at n) (none_timely c.at n) (sent_in at requests) s.tracks i (named_timely c.at n at i requests (track_at s i) yes' most h.timely.base);
          })
      | inr none' ↦
          let n = w.reading asked + c.phase in
          subst (λ a. StandsBy w i now a told real c new) (sym (cond-false named now asked none'))
          (record {
            alone = alone;
            past = past;
            at = most;
            unbegun = λ none. absurd (not_both none h.begun);
            out = All-append (SinceBy i n) s.out (map (out_at at) requests) h.out (not_of (λ q. q.since ≤ n) at i requests none');
            end = there;
            timely = subst (Timely c.at n) (sym (passed_over s requests i none')) h.timely;
          })
    ]

commanded :
    (w : TimedWorld) → IsHonest w → (i now asked : ℕ) (told : Origin) (real : ℕ) (c : Clocks) (mid new : WatchState) (command : WatchCommand) → Ready w i now asked told real c mid → IsAlone new →
    StepCommand mid command new → StandsBy w i now (if list_any (λ (r : WatchRequest). r.entry == i) (requests_asked_by command) then now else asked) told real c new
commanded w honest i now asked told real c mid new (Go requests until) h alone step =
    subst (StandsBy w i now (if list_any (λ (r : WatchRequest). r.entry == i) requests then now else asked) told real c) (sym step.0.1)
    (goes_stands w honest i now asked told real c mid requests h (subst IsAlone step.0.1 alone))
commanded w honest i now asked told real c mid new Taken h alone step = absurd step

-- a clock
same_clocks : (mid new : WatchState) (command : WatchCommand) → StepCommand mid command new → new.clocks ≡ mid.clocks
same_clocks mid new (Go requests until) step = ap (λ (x : WatchState). x.clocks) step.0.1
same_clocks mid new Taken step = absurd step

mid_is_ready :
    (w : TimedWorld) → IsHonest w → (i now asked : ℕ) (told : Origin) (real : ℕ) (s : WatchState) (wall elapsed : ℕ) (round : List ℕ) → Stands w i now asked told real s → elapsed ≤ w.reading now →
    Ready w i now asked told real (clocks_after s wall elapsed) (pressed (readied s wall elapsed) round)
mid_is_ready w honest i now asked told real s wall elapsed round h read' =
    let c = clocks_after s wall elapsed in
    let ready = readied s wall elapsed in
    let on = clocks_on w now s wall elapsed (record { at = h.at; unbegun = h.unbegun }) read' in
    let phase = on.phase in
    let old = w.reading asked + s.clocks.phase in
    let n = w.reading asked + c.phase in
    let clocks = readied_clocks s wall elapsed in
    let is_at = ap (λ (x : Clocks). x.at) clocks in
    let first = readied_passes c.at n s wall elapsed i in
    let then' = mid_passes c.at n ready round i (omega (arith, is_at)) in
    record {
      past = h.past;
      at = on.at;
      clocks = clocks;
      begun = begun_some s wall elapsed;
      out = since_later i old n (readied s wall elapsed).out (omega (arith, phase)) (subst (All (SinceBy i old)) (sym (readied_out s wall elapsed)) h.out);
      end = subst (EndBy w c.phase real told) (sym (then'.0 ∙ first.0)) (later_end w honest s.clocks.phase c.phase real real told (track_at s i).end phase (omega arith) h.end);
      timely = then'.1 (first.1 (later_timely s.clocks.at c.at old n (track_at s i) on.since (omega (arith, phase)) h.timely));
    }

clock_stands :
    (w : TimedWorld) → IsHonest w → (i now asked : ℕ) (told : Origin) (real : ℕ) (old new : WatchState) (wall elapsed : ℕ) (output : WatchOutput) → Stands w i now asked told real old → elapsed ≤ w.reading now →
    StepClock old wall elapsed output new → IsAlone new → Stands w i now (if list_any (λ (r : WatchRequest). r.entry == i) (requests_asked_by output.command) then now else asked) told real new
clock_stands w honest i now asked told real old new wall elapsed output h read' step alone =
    let mid = pressed (readied old wall elapsed) (round_of step.round) in
    let ready = mid_is_ready w honest i now asked told real old wall elapsed (round_of step.round) h read' in
    let after = if list_any (λ (r : WatchRequest). r.entry == i) (requests_asked_by output.command) then now else asked in
    subst (λ c. StandsBy w i now after told real c new) (sym (same_clocks mid new output.command step.command ∙ ready.clocks))
    (commanded w honest i now asked told real (clocks_after old wall elapsed) mid new output.command ready alone step.command)

-- an answer: mid is the state before what it says of the broker
without_of : (P : Out → Type 0) (i : ℕ) (out : List Out) → All P out → All P (without_request i out)
unfolding without_request
without_of P i out all = All-filter (λ q. not (q.entry == i)) P out all

answered :
    (w : TimedWorld) (i now asked : ℕ) (told after : Origin) (real : ℕ) (old mid new : WatchState) (q : Out) (reply : WatchReply) → new ≡ replied mid q reply → mid.out ≡ old.out → rest_of new ≡ rest_of old →
    IsAlone new → Stands w i now asked told real old → EndBy w old.clocks.phase real after (track_at mid i).end → Timely old.clocks.at (w.reading asked + old.clocks.phase) (track_at mid i) →
    Stands w i now asked after real new
answered w i now asked told after real old mid new q reply is out rest alone h end timely =
    let c = old.clocks in
    let n = w.reading asked + c.phase in
    let P : Out → Type 0 = SinceBy i n in
    let passes = subst (λ (x : WatchState). Passes c.at n (track_at x i) (track_at mid i)) (sym is) (back_kept (Passes c.at n) (λ x. same_passes c.at n x) (λ x. back_passes c.at n x) mid q reply i) in
    let begun' = ap (λ (x : WatchState). is_none x.begun) rest in
    subst (λ d. StandsBy w i now asked after real d new) (sym (ap (λ (x : WatchState). x.clocks) rest))
    (record {
      alone = alone;
      past = h.past;
      at = h.at;
      unbegun = λ none. h.unbegun (sym begun' ∙ none);
      out = subst (λ (x : WatchState). All P x.out) (sym is) (replied_out P (λ r by. by) mid q reply (without_of P q.entry mid.out (subst (All P) (sym out) h.out)));
      end = subst (EndBy w c.phase real after) (sym passes.0) end;
      timely = passes.1 timely;
    })

-- an end that is told counts from a second that the clock had reached when the request went out
pub told_end :
    (w : TimedWorld) → IsHonest w → (asked from seconds phase real : ℕ) (o : Origin) → from ≤ w.reading asked + phase → asked ≤ o.since → o.since ≤ real → o.since + ms seconds ≤ real + o.over →
    IsNoLater w phase (sec from + seconds) real o
unfolding sec
told_end w honest asked from seconds phase real o reached sent' before far =
    let rises = honest.rises asked o.since sent' in
    let all : o.since + (real - o.since) ≡ real = omega (arith, before) in
    let counts = subst (λ m. w.reading o.since + (real - o.since) ≤ w.reading m + w.lag o.since m) all (honest.counts o.since (real - o.since)) in
    record { before = before; no_later = omega (arith, reached, rises, before, far, counts) }

-- the track of an entry that was answered
record Freed (w : TimedWorld) (phase real : ℕ) (o : Origin) (now : ℕ) (x : Track) : Type 0 where
  end : EndBy w phase real o x.end
  base : BaseBy now x.attempt
  free : x.out ≡ false

none_freed : (w : TimedWorld) (phase real : ℕ) (o : Origin) (now : ℕ) → Freed w phase real o now no_track
none_freed w phase real o now = record { end = tt; base = tt; free = refl }

freed_timely : (w : TimedWorld) (phase real : ℕ) (o : Origin) (now asked : ℕ) (x : Track) → Freed w phase real o now x → Timely now asked x
freed_timely w phase real o now asked x h = record { base = h.base; out = λ out. absurd (not_both out h.free) }

-- the answer to a lookup
module _ (w : TimedWorld) (honest : IsHonest w) (asked real : ℕ) (told o : Origin) (s : WatchState) (q : Out) (since : q.since ≤ w.reading asked + s.clocks.phase) (base : BaseBy s.clocks.at (track_at s q.entry).attempt) (end : EndBy w s.clocks.phase real told (track_at s q.entry).end) where
  told_freed : (seconds : ℕ) (renewable endless : Bool) (date : Option ℕ) → IsTrueReply asked real o (Told seconds renewable date) → Freed w s.clocks.phase real o s.clocks.at (told_track q.since seconds renewable endless (track_at s q.entry))
  unfolding told_track
  told_freed seconds renewable endless date so = record {
    end = if_both (EndBy w s.clocks.phase real o) endless Never (At (sec q.since + seconds)) tt (told_end w honest asked q.since seconds s.clocks.phase real o since so.0 so.1.0 so.1.1);
    base = base;
    free = refl;
  }

  untold_freed : (reply : WatchReply) → Freed w s.clocks.phase real told s.clocks.at (track_at (with_track s q.entry (untold_track s.clocks.at q.heard reply (track_at s q.entry))) q.entry)
  unfolding untold_track
  untold_freed reply =
      set_holds (Freed w s.clocks.phase real told s.clocks.at) (none_freed w s.clocks.phase real told s.clocks.at) s.tracks q.entry (untold_track s.clocks.at q.heard reply (track_at s q.entry))
      (record { end = end; base = untold_base s.clocks.at s.clocks.at q.heard reply (track_at s q.entry) (track_at s q.entry).attempt base; free = refl })

  looked_freed : (reply : WatchReply) (terms : WatchTerms) → IsTrueReply asked real o reply → Freed w s.clocks.phase real (if is_told reply then o else told) s.clocks.at (track_at (looked s q reply terms) q.entry)
  looked_freed (Told seconds renewable date) terms so =
      let i = q.entry in
      let P : Track → Type 0 = Freed w s.clocks.phase real o s.clocks.at in
      let none = none_freed w s.clocks.phase real o s.clocks.at in
      let mid = told_state s i q.since seconds renewable terms in
      let y = track_at mid i in
      let there : P y = set_holds P none s.tracks i (told_track q.since seconds renewable terms.endless (track_at s i)) (told_freed seconds renewable terms.endless date so) in
      let z = record y { attempt = told_try mid.clocks.at (is_called_for mid i) y y.attempt } in
      set_holds P none mid.tracks i z (record { end = there.end; base = told_base s.clocks.at mid.clocks.at (is_called_for mid i) y y.attempt (omega arith) there.base; free = there.free })
  looked_freed (Refused status date) terms so = untold_freed (Refused status date)
  looked_freed Busy terms so = untold_freed Busy
  looked_freed Lost terms so = untold_freed Lost

  -- the answer to a renewal
  granted_freed :
      (margin step seconds : ℕ) (renewable : Bool) (date : Option ℕ) → IsTrueReply asked real o (Told seconds renewable date) → BaseBy (w.reading asked + s.clocks.phase) (track_at s q.entry).attempt →
      Freed w s.clocks.phase real o s.clocks.at (granted_from step s.clocks.at seconds renewable (from_try margin step seconds s.clocks.at q.since (track_at s q.entry).attempt) (track_at s q.entry))
  unfolding granted_from
  granted_freed margin step seconds renewable date so early =
      let x = track_at s q.entry in
      let from' = from_try margin step seconds s.clocks.at q.since x.attempt in
      record {
        end = told_end w honest asked from' seconds s.clocks.phase real o (from_try_by margin step seconds s.clocks.at q.since (w.reading asked + s.clocks.phase) x.attempt since early) so.0 so.1.0 so.1.1;
        base = granted_base s.clocks.at s.clocks.at x.owes (sec from' + seconds) x.attempt;
        free = refl;
      }

  ungranted_freed : (reply : WatchReply) → Freed w s.clocks.phase real told s.clocks.at (ungranted_track s.clocks.at q.heard reply (track_at s q.entry))
  unfolding ungranted_track
  ungranted_freed reply = record { end = end; base = ungranted_base s.clocks.at s.clocks.at q.heard reply (track_at s q.entry) (track_at s q.entry).attempt base; free = refl }

  renewed_made : (reply : WatchReply) → IsTrueReply asked real o reply → BaseBy (w.reading asked + s.clocks.phase) (track_at s q.entry).attempt → Freed w s.clocks.phase real (if is_told reply then o else told) s.clocks.at (track_renewed s q reply)
  unfolding renewed_track
  renewed_made (Told seconds renewable date) so early = granted_freed s.forest.margin (entry_of s q.entry).step seconds renewable date so early
  renewed_made (Refused status date) so early = ungranted_freed (Refused status date)
  renewed_made Busy so early = ungranted_freed Busy
  renewed_made Lost so early = ungranted_freed Lost

  renewed_freed : (reply : WatchReply) → IsTrueReply asked real o reply → BaseBy (w.reading asked + s.clocks.phase) (track_at s q.entry).attempt → Freed w s.clocks.phase real (if is_told reply then o else told) s.clocks.at (track_at (state_renewed s q reply) q.entry)
  renewed_freed reply so early =
      let after = if is_told reply then o else told in
      set_holds (Freed w s.clocks.phase real after s.clocks.at) (none_freed w s.clocks.phase real after s.clocks.at) s.tracks q.entry (track_renewed s q reply) (renewed_made reply so early)

-- a request that is found is marked as out
out_marked : (s : WatchState) (i : ℕ) (operation : Operation) (q : Out) → i < length s.tracks → request_out s.out i operation ≡ Some q → IsAlone s → (track_at s i).out ≡ true
unfolding request_out
out_marked s i operation q low found alone =
    let lane = found_lane i operation s.out q found in
    let once = alone.once i low in
    by (track_at s i).out (omega (arith, lane, once)) where
      by : (b : Bool) → 1 ≤ flag b → b ≡ true
      by true h = refl
      by false h = absurd (omega (arith, h))

-- so its try began no later than that; of an entry that is no more there is none
out_base : (now n : ℕ) (s : WatchState) (i : ℕ) (operation : Operation) (q : Out) → request_out s.out i operation ≡ Some q → IsAlone s → Timely now n (track_at s i) → BaseBy n (track_at s i).attempt
out_base now n s i operation q found alone timely =
    elim (cases_lt i (length s.tracks)) as (λ _. BaseBy n (track_at s i).attempt) [
      | inl low ↦ timely.out (out_marked s i operation q low found alone)
      | inr past ↦ subst (λ (x : Track). BaseBy n x.attempt) (sym (get_or_past s.tracks i no_track past)) tt
    ]

out_since : (w : TimedWorld) (i now asked : ℕ) (told : Origin) (real : ℕ) (s : WatchState) (j : ℕ) (operation : Operation) (q : Out) → Stands w i now asked told real s → request_out s.out j operation ≡ Some q → q.entry ≡ i → q.since ≤ w.reading asked + s.clocks.phase
out_since w i now asked told real s j operation q h found own =
    let P : Out → Type 0 = SinceBy i (w.reading asked + s.clocks.phase) in
    of_value P (request_out s.out j operation) q (out_all P s.out j operation h.out) found own

both_true : (a b : Bool) → b ≡ true → a && b ≡ a
both_true true b h = h
both_true false b h = refl

both_false : (a b : Bool) → b ≡ false → a && b ≡ false
both_false true b h = h
both_false false b h = refl

-- the state before what an answer says of the broker, where it is of the entry itself, or of another
own_answer :
    (w : TimedWorld) (i now asked j : ℕ) (told o : Origin) (real : ℕ) (old mid new : WatchState) (q : Out) (reply : WatchReply) → new ≡ replied mid q reply → mid.out ≡ old.out → rest_of new ≡ rest_of old →
    IsAlone new → q.entry ≡ j → Stands w i now asked told real old → (q.entry ≢ i → track_at mid i ≡ track_at old i) →
    (j ≡ i → q.entry ≡ i → Freed w old.clocks.phase real (if is_told reply then o else told) old.clocks.at (track_at mid q.entry)) →
    Stands w i now asked (if is_told reply && j == i then o else told) real new
own_answer w i now asked j told o real old mid new q reply is out rest alone entry h other own =
    let n = w.reading asked + old.clocks.phase in
    let after = if is_told reply && j == i then o else told in
    elim (cases_Bool (j == i)) as (λ _. Stands w i now asked after real new) [
      | inl same ↦
          let mine : q.entry ≡ i = entry ∙ eqb-true j i same in
          let freed = own (eqb-true j i same) mine in
          let which = ap (λ b. if b then o else told) (both_true (is_told reply) (j == i) same) in
          let this = if is_told reply then o else told in
          let x : Freed w old.clocks.phase real this old.clocks.at (track_at mid i) = subst (λ k. Freed w old.clocks.phase real this old.clocks.at (track_at mid k)) mine freed in
          subst (λ y. Stands w i now asked y real new) (sym which)
          (answered w i now asked told this real old mid new q reply is out rest alone h x.end (freed_timely w old.clocks.phase real this old.clocks.at n (track_at mid i) x))
      | inr different ↦
          let apart : q.entry ≢ i = λ e. not_both (subst (λ k. (k == i) ≡ true) (sym e ∙ entry) (same_index i)) different in
          let left = other apart in
          let which = ap (λ b. if b then o else told) (both_false (is_told reply) (j == i) different) in
          subst (λ y. Stands w i now asked y real new) (sym which)
          (answered w i now asked told told real old mid new q reply is out rest alone h (subst (λ (x : Track). EndBy w old.clocks.phase real told x.end) (sym left) h.end)
          (subst (Timely old.clocks.at n) (sym left) h.timely))
    ]

looked_stands :
    (w : TimedWorld) → IsHonest w → (i now asked j : ℕ) (told o : Origin) (real : ℕ) (old new : WatchState) (found : Option Out) (reply : WatchReply) (terms : WatchTerms) (output : WatchOutput) → request_out old.out j Look ≡ found →
    StepLooked old found reply terms output new → IsAlone new → (j ≡ i → IsTrueReply asked real o reply) → Stands w i now asked told real old →
    Stands w i now asked (if is_told reply && j == i then o else told) real new
looked_stands w honest i now asked j told o real old new None reply terms output is step alone so h = absurd step
looked_stands w honest i now asked j told o real old new (Some q) reply terms output is step alone so h =
    let s = noted old q reply in
    own_answer w i now asked j told o real old (looked s q reply terms) new q reply step.1 (looked_out s q reply terms) (ap rest_of step.1 ∙ looked_leaves old q reply terms) alone
    (out_entry old.out j Look q is) h (looked_other s q reply terms i)
    (λ same mine.
    looked_freed w honest asked real told o s q (out_since w i now asked told real old j Look q h is mine) (subst (λ k. BaseBy old.clocks.at (track_at old k).attempt) (sym mine) h.timely.base)
    (subst (λ k. EndBy w old.clocks.phase real told (track_at old k).end) (sym mine) h.end) reply terms (so same))

renewed_stands :
    (w : TimedWorld) → IsHonest w → (i now asked j : ℕ) (told o : Origin) (real : ℕ) (old new : WatchState) (found : Option Out) (reply : WatchReply) (output : WatchOutput) → request_out old.out j Renew ≡ found →
    StepRenewed old found reply output new → IsAlone new → (j ≡ i → IsTrueReply asked real o reply) → Stands w i now asked told real old →
    Stands w i now asked (if is_told reply && j == i then o else told) real new
renewed_stands w honest i now asked j told o real old new None reply output is step alone so h = absurd step
renewed_stands w honest i now asked j told o real old new (Some q) reply output is step alone so h =
    let s = noted old q reply in
    own_answer w i now asked j told o real old (state_renewed s q reply) new q reply step.1 refl (ap rest_of step.1 ∙ renewed_leaves old q reply) alone (out_entry old.out j Renew q is) h
    (λ apart. get_or-set_other s.tracks q.entry i _ no_track (λ e. apart (sym e)))
    (λ same mine.
    let n = w.reading asked + old.clocks.phase in
    renewed_freed w honest asked real told o s q (out_since w i now asked told real old j Renew q h is mine) (subst (λ k. BaseBy old.clocks.at (track_at old k).attempt) (sym mine) h.timely.base)
    (subst (λ k. EndBy w old.clocks.phase real told (track_at old k).end) (sym mine) h.end) reply (so same)
    (subst (λ k. BaseBy n (track_at old k).attempt) (sym mine)
    (subst (λ k. BaseBy n (track_at old k).attempt) same
    (out_base old.clocks.at n old j Renew q is h.alone (subst (λ k. Timely old.clocks.at n (track_at old k)) (sym same) h.timely)))))

-- a step, and a turn
quiet : (i now asked : ℕ) (output out : WatchOutput) → output ≡ out → requests_asked_by out.command ≡ [] → (if list_any (λ (r : WatchRequest). r.entry == i) (requests_asked_by output.command) then now else asked) ≡ asked
quiet i now asked output out is none =
    cond-false (list_any (λ (r : WatchRequest). r.entry == i) (requests_asked_by output.command)) now asked
    (ap (λ (x : WatchOutput). list_any (λ (r : WatchRequest). r.entry == i) (requests_asked_by x.command)) is ∙ ap (list_any (λ (r : WatchRequest). r.entry == i)) none)

looked_quiet : (i now asked : ℕ) (old new : WatchState) (found : Option Out) (reply : WatchReply) (terms : WatchTerms) (output : WatchOutput) → StepLooked old found reply terms output new → (if list_any (λ (r : WatchRequest). r.entry == i) (requests_asked_by output.command) then now else asked) ≡ asked
looked_quiet i now asked old new None reply terms output step = absurd step
looked_quiet i now asked old new (Some q) reply terms output step = quiet i now asked output _ step.0 refl

renewed_quiet : (i now asked : ℕ) (old new : WatchState) (found : Option Out) (reply : WatchReply) (output : WatchOutput) → StepRenewed old found reply output new → (if list_any (λ (r : WatchRequest). r.entry == i) (requests_asked_by output.command) then now else asked) ≡ asked
renewed_quiet i now asked old new None reply output step = absurd step
renewed_quiet i now asked old new (Some q) reply output step = quiet i now asked output _ step.0 refl

-- what leaves the clocks, the tracks and the requests that are out
left_stands : (w : TimedWorld) (i now asked : ℕ) (told : Origin) (real : ℕ) (old new : WatchState) → new.clocks ≡ old.clocks → new.begun ≡ old.begun → new.out ≡ old.out → new.tracks ≡ old.tracks → IsAlone new → Stands w i now asked told real old → Stands w i now asked told real new
left_stands w i now asked told real old new clocks begun' out tracks alone h =
    subst (λ c. StandsBy w i now asked told real c new) (sym clocks)
    (record {
      alone = alone;
      past = h.past;
      at = h.at;
      unbegun = λ none. h.unbegun (ap is_none (sym begun') ∙ none);
      out = subst (All (SinceBy i (w.reading asked + old.clocks.phase))) (sym out) h.out;
      end = subst (λ xs. EndBy w old.clocks.phase real told (track_in xs i).end) (sym tracks) h.end;
      timely = subst (λ xs. Timely old.clocks.at (w.reading asked + old.clocks.phase) (track_in xs i)) (sym tracks) h.timely;
    })

-- an end that an earlier watch told
known_end : (w : TimedWorld) (phase end real : ℕ) (o : Origin) → IsNoLater w phase end real o → IsNoLater w phase (min END_MAX end) real o
known_end w phase end real o h =
    let n = h.no_later in
    record { before = h.before; no_later = omega (arith, n) }

known_stands :
    (w : TimedWorld) (i now asked j : ℕ) (told o : Origin) (real : ℕ) (old new : WatchState) (end : ℕ) (renewable : Bool) → new ≡ known old j end renewable → IsAlone new →
    (j ≡ i → IsNoLater w old.clocks.phase end real o) → Stands w i now asked told real old → Stands w i now asked (if j == i then o else told) real new
known_stands w i now asked j told o real old new end renewable is alone so h =
    let there = known old j end renewable in
    let c = old.clocks in
    let n = w.reading asked + c.phase in
    let y = owing_past c.at (told_earlier end renewable (track_at old j)) in
    let timely : Timely c.at n (track_at there i) =
    set_kept (λ (z x : Track). Timely c.at n x → Timely c.at n z) (λ x k. k) old.tracks j y (known_timely c.at n c.at end renewable (track_at old j)) i h.timely in
    let stands : (after : Origin) → EndBy w c.phase real after (track_at there i).end → Stands w i now asked after real new =
    λ after e. subst (λ (x : WatchState). Stands w i now asked after real x) (sym is)
    (record { alone = subst IsAlone is alone; past = h.past; at = h.at; unbegun = h.unbegun; out = h.out; end = e; timely = timely }) in
    elim (cases_Bool (j == i)) as (λ _. Stands w i now asked (if j == i then o else told) real new) [
      | inl same ↦
          let mine = eqb-true j i same in
          subst (λ x. Stands w i now asked x real new) (sym (cond-true (j == i) o told same))
          (stands o (subst (λ k. EndBy w c.phase real o (track_at there k).end) mine (set_holds (λ x. EndBy w c.phase real o x.end) tt old.tracks j y
          (let k = known_end w c.phase end real o (so mine) in known_is (λ x. EndBy w c.phase real o x.end) c.at end renewable (track_at old j) k (λ out. k) (λ free. k)))))
      | inr other ↦
          let apart : i ≢ j = λ e. not_both (subst (λ k. (k == i) ≡ true) e (same_index i)) other in
          subst (λ x. Stands w i now asked x real new) (sym (cond-false (j == i) o told other))
          (stands told (subst (λ (x : Track). EndBy w c.phase real told x.end) (sym (get_or-set_other old.tracks j i y no_track apart)) h.end))
    ]

abbrev Asked : ℕ → ℕ → ℕ → Result WatchOutput WatchFault → ℕ
Asked i now asked result = if list_any (λ (r : WatchRequest). r.entry == i) (requests_at_turn result) then now else asked

step_stands :
    (w : TimedWorld) → IsHonest w → (i asked : ℕ) (told : Origin) (l : Lived) (old : WatchState) (event : WatchEvent) (output : WatchOutput) (new : WatchState) → Stands w i l.at asked told l.real old →
    IsTrueEvent w i asked old l event → Step old event output new → IsAlone new → Stands w i l.at (Asked i l.at asked (Ok output)) (if tells i event then l.origin else told) l.real new
step_stands w honest i asked told l old (Clock wall elapsed) output new h so step alone = clock_stands w honest i l.at asked told l.real old new wall elapsed output h so step alone
step_stands w honest i asked told l old (Looked j reply terms) output new h so step alone =
    subst (λ a. Stands w i l.at a (if is_told reply && j == i then l.origin else told) l.real new) (sym (looked_quiet i l.at asked old new (request_out old.out j Look) reply terms output step))
    (looked_stands w honest i l.at asked j told l.origin l.real old new (request_out old.out j Look) reply terms output refl step alone so h)
step_stands w honest i asked told l old (Renewed j reply) output new h so step alone =
    subst (λ a. Stands w i l.at a (if is_told reply && j == i then l.origin else told) l.real new) (sym (renewed_quiet i l.at asked old new (request_out old.out j Renew) reply output step))
    (renewed_stands w honest i l.at asked j told l.origin l.real old new (request_out old.out j Renew) reply output refl step alone so h)
step_stands w honest i asked told l old (Need j until) output new h so step alone =
    subst (λ a. Stands w i l.at a told l.real new) (sym (quiet i l.at asked output _ step.0 refl))
    (left_stands w i l.at asked told l.real old new (ap (λ (x : WatchState). x.clocks) step.1) (ap (λ (x : WatchState). x.begun) step.1) (ap (λ (x : WatchState). x.out) step.1) (ap (λ (x : WatchState). x.tracks) step.1) alone h)
step_stands w honest i asked told l old Begin output new h so step alone =
    subst (λ a. Stands w i l.at a told l.real new) (sym (quiet i l.at asked output _ step.0 refl))
    (left_stands w i l.at asked told l.real old new (ap (λ (x : WatchState). x.clocks) step.1) (ap (λ (x : WatchState). x.begun) step.1) (ap (λ (x : WatchState). x.out) step.1) (ap (λ (x : WatchState). x.tracks) step.1) alone h)
step_stands w honest i asked told l old (Known j end renewable) output new h so step alone =
    subst (λ a. Stands w i l.at a (if j == i then l.origin else told) l.real new) (sym (quiet i l.at asked output _ step.0 refl))
    (known_stands w i l.at asked j told l.origin l.real old new end renewable step.1 alone so h)

turn_stands :
    (w : TimedWorld) → IsHonest w → (i asked : ℕ) (told : Origin) (l : Lived) (old : WatchState) (event : WatchEvent) (result : Result WatchOutput WatchFault) (new : WatchState) → Stands w i l.at asked told l.real old →
    IsTrueEvent w i asked old l event → Turn old event result new → Stands w i l.at (Asked i l.at asked result) (if is_event_taken result && tells i event then l.origin else told) l.real new
turn_stands w honest i asked told l old event (Ok output) new h so turn = step_stands w honest i asked told l old event output new h so turn.1 (turn_alone old new event (Ok output) turn h.alone)
turn_stands w honest i asked told l old event (Err fault) new h so turn = subst (Stands w i l.at asked told l.real) (sym (refused_stays old new event fault turn)) h

-- ---- wherever the entry stands

-- the clock after a turn
same_clock : (w : TimedWorld) (now : ℕ) (old new : WatchState) → new.clocks ≡ old.clocks → new.begun ≡ old.begun → HasClock w now old → HasClock w now new
same_clock w now old new clocks begun' h = record {
  at = (let at = ap (λ (c : Clocks). c.at) clocks in let phase = ap (λ (c : Clocks). c.phase) clocks in let most = h.at in omega (arith, at, phase, most));
  unbegun = λ none. let first = h.unbegun (ap is_none (sym begun') ∙ none) in (ap (λ (c : Clocks). c.at) clocks ∙ first.0, ap (λ (c : Clocks). c.phase) clocks ∙ first.1);
}

same_begun : (mid new : WatchState) (command : WatchCommand) → StepCommand mid command new → new.begun ≡ mid.begun
same_begun mid new (Go requests until) step = ap (λ (x : WatchState). x.begun) step.0.1
same_begun mid new Taken step = absurd step

looked_clock : (w : TimedWorld) (now : ℕ) (old new : WatchState) (found : Option Out) (reply : WatchReply) (terms : WatchTerms) (output : WatchOutput) → StepLooked old found reply terms output new → HasClock w now old → HasClock w now new
looked_clock w now old new None reply terms output step h = absurd step
looked_clock w now old new (Some q) reply terms output step h =
    let rest = ap rest_of step.1 ∙ looked_leaves old q reply terms in
    same_clock w now old new (ap (λ (x : WatchState). x.clocks) rest) (ap (λ (x : WatchState). x.begun) rest) h

renewed_clock : (w : TimedWorld) (now : ℕ) (old new : WatchState) (found : Option Out) (reply : WatchReply) (output : WatchOutput) → StepRenewed old found reply output new → HasClock w now old → HasClock w now new
renewed_clock w now old new None reply output step h = absurd step
renewed_clock w now old new (Some q) reply output step h =
    let rest = ap rest_of step.1 ∙ renewed_leaves old q reply in
    same_clock w now old new (ap (λ (x : WatchState). x.clocks) rest) (ap (λ (x : WatchState). x.begun) rest) h

step_clock : (w : TimedWorld) (now : ℕ) (old new : WatchState) (event : WatchEvent) (output : WatchOutput) → Step old event output new → IsTrueReading w now event → HasClock w now old → HasClock w now new
step_clock w now old new (Clock wall elapsed) output step read' h =
    let mid = pressed (readied old wall elapsed) (round_of step.round) in
    let on = clocks_on w now old wall elapsed h read' in
    let clocks : new.clocks ≡ clocks_after old wall elapsed = same_clocks mid new output.command step.command ∙ readied_clocks old wall elapsed in
    let at = ap (λ (c : Clocks). c.at) clocks in
    let phase = ap (λ (c : Clocks). c.phase) clocks in
    let most = on.at in
    record {
      at = omega (arith, at, phase, most);
      unbegun = λ none. absurd (not_both none (ap is_none (same_begun mid new output.command step.command) ∙ begun_some old wall elapsed));
    }
step_clock w now old new (Looked j reply terms) output step read' h = looked_clock w now old new (request_out old.out j Look) reply terms output step h
step_clock w now old new (Renewed j reply) output step read' h = renewed_clock w now old new (request_out old.out j Renew) reply output step h
step_clock w now old new _ output step read' h = same_clock w now old new (ap (λ (x : WatchState). x.clocks) step.1) (ap (λ (x : WatchState). x.begun) step.1) h

turn_clock : (w : TimedWorld) (now : ℕ) (old new : WatchState) (event : WatchEvent) (result : Result WatchOutput WatchFault) → Turn old event result new → IsTrueReading w now event → HasClock w now old → HasClock w now new
turn_clock w now old new event (Ok output) turn read' h = step_clock w now old new event output turn.1 read' h
turn_clock w now old new event (Err fault) turn read' h = subst (HasClock w now) (sym (refused_stays old new event fault turn)) h

true_reading : (w : TimedWorld) (i asked : ℕ) (s : WatchState) (l : Lived) (event : WatchEvent) → IsTrueEvent w i asked s l event → IsTrueReading w l.at event
true_reading w i asked s l (Clock wall elapsed) so = so
true_reading w i asked s l _ so = tt

-- what holds where it stands; while it is not there yet, and under the index of one that is no more, of the clock alone
abbrev StandsOf : TimedWorld → Option ℕ → ℕ → ℕ → Origin → ℕ → WatchState → Type 0
StandsOf w None last asked told real s = Unit {0}
StandsOf w (Some i) last asked told real s = i < length s.tracks → Stands w i last asked told real s

record StandsAt (w : TimedWorld) (e : Option ℕ) (last asked : ℕ) (told : Origin) (real : ℕ) (s : WatchState) : Type 0 where
  clock : HasClock w last s
  past : asked ≤ last
  count : IsCounted s
  alone : IsAlone s
  of : StandsOf w e last asked told real s

-- a turn
clock_later : (w : TimedWorld) → IsHonest w → (last next : ℕ) (s : WatchState) → last ≤ next → HasClock w last s → HasClock w next s
clock_later w honest last next s le h =
    let rises = honest.rises last next le in
    let at = h.at in
    record { at = omega (arith, at, rises); unbegun = h.unbegun }

turn_of : (w : TimedWorld) → IsHonest w → (e : Option ℕ) (last asked : ℕ) (told : Origin) (real : ℕ) (l : Lived) (old : WatchState) (turn : Turned) → last ≤ l.at → real ≤ l.real → Turn old turn.event turn.result turn.state →
    IsTrueAt w e asked old l (Hands turn) → StandsOf w e last asked told real old → StandsOf w e l.at (asked_at e asked l (Hands turn)) (told_at e told l (Hands turn)) l.real turn.state
turn_of w honest None last asked told real l old turn le far h so of = tt
turn_of w honest (Some i) last asked told real l old turn le far h so of = λ within.
    let count = turn_count old turn.state turn.event turn.result h in
    turn_stands w honest i asked told l old turn.event turn.result turn.state (later_stands w honest i last l.at asked told real l.real old le far (of (omega (arith, count, within)))) so h

asked_past : (e : Option ℕ) (asked : ℕ) (l : Lived) (h : Happening) → asked ≤ l.at → asked_at e asked l h ≤ l.at
asked_past None asked l h le = le
asked_past (Some i) asked l (Hands turn) le = if_both (λ n. n ≤ l.at) (list_any (λ (r : WatchRequest). r.entry == i) (requests_at_turn turn.result)) l.at asked (omega arith) le
asked_past (Some i) asked l (Changes c) le = le

reads : (w : TimedWorld) (e : Option ℕ) (asked : ℕ) (s : WatchState) (l : Lived) (turn : Turned) → IsTrueAt w e asked s l (Hands turn) → IsTrueReading w l.at turn.event
reads w None asked s l turn so = so
reads w (Some i) asked s l turn so = true_reading w i asked s l turn.event so

turned_stands :
    (w : TimedWorld) → IsHonest w → (e : Option ℕ) (last asked : ℕ) (told : Origin) (real : ℕ) (l : Lived) (old : WatchState) (turn : Turned) → last ≤ l.at → real ≤ l.real → Turn old turn.event turn.result turn.state →
    IsTrueAt w e asked old l (Hands turn) → StandsAt w e last asked told real old → StandsAt w e l.at (asked_at e asked l (Hands turn)) (told_at e told l (Hands turn)) l.real turn.state
turned_stands w honest e last asked told real l old turn le far h so stands =
    let past = stands.past in
    record {
      clock = turn_clock w l.at old turn.state turn.event turn.result h (reads w e asked old l turn so) (clock_later w honest last l.at old le stands.clock);
      past = asked_past e asked l (Hands turn) (omega (arith, past, le));
      count = turn_counted old turn.state turn.event turn.result h stands.count;
      alone = turn_alone old turn.state turn.event turn.result h stands.alone;
      of = turn_of w honest e last asked told real l old turn le far h so stands.of;
    }

-- a change: an entry that is new has no end
changed_of :
    (w : TimedWorld) (i j last asked : ℕ) (told : Origin) (real : ℕ) (old : WatchState) (c : Changed) (h : IsChanged old c) → former_at c.was j ≡ Some i → IsAlone c.state → Stands w i last asked told real old →
    Stands w j last asked told real c.state
changed_of w i j last asked told real old c h said alone stands =
    let n = w.reading asked + old.clocks.phase in
    let passes = kept_over old c h (Passes old.clocks.at n) (λ x. same_passes old.clocks.at n x) (λ x. owed_passes old.clocks.at n old.clocks.at x) i j said in
    subst (λ d. StandsBy w j last asked told real d c.state) (sym (ap (λ (s : WatchState). s.clocks) h.state))
    (record {
      alone = alone;
      past = stands.past;
      at = stands.at;
      unbegun = λ none. stands.unbegun (sym (ap (λ (s : WatchState). is_none s.begun) h.state) ∙ none);
      out = named_over (λ (q : Out). q.since ≤ n) (λ r m le. le) old c h i j said stands.out;
      end = subst (EndBy w old.clocks.phase real told) (sym passes.0) stands.end;
      timely = passes.1 stands.timely;
    })

new_of :
    (w : TimedWorld) (j last asked : ℕ) (told : Origin) (real : ℕ) (old : WatchState) (c : Changed) (h : IsChanged old c) → former_at c.was j ≡ None → j < length c.forest.entries → asked ≤ last → HasClock w last old →
    IsAlone c.state → Stands w j last asked told real c.state
new_of w j last asked told real old c h said within past clock alone =
    let n = w.reading asked + old.clocks.phase in
    subst (λ d. StandsBy w j last asked told real d c.state) (sym (ap (λ (s : WatchState). s.clocks) h.state))
    (record {
      alone = alone;
      past = past;
      at = clock.at;
      unbegun = λ none. clock.unbegun (sym (ap (λ (s : WatchState). is_none s.begun) h.state) ∙ none);
      out = named_new (λ (q : Out). q.since ≤ n) old c h j within said;
      end = new_over old c h (λ (y : Track). EndBy w old.clocks.phase real told y.end) (λ e. tt) j within said;
      timely = new_over old c h (Timely old.clocks.at n) (λ e. record { base = tt; out = λ out. tt }) j within said;
    })

changed_stands :
    (w : TimedWorld) → IsHonest w → (e : Option ℕ) (last asked : ℕ) (told : Origin) (real : ℕ) (l : Lived) (old : WatchState) (c : Changed) → last ≤ l.at → real ≤ l.real → IsChanged old c →
    StandsAt w (stood_at_some (Changes c) e) last asked told real old → StandsAt w e l.at (asked_at e asked l (Changes c)) (told_at e told l (Changes c)) l.real c.state
changed_stands w honest e last asked told real l old c le far h stands =
    let past = stands.past in
    let clock = clock_later w honest last l.at old le stands.clock in
    let alone = changed_alone old c h stands.count stands.alone in
    record {
      clock = same_clock w l.at old c.state (ap (λ (s : WatchState). s.clocks) h.state) (ap (λ (s : WatchState). s.begun) h.state) clock;
      past = asked_past e asked l (Changes c) (omega (arith, past, le));
      count = changed_counted old c h;
      alone = alone;
      of = of_each e stands.of clock alone (omega (arith, past, le));
    } where
      of_one : (j : ℕ) (was : Option ℕ) → former_at c.was j ≡ was → StandsOf w was last asked told real old → HasClock w l.at old → IsAlone c.state → asked ≤ l.at → j < length c.state.tracks → Stands w j l.at asked told l.real c.state
      of_one j None said of clock alone past within = new_of w j l.at asked told l.real old c h said (let many = changed_tracks old c h in omega (arith, many, within)) past clock alone
      of_one j (Some i) said of clock alone past within =
          let there = h.may.within i j said in
          let count = stands.count in
          changed_of w i j l.at asked told l.real old c h said alone (later_stands w honest i last l.at asked told real l.real old le far (of (omega (arith, there, count))))

      of_each : (d : Option ℕ) → StandsOf w (stood_at_some (Changes c) d) last asked told real old → HasClock w l.at old → IsAlone c.state → asked ≤ l.at →
          StandsOf w d l.at (asked_at d asked l (Changes c)) (told_at d told l (Changes c)) l.real c.state
      of_each None of clock alone past = tt
      of_each (Some j) of clock alone past = λ within. of_one j (former_at c.was j) refl of clock alone past within

-- all of them
end_of_track : (w : TimedWorld) (phase real : ℕ) (o : Origin) (e : End) (end : ℕ) → EndBy w phase real o e → e ≡ At end → IsNoLater w phase end real o
end_of_track w phase real o e end h is = subst (EndBy w phase real o) is h

no_end : (s : WatchState) (i end : ℕ) → length s.tracks ≤ i → (track_at s i).end ≡ At end → ⊥
no_end s i end past is = let bad : Unknown ≡ At end = ap (λ (x : Track). x.end) (sym (get_or_past s.tracks i no_track past)) ∙ is in cc

no_later : (w : TimedWorld) (e : Option ℕ) (last asked : ℕ) (told : Origin) (l : Lived) (s : WatchState) → StandsAt w e last asked told l.real s → IsNoLaterAt w e told l s
no_later w None last asked told l s stands = tt
no_later w (Some i) last asked told l s stands = λ end is.
    elim (cases_lt i (length s.tracks)) as (λ _. IsNoLater w s.clocks.phase end l.real told) [
      | inl within ↦ end_of_track w s.clocks.phase l.real told (track_at s i).end end (stands.of within).end is
      | inr past ↦ absurd (no_end s i end past is)
    ]

happened_stands :
    (w : TimedWorld) → IsHonest w → (e : Option ℕ) (last asked : ℕ) (told : Origin) (real : ℕ) (l : Lived) (old : WatchState) (h : Happening) → last ≤ l.at → real ≤ l.real → Happens old h → IsTrueAt w e asked old l h →
    StandsAt w (stood_at_some h e) last asked told real old → StandsAt w e l.at (asked_at e asked l h) (told_at e told l h) l.real (state_after h)
happened_stands w honest e last asked told real l old (Hands turn) le far h so stands =
    turned_stands w honest e last asked told real l old turn le far h so (subst (λ d. StandsAt w d last asked told real old) (stays_there turn e) stands)
happened_stands w honest e last asked told real l old (Changes c) le far h so stands = changed_stands w honest e last asked told real l old c le far h stands

along : (w : TimedWorld) → IsHonest w → (k : ℕ) (s : WatchState) (last asked real : ℕ) (told : Origin) (ls : List Lived) → StandsAt w (stood (happened ls) k) last asked told real s → AreLivedFrom w k s last asked real ls → AllNoLater w k told ls
along w honest k s last asked real told [] h lived = tt
along w honest k s last asked real told (l ∷ ls) h lived =
    let e = stood (happened ls) k in
    let after = happened_stands w honest e last asked told real l s l.happening lived.1.0 lived.1.1.1.0 lived.0 lived.1.1.0 h in (
      no_later w e l.at (asked_at e asked l l.happening) (told_at e told l l.happening) l (state_after l.happening) after,
      along w honest k (state_after l.happening) l.at (asked_at e asked l l.happening) l.real (told_at e told l l.happening) ls after lived.1.1.1.1,
    )

fresh_holds : (P : Track → Type 0) → P no_track → ((e : Entry) → P (fresh_track e)) → (es : List Entry) (i : ℕ) → P (track_in (map fresh_track es) i)
fresh_holds P none fresh [] i = none
fresh_holds P none fresh (e ∷ es) zero = fresh e
fresh_holds P none fresh (e ∷ es) (suc i) = fresh_holds P none fresh es i

first_alone : (g : Forest) (width : ℕ) → IsAlone (opened g width)
first_alone g width = record { once = λ j low. omega arith; single = λ j. omega arith }

opened_stands : (w : TimedWorld) (g : Forest) (width i real : ℕ) → Stands w i 0 0 no_origin real (opened g width)
opened_stands w g width i real = record {
  alone = first_alone g width;
  past = omega arith;
  at = omega arith;
  unbegun = λ none. (refl, refl);
  out = All-nil (SinceBy i (w.reading 0 + 0));
  end = fresh_holds (λ x. EndBy w 0 real no_origin x.end) tt (λ e. tt) g.entries i;
  timely = fresh_holds (Timely 0 (w.reading 0 + 0)) (none_timely 0 (w.reading 0 + 0)) (λ e. record { base = tt; out = λ o. tt }) g.entries i;
}

first_of : (w : TimedWorld) (g : Forest) (width real : ℕ) (e : Option ℕ) → StandsOf w e 0 0 no_origin real (opened g width)
first_of w g width real None = tt
first_of w g width real (Some i) = λ within. opened_stands w g width i real

pub never_past : NeverPastLaw
never_past w honest g width k real ls lived =
    along w honest k (opened g width) 0 0 real no_origin ls
    (record {
      clock = record { at = omega arith; unbegun = λ none. (refl, refl) };
      past = omega arith;
      count = opened_counted g width;
      alone = first_alone g width;
      of = first_of w g width real (stood (happened ls) k);
    }) lived
