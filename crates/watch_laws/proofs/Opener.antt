-- Opener: a round opens only at a clock, and pressing and sending leave what says when a time comes and who is wanted. For the laws of rounds
-- and of presses.
use Rattle.std.proofs.Common.{◌≡◌, ◌∙◌, ℕ, true, ◌||◌, ◌==◌, if◌then◌else◌, List, Option, Some, None, Result, Ok, Err, refl, sym, ap}
use Rattle.std.specs.List.{list_any}
use Rattle.plan_forest.specs.{declared.entry.Entry.Entry, Forest.entry_at}
use Rattle.watch_machine.specs.{declared.command.WatchOutput.WatchOutput, declared.command.WatchRequest.WatchRequest, declared.event.WatchEvent.WatchEvent, declared.event.WatchReply.WatchReply, declared.event.WatchReply.TheVariants.Told}
use Rattle.watch_machine.specs.{declared.event.WatchTerms.WatchTerms, declared.fault.WatchFault.WatchFault, declared.lanes.Out.Out, declared.track.Track.Track, Answers.noted, Clocks.sec, History.Turn, Refusal.request_out}
use Rattle.watch_machine.specs.{Wanted.need_of, Wanted.wants}
use Rattle.watch_machine.specs.declared.event.WatchEvent.TheVariants.{Clock, Looked, Renewed}
use Rattle.watch_machine.specs.declared.event.Operation.TheVariants.{Look, Renew}
use Rattle.watch_machine.specs.Margins.{asking_margin, has_come, own_margin, time}
use Rattle.watch_machine.specs.Press.{asked_track, dropped, is_fresh, press, pressed, pressed_alone, pressed_track, track_asked_in}
use Rattle.watch_machine.specs.Sending.{sent, sent_in, sent_track}
use Rattle.watch_machine.specs.State.{WatchState, no_track, track_at}
use Rattle.watch_machine.specs.Step.{Step, StepLooked, StepRenewed, notes_looked}
use Rattle.watch_machine.proofs.Cases.{if_both}
use Rattle.watch_laws.specs.{Absence.is_event_taken, Time.round_of}
use Rattle.watch_laws.proofs.Tracking.{each_kept}

-- what of a track says whether it is wanted and when its time comes
abbrev pub bearing : Track → Track
bearing x = record no_track { end = x.end; renewable = x.renewable; top = x.top; last_try = x.last_try; grant = x.grant }

abbrev Bears : Track → Track → Type 0
Bears y x = bearing y ≡ bearing x

pub pressed_bears : (margin : ℕ) (e : Entry) (need at : ℕ) (x : Track) → Bears (pressed_track margin e need at x) x
unfolding pressed_track
pressed_bears margin e need at x =
    if_both (λ y. Bears y x) (is_fresh margin e x need (sec at)) (record x { attempt = Some (press at x) }) (if wants x need || x.out then x else record x { attempt = dropped x x.attempt }) refl
    (if_both (λ y. Bears y x) (wants x need || x.out) x (record x { attempt = dropped x x.attempt }) refl refl)

asked_bears : (at : ℕ) (round : List ℕ) (i : ℕ) (x : Track) → Bears (track_asked_in at round i x) x
unfolding asked_track
asked_bears at round i x =
    if_both (λ y. Bears y x) (list_any (λ j. j == i) round) (asked_track at x) x
    (if_both (λ y. Bears y x) x.out x (record x { attempt = Some (press at x) }) refl refl) refl

-- pressing and sending leave it
pub mid_bears : (s : WatchState) (round : List ℕ) (requests : List WatchRequest) (i : ℕ) → bearing (track_at (sent (pressed s round) requests) i) ≡ bearing (track_at s i)
mid_bears s round requests i =
    let c = s.clocks in
    let g = s.forest in
    let alone = pressed_alone g c s.tracks in
    let mid = pressed s round in
    each_kept Bears refl (sent_in c.at requests) mid.tracks (λ j x. if_both (λ y. Bears y x) (list_any (λ (r : WatchRequest). r.entry == j) requests) (sent_track c.at x) x refl refl) i
    ∙ each_kept Bears refl (track_asked_in c.at round) alone (asked_bears c.at round) i
    ∙ each_kept Bears refl (λ j. pressed_track g.margin (entry_at g.entries j) (need_of g.entries s.tracks c j) c.at) s.tracks
    (λ j x. pressed_bears g.margin (entry_at g.entries j) (need_of g.entries s.tracks c j) c.at x) i

-- and so when a time comes, and who is wanted
come_bears : (margin : ℕ) (e : Entry) (x : Track) (now : ℕ) → has_come margin e (bearing x) now ≡ has_come margin e x now
unfolding has_come time asking_margin own_margin
come_bears margin e x now = refl

wants_bears : (x : Track) (need : ℕ) → wants (bearing x) need ≡ wants x need
unfolding wants
wants_bears x need = refl

pub come_same : (margin : ℕ) (e : Entry) (y x : Track) (now : ℕ) → bearing y ≡ bearing x → has_come margin e y now ≡ has_come margin e x now
come_same margin e y x now same = sym (come_bears margin e y now) ∙ ap (λ z. has_come margin e z now) same ∙ come_bears margin e x now

pub wants_same : (y x : Track) (need : ℕ) → bearing y ≡ bearing x → wants y need ≡ wants x need
wants_same y x need same = sym (wants_bears y need) ∙ ap (λ z. wants z need) same ∙ wants_bears x need

-- no other event than a clock opens a round
no_round : {X : Type 0} (output o : WatchOutput) (asked : List ℕ) → output ≡ o → o.notes.round ≡ None → output.notes.round ≡ Some asked → X
no_round output o asked is none some = absurd (let e : Some asked ≡ None = sym some ∙ ap (λ (x : WatchOutput). x.notes.round) is ∙ none in cc)

looked_none : (s : WatchState) (q : Out) (reply : WatchReply) (terms : WatchTerms) → (notes_looked s q reply terms).round ≡ None
looked_none s q (Told seconds renewable date) terms = refl
looked_none s q _ terms = refl

looked_no : {X : Type 0} (old new : WatchState) (found : Option Out) (reply : WatchReply) (terms : WatchTerms) (output : WatchOutput) (asked : List ℕ) → StepLooked old found reply terms output new → output.notes.round ≡ Some asked → X
looked_no old new None reply terms output asked step is = absurd step
looked_no old new (Some q) reply terms output asked step is = no_round output _ asked step.0 (looked_none (noted old q reply) q reply terms) is

renewed_no : {X : Type 0} (old new : WatchState) (found : Option Out) (reply : WatchReply) (output : WatchOutput) (asked : List ℕ) → StepRenewed old found reply output new → output.notes.round ≡ Some asked → X
renewed_no old new None reply output asked step is = absurd step
renewed_no old new (Some q) reply output asked step is = no_round output _ asked step.0 refl is

stepped_clock :
    {X : Type 0} (old new : WatchState) (event : WatchEvent) (output : WatchOutput) (asked : List ℕ) → Step old event output new → output.notes.round ≡ Some asked → ((wall elapsed : ℕ) → event ≡ Clock wall elapsed → X) → X
stepped_clock old new (Clock wall elapsed) output asked step is at = at wall elapsed refl
stepped_clock old new (Looked j reply terms) output asked step is at = looked_no old new (request_out old.out j Look) reply terms output asked step is
stepped_clock old new (Renewed j reply) output asked step is at = renewed_no old new (request_out old.out j Renew) reply output asked step is
stepped_clock old new _ output asked step is at = no_round output _ asked step.0 refl is

pub opened_at_clock :
    {X : Type 0} (old new : WatchState) (event : WatchEvent) (result : Result WatchOutput WatchFault) (asked : List ℕ) → Turn old event result new → round_of result ≡ Some asked →
    ((wall elapsed : ℕ) → event ≡ Clock wall elapsed → is_event_taken result ≡ true → X) → X
opened_at_clock old new event (Ok output) asked turn is at = stepped_clock old new event output asked turn.1 is (λ wall elapsed clock. at wall elapsed clock refl)
opened_at_clock old new event (Err fault) asked turn is at = absurd cc
