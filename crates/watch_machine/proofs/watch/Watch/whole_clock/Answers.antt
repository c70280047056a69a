-- The parts of a clock are together the step of the definitions.
use Rattle.std.proofs.Common.{◌≡◌, ◌∙◌, ◌-◌, ◌++◌, IfSome, List, [], ap, drop, length, map, subst, sym}
use Rattle.std.specs.List.{All}
use Rattle.watch_machine.specs.{declared.command.WatchCommand.TheVariants.Go, declared.command.WatchOutput.WatchOutput, declared.lanes.LaneAnswer.LaneAnswer, declared.lanes.Out.Out, declared.notes.Notes.Notes, declared.track.Track.Track}
use Rattle.watch_machine.specs.{Press.pressed_tracks, Round.IsRound, Round.asked_by_round, State.WatchState, State.each, Step.StepClock, code.Bounds.IsTrack, code.Lull.IsLull, code.Lull.wait_by, code.View.HasNeeds, code.View.need_at}
use Rattle.watch_machine.specs.{Clocks.sec}
use Rattle.watch_machine.specs.Beginning.{beginning, begun_tracks, noted_begun}
use Rattle.watch_machine.specs.Sending.{IsGoing, out_at, sent_in}
use Rattle.watch_machine.specs.Settling.{clocks_after, has_jumped, has_stepped, presence_after, settled_track}
use Rattle.watch_machine.specs.code.Line.{IsFrontOf, IsInLine, IsKnown, calm}
use Rattle.watch_machine.proofs.{ClockParts.clock_step, ClockParts.needs_after, LineMade.line_in_order, LineSent.asked_are, LineSent.left_in_line, Lulls.some_lull, Written.each_length}
use Rattle.watch_machine.proofs.{watch.Watch.whole_clock.Goals.After-drop-needs-inside-3}
use Rattle.watch_machine.proofs.Rewritten.{once, thrice, twice}
use Rattle.watch_machine.proofs.watch.Watch.whole_clock.Goals as goal

-- the state before the clock, by its fields
abbrev before : After-drop-needs-inside-3 → WatchState
before c =
    let w = c.self.inside in
    record { forest = w.forest; width = w.width; tracks = w.tracks.items; out = w.out.items; answers = w.answers.items; clocks = w.clocks; presence = w.presence; begun = w.begun; asked = w.asked; stepped = w.stepped }

before_is : (c : After-drop-needs-inside-3) → before c ≡ c.args.self.now
before_is c = c.self.view_is

-- the steps 1 and 2
clocks_are : (c : After-drop-needs-inside-3) → c.timed-timed.result.clocks ≡ clocks_after (before c) c.args.wall c.args.elapsed
clocks_are c = c.timed-timed.ensures.clocks ∙ ap (λ (t : WatchState). clocks_after t c.args.wall c.args.elapsed) (sym (before_is c))

stepped_is : (c : After-drop-needs-inside-3) → c.timed-timed.result.stepped ≡ has_stepped (before c) c.args.wall c.args.elapsed
stepped_is c = c.timed-timed.ensures.stepped ∙ ap (λ (t : WatchState). has_stepped t c.args.wall c.args.elapsed) (sym (before_is c))

jumped_is : (c : After-drop-needs-inside-3) → c.timed-timed.result.jumped ≡ has_jumped (before c) c.args.wall c.args.elapsed
jumped_is c = c.timed-timed.ensures.jumped ∙ ap (λ (t : WatchState). has_jumped t c.args.wall c.args.elapsed) (sym (before_is c))

tracks_are : (c : After-drop-needs-inside-3) → c.in_ok-tracks.tracks.items ≡ each (λ i. settled_track (before c).forest.margin c.timed-timed.result.clocks.at) (before c).tracks
tracks_are c =
    let at = c.timed-timed.result.clocks.at in
    c.in_ok-tracks.ensures.value ∙ ap (λ m. each (λ i. settled_track m at) c.deref.result.now) c.margin-margin.ensures
    ∙ ap (each (λ i. settled_track c.self.inside.forest.margin at)) c.deref.ensures.value

presence_is :
    (c : After-drop-needs-inside-3) →
    c.presence_after-presence.result ≡ presence_after (before c).forest.margin c.timed-timed.result.clocks.at (before c).tracks (before c).answers (before c).presence
presence_is c =
    let w = c.self.inside in
    let at = c.timed-timed.result.clocks.at in
    c.presence_after-presence.ensures ∙ ap (λ m. presence_after m at c.deref-2.result.now c.deref-3.result.now w.presence) c.margin-margin.ensures
    ∙ ap (λ xs. presence_after w.forest.margin at xs c.deref-3.result.now w.presence) c.deref-2.ensures.value
    ∙ ap (λ ys. presence_after w.forest.margin at w.tracks.items ys w.presence) c.deref-3.ensures.value

-- the step 3
why_is :
    (c : After-drop-needs-inside-3) →
    c.reason-why.result ≡ beginning (before c).begun (before c).asked c.timed-timed.result.stepped c.timed-timed.result.jumped c.timed-timed.result.clocks.at c.in_ok-tracks.tracks.items
why_is c =
    let t = c.timed-timed.result in
    c.reason-why.ensures ∙ ap (λ (s : WatchState). beginning s.begun s.asked t.stepped t.jumped t.clocks.at c.deref-4.result.now) (sym (before_is c))
    ∙ ap (beginning (before c).begun (before c).asked t.stepped t.jumped t.clocks.at) c.deref-4.ensures.value

begun_are : (c : After-drop-needs-inside-3) → c.begin.new.tracks ≡ begun_tracks (before c).forest c.timed-timed.result.clocks c.reason-why.result c.in_ok-tracks.tracks.items
begun_are c = c.in_ok-needs.ensures.tracks ∙ ap (begun_tracks c.self.inside.forest c.timed-timed.result.clocks c.reason-why.result) c.deref_mut.ensures.value

has : (c : After-drop-needs-inside-3) → HasNeeds (before c).forest.entries c.begin.new.tracks c.timed-timed.result.clocks c.in_ok-needs.needs
has c = c.in_ok-needs.ensures.needs.needs

-- the step 4
read_begun : (c : After-drop-needs-inside-3) → c.deref_mut-2.result.now ≡ c.begin.new.tracks
read_begun c = c.deref_mut-2.ensures.value ∙ once c.in_ok-tracks.tracks c.deref_mut.result.now c.begin.new.tracks c.deref_mut.ensures.value c.begin.auto.tracks

rounds : (c : After-drop-needs-inside-3) → IsRound (before c).forest c.begin.new.tracks c.timed-timed.result.clocks c.in_ok-round.round
rounds c = subst (λ xs. IsRound c.self.inside.forest xs c.timed-timed.result.clocks c.in_ok-round.round) (read_begun c) c.in_ok-round.ensures.round

-- the tracks that all are pressed in
abbrev pressed_of : After-drop-needs-inside-3 → List Track
pressed_of c = pressed_tracks c.self.inside.forest c.timed-timed.result.clocks (asked_by_round c.in_ok-round.round) c.begin.new.tracks

presses : (c : After-drop-needs-inside-3) → c.press.new.tracks ≡ pressed_of c
presses c = c.in_ok-round.ensures.tracks ∙ ap (pressed_tracks c.self.inside.forest c.timed-timed.result.clocks (asked_by_round c.in_ok-round.round)) (read_begun c)

-- the step 5
pressed_count : (c : After-drop-needs-inside-3) → length c.press.new.tracks ≡ length c.begin.new.tracks
pressed_count c = c.press.auto.tracks ∙ ap length (read_begun c)

sent_count : (c : After-drop-needs-inside-3) → length c.send_all.new.tracks ≡ length c.press.new.tracks
sent_count c =
    c.send_all.auto.tracks
    ∙ ap length (c.deref_mut-3.ensures.value ∙ twice c.in_ok-tracks.tracks c.deref_mut.result.now c.begin.new.tracks c.deref_mut.ensures.value c.begin.auto.tracks c.press.new.tracks (pressed_count c))

read_pressed : (c : After-drop-needs-inside-3) → c.deref-5.result.now ≡ pressed_of c
read_pressed c =
    c.deref-5.ensures.value
    ∙ twice c.in_ok-tracks.tracks c.deref_mut.result.now c.begin.new.tracks c.deref_mut.ensures.value c.begin.auto.tracks c.press.new.tracks (pressed_count c) ∙ presses c

lanes_are : (c : After-drop-needs-inside-3) → c.saturating_sub-lanes.result ≡ (before c).width - length (before c).out
lanes_are c = c.saturating_sub-lanes.ensures ∙ ap (λ n. c.self.inside.width - n) (c.len.ensures ∙ c.self.inside.out.ok.0)

goes :
    (c : After-drop-needs-inside-3) →
    IsGoing (before c).forest c.presence_after-presence.result c.timed-timed.result.clocks.at (pressed_of c) ((before c).width - length (before c).out) c.in_ok-requests.field-0.requests.items
goes c =
    let p = c.presence_after-presence.result in
    let at = c.timed-timed.result.clocks.at in
    let requests = c.in_ok-requests.field-0.requests.items in
    subst (λ n. IsGoing c.self.inside.forest p at (pressed_of c) n requests) (lanes_are c) (subst (λ xs. IsGoing c.self.inside.forest p at xs c.saturating_sub-lanes.result requests) (read_pressed c) c.in_ok-requests.ensures.going)

out_are : (c : After-drop-needs-inside-3) → c.in_ok-out.out.items ≡ (before c).out ++ map (out_at c.timed-timed.result.clocks.at) c.in_ok-requests.field-0.requests.items
out_are c =
    let at = c.timed-timed.result.clocks.at in
    c.in_ok-out.ensures.value ∙ ap (λ os. os ++ map (out_at at) c.deref-7.result.now) c.deref-6.ensures.value
    ∙ ap (λ rs. c.self.inside.out.items ++ map (out_at at) rs) c.deref-7.ensures.value

-- the tracks in which it is noted who goes out
abbrev sent_of : After-drop-needs-inside-3 → List Track
sent_of c = each (sent_in c.timed-timed.result.clocks.at c.in_ok-requests.field-0.requests.items) (pressed_of c)

sends : (c : After-drop-needs-inside-3) → c.send_all.new.tracks ≡ sent_of c
sends c =
    let at = c.timed-timed.result.clocks.at in
    c.send_all.ensures.value ∙ ap (λ rs. each (sent_in at rs) c.deref_mut-3.result.now) c.deref-8.ensures.value
    ∙ ap (each (sent_in at c.in_ok-requests.field-0.requests.items))
    (c.deref_mut-3.ensures.value
    ∙ twice c.in_ok-tracks.tracks c.deref_mut.result.now c.begin.new.tracks c.deref_mut.ensures.value c.begin.auto.tracks c.press.new.tracks (pressed_count c) ∙ presses c)

-- the step 6
waits :
    (c : After-drop-needs-inside-3) →
    c.wait-until.result ≡ wait_by (before c).forest c.timed-timed.result.clocks c.presence_after-presence.result (sent_of c) (need_at c.in_ok-needs.needs)
waits c =
    c.wait-until.ensures
    ∙ ap (λ xs. wait_by c.self.inside.forest c.timed-timed.result.clocks c.presence_after-presence.result xs (need_at c.in_ok-needs.needs))
    (c.deref-9.ensures.value
    ∙ thrice c.in_ok-tracks.tracks c.deref_mut.result.now c.begin.new.tracks c.deref_mut.ensures.value c.begin.auto.tracks c.press.new.tracks (pressed_count c) c.send_all.new.tracks (sent_count c)
    ∙ sends c)

-- what is left, and what is noted
abbrev after : After-drop-needs-inside-3 → List Track → List Out → List LaneAnswer → WatchState
after c xs os as' =
    let w = c.self.inside in
    record {
      forest = w.forest;
      width = w.width;
      tracks = xs;
      out = os;
      answers = as';
      clocks = c.timed-timed.result.clocks;
      presence = c.presence_after-presence.result;
      begun = w.begun;
      asked = w.asked;
      stepped = c.timed-timed.result.stepped;
    }

leaves : (c : After-drop-needs-inside-3) → c.note_begun.new.self ≡ noted_begun (after c (sent_of c) ((before c).out ++ map (out_at c.timed-timed.result.clocks.at) c.in_ok-requests.field-0.requests.items) []) c.reason-why.result
leaves c =
    let why = c.reason-why.result in
    c.note_begun.ensures
    ∙ ap (λ xs. noted_begun (after c xs c.in_ok-out.out.items c.clear.new.self.items) why)
    (thrice c.in_ok-tracks.tracks c.deref_mut.result.now c.begin.new.tracks c.deref_mut.ensures.value c.begin.auto.tracks c.press.new.tracks (pressed_count c) c.send_all.new.tracks (sent_count c)
    ∙ sends c)
    ∙ ap (λ os. noted_begun (after c (sent_of c) os c.clear.new.self.items) why) (out_are c)
    ∙ ap (λ (ys : List LaneAnswer). noted_begun (after c (sent_of c) ((before c).out ++ map (out_at c.timed-timed.result.clocks.at) c.in_ok-requests.field-0.requests.items) ys) why) c.clear.ensures.items

-- what is given
abbrev said : After-drop-needs-inside-3 → WatchOutput
said c = record { command = Go c.in_ok-requests.field-0.requests.items c.wait-until.result; notes = record c.none.result { began = c.reason-why.result; round = c.in_ok-round.round } }

pub returns-clause-step : goal.returns-clause-step
returns-clause-step c =
    let wall = c.args.wall in
    let elapsed = c.args.elapsed in
    let t = c.timed-timed.result in
    let round = c.in_ok-round.round in
    let why = c.reason-why.result in
    subst (λ (s : WatchState). StepClock s wall elapsed (said c) c.note_begun.new.self) (before_is c)
    (clock_step (before c) c.note_begun.new.self wall elapsed t.clocks t.stepped t.jumped c.in_ok-tracks.tracks.items c.presence_after-presence.result why c.begin.new.tracks
    round c.in_ok-requests.field-0.requests.items c.wait-until.result (need_at c.in_ok-needs.needs) (record c.none.result { began = why; round = round })
    (clocks_are c) (stepped_is c) (jumped_is c) (tracks_are c) (presence_is c) (why_is c) (begun_are c) (has c) (rounds c) (goes c) (waits c)
    (ap (λ (n : Notes). record n { began = why; round = round }) c.none.ensures) (leaves c))

-- what is handed on stays within its bounds
pub going-requires-clause-tracks : goal.going-requires-clause-tracks
going-requires-clause-tracks c =
    let v = c.in_ok-tracks.tracks in
    let still = c.press.auto.tracks ∙ ap length (c.deref_mut-2.ensures.value ∙ once v c.deref_mut.result.now c.begin.new.tracks c.deref_mut.ensures.value c.begin.auto.tracks) in
    subst (All IsTrack) (sym (c.deref-5.ensures.value ∙ twice v c.deref_mut.result.now c.begin.new.tracks c.deref_mut.ensures.value c.begin.auto.tracks c.press.new.tracks still)) c.press.ensures.bounds

pub send_all-requires-clause-tracks : goal.send_all-requires-clause-tracks
send_all-requires-clause-tracks c =
    let v = c.in_ok-tracks.tracks in
    let still = c.press.auto.tracks ∙ ap length (c.deref_mut-2.ensures.value ∙ once v c.deref_mut.result.now c.begin.new.tracks c.deref_mut.ensures.value c.begin.auto.tracks) in
    subst (All IsTrack) (sym (c.deref_mut-3.ensures.value ∙ twice v c.deref_mut.result.now c.begin.new.tracks c.deref_mut.ensures.value c.begin.auto.tracks c.press.new.tracks still)) c.press.ensures.bounds

pub wait-until-requires-clause-tracks : goal.wait-until-requires-clause-tracks
wait-until-requires-clause-tracks c =
    let v = c.in_ok-tracks.tracks in
    let still = c.press.auto.tracks ∙ ap length (c.deref_mut-2.ensures.value ∙ once v c.deref_mut.result.now c.begin.new.tracks c.deref_mut.ensures.value c.begin.auto.tracks) in
    let kept = c.send_all.auto.tracks ∙ ap length (c.deref_mut-3.ensures.value ∙ twice v c.deref_mut.result.now c.begin.new.tracks c.deref_mut.ensures.value c.begin.auto.tracks c.press.new.tracks still) in
    subst (All IsTrack)
    (sym (c.deref-9.ensures.value ∙ thrice v c.deref_mut.result.now c.begin.new.tracks c.deref_mut.ensures.value c.begin.auto.tracks c.press.new.tracks still c.send_all.new.tracks kept)) c.send_all.ensures.bounds

pub after-lull-requires-clause-tracks : goal.after-lull-requires-clause-tracks
after-lull-requires-clause-tracks c =
    let v = c.in_ok-tracks.tracks in
    let still = c.press.auto.tracks ∙ ap length (c.deref_mut-2.ensures.value ∙ once v c.deref_mut.result.now c.begin.new.tracks c.deref_mut.ensures.value c.begin.auto.tracks) in
    let kept = c.send_all.auto.tracks ∙ ap length (c.deref_mut-3.ensures.value ∙ twice v c.deref_mut.result.now c.begin.new.tracks c.deref_mut.ensures.value c.begin.auto.tracks c.press.new.tracks still) in
    subst (All IsTrack)
    (sym (c.deref-11.ensures.value ∙ thrice v c.deref_mut.result.now c.begin.new.tracks c.deref_mut.ensures.value c.begin.auto.tracks c.press.new.tracks still c.send_all.new.tracks kept)) c.send_all.ensures.bounds

pub of-line-requires-clause-tracks : goal.of-line-requires-clause-tracks
of-line-requires-clause-tracks c =
    let v = c.in_ok-tracks.tracks in
    let still = c.press.auto.tracks ∙ ap length (c.deref_mut-2.ensures.value ∙ once v c.deref_mut.result.now c.begin.new.tracks c.deref_mut.ensures.value c.begin.auto.tracks) in
    let kept = c.send_all.auto.tracks ∙ ap length (c.deref_mut-3.ensures.value ∙ twice v c.deref_mut.result.now c.begin.new.tracks c.deref_mut.ensures.value c.begin.auto.tracks c.press.new.tracks still) in
    subst (All IsTrack)
    (sym (c.deref-12.ensures.value ∙ thrice v c.deref_mut.result.now c.begin.new.tracks c.deref_mut.ensures.value c.begin.auto.tracks c.press.new.tracks still c.send_all.new.tracks kept)) c.send_all.ensures.bounds

pub invariant_of-self-2 : goal.invariant_of-self-2
invariant_of-self-2 c =
    let v = c.in_ok-tracks.tracks in
    let still = c.press.auto.tracks ∙ ap length (c.deref_mut-2.ensures.value ∙ once v c.deref_mut.result.now c.begin.new.tracks c.deref_mut.ensures.value c.begin.auto.tracks) in
    let kept = c.send_all.auto.tracks ∙ ap length (c.deref_mut-3.ensures.value ∙ twice v c.deref_mut.result.now c.begin.new.tracks c.deref_mut.ensures.value c.begin.auto.tracks c.press.new.tracks still) in
    let written = thrice v c.deref_mut.result.now c.begin.new.tracks c.deref_mut.ensures.value c.begin.auto.tracks c.press.new.tracks still c.send_all.new.tracks kept in
    let g = c.self.inside.forest in
    let k = c.timed-timed.result.clocks in
    let p = c.presence_after-presence.result in
    let round = asked_by_round c.in_ok-round.round in
    let requests = c.in_ok-requests.field-0.requests.items in
    let needs = c.in_ok-needs.needs in
    let again = once v c.deref_mut.result.now c.begin.new.tracks c.deref_mut.ensures.value c.begin.auto.tracks in
    let presses : c.press.new.tracks ≡ pressed_tracks g k round c.begin.new.tracks = c.in_ok-round.ensures.tracks ∙ ap (pressed_tracks g k round) (c.deref_mut-2.ensures.value ∙ again) in
    let sends : c.send_all.new.tracks ≡ each (sent_in k.at requests) (pressed_tracks g k round c.begin.new.tracks) =
    c.send_all.ensures.value ∙ ap (λ rs. each (sent_in k.at rs) c.deref_mut-3.result.now) c.deref-8.ensures.value
    ∙ ap (each (sent_in k.at requests))
    (c.deref_mut-3.ensures.value ∙ twice v c.deref_mut.result.now c.begin.new.tracks c.deref_mut.ensures.value c.begin.auto.tracks c.press.new.tracks still ∙ presses) in
    let pressed = pressed_tracks g k round c.begin.new.tracks in
    let had : HasNeeds g.entries (each (sent_in k.at requests) pressed) k needs =
    needs_after g k round requests (need_at needs) c.begin.new.tracks c.in_ok-needs.ensures.needs.needs in
    let has : HasNeeds g.entries c.deref-11.result.now k needs = subst (λ xs. HasNeeds g.entries xs k needs) (sym (c.deref-11.ensures.value ∙ written ∙ sends)) had in
    let qs = c.in_ok-requests.field-0.line.items in
    let reads : c.deref-5.result.now ≡ pressed =
    c.deref-5.ensures.value ∙ twice v c.deref_mut.result.now c.begin.new.tracks c.deref_mut.ensures.value c.begin.auto.tracks c.press.new.tracks still ∙ presses in
    let front : IsFrontOf g p k.at pressed requests qs = subst (λ ys. IsFrontOf g p k.at ys requests qs) reads c.in_ok-requests.ensures.line in
    let in_line : IsInLine g (calm p) k.at (each (sent_in k.at requests) pressed) (drop (length requests) qs) =
    left_in_line g (calm p) k.at pressed qs (line_in_order g p k.at pressed qs front.order) k.at (length requests) requests
    (λ i. asked_are p (sec k.at) pressed (length requests) i qs requests front.front) in
    record {
      count = ap length written ∙ kept ∙ c.press.ensures.count;
      is_view = c.press.ensures.view;
      tracks = subst (All IsTrack) (sym written) c.send_all.ensures.bounds;
      out = c.in_ok-out.ensures.bounds;
      clocks = c.timed-timed.ensures.bounds;
      line =
          subst (λ xs. IsKnown g xs p c.of-line.result) c.deref-12.ensures.value
          (c.of-line.ensures (subst (λ xs. HasNeeds g.entries xs k needs) (sym (c.deref-12.ensures.value ∙ written ∙ sends)) had)
          (subst (λ n. IsInLine g (calm p) k.at c.deref-12.result.now (drop n c.in_ok-requests.field-0.line.items)) (sym (c.len-2.ensures ∙ c.in_ok-requests.field-0.requests.ok.0))
          (subst (λ xs. IsInLine g (calm p) k.at xs (drop (length requests) c.in_ok-requests.field-0.line.items)) (sym (c.deref-12.ensures.value ∙ written ∙ sends)) in_line)));
      lull = subst (λ xs. IfSome c.after-lull.result (IsLull g xs k p)) c.deref-11.ensures.value (some_lull (HasNeeds g.entries c.deref-11.result.now k needs) (IsLull g c.deref-11.result.now k p) c.after-lull.result has c.after-lull.ensures);
    }

pub begin-requires-clause-count : goal.begin-requires-clause-count
begin-requires-clause-count c =
    ap length (c.deref_mut.ensures.value ∙ c.in_ok-tracks.ensures.value) ∙ each_length (λ i. settled_track c.margin-margin.result c.timed-timed.result.clocks.at) c.deref.result.now
    ∙ ap length c.deref.ensures.value ∙ c.self.invariant.count

pub press-requires-clause-bounds : goal.press-requires-clause-bounds
press-requires-clause-bounds c =
    subst (All IsTrack) (sym (c.deref_mut-2.ensures.value ∙ once c.in_ok-tracks.tracks c.deref_mut.result.now c.begin.new.tracks c.deref_mut.ensures.value c.begin.auto.tracks)) c.begin.ensures.bounds
