-- RoundClock: a clock at which lanes are filled from the line is a step of the definitions, and keeps the line. For `round_until`,
-- `line_clock` and `clock`.
use Rattle.std.proofs.Common.{◌≡◌, ◌∙◌, ℕ, ◌-◌, ◌<◌, ◌≤◌, Bool, true, false, ◌&&◌, List, [], None, length, map, min, take, refl, sym, ap, subst}
use Rattle.std.proofs.Math.Path.{fun_ext}
use Rattle.std.proofs.lemmas.Bool.{cond-false, cond-true}
use Rattle.std.proofs.lemmas.List.{length-map, length-take, take-map, take_min}
use Rattle.std.specs.List.{list_any}
use Rattle.plan_forest.specs.Forest.{Forest}
use Rattle.watch_machine.specs.{declared.clocks.Clocks.Clocks, declared.command.WatchCommand.TheVariants.Go, declared.command.WatchOutput.WatchOutput, declared.command.WatchRequest.WatchRequest, declared.event.WatchReply.WatchReply}
use Rattle.watch_machine.specs.{declared.lanes.Out.Out, declared.lanes.Presence.Presence, declared.line.Line.Line, declared.reading.TheConstants.READING_MAX, declared.sending.Place.Place, declared.track.Track.Track, Beginning.beginning}
use Rattle.watch_machine.specs.{Clocks.sec, Press.pressed_tracks, State.WatchState, State.each, Step.StepClock, Step.nothing_noted, Wait.latest, Wanted.need_of, code.Places.place_is}
use Rattle.watch_machine.specs.Answers.{heard, replied, without_request}
use Rattle.watch_machine.specs.Sending.{IsGoing, IsSendingOrder, request, sent_in}
use Rattle.watch_machine.specs.Settling.{clocks_after, has_jumped, has_stepped, is_real, is_silent, pace_after}
use Rattle.watch_machine.specs.code.Line.{IsLine, IsRoundClock, IsServed, calm, moved, requests_of, rest_of, sent_on, served}
use Rattle.watch_machine.specs.code.Lull.{GoesOn, paced_by, wait_by}
use Rattle.watch_machine.proofs.{ClockParts.clock_step, InLine.each_place, LineSent.asked_are, LineSent.line_sent, Lulls.paced_alone, Owing.none_asked, Seeing.need_same, Unseen.sent_seen, Written.each_length}
use Rattle.watch_machine.proofs.LineClock.{all_pressed, all_settled, nobody_alone, none_open, order_on, waits_on}

module _ (s : WatchState) (line : Line) (is : IsLine s.forest s.tracks (calm s.presence) line) (beside : length s.tracks ≡ length s.forest.entries) (c : Clocks) (on : GoesOn c line.clocks) (low : c.at ≤ READING_MAX) (far : latest s.forest.margin c.at ≤ line.beyond) (before : c.at < line.next) (early : sec c.at < line.lasting) where
  abbrev g : Forest
  g = s.forest

  abbrev xs : List Track
  xs = s.tracks

  abbrev p : Presence
  p = calm s.presence

  kept_on : (pace n : ℕ) (rs : List WatchRequest) → rs ≡ requests_of (paced_by pace s) (sec c.at) xs n (rest_of line) → IsLine g (sent_on c.at rs xs) p (moved line n)
  kept_on pace n rs are = line_sent g xs p line is beside c.at n rs (λ i. asked_are (paced_by pace s) (sec c.at) xs n i (rest_of line) rs are)

  waits_then :
      (pace n : ℕ) (rs : List WatchRequest) → rs ≡ requests_of (paced_by pace s) (sec c.at) xs n (rest_of line) →
      min (latest g.margin c.at) line.next ≡ wait_by g c (paced_by pace s) (sent_on c.at rs xs) (need_of g.entries xs c)
  waits_then pace n rs are =
      let ys = sent_on c.at rs xs in
      waits_on g ys p (moved line n) (kept_on pace n rs are) (each_length (sent_in c.at rs) xs ∙ beside) c on low far before early pace
      ∙ ap (λ f. wait_by g c (paced_by pace s) ys f) (fun_ext (λ i. need_same ys xs (sent_seen c.at rs xs) g.entries c i))

  pub is_round_clock :
      (stepped jumped : Bool) (until : ℕ) → s.presence.away && list_any is_silent s.answers ≡ false →
      beginning s.begun s.asked stepped jumped c.at s.tracks ≡ None → until ≡ min (latest s.forest.margin c.at) line.next → IsRoundClock s line c stepped jumped until
  is_round_clock stepped jumped until none reason waits = record {
    settled = all_settled g xs p line is beside c on low far before early;
    presence = paced_alone g.margin c.at xs s.answers s.presence none;
    reason = reason;
    shut = none_open g xs p line is beside c on low far before early;
    pressed = all_pressed g xs p line is beside c on low far before early;
    order = λ pace. order_on g xs p line is beside c on low far before early pace;
    together = nobody_alone g xs p line is beside c on low far before early;
    waits = λ pace n rs are. waits ∙ waits_then pace n rs are;
    kept = kept_on;
  }

-- those in front go out
pub front_goes :
    (g : Forest) (p : Presence) (at : ℕ) (xs : List Track) (lanes : ℕ) (qs : List Place) (rs : List WatchRequest) → IsSendingOrder g p at xs (map place_is qs) → rs ≡ requests_of p (sec at) xs lanes qs →
    IsGoing g p at xs lanes rs
front_goes g p at xs lanes qs rs order are = record {
  picked = take lanes (map place_is qs);
  is_picked = (map place_is qs, (order, refl));
  requests_are = are ∙ each_place (request p (sec at) xs) (take lanes qs) ∙ ap (map (request p (sec at) xs)) (sym (take-map place_is lanes qs));
}

-- and as many as there are requests
pub front_length : (p : Presence) (now : ℕ) (xs : List Track) (lanes : ℕ) (qs : List Place) (rs : List WatchRequest) → rs ≡ requests_of p now xs lanes qs → length rs ≡ min lanes (length qs)
front_length p now xs lanes qs rs are = ap length are ∙ length-map (take lanes qs) (λ (q : Place). request p now xs (place_is q)) ∙ length-take lanes qs

pub front_many : (p : Presence) (now : ℕ) (xs : List Track) (lanes : ℕ) (qs : List Place) (rs : List WatchRequest) → rs ≡ requests_of p now xs lanes qs → rs ≡ requests_of p now xs (length rs) qs
front_many p now xs lanes qs rs are =
    are ∙ sym (ap (map (λ (q : Place). request p now xs (place_is q))) (ap (λ n. take n qs) (front_length p now xs lanes qs rs are) ∙ take_min lanes qs))

-- such a clock is a step
pub round_step :
    (old : WatchState) (wall elapsed : ℕ) (line : Line) (k : Clocks) (stepped jumped : Bool) (until : ℕ) (output : WatchOutput) (new : WatchState) → k ≡ clocks_after old wall elapsed →
    stepped ≡ has_stepped old wall elapsed → jumped ≡ has_jumped old wall elapsed → IsRoundClock old line k stepped jumped until → IsServed old line k stepped until output new →
    StepClock old wall elapsed output new
round_step old wall elapsed line k stepped jumped until output new clocks_are stepped_is jumped_is is done =
    let g = old.forest in
    let xs = old.tracks in
    let pace = pace_after k.at old.presence.pace old.answers in
    let p = paced_by pace old in
    let rs = done.requests in
    let pressed : pressed_tracks g k [] xs ≡ xs = none_asked g k xs ∙ is.pressed in
    let sent : each (sent_in k.at rs) (pressed_tracks g k [] xs) ≡ sent_on k.at rs xs = ap (each (sent_in k.at rs)) pressed in
    subst (λ (o : WatchOutput). StepClock old wall elapsed o new) (sym done.output_is)
    (subst (λ (n : WatchState). StepClock old wall elapsed (record { command = Go rs until; notes = nothing_noted }) n) (sym done.state)
    (clock_step old (served old k stepped rs) wall elapsed k stepped jumped xs p None xs None rs until (need_of g.entries xs k) nothing_noted clocks_are stepped_is jumped_is (sym is.settled) (sym is.presence)
    (sym is.reason) refl (λ i below. refl) is.shut
    (subst (λ ys. IsGoing g p k.at ys (old.width - length old.out) rs) (sym pressed) (front_goes g p k.at xs (old.width - length old.out) (rest_of line) rs (is.order pace) done.front))
    (is.waits pace (old.width - length old.out) rs done.front ∙ ap (λ ys. wait_by g k p ys (need_of g.entries xs k)) (sym sent)) refl
    (ap (λ ys. record (served old k stepped rs) { tracks = ys }) (sym sent))))

-- a real answer while the broker is there leaves the tracks that it has made
pub answered_state : (s : WatchState) (r : Out) (reply : WatchReply) → is_real reply ≡ true → s.presence.away ≡ false → replied s r reply ≡ record s { out = map heard (without_request r.entry s.out) }
answered_state s r reply real there = cond-true (is_real reply) _ _ real ∙ cond-false s.presence.away _ _ there
