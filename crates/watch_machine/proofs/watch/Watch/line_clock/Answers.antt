-- Those in front go out, and the line is kept.
use Rattle.std.proofs.Common.{◌≡◌, ◌∙◌, ◌-◌, ◌++◌, ℕ, List, [], ap, arith, drop, length, map, sym, subst, take}
use Rattle.std.specs.List.{All}
use Rattle.watch_machine.specs.{declared.command.WatchCommand.TheVariants.Go, declared.command.WatchOutput.WatchOutput, declared.lanes.LaneAnswer.LaneAnswer, declared.lanes.Out.Out, declared.track.Track.Track, Clocks.sec}
use Rattle.watch_machine.specs.{Settling.pace_after, State.WatchState, State.each, code.Bounds.IsTrack, code.Lull.paced_by}
use Rattle.watch_machine.specs.Sending.{is_partial, out_at, sent_in}
use Rattle.watch_machine.specs.code.Line.{IsLine, IsRoundClock, IsServed, calm, moved, requests_of, rest_of, sent_on}
use Rattle.watch_machine.proofs.{Rewritten.once, RoundClock.front_length, RoundClock.front_many, Written.each_length, watch.Watch.line_clock.Goals.After-none}
use Rattle.watch_machine.proofs.watch.Watch.line_clock.Goals as goal

-- the state before the clock, by its fields
abbrev before : After-none → WatchState
before c =
    let w = c.self.inside in
    record { forest = w.forest; width = w.width; tracks = w.tracks.items; out = w.out.items; answers = w.answers.items; clocks = w.clocks; presence = w.presence; begun = w.begun; asked = w.asked; stepped = w.stepped }

round_is : (c : After-none) → IsRoundClock (before c) c.args.line c.args.timed.clocks c.args.timed.stepped c.args.timed.jumped c.args.until
round_is c = let t = c.args.timed in subst (λ (s : WatchState). IsRoundClock s c.args.line t.clocks t.stepped t.jumped c.args.until) (sym c.self.view_is) c.requires.round

pace_is : (c : After-none) → c.pace_after-pace.result ≡ pace_after c.args.timed.clocks.at (before c).presence.pace (before c).answers
pace_is c = c.pace_after-pace.ensures ∙ ap (pace_after c.args.timed.clocks.at c.self.inside.presence.pace) c.deref.ensures.value

-- the requests of those in front
fronts : (c : After-none) → c.in_ok-requests.requests.items ≡ requests_of (paced_by c.pace_after-pace.result (before c)) (sec c.args.timed.clocks.at) (before c).tracks ((before c).width - length (before c).out) (rest_of c.args.line)
fronts c =
    let w = c.self.inside in
    let p = paced_by c.pace_after-pace.result (before c) in
    let lanes = c.saturating_sub-lanes.result in
    let rest = rest_of c.args.line in
    c.in_ok-requests.ensures ∙ ap (λ n. requests_of p n c.deref-2.result.now lanes rest) c.second.ensures.value
    ∙ ap (λ xs. requests_of p (sec c.args.timed.clocks.at) xs lanes rest) c.deref-2.ensures.value
    ∙ ap (λ n. requests_of p (sec c.args.timed.clocks.at) w.tracks.items n rest) (c.saturating_sub-lanes.ensures ∙ ap (λ n. w.width - n) (c.len.ensures ∙ w.out.ok.0))

-- the tracks and the requests that are out after it
written : (c : After-none) → c.send_all.new.tracks ≡ sent_on c.args.timed.clocks.at c.in_ok-requests.requests.items (before c).tracks
written c =
    let at = c.args.timed.clocks.at in
    c.send_all.ensures.value ∙ ap (λ rs. each (sent_in at rs) c.deref_mut.result.now) c.deref-5.ensures.value ∙ ap (each (sent_in at c.in_ok-requests.requests.items)) c.deref_mut.ensures.value

out_are : (c : After-none) → c.in_ok-out.out.items ≡ (before c).out ++ map (out_at c.args.timed.clocks.at) c.in_ok-requests.requests.items
out_are c =
    let at = c.args.timed.clocks.at in
    c.in_ok-out.ensures.value ∙ ap (λ os. os ++ map (out_at at) c.deref-4.result.now) c.deref-3.ensures.value
    ∙ ap (λ rs. c.self.inside.out.items ++ map (out_at at) rs) c.deref-4.ensures.value

abbrev after : After-none → List Track → List Out → List LaneAnswer → ℕ → WatchState
after c xs os as' pace = record (before c) {
  tracks = xs;
  out = os;
  answers = as';
  clocks = c.args.timed.clocks;
  presence = paced_by pace (before c);
  stepped = c.args.timed.stepped;
}

-- what is given, and the tracks as they are written
abbrev said : After-none → WatchOutput
said c = record { command = Go c.in_ok-requests.requests.items c.args.until; notes = c.none.result }

abbrev take_of : After-none → List Track
take_of c = let w = c.self.inside in take w.tracks.len (c.send_all.new.tracks ++ drop (length c.send_all.new.tracks) w.tracks.items)

pub returns-clause-served : goal.returns-clause-served
returns-clause-served c =
    let w = c.self.inside in
    let t = c.args.timed in
    let rs = c.in_ok-requests.requests.items in
    let line = c.args.line in
    let pace = c.pace_after-pace.result in
    let kept = once w.tracks c.deref_mut.result.now c.send_all.new.tracks c.deref_mut.ensures.value c.send_all.auto.tracks ∙ written c in
    subst (λ (s : WatchState). IsServed s line t.clocks t.stepped c.args.until (said c) (after c (take_of c) c.in_ok-out.out.items c.clear.new.self.items pace)) c.self.view_is (record {
      requests = rs;
      front =
          fronts c
          ∙ ap (λ n. requests_of (paced_by n (before c)) (sec t.clocks.at) w.tracks.items (w.width - length w.out.items) (rest_of line)) (pace_is c);
      output_is = ap (λ n. record { command = Go rs c.args.until; notes = n }) c.none.ensures;
      state = ap (λ xs. after c xs c.in_ok-out.out.items c.clear.new.self.items pace) kept ∙ ap (λ os. after c (sent_on t.clocks.at rs w.tracks.items) os c.clear.new.self.items pace) (out_are c)
          ∙ ap (λ (ys : List LaneAnswer). after c (sent_on t.clocks.at rs w.tracks.items) (w.out.items ++ map (out_at t.clocks.at) rs) ys pace) c.clear.ensures.items
          ∙ ap (after c (sent_on t.clocks.at rs w.tracks.items) (w.out.items ++ map (out_at t.clocks.at) rs) []) (pace_is c);
    })

pub front-requires : goal.front-requires
front-requires c =
    let at = c.args.timed.clocks.at in
    ap (λ n. is_partial n c.deref-2.result.now) c.second.ensures.value ∙ ap (is_partial (sec at)) c.deref-2.ensures.value
    ∙ ap (λ (s : WatchState). is_partial (sec at) s.tracks) c.self.view_is ∙ c.requires.round.together

pub moved-line-requires : goal.moved-line-requires
moved-line-requires c =
    let many = c.len-2.ensures ∙ c.in_ok-requests.requests.ok.0 in
    let few = front_length _ c.second.result c.deref-2.result.now c.saturating_sub-lanes.result (rest_of c.args.line) c.in_ok-requests.requests.items c.in_ok-requests.ensures in
    omega (arith, many, few)

pub invariant_of-self : goal.invariant_of-self
invariant_of-self c =
    let w = c.self.inside in
    let kept = c.self.invariant in
    let t = c.args.timed in
    let rs = c.in_ok-requests.requests.items in
    let line = c.args.line in
    let wrote = once w.tracks c.deref_mut.result.now c.send_all.new.tracks c.deref_mut.ensures.value c.send_all.auto.tracks in
    let all = wrote ∙ written c in
    let p = paced_by c.pace_after-pace.result (before c) in
    let many : c.len-2.result ≡ length rs = c.len-2.ensures ∙ c.in_ok-requests.requests.ok.0 in
    let moves : c.moved-line.result ≡ moved line (length rs) = c.moved-line.ensures ∙ ap (moved line) many in
    let left : IsLine w.forest (sent_on t.clocks.at rs w.tracks.items) (calm w.presence) (moved line (length rs)) =
    (round_is c).kept c.pace_after-pace.result (length rs) rs (front_many p (sec t.clocks.at) w.tracks.items (w.width - length w.out.items) (rest_of line) rs (fronts c)) in
    record {
      count = ap length all ∙ each_length (sent_in t.clocks.at rs) w.tracks.items ∙ kept.count;
      is_view = kept.is_view;
      tracks = subst (All IsTrack) (sym wrote) c.send_all.ensures.bounds;
      out = c.in_ok-out.ensures.bounds;
      clocks = c.requires.clocks;
      lull = tt;
      line = λ known. subst (λ xs. IsLine w.forest xs (calm w.presence) c.moved-line.result) (sym all) (subst (IsLine w.forest (sent_on t.clocks.at rs w.tracks.items) (calm w.presence)) (sym moves) left);
    }
