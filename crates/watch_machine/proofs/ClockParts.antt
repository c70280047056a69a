-- ClockParts: the parts of a clock are together the step of the definitions. For `clock`.
use Rattle.std.proofs.Common.{◌≡◌, ◌∙◌, ℕ, ◌-◌, ◌<◌, ◌++◌, Bool, List, [], Option, Some, None, length, map, sym, ap, subst}
use Rattle.plan_forest.specs.Forest.{Forest, entry_at}
use Rattle.watch_machine.specs.{declared.clocks.Clocks.Clocks, declared.command.WatchCommand.TheVariants.Go, declared.command.WatchRequest.WatchRequest, declared.lanes.Presence.Presence, declared.notes.Notes.Notes}
use Rattle.watch_machine.specs.{declared.notes.BeginReason.BeginReason, declared.track.Track.Track, Press.pressed, Press.pressed_tracks, Round.IsRound, Round.asked_by_round, Wanted.least, Wanted.need_of, code.Lull.wait_by}
use Rattle.watch_machine.specs.Beginning.{beginning, begun, begun_tracks, noted_begun}
use Rattle.watch_machine.specs.Sending.{IsGoing, out_at, sent, sent_in}
use Rattle.watch_machine.specs.Settling.{clocks_after, has_jumped, has_stepped, presence_after, settled, settled_track, timed}
use Rattle.watch_machine.specs.State.{WatchState, each, track_in}
use Rattle.watch_machine.specs.Step.{StepClock, StepCommand, nothing_noted, readied, why}
use Rattle.watch_machine.specs.Wait.{latest, next_of, wait}
use Rattle.watch_machine.proofs.{Seeing.both_seen, Seeing.need_same, Unseen.pressed_seen, Unseen.sent_seen, Written.range_same}

-- so much each entry carries
abbrev pub AreNeeds : Forest → List Track → Clocks → (ℕ → ℕ) → Type 0
AreNeeds g xs c need = (i : ℕ) → i < length g.entries → need i ≡ need_of g.entries xs c i

-- and as much after a clock
pub needs_after :
    (g : Forest) (c : Clocks) (round : List ℕ) (requests : List WatchRequest) (need : ℕ → ℕ) (xs : List Track) → AreNeeds g xs c need →
    AreNeeds g (each (sent_in c.at requests) (pressed_tracks g c round xs)) c need
needs_after g c round requests need xs are i below =
    let ys = pressed_tracks g c round xs in
    let zs = each (sent_in c.at requests) ys in
    are i below ∙ sym (need_same zs xs (both_seen zs ys xs (sent_seen c.at requests ys) (pressed_seen g c round xs)) g.entries c i)

module _ (round : List ℕ) (requests : List WatchRequest) (until : ℕ) (need : ℕ → ℕ) where
  -- the tracks after all are pressed, and after the requests have gone out
  abbrev pressed_of : WatchState → List Track
  pressed_of m = pressed_tracks m.forest m.clocks round m.tracks

  abbrev sent_of : WatchState → List Track
  sent_of m = each (sent_in m.clocks.at requests) (pressed_of m)

  wait_is : (m : WatchState) → AreNeeds m.forest m.tracks m.clocks need → wait_by m.forest m.clocks m.presence (sent_of m) need ≡ wait (sent (pressed m round) requests)
  unfolding wait
  wait_is m before =
      let g = m.forest in
      let xs = sent_of m in
      let are = needs_after g m.clocks round requests need m.tracks before in
      ap (least (latest g.margin m.clocks.at))
      (range_same (λ i. next_of g.margin (entry_at g.entries i) (need i) m.presence m.clocks.at (track_in xs i))
      (λ i. next_of g.margin (entry_at g.entries i) (need_of g.entries xs m.clocks i) m.presence m.clocks.at (track_in xs i)) (length g.entries)
      (λ i below. ap (λ n. next_of g.margin (entry_at g.entries i) n m.presence m.clocks.at (track_in xs i)) (are i below)))

  command_of :
      (m new : WatchState) → AreNeeds m.forest m.tracks m.clocks need → IsGoing m.forest m.presence m.clocks.at (pressed_of m) (m.width - length m.out) requests →
      until ≡ wait_by m.forest m.clocks m.presence (sent_of m) need → new ≡ sent (pressed m round) requests →
      StepCommand (pressed m round) (Go requests until) new
  command_of m new are going waits is = ((going, is), waits ∙ wait_is m are ∙ ap wait (sym is))

  -- what goes out after a beginning, or where there was none
  pub command_is :
      (s new : WatchState) (w : Option BeginReason) (xs : List Track) → xs ≡ begun_tracks s.forest s.clocks w s.tracks → AreNeeds s.forest xs s.clocks need →
      IsGoing s.forest s.presence s.clocks.at (pressed_tracks s.forest s.clocks round xs) (s.width - length s.out) requests →
      until ≡ wait_by s.forest s.clocks s.presence (each (sent_in s.clocks.at requests) (pressed_tracks s.forest s.clocks round xs)) need →
      new ≡ noted_begun (record s { tracks = each (sent_in s.clocks.at requests) (pressed_tracks s.forest s.clocks round xs); out = s.out ++ map (out_at s.clocks.at) requests }) w →
      StepCommand (pressed (begun s w) round) (Go requests until) new
  command_is s new None xs made are going waits is = subst (λ (t : WatchState). StepCommand (pressed t round) (Go requests until) new) (ap (λ ys. record s { tracks = ys }) made) (command_of (record s { tracks = xs }) new are going waits is)
  command_is s new (Some w) xs made are going waits is =
      subst (λ (t : WatchState). StepCommand (pressed t round) (Go requests until) new) (ap (λ ys. noted_begun (record s { tracks = ys }) (Some w)) made)
      (command_of (noted_begun (record s { tracks = xs }) (Some w)) new are going waits is)

pub round_of :
    (s : WatchState) (w : Option BeginReason) (xs : List Track) (round : Option (List ℕ)) → xs ≡ begun_tracks s.forest s.clocks w s.tracks → IsRound s.forest xs s.clocks round →
    IsRound (begun s w).forest (begun s w).tracks (begun s w).clocks round
round_of s None xs round made is = subst (λ ys. IsRound s.forest ys s.clocks round) made is
round_of s (Some w) xs round made is = subst (λ ys. IsRound s.forest ys s.clocks round) made is

-- all of it, by the clocks, the tracks and the presence that the code finds
module _ (old new : WatchState) (wall elapsed : ℕ) (k : Clocks) (stepped jumped : Bool) (xs : List Track) (p : Presence) (w : Option BeginReason) where
  -- the state after the steps 1 and 2
  abbrev settled_to : WatchState
  settled_to = record old { clocks = k; stepped = stepped; tracks = xs; presence = p; answers = [] }

  settles :
      k ≡ clocks_after old wall elapsed → stepped ≡ has_stepped old wall elapsed → xs ≡ each (λ i. settled_track old.forest.margin k.at) old.tracks →
      p ≡ presence_after old.forest.margin k.at old.tracks old.answers old.presence → settled_to ≡ settled (timed old wall elapsed)
  settles clocks_are stepped_is tracks_are presence_is =
      ap (λ ys. record old { clocks = k; stepped = stepped; tracks = ys; presence = p; answers = [] }) tracks_are
      ∙ ap (λ q. record old { clocks = k; stepped = stepped; tracks = each (λ i. settled_track old.forest.margin k.at) old.tracks; presence = q; answers = [] }) presence_is
      ∙ ap (λ b. settled (record old { clocks = k; stepped = b })) stepped_is
      ∙ ap (λ c. settled (record old { clocks = c; stepped = has_stepped old wall elapsed })) clocks_are

  reason_is : settled_to ≡ settled (timed old wall elapsed) → jumped ≡ has_jumped old wall elapsed → w ≡ beginning old.begun old.asked stepped jumped k.at xs → w ≡ why old wall elapsed
  unfolding why
  reason_is same jumped_is is =
      is ∙ ap (λ j. beginning old.begun old.asked stepped j k.at xs) jumped_is
      ∙ ap (λ (t : WatchState). beginning t.begun t.asked t.stepped (has_jumped old wall elapsed) t.clocks.at t.tracks) same

  ready_is : settled_to ≡ settled (timed old wall elapsed) → w ≡ why old wall elapsed → begun settled_to w ≡ readied old wall elapsed
  unfolding readied
  ready_is same is = ap (λ t. begun t w) same ∙ ap (begun (settled (timed old wall elapsed))) is

  pub clock_step :
      (ys : List Track) (round : Option (List ℕ)) (requests : List WatchRequest) (until : ℕ) (need : ℕ → ℕ) (notes : Notes) →
      k ≡ clocks_after old wall elapsed → stepped ≡ has_stepped old wall elapsed → jumped ≡ has_jumped old wall elapsed →
      xs ≡ each (λ i. settled_track old.forest.margin k.at) old.tracks → p ≡ presence_after old.forest.margin k.at old.tracks old.answers old.presence →
      w ≡ beginning old.begun old.asked stepped jumped k.at xs → ys ≡ begun_tracks old.forest k w xs → AreNeeds old.forest ys k need → IsRound old.forest ys k round →
      IsGoing old.forest p k.at (pressed_tracks old.forest k (asked_by_round round) ys) (old.width - length old.out) requests →
      until ≡ wait_by old.forest k p (each (sent_in k.at requests) (pressed_tracks old.forest k (asked_by_round round) ys)) need →
      notes ≡ record nothing_noted { began = w; round = round } →
      new ≡ noted_begun (record settled_to { tracks = each (sent_in k.at requests) (pressed_tracks old.forest k (asked_by_round round) ys); out = old.out ++ map (out_at k.at) requests }) w →
      StepClock old wall elapsed (record { command = Go requests until; notes = notes }) new
  clock_step ys round requests until need notes clocks_are stepped_is jumped_is tracks_are presence_is why_is begun_are are rounds going waits noted is =
      let same = settles clocks_are stepped_is tracks_are presence_is in
      let reason = reason_is same jumped_is why_is in
      let ready = ready_is same reason in
      record {
        round = round;
        is_round = subst (λ (t : WatchState). IsRound t.forest t.tracks t.clocks round) ready (round_of settled_to w ys round begun_are rounds);
        notes = noted ∙ ap (λ r. record nothing_noted { began = r; round = round }) reason;
        command =
            subst (λ (t : WatchState). StepCommand (pressed t (asked_by_round round)) (Go requests until) new) ready
            (command_is (asked_by_round round) requests until need settled_to new w ys begun_are are going waits is);
      }
