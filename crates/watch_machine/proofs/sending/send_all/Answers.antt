-- Each entry whose request goes out is noted after those before it, and in the end all are.
use Rattle.std.proofs.Common.{◌≡◌, ◌∙◌, ℕ, ◌+◌, ◌<◌, ◌≤◌, List, ap, arith, get_or, length, refl, set, subst, sym}
use Rattle.std.proofs.lemmas.{List.get_or_default, List.set_past, List.Elements.All-set}
use Rattle.std.specs.List.{All}
use Rattle.watch_machine.specs.{declared.command.Patience.TheVariants.Full, declared.command.WatchRequest.WatchRequest, declared.event.Operation.TheVariants.Look, declared.track.Track.Track, Sending.sent_track}
use Rattle.watch_machine.specs.{State.no_track, State.track_in, code.Bounds.IsTrack}
use Rattle.watch_machine.proofs.sending.send_all.Goals.{then-index-tracks, else-index-tracks}
use Rattle.watch_machine.proofs.Marked.{Marked, marked_all, marked_more, marked_none}
use Rattle.watch_machine.proofs.sending.send_all.Goals as goal

-- what is read past the last request
no_request : WatchRequest
no_request = record { entry = 0; operation = Look; patience = Full }

-- the track that is read at an index
read_as : (xs : List Track) (i j : ℕ) (d : Track) → i ≡ j → j < length xs → get_or xs i d ≡ track_in xs j
read_as xs i j d same within = ap (λ n. get_or xs n d) same ∙ get_or_default xs j d no_track within

pub loop-request-init : goal.loop-request-init
loop-request-init c = record {
  marked = marked_none (λ (r : WatchRequest). r.entry) (λ i. sent_track c.args.at) c.args.tracks.now c.args.requests.now;
  bounds = c.requires.tracks;
}

pub loop-request-preserved : goal.loop-request-preserved
loop-request-preserved c =
    let at = c.args.at in
    let old = c.args.tracks.now in
    let now = c.loop-request.tracks in
    let next = c.if-index-tracks.tracks in
    let rs = c.args.requests.now in
    let k = c.loop-request.request-index in
    let r = get_or rs k no_request in
    let f : ℕ → Track → Track = λ i. sent_track at in
    let within : k < length rs = c.loop-request-test.true in
    let more : next ≡ set now r.entry (f r.entry (track_in now r.entry)) → Marked (λ (q : WatchRequest). q.entry) f old next rs (k + 1) =
    λ made. marked_more (λ (q : WatchRequest). q.entry) f (λ i x. refl) old now next rs k r c.loop-request.invariant.marked within (get_or_default rs k no_request r within) made in
    elim c.if-index-tracks.branch [
      | then-index-tracks w ↦
          let is : next ≡ set now r.entry w.sent.result = w.tracks-is ∙ ap (λ (q : WatchRequest). set now q.entry w.sent.result) (get_or_default rs k _ no_request within) in
          let here : r.entry < length now = subst (λ (q : WatchRequest). q.entry < length now) (get_or_default rs k _ no_request within) w.if-index-tracks.true in
          record {
            marked = more (is ∙ ap (set now r.entry) (w.sent.ensures.value
                ∙ ap (sent_track at) (read_as now _ r.entry _ (ap (λ (q : WatchRequest). q.entry) (get_or_default rs k _ no_request within)) here)));
            bounds = subst (All IsTrack) (sym is) (All-set IsTrack now r.entry w.sent.result w.sent.ensures.bounds c.loop-request.invariant.bounds);
          }
      | else-index-tracks w ↦
          let past : length now ≤ r.entry = subst (λ (q : WatchRequest). length now ≤ q.entry) (get_or_default rs k _ no_request within) w.if-index-tracks.false in
          record {
            marked = more (w.tracks-is ∙ sym (set_past now r.entry (f r.entry (track_in now r.entry)) past));
            bounds = subst (All IsTrack) (sym w.tracks-is) c.loop-request.invariant.bounds;
          }
    ]

pub returns-clause-value : goal.returns-clause-value
returns-clause-value c =
    marked_all (λ (r : WatchRequest). r.entry) (λ i. sent_track c.args.at) c.args.tracks.now c.loop-request.tracks c.args.requests.now c.loop-request.request-index
    c.loop-request.invariant.marked (omega arith)
