-- Each place's request is made after those before it.
use Rattle.std.proofs.Common.{◌≡◌, ◌∙◌, ◌<◌, ◌++◌, ◌∷◌, [], Bool, List, ap, arith, get_or, length, map, sym, take}
use Rattle.std.proofs.lemmas.List.{map_more, take_all}
use Rattle.watch_machine.specs.{declared.command.WatchRequest.WatchRequest, declared.lanes.Presence.Presence, declared.sending.Place.Place, declared.track.Track.Track, Sending.request_of, State.track_in}
use Rattle.watch_machine.proofs.sending.requests_by.Goals as goal

-- the request of a place, by what was read of it
request_at :
    (p : Presence) (partial : Bool) (xs : List Track) (q : Place) (x : Track) → x ≡ track_in xs q.entry →
    request_of p.away partial p.pace q.entry x.attempt ≡ request_of p.away partial p.pace q.entry (track_in xs q.entry).attempt
request_at p partial xs q x same = ap (λ (y : Track). request_of p.away partial p.pace q.entry y.attempt) same

pub loop-place-preserved : goal.loop-place-preserved
loop-place-preserved c =
    let p = c.args.presence in
    let xs = c.args.tracks.now in
    let picked = c.args.picked.now in
    let k = c.loop-place.place-index in
    let f : Place → WatchRequest = λ q. request_of p.away c.args.partial p.pace q.entry (track_in xs q.entry).attempt in
    let within : k < length picked = omega arith in
    c.in_ok-push.ensures.items ∙ ap (λ rs. rs ++ c.request_of.result ∷ []) c.loop-place.invariant
    ∙ ap (λ r. map f (take k picked) ++ r ∷ []) (c.request_of.ensures ∙ request_at p c.args.partial xs (get_or picked k _) _ c.track_in-track.ensures)
    ∙ sym (map_more f picked k _ within)

pub returns : goal.returns
returns c =
    let p = c.args.presence in
    let xs = c.args.tracks.now in
    let f : Place → WatchRequest = λ q. request_of p.away c.args.partial p.pace q.entry (track_in xs q.entry).attempt in
    c.loop-place.invariant ∙ ap (map f) (take_all c.loop-place.place-index c.args.picked.now (omega arith))
