-- Each track is settled after those before it.
use Rattle.std.proofs.Common.{◌∙◌, ◌++◌, ◌∷◌, [], ap, arith, map, slice_index_or, subst, sym}
use Rattle.std.proofs.lemmas.{List.get_or_default, List.Elements.All-push, List.FromFn.map-range_with_len_more}
use Rattle.std.specs.List.{All, range_with_len}
use Rattle.watch_machine.specs.{State.no_track, State.each, code.Bounds.IsTrack, Settling.settled_track}
use Rattle.watch_machine.proofs.settling.settled_tracks.Goals as goal

pub loop-track-preserved : goal.loop-track-preserved
loop-track-preserved c =
    let xs = c.args.tracks.now in
    let k = c.loop-track.track-index in
    let f = settled_track c.args.margin c.args.at in
    let made = map (λ i. f (slice_index_or xs i no_track)) (range_with_len 0 k) in
    record {
      is =
          c.in_ok-push.ensures.items ∙ ap (λ ys. ys ++ c.settled_track.result ∷ []) c.loop-track.invariant.is
          ∙ ap (λ y. made ++ y ∷ []) (c.settled_track.ensures.value ∙ ap f (get_or_default xs k _ no_track c.loop-track-test.true))
          ∙ sym (map-range_with_len_more (λ i. f (slice_index_or xs i no_track)) 0 k k (omega arith));
      bounds = subst (All IsTrack) (sym c.in_ok-push.ensures.items) (All-push IsTrack c.loop-track.settled.items c.settled_track.result c.loop-track.invariant.bounds c.settled_track.ensures.bounds);
    }

pub returns-clause-value : goal.returns-clause-value
unfolding each
returns-clause-value c =
    let xs = c.args.tracks.now in
    let f = settled_track c.args.margin c.args.at in
    c.loop-track.invariant.is ∙ ap (λ n. map (λ i. f (slice_index_or xs i no_track)) (range_with_len 0 n)) (omega (arith, c.loop-track-test.false, c.loop-track.auto.track-index-end))
