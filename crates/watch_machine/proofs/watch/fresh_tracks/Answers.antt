-- Each track is made after those before it.
use Rattle.std.proofs.Common.{◌∙◌, ◌<◌, ◌++◌, ◌∷◌, [], ap, arith, length, map, subst, sym, take}
use Rattle.std.proofs.lemmas.{List.map_more, List.take_all, List.Elements.All-push}
use Rattle.std.specs.List.{All}
use Rattle.plan_forest.specs.Forest.{entry_at, no_entry}
use Rattle.watch_machine.specs.{State.fresh_track, code.Bounds.IsTrack}
use Rattle.watch_machine.proofs.watch.fresh_tracks.Goals as goal

pub loop-index-preserved : goal.loop-index-preserved
unfolding entry_at
loop-index-preserved c =
    let es = c.args.forest.now.entries in
    let i = c.loop-index.index in
    let within : i < length es = omega (arith, c.len-index-end.ensures.value) in
    record {
      is =
          c.in_ok-push.ensures.items ∙ ap (λ xs. xs ++ c.fresh_track.result ∷ []) c.loop-index.invariant.is
          ∙ ap (λ x. map fresh_track (take i es) ++ x ∷ []) (c.fresh_track.ensures.value ∙ ap fresh_track c.get.ensures.value) ∙ sym (map_more fresh_track es i no_entry within);
      bounds = subst (All IsTrack) (sym c.in_ok-push.ensures.items) (All-push IsTrack c.loop-index.tracks.items c.fresh_track.result c.loop-index.invariant.bounds c.fresh_track.ensures.bounds);
    }

pub returns-clause-value : goal.returns-clause-value
returns-clause-value c =
    let es = c.args.forest.now.entries in
    c.loop-index.invariant.is ∙ ap (map fresh_track) (take_all c.loop-index.index es (omega (arith, c.len-index-end.ensures.value)))
