-- Each track is made after those before it.
use Rattle.std.proofs.Common.{◌≡◌, ◌∙◌, ◌<◌, ◌++◌, ◌∷◌, [], ℕ, IfSome, ap, arith, length, map, subst, sym}
use Rattle.std.proofs.lemmas.{List.Elements.All-push, List.FromFn.map-range_with_len_more}
use Rattle.std.specs.List.{All, range_with_len}
use Rattle.plan_forest.specs.{declared.entry.Entry.Entry, Forest.entry_at}
use Rattle.watch_machine.specs.{declared.change.Was.Was, declared.track.Track.Track, code.Bounds.IsTrack}
use Rattle.watch_machine.specs.Change.{former, former_at, track_by, tracks_after, was_at}
use Rattle.watch_machine.proofs.Changing.{within_some}
use Rattle.watch_machine.proofs.change.tracks_after.Goals as goal

pub track_by-requires-clause-within : goal.track_by-requires-clause-within
track_by-requires-clause-within c =
    let was = c.args.was.now in
    let n = length c.args.tracks.now in
    let i = c.loop-index.index in
    subst (λ (w : Was). IfSome (former w) (λ k. k < n)) (sym c.was_at.ensures) (within_some n (former_at was i) (λ k is. c.requires.change.within k i is))

pub loop-index-preserved : goal.loop-index-preserved
loop-index-preserved c =
    let es = c.args.forest.now.entries in
    let was = c.args.was.now in
    let xs = c.args.tracks.now in
    let at = c.args.at in
    let i = c.loop-index.index in
    let f : ℕ → Track = λ j. track_by at xs (entry_at es j) (was_at was j) in
    let made : c.track_by.result ≡ f i =
    c.track_by.ensures.value ∙ ap (λ (e : Entry). track_by at xs e c.was_at.result) c.get-entry.ensures.value ∙ ap (track_by at xs (entry_at es i)) c.was_at.ensures in
    record {
      is =
          c.in_ok-push.ensures.items ∙ ap (λ ys. ys ++ c.track_by.result ∷ []) c.loop-index.invariant.is ∙ ap (λ y. map f (range_with_len 0 i) ++ y ∷ []) made
          ∙ sym (map-range_with_len_more f 0 i i (omega arith));
      bounds = subst (All IsTrack) (sym c.in_ok-push.ensures.items) (All-push IsTrack c.loop-index.after.items c.track_by.result c.loop-index.invariant.bounds c.track_by.ensures.bounds);
    }

pub returns-clause-value : goal.returns-clause-value
unfolding tracks_after
returns-clause-value c =
    let es = c.args.forest.now.entries in
    let was = c.args.was.now in
    let xs = c.args.tracks.now in
    let f : ℕ → Track = λ j. track_by c.args.at xs (entry_at es j) (was_at was j) in
    c.loop-index.invariant.is ∙ ap (λ n. map f (range_with_len 0 n)) (omega (arith, c.len-index-end.ensures.value))
