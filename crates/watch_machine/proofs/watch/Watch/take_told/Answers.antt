-- What a lookup told makes of its entry, and of the forest, is what the definitions say.
use Rattle.std.proofs.Common.{◌<◌, ◌∙◌, ◌≡◌, ap, false, length, set, subst, sym, true}
use Rattle.std.proofs.lemmas.{List.length-set, List.Elements.All-set}
use Rattle.plan_forest.specs.Forest.{Forest}
use Rattle.watch_machine.specs.{declared.track.Track.Track, Answers.with_track, Looked.told_track, Looked.with_terms, State.WatchState, State.track_at, code.Bounds.IsTrack}
use Rattle.watch_machine.proofs.View.{told_alike, view_both}
use Rattle.watch_machine.proofs.watch.Watch.take_told.Goals as goal

pub invariant_of-self : goal.invariant_of-self
invariant_of-self c =
    let w = c.self.inside in
    let kept = c.self.invariant in
    let i = c.args.request.entry in
    let within : i < length w.forest.entries = subst (λ (s : WatchState). i < length s.forest.entries) (sym c.self.view_is) c.requires.within in
    record {
      count = length-set w.tracks.items i c.told_track-track.result ∙ kept.count
          ∙ sym (ap (λ (g : Forest). length g.entries) c.take_terms.ensures ∙ length-set w.forest.entries i _);
      is_view = view_both w.view c.take_orphan.new.forest w.forest c.take_terms.new.forest i _ _ c.take_orphan.ensures c.take_terms.ensures
          (told_alike w.view w.forest i w.forest.margin c.args.terms kept.is_view within) kept.is_view;
      tracks = All-set IsTrack w.tracks.items i c.told_track-track.result c.told_track-track.ensures.bounds kept.tracks;
      out = kept.out;
      clocks = kept.clocks;
      lull = tt;
      line = λ known. absurd (let bad : false ≡ true = known in cc);
    }

pub returns : goal.returns
returns c =
    let w = c.self.inside in
    let i = c.args.request.entry in
    let terms = c.args.terms in
    let x = c.told_track-track.result in
    let s : WatchState = record {
      forest = w.forest;
      width = w.width;
      tracks = w.tracks.items;
      out = w.out.items;
      answers = w.answers.items;
      clocks = w.clocks;
      presence = w.presence;
      begun = w.begun;
      asked = w.asked;
      stepped = w.stepped;
    } in
    let track : x ≡ told_track c.args.request.since c.args.seconds c.args.renewable terms.endless (track_at c.args.self.now i) =
    c.told_track-track.ensures.value ∙ ap (told_track c.args.request.since c.args.seconds c.args.renewable terms.endless) c.track-before.ensures.value in
    ap (λ (g : Forest). record s { forest = g; tracks = set s.tracks i x }) c.take_terms.ensures
    ∙ ap (λ (t : WatchState). with_track (with_terms t i terms) i x) c.self.view_is
    ∙ ap (λ (y : Track). with_track (with_terms c.args.self.now i terms) i y) track
