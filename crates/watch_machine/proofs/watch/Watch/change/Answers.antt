-- The forest is another, each track is made by where its entry was, the requests go on, and what was known of a lull and of a line is no
-- more.
use Rattle.std.proofs.Common.{◌≡◌, ◌∙◌, List, ap, arith, false, length, refl, subst, sym, true}
use Rattle.std.specs.List.{All}
use Rattle.plan_forest.specs.Forest.{Forest}
use Rattle.watch_machine.specs.{declared.lanes.Out.Out, declared.track.Track.Track, State.WatchState, code.Bounds.WentOutAtReading, code.View.IsView}
use Rattle.watch_machine.specs.Change.{changed, out_after, tracks_after}
use Rattle.watch_machine.proofs.{Changing.after_length, Changing.tracks_length, Rewritten.once}
use Rattle.watch_machine.proofs.watch.Watch.change.Goals as goal

pub move_all-requires-clause-count : goal.move_all-requires-clause-count
move_all-requires-clause-count c =
    c.len-3.ensures.value ∙ ap (λ (g : Forest). length g.entries) c.keep_all_terms.ensures ∙ after_length c.self.inside.forest.entries c.args.forest c.args.was.now ∙ sym c.requires.count

pub move_all-requires-clause-room : goal.move_all-requires-clause-room
move_all-requires-clause-room c =
    let room = c.has_room.ensures c.if-not-has_room.false in
    let many = c.len-3.ensures.value ∙ ap (λ (g : Forest). length g.entries) c.keep_all_terms.ensures ∙ after_length c.self.inside.forest.entries c.args.forest c.args.was.now in
    let out = ap length c.deref_mut.ensures.value in
    omega (arith, room, many, out, c.len.ensures.value, c.len-2.ensures, c.self.inside.out.ok.0)

pub invariant_of-self : goal.invariant_of-self
invariant_of-self c =
    let w = c.self.inside in
    let g = c.args.forest in
    let was = c.args.was.now in
    let kept = c.self.invariant in
    let forest = c.keep_all_terms.new.forest in
    let out = once w.out c.deref_mut.result.now c.move_all.new.out c.deref_mut.ensures.value c.move_all.auto.out in
    record {
      count =
          ap length c.in_ok-tracks.ensures.value ∙ tracks_length w.clocks.at c.deref.result.now g was
          ∙ sym (ap (λ (h : Forest). length h.entries) c.keep_all_terms.ensures ∙ after_length w.forest.entries g was);
      is_view = subst (λ v. IsView v forest) (sym c.in_ok-view.ensures) (record { count = refl; margin = refl; shapes = refl });
      tracks = c.in_ok-tracks.ensures.bounds;
      out = subst (All WentOutAtReading) (sym out) c.move_all.ensures.bounds;
      clocks = kept.clocks;
      lull = tt;
      line = λ known. absurd (let bad : false ≡ true = known in cc);
    }

pub returns-clause-changed : goal.returns-clause-changed
returns-clause-changed c =
    let w = c.self.inside in
    let g = c.args.forest in
    let was = c.args.was.now in
    let s : WatchState = record {
      forest = w.forest;
      width = w.width;
      tracks = w.tracks.items;
      out = w.out.items;
      answers = w.answers.items;
      clocks = w.clocks;
      presence = w.presence;
      begun = w.begun;
      asked = w.asked;
      stepped = w.stepped;
    } in
    let forest = c.keep_all_terms.new.forest in
    let tracks = c.in_ok-tracks.tracks.items in
    let many : c.len-3.result ≡ length g.entries = c.len-3.ensures.value ∙ ap (λ (h : Forest). length h.entries) c.keep_all_terms.ensures ∙ after_length w.forest.entries g was in
    let out =
    once w.out c.deref_mut.result.now c.move_all.new.out c.deref_mut.ensures.value c.move_all.auto.out ∙ c.move_all.ensures.value ∙ ap (λ n. out_after was n c.deref_mut.result.now) many
    ∙ ap (out_after was (length g.entries)) c.deref_mut.ensures.value in
    ap (λ (os : List Out). record s { forest = forest; tracks = tracks; out = os }) out
    ∙ ap (λ (xs : List Track). record s { forest = forest; tracks = xs; out = out_after was (length g.entries) s.out })
    (c.in_ok-tracks.ensures.value ∙ ap (λ xs. tracks_after w.clocks.at xs g was) c.deref.ensures.value)
    ∙ ap (λ (h : Forest). record s { forest = h; tracks = tracks_after s.clocks.at s.tracks g was; out = out_after was (length g.entries) s.out }) c.keep_all_terms.ensures
    ∙ ap (λ (t : WatchState). changed t g was) c.self.view_is
