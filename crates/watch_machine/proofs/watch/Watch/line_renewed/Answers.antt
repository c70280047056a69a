-- An answer that leaves what is known of the others keeps the line; any other ends it.
use Rattle.std.proofs.Common.{◌≡◌, ◌∙◌, ◌*◌, ◌<◌, ap, arith, length, set, subst, sym}
use Rattle.plan_forest.specs.{declared.entry.Entry.Entry, Forest.entry_at}
use Rattle.watch_machine.specs.{declared.line.Line.Line, declared.track.Track.Track, Answers.replied, Clocks.ms, Margins.time, Wanted.believed}
use Rattle.watch_machine.specs.Renewed.{renewed_track, state_renewed, track_renewed}
use Rattle.watch_machine.specs.State.{WatchState, track_at, track_in}
use Rattle.watch_machine.specs.code.Line.{IsLine, IsLineOf, IsPlain, calm}
use Rattle.watch_machine.proofs.{LineAnswer.line_answered, RoundClock.answered_state}
use Rattle.watch_machine.proofs.watch.Watch.line_renewed.Goals as goal

pub returns-clause-line : goal.returns-clause-line
returns-clause-line c = λ known.
    let w = c.self.inside in
    let r = c.args.request in
    let i = r.entry in
    let reply = c.args.reply in
    let s : WatchState = record {
      forest = w.forest;
      width = w.width;
      tracks = w.tracks.items;
      out = w.out.items;
      answers = w.answers.items;
      clocks = w.clocks;
      presence = w.presence;
      begun = w.begun;
      asked = w.asked;
      stepped = w.stepped;
    } in
    let old : s ≡ c.args.self.now = c.self.view_is ∙ c.take_line-line.ensures.unchanged in
    let line = c.take_line-line.result in
    let before = c.track-before.result in
    let after = c.renewed_track-after.result in
    let plain : IsPlain before after = c.is_plain.ensures.plain c.if-not-is_plain.false in
    let real = c.is_plain.ensures.real c.if-not-is_plain.false in
    let g = s.forest in
    let xs = s.tracks in
    let p = calm w.presence in
    let within : i < length g.entries = omega (arith, c.if-request-len.false, c.len.ensures.value) in
    let was : before ≡ track_in xs i = c.track-before.ensures.value ∙ ap (λ (n : WatchState). track_at n i) (sym c.self.view_is) in
    let is : IsLine g xs p line = subst (λ (n : WatchState). IsLineOf n line) (sym old) c.take_line-line.ensures.line (sym (ap (λ (l : Line). l.known) c.answered.ensures) ∙ known) in
    let entry : c.get-entry.result.now ≡ entry_at g.entries i = c.get-entry.ensures.value in
    let made : after ≡ track_renewed s r reply =
    c.renewed_track-after.ensures.value ∙ ap (λ m. renewed_track m c.get-entry.result.now.step w.clocks.at r reply before) c.margin-margin.ensures
    ∙ ap (λ (e : Entry). renewed_track g.margin e.step w.clocks.at r reply before) entry ∙ ap (renewed_track g.margin (entry_at g.entries i).step w.clocks.at r reply) was in
    let y = track_renewed s r reply in
    let plain' : IsPlain (track_in xs i) y = subst (λ (x : Track). IsPlain x y) was (subst (IsPlain before) made plain) in
    let time_is : c.time.result * 1000 ≡ ms (time g.margin (entry_at g.entries i) y) =
    ap (λ n. n * 1000)
    (c.time.ensures.value ∙ ap (λ m. time m c.get-entry.result.now after) c.margin-margin.ensures ∙ ap (λ (e : Entry). time g.margin e after) entry
    ∙ ap (time g.margin (entry_at g.entries i)) made) in
    let end_is : c.believed.result ≡ believed y.end = c.believed.ensures.value ∙ ap (λ (x : Track). believed x.end) made in
    let kept : IsLine g (set xs i y) p c.answered.result =
    subst (IsLine g (set xs i y) p) (sym c.answered.ensures) (line_answered g xs p line is c.self.invariant.count i within y plain' (c.time.result * 1000) c.believed.result time_is end_is) in
    subst (λ (n : WatchState). IsLine n.forest n.tracks (calm n.presence) c.answered.result)
    (sym (answered_state (state_renewed s r reply) r reply real is.there) ∙ ap (λ (n : WatchState). replied (state_renewed n r reply) r reply) old) kept
