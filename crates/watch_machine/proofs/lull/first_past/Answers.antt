-- No need and no end of an entry so far is past before the second; in the end none is.
use Rattle.std.proofs.Common.{◌≡◌, ◌∙◌, ◌<◌, ◌≤◌, false, get_or, ap, arith, inl, inr, subst, sym}
use Rattle.std.proofs.lemmas.{Bool.cases_eq, List.get_or_default}
use Rattle.watch_machine.specs.{declared.track.Track.Track, State.no_track, State.track_in, Wanted.believed, code.View.need_at}
use Rattle.watch_machine.proofs.lull.first_past.Goals as goal

-- what the code reads past the last track
abbrev unread : Track
unread = record no_track { top = false }

pub loop-index-preserved : goal.loop-index-preserved
loop-index-preserved c =
    let needs = c.args.needs.now in
    let xs = c.args.tracks.now in
    let k = c.loop-index.index in
    let made = c.lasting_with-lasting.result in
    let least = c.lasting_with-lasting.ensures.least in
    record {
      need = λ i below some. elim (cases_eq i k) as (λ _. made ≤ need_at needs i) [
        | inl same ↦
            let there : need_at needs i ≡ c.need.result = ap (need_at needs) same ∙ sym c.need.ensures in
            let low = c.lasting_with-lasting.ensures.need (omega (arith, there, some)) in
            omega (arith, there, low)
        | inr other ↦ let before = c.loop-index.invariant.need i (omega (arith, below, other)) some in omega (arith, before, least)
      ];
      end = λ i below living. elim (cases_eq i k) as (λ _. made ≤ believed (track_in xs i).end) [
        | inl same ↦
            let read : get_or xs k unread ≡ track_in xs i = get_or_default xs k unread no_track (omega (arith, c.requires.tracks, c.loop-index-test.true)) ∙ sym (ap (track_in xs) same) in
            subst (λ (x : Track). c.args.now < believed x.end → made ≤ believed x.end) read c.lasting_with-lasting.ensures.end living
        | inr other ↦ let before = c.loop-index.invariant.end i (omega (arith, below, other)) living in omega (arith, before, least)
      ];
    }
