-- By the need that counts for it, an entry is wanted where it is by the definitions.
use Rattle.std.proofs.Common.{◌≡◌, ◌∙◌, ap}
use Rattle.watch_machine.specs.{declared.track.Track.Track, State.WatchState, State.track_at}
use Rattle.watch_machine.specs.Wanted.{need_of, wanted_need, wants}
use Rattle.watch_machine.proofs.watch.Watch.is_wanted.Goals as goal

pub returns : goal.returns
returns c =
    let w = c.self.inside in
    let n = c.args.self.now in
    let i = c.args.index in
    let needs : c.need_of-need.result ≡ wanted_need n i =
    c.need_of-need.ensures ∙ ap (λ xs. need_of w.forest.entries xs w.clocks i) c.deref.ensures.value ∙ ap (λ (s : WatchState). wanted_need s i) c.self.view_is in
    c.wants.ensures ∙ ap (λ (x : Track). wants x c.need_of-need.result) c.track.ensures.value ∙ ap (wants (track_at n i)) needs
