-- An entry is called for where it is wanted and its time has come.
use Rattle.std.proofs.Common.{◌≡◌, ◌∙◌, ℕ, sym, ap}
use Rattle.plan_forest.specs.declared.entry.Entry.{Entry}
use Rattle.watch_machine.specs.{declared.track.Track.Track, Margins.has_come}
use Rattle.watch_machine.specs.State.{WatchState, entry_of, second, track_at}
use Rattle.watch_machine.specs.Wanted.{is_wanted, need_of, wanted_need, wants}
use Rattle.watch_machine.proofs.Tests.{and_yes}
use Rattle.watch_machine.proofs.watch.Watch.is_called_for.Goals as goal

-- whether its time has come, by what was read of it
come_same : (margin m now n : ℕ) (e d : Entry) (x y : Track) → margin ≡ m → e ≡ d → x ≡ y → now ≡ n → has_come margin e x now ≡ has_come m d y n
come_same margin m now n e d x y margins entries tracks nows = cc

pub returns : goal.returns
returns c =
    let w = c.self.inside in
    let n = c.args.self.now in
    let i = c.args.entry in
    let need = c.need_of-need.result in
    let needs : need ≡ wanted_need n i =
    c.need_of-need.ensures ∙ ap (λ xs. need_of w.forest.entries xs w.clocks i) c.deref.ensures.value ∙ ap (λ (s : WatchState). wanted_need s i) c.self.view_is in
    let come : c.has_come.result ≡ has_come n.forest.margin (entry_of n i) (track_at n i) (second n) =
    c.has_come.ensures
    ∙ come_same _ _ _ _ _ _ _ _ (c.margin.ensures ∙ ap (λ (s : WatchState). s.forest.margin) c.self.view_is) (c.get.ensures.value ∙ ap (λ (s : WatchState). entry_of s i) c.self.view_is)
    c.track-track.ensures.value (c.second-now.ensures.value ∙ ap (λ (s : WatchState). second s) c.self.view_is) in
    c.wants.ensures ∙ ap (λ (x : Track). wants x need) c.track-track.ensures.value ∙ ap (wants (track_at n i)) needs
    ∙ sym (and_yes (is_wanted n i) (has_come n.forest.margin (entry_of n i) (track_at n i) (second n)) (sym come ∙ c.if-not-has_come.false))
