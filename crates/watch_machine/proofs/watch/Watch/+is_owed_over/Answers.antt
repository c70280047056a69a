-- A lookup is owed of an entry itself, or of one over its parent.
use Rattle.std.proofs.Common.{◌≡◌, ◌∙◌, Some, sym, ap, subst}
use Rattle.plan_forest.specs.{declared.entry.Entry.Entry, Forest.entry_at}
use Rattle.plan_forest.proofs.{Chains.ParentsFirst, Placed.parents_first}
use Rattle.watch_machine.specs.{declared.track.Track.Track, Shortness.is_owed_over, State.WatchState, State.track_at}
use Rattle.watch_machine.proofs.Reaching.{any_child, any_own, any_root}
use Rattle.watch_machine.proofs.watch.Watch.+is_owed_over.Goals as goal

pub returns-then-track : goal.returns-then-track
unfolding is_owed_over
returns-then-track t c =
    let now = c.args.self.now in
    let i = c.args.index in
    let track : c.track.result ≡ track_at now i = c.track.ensures.value in
    any_own now.forest.entries i (λ a. (track_at now a).owes) (sym (ap (λ (x : Track). x.owes) track) ∙ c.if-track.true)

pub returns-in-None : goal.returns-in-None
unfolding is_owed_over
returns-in-None t c =
    let now = c.args.self.now in
    let i = c.args.index in
    let es = now.forest.entries in
    let track : c.track.result ≡ track_at now i = c.track.ensures.value in
    let entry : c.get.result.now ≡ entry_at es i = c.get.ensures.value ∙ ap (λ (s : WatchState). entry_at s.forest.entries i) c.self.view_is in
    any_root es i (λ a. (track_at now a).owes) (sym (ap (λ (e : Entry). e.parent) entry) ∙ c.in-None.is) (sym (ap (λ (x : Track). x.owes) track) ∙ c.if-track.false)

pub returns-in-Some : goal.returns-in-Some
unfolding is_owed_over
returns-in-Some t c =
    let now = c.args.self.now in
    let i = c.args.index in
    let p = c.in-Some.parent in
    let es = now.forest.entries in
    let track : c.track.result ≡ track_at now i = c.track.ensures.value in
    let entry : c.get.result.now ≡ entry_at es i = c.get.ensures.value ∙ ap (λ (s : WatchState). entry_at s.forest.entries i) c.self.view_is in
    let child : (entry_at es i).parent ≡ Some p = sym (ap (λ (e : Entry). e.parent) entry) ∙ c.in-Some.is in
    let first : ParentsFirst es = subst (λ (s : WatchState). ParentsFirst s.forest.entries) c.self.view_is (parents_first c.self.inside.forest c.get.ensures.sound) in
    c.is_owed_over.ensures ∙ any_child es i (λ a. (track_at now a).owes) p first child (sym (ap (λ (x : Track). x.owes) track) ∙ c.if-track.false)
