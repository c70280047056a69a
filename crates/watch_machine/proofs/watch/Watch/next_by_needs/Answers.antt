-- The next time is found by the needs that the view carries.
use Rattle.std.proofs.Common.{subst}
use Rattle.watch_machine.specs.{Outlook.IsNextTime, State.WatchState, code.Lull.shown_by, code.View.HasNeeds, code.View.Sees}
use Rattle.watch_machine.proofs.Lulls.{next_shown}
use Rattle.watch_machine.proofs.watch.Watch.next_by_needs.Goals as goal

pub returns-clause-next : goal.returns-clause-next
returns-clause-next c =
    let w = c.self.inside in
    let s : WatchState = record {
      forest = w.forest;
      width = w.width;
      tracks = w.tracks.items;
      out = w.out.items;
      answers = w.answers.items;
      clocks = w.clocks;
      presence = w.presence;
      begun = w.begun;
      asked = w.asked;
      stepped = w.stepped;
    } in
    let view = c.needs_of.new.view in
    let needs = c.in_ok-needs.needs in
    let sees : Sees view w.forest w.tracks.items w.clocks needs = subst (λ xs. Sees view w.forest xs w.clocks needs) c.deref.ensures.value c.in_ok-needs.ensures.needs in
    let next = c.next_time-next.result in
    let found = subst (λ xs. HasNeeds w.forest.entries xs w.clocks needs → IsNextTime (shown_by w.forest xs w.clocks) next) c.deref-2.ensures.value c.next_time-next.ensures in
    subst (λ (t : WatchState). IsNextTime t next) c.self.view_is (next_shown s next (found sees.needs))
