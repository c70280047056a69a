-- In a lull the first time is known, and where it is ahead it is the next.
use Rattle.std.proofs.Common.{◌≡◌, ◌∙◌, true, subst, sym}
use Rattle.watch_machine.specs.{Outlook.IsNextTime, Outlook.is_timed_at, State.WatchState, State.second, code.Lull.IsLull, code.Outlook.is_first_ahead}
use Rattle.watch_machine.proofs.{Cases.of_value, FirstTime.first_is_next, Lulls.first_shown}
use Rattle.watch_machine.proofs.watch.Watch.next.Goals as goal

pub returns-in-Some-clause-next : goal.returns-in-Some-clause-next
returns-in-Some-clause-next c =
    let w = c.self.inside in
    let s : WatchState = record {
      forest = w.forest;
      width = w.width;
      tracks = w.tracks.items;
      out = w.out.items;
      answers = w.answers.items;
      clocks = w.clocks;
      presence = w.presence;
      begun = w.begun;
      asked = w.asked;
      stepped = w.stepped;
    } in
    let lull = c.in-Some.lull in
    let is = of_value (IsLull w.forest w.tracks.items w.clocks w.presence) w.lull lull c.self.invariant.lull c.in-Some.is in
    let now : c.second.result ≡ second s = c.second.ensures.value in
    let ahead : is_first_ahead (second s) lull.first ≡ true =
    subst (λ n. is_first_ahead n lull.first ≡ true) now (sym c.is_first_ahead.ensures ∙ c.if-is_first_ahead.true) in
    subst (λ (t : WatchState). IsNextTime t lull.first) c.self.view_is (first_is_next s lull.first (first_shown (is_timed_at s) s lull.first is.told) ahead)
