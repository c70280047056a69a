-- While a lull lasts and the clocks go on as before, nothing is to be done of any entry.
use Rattle.std.proofs.Common.{◌≡◌, ◌∙◌, ◌&&◌, false, None, ap, min, subst, sym}
use Rattle.std.specs.List.{list_any}
use Rattle.watch_machine.specs.{Beginning.beginning, Settling.is_silent, State.WatchState, Wait.latest}
use Rattle.watch_machine.specs.code.Lull.{GoesOn, IsLull, IsQuiet}
use Rattle.watch_machine.proofs.{Cases.of_value, Lulls.is_quiet}
use Rattle.watch_machine.proofs.watch.Watch.quiet_until.Goals as goal

pub returns-in-None : goal.returns-in-None
returns-in-None c =
    let w = c.self.inside in
    let kept = c.self.invariant in
    let t = c.args.timed in
    let k = t.clocks in
    let p = w.presence in
    let lull = c.in-Some.lull in
    let s : WatchState = record {
      forest = w.forest;
      width = w.width;
      tracks = w.tracks.items;
      out = w.out.items;
      answers = w.answers.items;
      clocks = w.clocks;
      presence = p;
      begun = w.begun;
      asked = w.asked;
      stepped = w.stepped;
    } in
    let is : IsLull w.forest w.tracks.items w.clocks p lull = of_value (IsLull w.forest w.tracks.items w.clocks p) w.lull lull kept.lull c.in-Some.is in
    let lasts = c.lasts.ensures c.if-not-lasts.false in
    let on : GoesOn k w.clocks = c.goes_on.ensures c.if-not-goes_on.false in
    let none : p.away && list_any is_silent w.answers.items ≡ false =
    sym (c.is_holding.ensures ∙ ap (λ as'. p.away && list_any is_silent as') c.deref.ensures.value) ∙ c.if-is_holding.false in
    let reason : beginning s.begun s.asked t.stepped t.jumped k.at s.tracks ≡ None =
    sym
    (c.reason.ensures ∙ ap (λ (n : WatchState). beginning n.begun n.asked t.stepped t.jumped k.at c.deref-2.result.now) (sym c.self.view_is)
    ∙ ap (beginning s.begun s.asked t.stepped t.jumped k.at) c.deref-2.ensures.value)
    ∙ c.in-None.is in
    subst (λ (n : WatchState). IsQuiet n k t.stepped t.jumped c.min.result) c.self.view_is
    (is_quiet s k lull is kept.count on c.requires.at lasts.0 lasts.1 t.stepped t.jumped c.min.result none reason
    (c.min.ensures ∙ ap (λ n. min n lull.next) (c.latest.ensures ∙ ap (λ m. latest m k.at) c.margin.ensures)))
