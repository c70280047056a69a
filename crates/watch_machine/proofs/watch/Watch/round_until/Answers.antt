-- While a line lasts and the clocks go on as before, nothing is to be done of any entry but that those in front go out.
use Rattle.std.proofs.Common.{◌≡◌, ◌∙◌, ◌≤◌, ◌&&◌, false, None, ap, min, subst, sym}
use Rattle.std.specs.List.{list_any}
use Rattle.watch_machine.specs.{Beginning.beginning, Settling.is_silent, State.WatchState, Wait.latest}
use Rattle.watch_machine.specs.code.Line.{IsLine, IsLineOf, IsRoundClock, calm}
use Rattle.watch_machine.proofs.RoundClock.{is_round_clock}
use Rattle.watch_machine.proofs.watch.Watch.round_until.Goals as goal

pub returns-in-None : goal.returns-in-None
returns-in-None c =
    let w = c.self.inside in
    let kept = c.self.invariant in
    let t = c.args.timed in
    let k = t.clocks in
    let p = w.presence in
    let line = c.args.line.now in
    let s : WatchState = record {
      forest = w.forest;
      width = w.width;
      tracks = w.tracks.items;
      out = w.out.items;
      answers = w.answers.items;
      clocks = w.clocks;
      presence = p;
      begun = w.begun;
      asked = w.asked;
      stepped = w.stepped;
    } in
    let is : IsLine s.forest s.tracks (calm s.presence) line = subst (λ (n : WatchState). IsLineOf n line) (sym c.self.view_is) c.requires.line c.if-not-line.false in
    let until : c.latest-latest.result ≡ latest s.forest.margin k.at = c.latest-latest.ensures ∙ ap (λ m. latest m k.at) c.margin.ensures in
    let lasts = c.lasts.ensures c.if-not-lasts.false in
    let none : p.away && list_any is_silent w.answers.items ≡ false =
    sym (c.is_holding.ensures ∙ ap (λ as'. p.away && list_any is_silent as') c.deref.ensures.value) ∙ c.if-is_holding.false in
    let reason : beginning s.begun s.asked t.stepped t.jumped k.at s.tracks ≡ None =
    sym
    (c.reason.ensures ∙ ap (λ (n : WatchState). beginning n.begun n.asked t.stepped t.jumped k.at c.deref-2.result.now) (sym c.self.view_is)
    ∙ ap (beginning s.begun s.asked t.stepped t.jumped k.at) c.deref-2.ensures.value)
    ∙ c.in-None.is in
    subst (λ (n : WatchState). IsRoundClock n line k t.stepped t.jumped c.min.result) c.self.view_is
    (is_round_clock s line is kept.count k lasts.0 c.requires.clocks.at (subst (λ n. n ≤ line.beyond) until lasts.1) lasts.2 lasts.3 t.stepped t.jumped c.min.result none reason
    (c.min.ensures ∙ ap (λ n. min n line.next) until))
