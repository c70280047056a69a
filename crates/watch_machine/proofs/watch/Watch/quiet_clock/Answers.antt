-- A clock at which nothing is to be done leaves the lull.
use Rattle.std.proofs.Common.{subst, sym}
use Rattle.watch_machine.specs.{State.WatchState, code.Lull.IsQuiet}
use Rattle.watch_machine.proofs.Lulls.{known_on}
use Rattle.watch_machine.proofs.watch.Watch.quiet_clock.Goals as goal

pub invariant_of-self : goal.invariant_of-self
invariant_of-self c =
    let w = c.self.inside in
    let kept = c.self.invariant in
    let t = c.args.timed in
    let quiet = subst (λ (s : WatchState). IsQuiet s t.clocks t.stepped t.jumped c.args.until) (sym c.self.view_is) c.requires.quiet in
    record {
      count = kept.count;
      is_view = kept.is_view;
      tracks = kept.tracks;
      out = kept.out;
      clocks = c.requires.clocks;
      lull = known_on w.forest w.tracks.items w.clocks t.clocks w.presence c.pace_after-pace.result (λ i within. (quiet.needs i within, quiet.alive i within)) w.lull kept.lull;
      line = kept.line;
    }
