-- Another track ends what is known of a lull and of a line.
use Rattle.std.proofs.Common.{◌≡◌, ◌∙◌, false, true}
use Rattle.std.proofs.lemmas.{List.length-set, List.Elements.All-set}
use Rattle.watch_machine.specs.code.Bounds.{IsTrack}
use Rattle.watch_machine.proofs.watch.Watch.set_track.Goals as goal

pub invariant_of-self : goal.invariant_of-self
invariant_of-self c =
    let w = c.self.inside in
    let kept = c.self.invariant in
    record {
      count = length-set w.tracks.items c.args.entry c.args.track ∙ kept.count;
      is_view = kept.is_view;
      tracks = All-set IsTrack w.tracks.items c.args.entry c.args.track c.requires.track kept.tracks;
      out = kept.out;
      clocks = kept.clocks;
      lull = tt;
      line = λ known. absurd (let bad : false ≡ true = known in cc);
    }
