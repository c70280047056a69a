-- What the broker's answer says of all ends what is known of a lull and of a line.
use Rattle.std.proofs.Common.{◌≡◌, ◌∙◌, false, true, ap, length, subst, sym}
use Rattle.std.specs.List.{All}
use Rattle.watch_machine.specs.code.Bounds.{IsTrack, WentOutAtReading}
use Rattle.watch_machine.proofs.Rewritten.{once}
use Rattle.watch_machine.proofs.watch.Watch.answers_all.Goals as goal

pub invariant_of-self : goal.invariant_of-self
invariant_of-self c =
    let w = c.self.inside in
    let kept = c.self.invariant in
    let heard = once w.out c.deref_mut.result.now c.hear_all.new.out c.deref_mut.ensures.value c.hear_all.auto.out in
    let back = once w.tracks c.deref_mut-then-self.result.now c.back_all.new.tracks c.deref_mut-then-self.ensures.value c.back_all.auto.tracks in
    record {
      count = ap length back ∙ c.back_all.auto.tracks ∙ ap length c.deref_mut-then-self.ensures.value ∙ kept.count;
      is_view = kept.is_view;
      tracks = subst (All IsTrack) (sym back) c.back_all.ensures.bounds;
      out = subst (All WentOutAtReading) (sym heard) c.hear_all.ensures.bounds;
      clocks = kept.clocks;
      lull = tt;
      line = λ known. absurd (let bad : false ≡ true = known in cc);
    }
