-- A new need leaves the forest and its view as they have to be.
use Rattle.std.proofs.Common.{◌∙◌, ◌≡◌, ap, false, length, refl, sym, true}
use Rattle.std.proofs.lemmas.List.{length-set}
use Rattle.plan_forest.specs.Forest.{Forest}
use Rattle.watch_machine.proofs.View.{view_of_set}
use Rattle.watch_machine.proofs.watch.Watch.need.Goals as goal

pub invariant_of-self : goal.invariant_of-self
invariant_of-self c =
    let w = c.self.inside in
    let kept = c.self.invariant in
    record {
      count = kept.count ∙ sym (ap (λ (g : Forest). length g.entries) c.set_need.ensures ∙ length-set w.forest.entries c.args.entry _);
      is_view = view_of_set w.view w.forest c.set_need.new.self c.args.entry _ c.set_need.ensures refl kept.is_view;
      tracks = kept.tracks;
      out = kept.out;
      clocks = kept.clocks;
      lull = tt;
      line = λ known. absurd (let bad : false ≡ true = known in cc);
    }
