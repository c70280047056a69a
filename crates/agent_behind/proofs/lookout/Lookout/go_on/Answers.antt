-- One stage after another, beside the entries of the Watch.
use Rattle.std.proofs.Common.{◌≡◌, ◌∙◌, ap, subst}
use Rattle.watch_machine.specs.State.{WatchState}
use Rattle.agent_behind.specs.Lookouts.{StandsBeside, due_after}
use Rattle.agent_behind.proofs.lookout.Lookout.go_on.Goals as goal

pub returns : goal.returns
returns g c =
    let m = c.args.agent.now.machine in
    let forest : c.forest.result.now ≡ m.forest = c.forest.ensures ∙ ap (λ (w : WatchState). w.forest) c.watch.ensures.value in
    record {
      beside = c.stand_beside.new.self;
      stands = subst (λ f. StandsBeside f c.args.self.now c.stand_beside.new.self) forest c.stand_beside.ensures.stands;
      off = c.hear.new.self;
      comes = c.hear.ensures;
      looked = c.look.new.self;
      looks = c.look.ensures.looks;
      due = c.set_due.ensures ∙ ap (λ w. record c.look.new.self { due = due_after w c.args.now.elapsed c.look.new.self.scout }) c.watch-2.ensures.value;
      waits_is = c.is_waiting.ensures;
    }
