-- What the view carries, and what counts for each entry, are found.
use Rattle.std.proofs.Common.{◌≡◌, ◌∙◌, subst}
use Rattle.plan_needs.specs.Carried.{IsCarried}
use Rattle.watch_machine.specs.Clocks.{sec}
use Rattle.watch_machine.proofs.Needed.{sees_all}
use Rattle.watch_machine.proofs.needs.needs_of.Goals as goal

pub returns-clause-needs : goal.returns-clause-needs
returns-clause-needs c =
    let g = c.args.forest.now in
    let xs = c.args.tracks.now in
    let k = c.args.clocks in
    let v = c.write_view.new.view in
    let cut = c.in_ok-cut.cut in
    let at : c.moment_at.result ≡ sec k.at = c.moment_at.ensures ∙ c.second.ensures.value in
    sees_all v g xs k cut c.in_ok-free.free c.in_ok-needs.needs c.requires.count c.write_view.ensures.written (subst (λ t. IsCarried v t cut) at c.in_ok-cut.ensures) c.in_ok-free.ensures.free
    c.in_ok-needs.ensures
