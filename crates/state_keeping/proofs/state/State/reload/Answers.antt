-- FILE is seen as it was, since its copy is another file.
use Rattle.std.proofs.Common.{◌≡◌, subst}
use Rattle.state_keeping.specs.States.{Kept}
use Rattle.state_keeping.proofs.Filed.{seen_past_copy}
use Rattle.state_keeping.proofs.state.State.reload.Goals as goal

pub returns-clause-file : goal.returns-clause-file
returns-clause-file g c known =
    let s = g.D.Disk.state in
    let k : Kept g.row.D.Denot = record { keeper = c.self.inside.keeper; disk = c.self.inside.disk; places = c.self.inside.paths.now } in
    subst (λ (k : Kept g.row.D.Denot). (s c.keep_copy-kept.new.disk).seen k.places.file ≡ (s k.disk).seen k.places.file) c.self.view_is
    (seen_past_copy k.places c.copy.result.now (s k.disk) (s c.keep_copy-kept.new.disk) c.copy.ensures.apart c.copy.ensures.value (c.keep_copy-kept.ensures.others known))
