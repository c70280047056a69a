-- What was read is looked up.
use Rattle.std.proofs.Common.{Ok, subst}
use Rattle.state_secrets.specs.Outcomes.{ReadsFile}
use Rattle.agent_ledger.proofs.ledger.Ledger.read_up.Goals as goal

pub returns-in-Ok-Ok : goal.returns-in-Ok-Ok
returns-in-Ok-Ok g c = record {
  read = Ok (Ok c.in-Ok-Ok.credential);
  files = c.read_held.new.files;
  reads = subst (λ p. ReadsFile g.I.SecretFiles.calls p c.args.due.stamp (Ok c.in-Ok-Ok.credential) c.args.self.now.inputs c.read_held.new.files) c.deref.ensures.value
      (subst (λ h. ReadsFile g.I.SecretFiles.calls c.deref.result.now c.args.due.stamp h c.args.self.now.inputs c.read_held.new.files) c.in-Ok-Ok.field-0-is c.in-Ok-Ok.ensures.read);
  then = c.look_up_held.ensures;
}
