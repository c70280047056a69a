-- What a command does over the bytes of its inventory is what it does over its files, once that is read.
use Rattle.std.proofs.Common.{List, Ok, subst, ℕ}
use Rattle.plan_commands.specs.CheckRun.{CheckRun}
use Rattle.base_files.specs.Files.{FileIsRead}
use Rattle.plan_certificate.specs.declared.cert.TheConstants.{MOST_CERTIFICATE}
use Rattle.plan_commands.proofs.Obeying.{checks, run_read}
use Rattle.plan_commands.proofs.command.obey_over.Goals as goal

pub returns-in-Ok : goal.returns-in-Ok
returns-in-Ok g c =
    let files = g.I.Inputs.bytes_at c.args.inputs.now in
    let read = subst (λ (path : List ℕ). FileIsRead (files path) MOST_CERTIFICATE (Ok c.in-Ok.text)) c.deref-in-Check.ensures c.in-Ok.ensures.read in
    checks c.args.command.now c.in-Check.file c.in-Check.certificate c.in-Check.start files c.args.inventory.now c.run_check.result _ _ c.in-Check.is
    (run_read _ MOST_CERTIFICATE (λ text. CheckRun c.args.inventory.now text c.in-Check.start) c.run_check.result _ _ c.in-Ok.text c.list.result.now read c.list.ensures c.run_check.ensures)
