-- Each command is obeyed by the run over the bytes of its files.
use Rattle.std.proofs.Common.{List, Ok, subst, ℕ}
use Rattle.base_files.specs.Files.{FileIsRead}
use Rattle.plan_commands.specs.Obeys.{ObeysOver}
use Rattle.vault_inventory.specs.declared.limits.TheConstants.{MOST_INVENTORY}
use Rattle.plan_commands.proofs.Obeying.{over_same, run_read}
use Rattle.plan_commands.proofs.command.obey.Goals as goal

pub returns-in-Ok : goal.returns-in-Ok
returns-in-Ok g c =
    let command = c.args.command.now in
    let files = g.I.Inputs.bytes_at c.args.inputs.now in
    let read = subst (λ (path : List ℕ). FileIsRead (files path) MOST_INVENTORY (Ok c.in-Ok.inventory)) c.inventory.ensures c.in-Ok.ensures.read in
    run_read _ MOST_INVENTORY (λ bytes. ObeysOver command files bytes) c.obey_over.result _ _ c.in-Ok.inventory c.list.result.now read c.list.ensures
    (over_same command files _ c.list.result.now c.obey_over.result _ _ c.in-Ok.ensures.same c.obey_over.ensures)
