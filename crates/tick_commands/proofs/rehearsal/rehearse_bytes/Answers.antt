-- A rehearsal for whose exchange memory is wanting reports that and writes nothing on `out`.
use Rattle.std.proofs.Common.{refl}
use Rattle.tick_commands.proofs.Unheard.{unheard}
use Rattle.tick_commands.proofs.rehearsal.rehearse_bytes.Goals as goal

pub returns-in-Err : goal.returns-in-Err
returns-in-Err g c =
    unheard c.args.inventory.now c.args.script.now.start c.args.script.now.faults.now c.in-Err.stop c.report.result _ _ c.in-Err.ensures c.report.ensures.exit refl c.report.ensures.told
