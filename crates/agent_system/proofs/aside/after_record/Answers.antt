-- The gate and the line feed are two bytes beside the line.
use Rattle.std.proofs.Common.{◌∙◌, ap, drop}
use Rattle.agent_system.proofs.SetAside.{after_block}
use Rattle.agent_system.proofs.aside.after_record.Goals as goal

pub returns : goal.returns
returns c end is =
    c.after-2.ensures ∙ ap (drop 2) c.after.ensures ∙ after_block c.args.bytes.now c.args.line.now end is
