-- One wake-up more is listed, at its moment and with every entry asked.
use Rattle.std.proofs.Common.{◌∙◌, ◌++◌, ◌∷◌, [], ap, sym, length, arith}
use Rattle.std.proofs.lemmas.List.{get_or_read}
use Rattle.plan_commands.proofs.Lines.{all_asked_more, all_asked_none}
use Rattle.plan_commands.proofs.ends_text.all_asked.Goals as goal

pub loop-at-init : goal.loop-at-init
loop-at-init c = c.new-wakes.ensures.items ∙ sym (all_asked_none (length c.args.forest.now.entries))

pub loop-at-preserved : goal.loop-at-preserved
loop-at-preserved c =
    let n = length c.args.forest.now.entries in
    c.in_ok-push.ensures.items
    ∙ ap (λ ws. ws ++ record { at = c.at-item.result; asked = c.in_ok-every_index.field-0 } ∷ []) c.loop-at.invariant
    ∙ sym (all_asked_more n c.args.moments.now c.loop-at.at-index (record { at = c.at-item.result; asked = c.in_ok-every_index.field-0 }) (omega arith) (get_or_read c.args.moments.now c.loop-at.at-index c.at-item.result (omega arith) c.at-item.is 0) c.in_ok-every_index.ensures)
