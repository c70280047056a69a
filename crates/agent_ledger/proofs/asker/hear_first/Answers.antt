-- Those so far have no word; then there is one on the file of the next, or memory is wanting for it, or it has none either.
use Rattle.std.proofs.Common.{◌∙◌, ◌<◌, ◌≤◌, Ok, ap, arith, length, refl}
use Rattle.std.proofs.lemmas.List.{length-set}
use Rattle.agent_ledger.proofs.Asking.{none_heard, one_more, want_at, word_at}
use Rattle.agent_ledger.proofs.asker.hear_first.Goals as goal

pub loop-asker-preserved : goal.loop-asker-preserved
loop-asker-preserved g c =
    let so = c.loop-asker.invariant in
    let within : c.loop-asker.asker-index < length c.loop-asker.askers = omega arith in
    one_more _ _ c.args.askers.now c.loop-asker.askers c.loop-asker.asker-index c.asker-item.result _ c.hear.new.self c.hear.result within so (c.in-Ok-None.is ∙ ap Ok c.in-Ok-None.field-0-is) c.hear.ensures refl

pub returns-in-Ok-Some-clause-heard : goal.returns-in-Ok-Some-clause-heard
returns-in-Ok-Some-clause-heard g c =
    let so = c.loop-asker.invariant in
    let within : c.loop-asker.asker-index < length c.loop-asker.askers = omega arith in
    word_at _ _ c.args.askers.now c.loop-asker.askers c.loop-asker.asker-index c.asker-item.result _ c.hear.new.self c.hear.result _ within so (c.in-Ok-Some.is ∙ ap Ok c.in-Ok-Some.field-0-is) c.hear.ensures refl

pub returns-in-Ok-Some-clause-many : goal.returns-in-Ok-Some-clause-many
returns-in-Ok-Some-clause-many g c = length-set _ _ _ ∙ c.loop-asker.invariant.many

pub returns-in-Err-clause-heard : goal.returns-in-Err-clause-heard
returns-in-Err-clause-heard g c =
    let so = c.loop-asker.invariant in
    let within : c.loop-asker.asker-index < length c.loop-asker.askers = omega arith in
    want_at _ _ c.args.askers.now c.loop-asker.askers c.loop-asker.asker-index c.asker-item.result _ c.hear.new.self c.hear.result _ within so c.in-Err.is c.hear.ensures refl

pub returns-clause-heard : goal.returns-clause-heard
returns-clause-heard g c =
    let past : length c.loop-asker.askers ≤ c.loop-asker.asker-index = omega arith in
    none_heard _ _ c.args.askers.now c.loop-asker.askers c.loop-asker.asker-index past c.loop-asker.invariant
