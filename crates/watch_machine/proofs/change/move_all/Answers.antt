-- Each request is moved after those before it, and in the end all are.
use Rattle.std.proofs.Common.{◌∙◌, ◌<◌, ◌++◌, ap, arith, drop, length}
use Rattle.std.proofs.lemmas.List.Elements.{All-set}
use Rattle.std.proofs.lemmas.List.{append-nil, drop_all, get_or_default, take_all}
use Rattle.watch_machine.specs.{Change.out_after, code.Bounds.WentOutAtReading}
use Rattle.watch_machine.proofs.Changing.{out_more}
use Rattle.watch_machine.proofs.change.move_all.Goals as goal

pub loop-place-preserved : goal.loop-place-preserved
loop-place-preserved c =
    let old = c.args.out.now in
    let now = c.loop-place.out in
    let k = c.loop-place.place in
    let within : k < length old = omega arith in
    let here : k < length now = omega arith in
    record {
      is = out_more c.args.was.now c.args.count old now k _ c.moved.result within c.loop-place.invariant.is (get_or_default now k _ _ here) c.moved.ensures.value;
      bounds = All-set WentOutAtReading now k c.moved.result c.moved.ensures.bounds c.loop-place.invariant.bounds;
    }

pub returns-clause-value : goal.returns-clause-value
returns-clause-value c =
    let old = c.args.out.now in
    let k = c.loop-place.place in
    let was = c.args.was.now in
    let n = c.args.count in
    c.loop-place.invariant.is ∙ ap (λ os. out_after was n os ++ drop k old) (take_all k old (omega arith)) ∙ ap (λ os. out_after was n old ++ os) (drop_all k old (omega arith))
    ∙ append-nil (out_after was n old)
