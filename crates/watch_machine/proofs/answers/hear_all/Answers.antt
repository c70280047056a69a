-- Each request has heard of it after those before it, and in the end all have.
use Rattle.std.proofs.Common.{◌∙◌, ◌<◌, ◌++◌, ap, arith, drop, length, map, set}
use Rattle.std.proofs.lemmas.{List.Edits.map_over_more, List.Elements.All-set}
use Rattle.std.proofs.lemmas.List.{append-nil, drop_all, get_or_default, take_all}
use Rattle.watch_machine.specs.{Answers.heard, code.Bounds.WentOutAtReading}
use Rattle.watch_machine.proofs.answers.hear_all.Goals as goal

pub loop-index-preserved : goal.loop-index-preserved
loop-index-preserved c =
    let old = c.args.out.now in
    let now = c.loop-index.out in
    let k = c.loop-index.index in
    let within : k < length old = omega arith in
    let here : k < length now = omega arith in
    record {
      is = ap (set now k) c.heard.ensures.value ∙ map_over_more heard old now k _ within c.loop-index.invariant.is (get_or_default now k _ _ here);
      bounds = All-set WentOutAtReading now k c.heard.result c.heard.ensures.bounds c.loop-index.invariant.bounds;
    }

pub returns-clause-value : goal.returns-clause-value
returns-clause-value c =
    let old = c.args.out.now in
    let k = c.loop-index.index in
    c.loop-index.invariant.is ∙ ap (λ xs. map heard xs ++ drop k old) (take_all k old (omega arith)) ∙ ap (λ xs. map heard old ++ xs) (drop_all k old (omega arith)) ∙ append-nil (map heard old)
