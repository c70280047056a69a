-- Each request is out after those before it.
use Rattle.std.proofs.Common.{◌∙◌, ◌<◌, ◌++◌, ◌∷◌, [], ap, arith, length, map, subst, sym, take}
use Rattle.std.proofs.lemmas.List.Elements.{All-push}
use Rattle.std.proofs.lemmas.List.{append_assoc, map_more, take_all}
use Rattle.std.specs.List.{All}
use Rattle.watch_machine.specs.{Sending.out_at, code.Bounds.WentOutAtReading}
use Rattle.watch_machine.proofs.sending.out_with.Goals as goal

pub loop-request-preserved : goal.loop-request-preserved
loop-request-preserved c =
    let out = c.args.out.now in
    let rs = c.args.requests.now in
    let k = c.loop-request.request-index in
    let f = out_at c.args.at in
    let within : k < length rs = omega arith in
    record {
      is =
          c.in_ok-push.ensures.items ∙ ap (λ ys. ys ++ c.out_at.result ∷ []) c.loop-request.invariant.is ∙ append_assoc out (map f (take k rs)) (c.out_at.result ∷ [])
          ∙ ap (λ ys. out ++ ys) (ap (λ y. map f (take k rs) ++ y ∷ []) c.out_at.ensures.value ∙ sym (map_more f rs k _ within));
      bounds = subst (All WentOutAtReading) (sym c.in_ok-push.ensures.items) (All-push WentOutAtReading c.loop-request.all.items c.out_at.result c.loop-request.invariant.bounds c.out_at.ensures.bounds);
    }

pub returns-clause-value : goal.returns-clause-value
returns-clause-value c = c.loop-request.invariant.is ∙ ap (λ rs. c.args.out.now ++ map (out_at c.args.at) rs) (take_all c.loop-request.request-index c.args.requests.now (omega arith))
