-- It is found where it stands, or stands further on, or at no place.
use Rattle.std.proofs.Common.{◌≡◌, ◌∙◌, ◌==◌, ◌+◌, true, false, ap, arith, drop, get_or, sym}
use Rattle.std.proofs.lemmas.{Bool.Decides.nat_tests, List.drop_all}
use Rattle.vault_lanes.specs.Out.{index_in}
use Rattle.vault_lanes.proofs.Renamed.{in_both, in_front, in_no_first, in_no_second, in_rest}
use Rattle.vault_lanes.proofs.seats.index_in.Goals as goal

pub returns-then-from-place : goal.returns-then-from-place
returns-then-from-place c =
    let from = c.args.from.now in
    let to = c.args.to.now in
    let k = c.loop-place.place in
    let same : get_or from k 0 ≡ c.args.index = c.if-from-place.true in
    let here : (get_or from k 0 == c.args.index) ≡ true = grind (arith, nat_tests) in
    sym (c.loop-place.invariant.is ∙ in_both from to k c.args.index c.loop-place-test.true c.if-place-to.true ∙ in_front (get_or from k 0) (get_or to k 0) (drop (k + 1) from) (drop (k + 1) to) c.args.index here)

pub loop-place-preserved : goal.loop-place-preserved
loop-place-preserved c =
    let from = c.args.from.now in
    let to = c.args.to.now in
    let k = c.loop-place.place in
    let apart = c.if-from-place.false in
    let other : (get_or from k 0 == c.args.index) ≡ false = grind (arith, nat_tests) in
    record {
      is = c.loop-place.invariant.is ∙ in_both from to k c.args.index c.loop-place-test.true c.if-place-to.true ∙ in_rest (get_or from k 0) (get_or to k 0) (drop (k + 1) from) (drop (k + 1) to) c.args.index other;
      within = omega (arith, c.loop-place-test.true);
    }

pub returns-else-place-to : goal.returns-else-place-to
returns-else-place-to c =
    let rest = drop c.loop-place.place c.args.from.now in
    sym (c.loop-place.invariant.is ∙ ap (λ ys. index_in rest ys c.args.index) (drop_all c.loop-place.place c.args.to.now c.if-place-to.false) ∙ in_no_second rest c.args.index)

pub returns-after-loop-place : goal.returns-after-loop-place
returns-after-loop-place c =
    let rest = drop c.loop-place.place c.args.to.now in
    sym (c.loop-place.invariant.is ∙ ap (λ xs. index_in xs rest c.args.index) (drop_all c.loop-place.place c.args.from.now c.loop-place-test.false) ∙ in_no_first rest c.args.index)
