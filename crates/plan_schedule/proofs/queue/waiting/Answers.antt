-- One entry more is filed in the line where it ends before the need that it carries, and left out otherwise.
use Rattle.std.proofs.Common.{◌+◌, ◌∷◌, subst, sym, arith}
use Rattle.std.proofs.lemmas.List.Sorted.{length_permutation}
use Rattle.std.specs.List.Sorted.{IsPermutation}
use Rattle.plan_schedule.specs.{code.Line.spot, Prospect.terms_of, code.Queueing.FillsLine}
use Rattle.plan_schedule.proofs.{Queueing.fills_added, Queueing.fills_kept, queue.waiting.Goals.else-end-need, queue.waiting.Goals.then-end-need}
use Rattle.plan_schedule.proofs.queue.waiting.Goals as goal

pub loop-index-preserved : goal.loop-index-preserved
loop-index-preserved c =
    let o = c.args.outlook.now in
    let t = terms_of o in
    let k = c.loop-index.index in
    elim c.if-end-need.branch [
      | then-end-need w ↦ subst (λ l. FillsLine o (k + 1) l) (sym w.line-is) (
          let added = subst (λ e. IsPermutation (spot e k ∷ c.loop-index.line.spots) w.add.new.self.spots) c.end-end.ensures.value w.add.ensures.spots in
          let longer = length_permutation (spot (t.end k) k ∷ c.loop-index.line.spots) w.add.new.self.spots added in
          fills_added o k c.loop-index.line w.add.new.self c.loop-index.invariant (omega arith) (omega arith) added w.add.ensures.room (omega arith))
      | else-end-need w ↦ subst (λ l. FillsLine o (k + 1) l) (sym w.line-is) (fills_kept o k c.loop-index.line c.loop-index.invariant (omega arith))
    ]
