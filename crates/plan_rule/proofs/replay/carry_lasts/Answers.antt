-- One entry more lasts until its own end, or until its parent no longer lasts where that comes sooner.
use Rattle.std.proofs.Common.{ℕ, ◌<◌, ◌∙◌, ap, arith, length, subst, sym, ◌+◌, set}
use Rattle.plan_forest.specs.declared.entry.Entry.{Entry}
use Rattle.plan_forest.proofs.Placed.{parents_first}
use Rattle.plan_rule.specs.code.Replay.{shown_ends}
use Rattle.plan_rule.proofs.{Rounds.LastsBelow, Rounds.lasts_child, Rounds.lasts_root, replay.carry_lasts.Goals.in-None, replay.carry_lasts.Goals.in-Some}
use Rattle.plan_rule.proofs.replay.carry_lasts.Goals as goal

pub loop-index-preserved : goal.loop-index-preserved
loop-index-preserved c =
    let es = c.args.forest.now.entries in
    let ends = c.args.ends.now in
    let i = c.loop-index.index in
    let there : i < length c.loop-index.lasts = omega arith in
    let Goal : ℕ → Type 0 = λ v. LastsBelow es (shown_ends ends) (set c.loop-index.lasts i v) (i + 1) in
    elim c.match-get.branch [
      | in-None w ↦ subst Goal (sym w.lasts-is) (lasts_root es ends c.loop-index.lasts i there (sym (ap (λ (e : Entry). e.parent) c.get.ensures.value) ∙ w.in-None.is) c.loop-index.invariant)
      | in-Some w ↦ subst Goal (sym (w.lasts-is ∙ w.min.ensures))
          (lasts_child es ends c.loop-index.lasts i w.in-Some.parent there (parents_first c.args.forest.now c.get.ensures.sound) (sym (ap (λ (e : Entry). e.parent) c.get.ensures.value) ∙ w.in-Some.is) c.loop-index.invariant)
    ]
