-- One gap more is listed, and in the end the gaps of all runs are.
use Rattle.std.proofs.Common.{◌∙◌, ◌+◌, ◌++◌, List, [], ◌∷◌, ℕ, ap, append_assoc, arith, drop, sym}
use Rattle.std.proofs.lemmas.List.{drop_more}
use Rattle.plan_rule.specs.declared.run.Run.{Run}
use Rattle.plan_check.specs.code.Gaps.{first_gap, gaps_of}
use Rattle.plan_check.proofs.OwnRuns.{blank}
use Rattle.plan_check.proofs.gap_tree.GapTree.over.Goals as goal

pub loop-at-preserved : goal.loop-at-preserved
loop-at-preserved c =
    let runs = c.args.runs.now in
    let l = c.loop-at in
    let rest = gaps_of (drop (l.at + 1) runs) in
    let same = drop_more runs l.at blank (omega arith) in
    ap (λ (gs : List ℕ). gs ++ rest) c.in_ok-push.ensures.items
    ∙ append_assoc l.gaps.items (c.gap_at.result ∷ []) rest
    ∙ ap (λ g. l.gaps.items ++ g ∷ rest) (c.gap_at.ensures ∙ ap first_gap same)
    ∙ sym (ap (λ (rs : List Run). l.gaps.items ++ gaps_of rs) same)
    ∙ l.invariant
