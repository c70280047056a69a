-- An entry that can be renewed has the end of its renewals, and one that cannot keeps its own.
use Rattle.std.proofs.Common.{◌∙◌, ap, sym}
use Rattle.plan_forest.specs.{declared.entry.Entry.Entry, Forest.end_of, Forest.entry_at}
use Rattle.plan_rule.specs.Runs.{all_wakes, moments_of}
use Rattle.plan_check.specs.Kept.{own, own_end}
use Rattle.plan_check.proofs.OwnEnds.{own_all_fixed}
use Rattle.plan_check.proofs.kept.own_end.Goals as goal

pub returns-then-entry : goal.returns-then-entry
unfolding own end_of
returns-then-entry c =
    let e = entry_at c.args.forest.now.entries c.args.index in
    let ts = moments_of (all_wakes c.args.rising.now.runs) in
    c.renewed_end.ensures ∙ ap (λ (x : Entry). own_end x c.margin.result x.end ts) c.get-entry.ensures.value ∙ ap (λ m. own_end e m e.end ts) c.margin.ensures

pub returns-else-entry : goal.returns-else-entry
unfolding own end_of
returns-else-entry c =
    let g = c.args.forest.now in
    let e = entry_at g.entries c.args.index in
    let fixed = sym (ap (λ (x : Entry). x.renewable) c.get-entry.ensures.value) ∙ c.if-entry.false in
    ap (λ (x : Entry). x.end) c.get-entry.ensures.value ∙ sym (own_all_fixed e g.margin e.end (moments_of (all_wakes c.args.rising.now.runs)) fixed)
