-- The end that a renewal leaves is within the range of ends.
use Rattle.std.proofs.Common.{◌<◌, ◌≤◌, ◌^◌, subst, sym}
use Rattle.plan_forest.specs.{declared.entry.Entry.Entry, declared.forest.TheConstants.END_MAX, Forest.entry_at}
use Rattle.plan_commands.proofs.Renewals.{renewed_within}
use Rattle.plan_commands.proofs.renewed.renewed_end.Goals as goal

pub returns-clause-within : goal.returns-clause-within
returns-clause-within c =
    let g = c.args.forest.now in
    let small : (entry_at g.entries c.args.index).step < 2 ^ 32 = subst (λ (e : Entry). e.step < 2 ^ 32) c.get.ensures.value c.are_in_range.ensures.span in
    subst (λ n. n ≤ END_MAX) (sym c.granted_end.ensures) (renewed_within g c.get.ensures.sound c.args.at c.args.index c.are_in_range.ensures.moment c.requires small)
