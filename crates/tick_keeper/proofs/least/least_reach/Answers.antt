-- The least reach over a root is its own, and over a child the lesser of its own and its parent's.
use Rattle.std.proofs.Common.{◌≡◌, ◌∙◌, Some, ap, sym}
use Rattle.plan_forest.specs.{declared.entry.Entry.Entry, Forest.entry_at}
use Rattle.plan_forest.proofs.Placed.{parents_first}
use Rattle.tick_keeper.specs.Shorten.{least_reach, lesser}
use Rattle.tick_keeper.proofs.Passing.{least_child, least_root}
use Rattle.tick_keeper.proofs.least.least_reach.Goals as goal

pub returns-in-None : goal.returns-in-None
returns-in-None c =
    let g = c.args.forest.now in
    c.reach-own.ensures ∙ sym (least_root g c.args.at c.args.index (sym (ap (λ (e : Entry). e.parent) c.get.ensures.value) ∙ c.in-None.is))

pub returns-in-Some : goal.returns-in-Some
returns-in-Some c =
    let g = c.args.forest.now in
    let p = c.in-Some.parent in
    let child : (entry_at g.entries c.args.index).parent ≡ Some p = sym (ap (λ (e : Entry). e.parent) c.get.ensures.value) ∙ c.in-Some.is in
    let first = parents_first g c.get.ensures.sound in
    c.lesser.ensures ∙ ap (lesser c.reach-own.result) (c.requires.before.each p (first c.args.index p child)) ∙ ap (λ o. lesser o (least_reach g c.args.at p)) c.reach-own.ensures
    ∙ sym (least_child g c.args.at c.args.index p first child)
