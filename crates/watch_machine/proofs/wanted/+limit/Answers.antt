-- The limit of an entry is the least of its own and of those over it.
use Rattle.std.proofs.Common.{◌≡◌, ◌∙◌, arith, None, Some, if◌then◌else◌, min, sym, ap}
use Rattle.std.proofs.lemmas.List.{get_or_default}
use Rattle.plan_forest.specs.Forest.{entry_at}
use Rattle.plan_forest.proofs.Placed.{parents_first}
use Rattle.watch_machine.specs.{State.no_track, Wanted.believed, Wanted.is_fixed}
use Rattle.watch_machine.proofs.View.{limit_child, limit_root}
use Rattle.watch_machine.proofs.wanted.+limit.Goals as goal

pub returns-in-None : goal.returns-in-None
returns-in-None t c =
    let es = c.args.forest.now.entries in
    let xs = c.args.tracks.now in
    let i = c.args.index in
    let above = c.args.above in
    let root : (entry_at es i).parent ≡ None = sym (ap (λ e. e.parent) c.get.ensures.value) ∙ c.in-None.is in
    limit_root es xs above i c.limited-least.result root
    (c.limited-least.ensures ∙ ap (λ x. if is_fixed x then min above (believed x.end) else above) (get_or_default xs i _ no_track (omega arith)))

pub returns-in-Some : goal.returns-in-Some
returns-in-Some t c =
    let es = c.args.forest.now.entries in
    let xs = c.args.tracks.now in
    let i = c.args.index in
    let above = c.args.above in
    let p = c.in-Some.parent in
    let child : (entry_at es i).parent ≡ Some p = sym (ap (λ e. e.parent) c.get.ensures.value) ∙ c.in-Some.is in
    c.limit.ensures
    ∙ limit_child es xs above i p c.limited-least.result (parents_first c.args.forest.now c.get.ensures.sound) child
    (c.limited-least.ensures ∙ ap (λ x. if is_fixed x then min above (believed x.end) else above) (get_or_default xs i _ no_track (omega arith)))
