-- The least reach over an entry is the least of its own and of that over its parent.
use Rattle.std.proofs.Common.{◌≡◌, ◌∙◌, None, Some, map, sym, ap, subst}
use Rattle.plan_forest.specs.{declared.entry.Entry.Entry, Forest.entry_at, Over.chain}
use Rattle.plan_forest.proofs.{Chains.ParentsFirst, Placed.parents_first}
use Rattle.watch_machine.specs.{Shortness.own_reach, State.WatchState, Wanted.least}
use Rattle.watch_machine.proofs.Reaching.{least_child, least_root}
use Rattle.watch_machine.proofs.watch.Watch.+least_reach.Goals as goal

pub returns-in-None : goal.returns-in-None
returns-in-None t c =
    let now = c.args.self.now in
    let i = c.args.index in
    let es = now.forest.entries in
    let entry : c.get.result.now ≡ entry_at es i = c.get.ensures.value ∙ ap (λ (s : WatchState). entry_at s.forest.entries i) c.self.view_is in
    let root : (entry_at es i).parent ≡ None = sym (ap (λ (e : Entry). e.parent) entry) ∙ c.in-None.is in
    c.min-least.ensures ∙ least_root es i (own_reach now) c.args.above c.own_reach.result root c.own_reach.ensures

pub returns-in-Some : goal.returns-in-Some
returns-in-Some t c =
    let now = c.args.self.now in
    let i = c.args.index in
    let p = c.in-Some.parent in
    let es = now.forest.entries in
    let entry : c.get.result.now ≡ entry_at es i = c.get.ensures.value ∙ ap (λ (s : WatchState). entry_at s.forest.entries i) c.self.view_is in
    let child : (entry_at es i).parent ≡ Some p = sym (ap (λ (e : Entry). e.parent) entry) ∙ c.in-Some.is in
    let first : ParentsFirst es = subst (λ (s : WatchState). ParentsFirst s.forest.entries) c.self.view_is (parents_first c.self.inside.forest c.get.ensures.sound) in
    c.least_reach.ensures ∙ ap (λ n. least n (map (own_reach now) (chain es p))) c.min-least.ensures
    ∙ least_child es i (own_reach now) c.args.above c.own_reach.result p first child c.own_reach.ensures
