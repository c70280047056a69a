-- One entry more comes up: its lookup goes out, or all goes on from the next one.
use Rattle.std.proofs.Common.{◌≡◌, ◌∙◌, ◌+◌, ◌-◌, ◌<◌, true, false, ap, arith, length, refl, sym}
use Rattle.plan_forest.specs.Forest.{Forest}
use Rattle.watch_scout.specs.State.{ScoutState}
use Rattle.watch_scout.specs.Looking.{Found, came_up, first_from, goes_out}
use Rattle.watch_scout.proofs.Coming.{all_seen, first_goes, next_comes, none_out, same_width}
use Rattle.watch_scout.proofs.scout.Scout.first_from.Goals as goal

pub loop-index-init : goal.loop-index-init
loop-index-init c = record { rest = refl; count = c.requires.count; free = c.requires.free }

pub comes_up-requires-clause-within : goal.comes_up-requires-clause-within
comes_up-requires-clause-within c =
    let count : c.len-index-end.result ≡ length c.args.watch.now.forest.entries = c.len-index-end.ensures.value ∙ ap (λ (g : Forest). length g.entries) c.forest.ensures in
    omega (arith, count)

pub comes_up-requires-clause-count : goal.comes_up-requires-clause-count
comes_up-requires-clause-count c = c.loop-index.invariant.count

pub comes_up-requires-clause-free : goal.comes_up-requires-clause-free
comes_up-requires-clause-free c = c.loop-index.invariant.free

pub loop-index-preserved : goal.loop-index-preserved
loop-index-preserved c =
    let w = c.args.watch.now in
    let s = c.loop-index.self in
    let k = c.loop-index.index in
    let n = length w.forest.entries in
    let count : c.len-index-end.result ≡ n = c.len-index-end.ensures.value ∙ ap (λ (g : Forest). length g.entries) c.forest.ensures in
    let within : k < n = omega (arith, count) in
    let stays : goes_out s w k ≡ false = sym c.comes_up.ensures.goes ∙ c.if-comes_up.false in
    let state : c.comes_up.new.self ≡ came_up s w k = c.comes_up.ensures.state in
    let free = c.loop-index.invariant.free in
    let out = ap (λ (t : ScoutState). t.out) state in
    let wide = ap (λ (t : ScoutState). t.width) state in
    let out' = none_out s w k stays in
    let wide' = same_width s w k in
    record {
      rest = ap (first_from w (k + 1) (n - (k + 1))) state ∙ sym (next_comes w k n s within stays) ∙ c.loop-index.invariant.rest;
      count = ap (λ (t : ScoutState). length t.seen) state ∙ all_seen s w k ∙ c.loop-index.invariant.count;
      free = omega (arith, free, out, wide, out', wide');
    }

pub returns-then-comes_up-clause-entry : goal.returns-then-comes_up-clause-entry
returns-then-comes_up-clause-entry c =
    let w = c.args.watch.now in
    let s = c.loop-index.self in
    let k = c.loop-index.index in
    let n = length w.forest.entries in
    let count : c.len-index-end.result ≡ n = c.len-index-end.ensures.value ∙ ap (λ (g : Forest). length g.entries) c.forest.ensures in
    let within : k < n = omega (arith, count) in
    let goes : goes_out s w k ≡ true = sym c.comes_up.ensures.goes ∙ c.if-comes_up.true in
    sym (ap (λ (f : Found). f.entry) (sym c.loop-index.invariant.rest ∙ first_goes w k n s within goes))

pub returns-then-comes_up-clause-state : goal.returns-then-comes_up-clause-state
returns-then-comes_up-clause-state c =
    let w = c.args.watch.now in
    let s = c.loop-index.self in
    let k = c.loop-index.index in
    let n = length w.forest.entries in
    let count : c.len-index-end.result ≡ n = c.len-index-end.ensures.value ∙ ap (λ (g : Forest). length g.entries) c.forest.ensures in
    let within : k < n = omega (arith, count) in
    let goes : goes_out s w k ≡ true = sym c.comes_up.ensures.goes ∙ c.if-comes_up.true in
    c.comes_up.ensures.state ∙ sym (ap (λ (f : Found). f.state) (sym c.loop-index.invariant.rest ∙ first_goes w k n s within goes))

pub returns-then-comes_up-clause-within : goal.returns-then-comes_up-clause-within
returns-then-comes_up-clause-within c =
    let count : c.len-index-end.result ≡ length c.args.watch.now.forest.entries = c.len-index-end.ensures.value ∙ ap (λ (g : Forest). length g.entries) c.forest.ensures in
    omega (arith, count)

pub returns-clause-entry : goal.returns-clause-entry
returns-clause-entry c =
    let w = c.args.watch.now in
    let s = c.loop-index.self in
    let k = c.loop-index.index in
    let count : c.len-index-end.result ≡ length w.forest.entries = c.len-index-end.ensures.value ∙ ap (λ (g : Forest). length g.entries) c.forest.ensures in
    sym (ap (λ (f : Found). f.entry) (sym c.loop-index.invariant.rest ∙ ap (λ m. first_from w k m s) (let e : length w.forest.entries - k ≡ 0 = omega (arith, count) in e)))

pub returns-clause-state : goal.returns-clause-state
returns-clause-state c =
    let w = c.args.watch.now in
    let s = c.loop-index.self in
    let k = c.loop-index.index in
    let count : c.len-index-end.result ≡ length w.forest.entries = c.len-index-end.ensures.value ∙ ap (λ (g : Forest). length g.entries) c.forest.ensures in
    sym (ap (λ (f : Found). f.state) (sym c.loop-index.invariant.rest ∙ ap (λ m. first_from w k m s) (let e : length w.forest.entries - k ≡ 0 = omega (arith, count) in e)))
