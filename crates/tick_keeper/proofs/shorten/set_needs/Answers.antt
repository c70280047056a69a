-- One need more is set, and after the last each entry has the one at its index.
use Rattle.std.proofs.Common.{◌≡◌, ◌∙◌, ap, arith, get_or, length, set}
use Rattle.std.proofs.lemmas.List.{get_or_read}
use Rattle.plan_forest.specs.Forest.{Forest, entry_at}
use Rattle.tick_keeper.specs.code.Passes.{so_far}
use Rattle.tick_keeper.proofs.Needing.{length_needing}
use Rattle.tick_keeper.proofs.Passing.{all_set, none_set, one_set}
use Rattle.tick_keeper.proofs.shorten.set_needs.Goals as goal

pub loop-index-init : goal.loop-index-init
loop-index-init c = let g = c.args.forest.now in ap (λ es. record { entries = es; margin = g.margin }) (none_set g.entries c.args.needs.now)

pub set_need-requires : goal.set_need-requires
set_need-requires c =
    let g = c.args.forest.now in
    let same = ap (λ (h : Forest). length h.entries) c.loop-index.invariant in
    let size = length_needing g.entries (so_far g.entries c.args.needs.now c.loop-index.index) in
    omega (arith, c.len-index-end.ensures.value)

pub loop-index-preserved : goal.loop-index-preserved
loop-index-preserved c =
    let g = c.args.forest.now in
    let needs = c.args.needs.now in
    let i = c.loop-index.index in
    let next : Forest → Forest = λ h. record { entries = set h.entries i (record (entry_at h.entries i) { need = get_or needs i 0 }); margin = h.margin } in
    let read : c.index-needs-index.result ≡ get_or needs i 0 =
    get_or_read needs i c.index-needs-index.result (omega (arith, c.len-index-end.ensures.value, c.requires)) c.index-needs-index.is 0 in
    c.set_need.ensures ∙ ap (λ n. record { entries = set c.loop-index.forest.entries i (record (entry_at c.loop-index.forest.entries i) { need = n }); margin = c.loop-index.forest.margin }) read ∙ ap next c.loop-index.invariant ∙ ap (λ es. record { entries = es; margin = g.margin }) (one_set g.entries needs i (omega (arith, c.len-index-end.ensures.value)))

pub returns : goal.returns
returns c =
    let g = c.args.forest.now in
    c.loop-index.invariant ∙ ap (λ es. record { entries = es; margin = g.margin }) (all_set g.entries c.args.needs.now c.loop-index.index (omega (arith, c.len-index-end.ensures.value)))
