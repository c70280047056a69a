-- With one entry more, the room is the lesser of that before and three quarters of the entry's step.
use Rattle.std.proofs.Common.{◌≡◌, ◌*◌, ◌/◌, ◌<◌, length, drop, min, arith, ap, ◌∙◌}
use Rattle.plan_forest.specs.{declared.entry.Entry.Entry, Forest.entry_at}
use Rattle.plan_spread.proofs.Rooms.{next, none_left, small}
use Rattle.plan_spread.specs.Margins.{room_of}
use Rattle.plan_spread.proofs.margin.room_of.Goals as goal

pub loop-index-init : goal.loop-index-init
loop-index-init c = let most = small c.args.forest.now.entries in (omega (arith, most), omega arith)

pub loop-index-preserved : goal.loop-index-preserved
loop-index-preserved c =
    let es = c.args.forest.now.entries in
    let within : c.loop-index.index < length es = omega (arith, c.len-index-end.ensures.value) in
    let step : c.from-step.result ≡ (entry_at es c.loop-index.index).step = c.from-step.ensures ∙ ap (λ (e : Entry). e.step) c.get.ensures.value in
    let wider = next es c.loop-index.index within in
    let so_far = c.loop-index.invariant.0 in
    let most = c.loop-index.invariant.1 in
    let least : c.min-room.result ≡ min c.loop-index.room ((entry_at es c.loop-index.index).step * 3 / 4) = c.min-room.ensures ∙ ap (λ s. min c.loop-index.room (s * 3 / 4)) step in
    (omega (arith, wider, so_far, least), omega (arith, most, least))

pub returns-clause-room : goal.returns-clause-room
returns-clause-room c =
    let es = c.args.forest.now.entries in
    let at_end : c.loop-index.index ≡ length es = omega arith in
    let none = ap (λ k. room_of (drop k es)) at_end ∙ none_left es in
    let so_far = c.loop-index.invariant.0 in
    let most = c.loop-index.invariant.1 in
    omega (arith, so_far, most, none)
