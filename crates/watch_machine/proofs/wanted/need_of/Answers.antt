-- Each need that counts is compared with the greatest one before it; in the end that is the need of the definition.
use Rattle.std.proofs.Common.{◌≡◌, ◌∙◌, ◌<◌, length, refl, sym, ap, arith}
use Rattle.std.proofs.lemmas.List.{get_or_default}
use Rattle.plan_forest.specs.Carried.{carried_of}
use Rattle.watch_machine.specs.Clocks.{sec}
use Rattle.watch_machine.specs.State.{has_last_try, no_track, track_in}
use Rattle.watch_machine.proofs.Needed.{counted, counted_all, counted_more, counted_need}
use Rattle.watch_machine.proofs.wanted.need_of.Goals as goal

pub loop-below-init : goal.loop-below-init
unfolding carried_of
loop-below-init c = refl

pub loop-below-preserved : goal.loop-below-preserved
loop-below-preserved c =
    let es = c.args.forest.now.entries in
    let xs = c.args.tracks.now in
    let free = c.has_last_try-is_free.result in
    let n = c.loop-below.below in
    let within : n < length es = omega (arith, c.len-below-end.ensures.value) in
    c.carry_more-most.ensures
    ∙ counted_more es xs c.args.clocks free c.moment_at-now.result c.args.index n c.loop-below.most c.need_seen-need.result c.is_over-is_over.result within c.loop-below.invariant c.is_over-is_over.ensures
    (c.need_seen-need.ensures ∙ sym (counted_need es xs c.args.clocks free n))

pub returns : goal.returns
returns c =
    let es = c.args.forest.now.entries in
    let xs = c.args.tracks.now in
    let k = c.args.clocks in
    let i = c.args.index in
    let free = c.has_last_try-is_free.result in
    let last : free ≡ has_last_try (track_in xs i) =
    c.has_last_try-is_free.ensures ∙ ap has_last_try (get_or_default xs i _ no_track (omega (arith, c.requires.within, c.requires.count))) in
    let all : c.loop-below.below ≡ length es = omega (arith, c.len-below-end.ensures.value) in
    let at : c.moment_at-now.result ≡ sec k.at = c.moment_at-now.ensures ∙ c.second.ensures.value in
    c.loop-below.invariant ∙ ap (carried_of (counted es xs k free) c.moment_at-now.result i) all ∙ ap (λ t. carried_of (counted es xs k free) t i (length es)) at
    ∙ counted_all es xs k free i last
