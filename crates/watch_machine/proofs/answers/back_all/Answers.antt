-- Each track is made anew after those before it, and in the end all are.
use Rattle.std.proofs.Common.{◌∙◌, ◌<◌, ap, arith, length, refl}
use Rattle.std.proofs.lemmas.List.Elements.{All-set}
use Rattle.watch_machine.specs.{Answers.back_track, code.Bounds.IsTrack}
use Rattle.watch_machine.proofs.Written.{written_all, written_more, written_none, written_read}
use Rattle.watch_machine.proofs.answers.back_all.Goals as goal

pub loop-index-init : goal.loop-index-init
loop-index-init c = record { written = written_none (λ i. back_track) c.args.tracks.now; bounds = c.requires }

pub loop-index-preserved : goal.loop-index-preserved
loop-index-preserved c =
    let old = c.args.tracks.now in
    let now = c.loop-index.tracks in
    let k = c.loop-index.index in
    let so = c.loop-index.invariant.written in
    let within : k < length old = (let count = so.count in omega (arith, count)) in
    record {
      written = written_more (λ i. back_track) old now _ k c.back.result so within refl (c.back.ensures.value ∙ ap back_track (written_read _ old now k _ so within));
      bounds = All-set IsTrack now k c.back.result c.back.ensures.bounds c.loop-index.invariant.bounds;
    }

pub returns-clause-value : goal.returns-clause-value
returns-clause-value c =
    let so = c.loop-index.invariant.written in
    written_all (λ i. back_track) c.args.tracks.now c.loop-index.tracks c.loop-index.index so (let count = so.count in omega (arith, count))
