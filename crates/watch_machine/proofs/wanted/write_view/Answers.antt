-- Each entry is written as it is seen, after those before it; in the end that is the view.
use Rattle.std.proofs.Common.{◌<◌, length, arith}
use Rattle.watch_machine.specs.Wanted.{seen_entry}
use Rattle.watch_machine.proofs.View.{view_written, written_more}
use Rattle.watch_machine.proofs.wanted.write_view.Goals as goal

pub loop-index-preserved : goal.loop-index-preserved
loop-index-preserved c =
    let n = c.loop-index.index in
    let es = c.loop-index.view.entries in
    let within : n < length es = omega (arith, c.len-index-end.ensures.value, c.loop-index.invariant.view.count) in
    record {
      view = c.write_seen.ensures.view;
      written = written_more (seen_entry c.args.forest.now.entries c.args.tracks.now c.args.clocks) es c.write_seen.new.view.entries n within c.write_seen.ensures.written c.loop-index.invariant.written;
    }

pub returns-clause-written : goal.returns-clause-written
returns-clause-written c =
    view_written c.args.forest.now.entries c.args.tracks.now c.args.clocks c.loop-index.view.entries c.loop-index.invariant.view.count
    (λ k within. c.loop-index.invariant.written k (omega (arith, c.len-index-end.ensures.value)))
