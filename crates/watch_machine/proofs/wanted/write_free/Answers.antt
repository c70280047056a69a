-- Each need is written as it is on this clock, after those before it.
use Rattle.std.proofs.Common.{◌∙◌, ◌<◌, length, refl, ap, arith}
use Rattle.plan_forest.specs.{declared.entry.Entry.Entry, Forest.Forest, Forest.entry_at}
use Rattle.plan_forest.proofs.Placed.{read_range}
use Rattle.watch_machine.specs.Wanted.{need_here}
use Rattle.watch_machine.proofs.{Needed.need_written, View.view_set}
use Rattle.watch_machine.proofs.wanted.write_free.Goals as goal

pub need_here-need-requires-clause-need : goal.need_here-need-requires-clause-need
need_here-need-requires-clause-need c =
    (read_range c.args.forest.now c.get.ensures.sound c.loop-index.index c.get.result.now (omega (arith, c.len-index-end.ensures.value)) c.get.ensures.value).need

pub loop-index-preserved : goal.loop-index-preserved
loop-index-preserved c =
    let g = c.args.forest.now in
    let k = c.args.clocks in
    let v = c.loop-index.view in
    let n = c.loop-index.index in
    let within : n < length v.entries = omega (arith, c.len-index-end.ensures.value, c.loop-index.invariant.view.count) in
    record {
      view = view_set v c.set_need.new.self g n _ c.set_need.ensures refl c.loop-index.invariant.view;
      written = need_written (λ i. need_here k (entry_at g.entries i).need) v.entries c.set_need.new.self.entries n _ within (ap (λ (f : Forest). f.entries) c.set_need.ensures)
          (c.moment_at.ensures ∙ c.need_here-need.ensures.value ∙ ap (λ (e : Entry). need_here k e.need) c.get.ensures.value) c.loop-index.invariant.written;
    }
