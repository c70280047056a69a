-- What is sorted is in order by part, rank and index.
use Rattle.std.proofs.Common.{◌+◌, ◌∙◌, get_or, sym}
use Rattle.watch_machine.proofs.InLine.{before_is}
use Rattle.watch_machine.proofs.sending.in_order.Goals as goal

pub returns-clause-sorted : goal.returns-clause-sorted
returns-clause-sorted c = λ k d from within.
    let ps = c.sort_unstable.new.self.items in
    sym (before_is (get_or ps (k + 1) d) (get_or ps k d)) ∙ c.sort_unstable.ensures.sorted k d from within
