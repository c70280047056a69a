-- What the entries would carry with no limit at all is carried by the view in which their needs are written so.
use Rattle.std.proofs.Common.{◌≡◌, ◌∙◌, subst, sym}
use Rattle.plan_needs.specs.Carried.{IsCarried}
use Rattle.watch_machine.specs.Clocks.{sec}
use Rattle.watch_machine.proofs.Needed.{is_free}
use Rattle.watch_machine.proofs.needs.free_needs.Goals as goal

pub returns-then-not-is_any_last-clause-free : goal.returns-then-not-is_any_last-clause-free
returns-then-not-is_any_last-clause-free c = sym c.is_any_last.ensures ∙ c.if-not-is_any_last.true

pub returns-clause-free : goal.returns-clause-free
returns-clause-free c =
    let g = c.args.forest.now in
    let k = c.args.clocks in
    let v = c.write_free.new.view in
    let free = c.in_ok-carry.field-0 in
    let at : c.moment_at.result ≡ sec k.at = c.moment_at.ensures ∙ c.second.ensures.value in
    is_free v g k c.write_free.ensures.view c.write_free.ensures.written c.args.tracks.now free (subst (λ t. IsCarried v t free) at c.in_ok-carry.ensures)
