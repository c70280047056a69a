-- No credential at first, and then one more.
use Rattle.std.proofs.Common.{◌∙◌, ap, sym}
use Rattle.state_changes.specs.declared.row.Row.{Row}
use Rattle.state_changes.proofs.Seen.{seen_next, seen_none}
use Rattle.state_changes.proofs.index.credentials_of.Goals as goal

pub loop-place-init : goal.loop-place-init
loop-place-init c = seen_none c.new-credentials.result

pub loop-place-preserved : goal.loop-place-preserved
loop-place-preserved c =
    seen_next c.loop-place.credentials c.insert.new.self c.in_ok-credential.credential c.loop-place.place c.args.rows.now c.loop-place.place c.index-rows-place.result
    c.in_ok-insert.ensures.updates (c.in_ok-credential.ensures.items ∙ c.list.ensures ∙ ap (λ (r : Row). r.credential) (sym c.index-rows-place.is)) c.loop-place-test.true c.index-rows-place.is c.loop-place.invariant
