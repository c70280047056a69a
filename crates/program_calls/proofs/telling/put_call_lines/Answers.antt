-- A reason that is told is the first of those to come; where the device gives up, a front of them is told.
use Rattle.std.proofs.Common.{◌≡◌, ◌∷◌, ◌∙◌, ◌+◌, [], List, ℕ, Ok, ap, arith, drop, refl, subst, sym}
use Rattle.std.proofs.KnownBytes.{Appends-nil}
use Rattle.std.proofs.lemmas.{Grind.common_steps, List.drop_more}
use Rattle.base_device.specs.Seen.{change}
use Rattle.program_report.proofs.Pieces.{handed_on, piece_cut, piece_more}
use Rattle.program_report.specs.Sent.{Puts}
use Rattle.program_calls.specs.Lines.{call_line, call_lines}
use Rattle.program_calls.proofs.telling.put_call_lines.Goals as goal

pub loop-why-preserved : goal.loop-why-preserved
loop-why-preserved g c r last puts =
    let at = c.loop-why.why-index in
    let call = c.args.call.now in
    let whys = c.args.whys.now in
    let why = c.why-item.result in
    let in_memory = g.E.Device.is_in_memory in
    let old = g.E.Device.seen c.loop-why.errors in
    let mid = g.E.Device.seen c.put_reason.new.errors in
    let e = drop_more whys at why c.loop-why-test.true ∙ ap (λ (y : List ℕ). y ∷ drop (at + 1) whys) (sym c.why-item.is) in
    c.loop-why.invariant r last
    (subst (λ (ws : List (List ℕ)). Puts r (call_lines call ws) (change in_memory old last)) (sym e) (piece_more r _ (call_line call why) (call_lines call (drop (at + 1) whys)) old mid last in_memory c.in_ok-put_reason.ensures puts))

pub returns-in_err-put_reason : goal.returns-in_err-put_reason
returns-in_err-put_reason g c =
    let at = c.loop-why.why-index in
    let call = c.args.call.now in
    let whys = c.args.whys.now in
    let why = c.why-item.result in
    let in_memory = g.E.Device.is_in_memory in
    let old = g.E.Device.seen c.loop-why.errors in
    let new = g.E.Device.seen c.put_reason.new.errors in
    let r = c.from_residual.result in
    let fault = c.in_err-put_reason.field-0.0 in
    let e = drop_more whys at why c.loop-why-test.true ∙ ap (λ (y : List ℕ). y ∷ drop (at + 1) whys) (sym c.why-item.is) in
    c.loop-why.invariant r new
    (subst (λ (ws : List (List ℕ)). Puts r (call_lines call ws) (change in_memory old new)) (sym e)
    (piece_cut r fault (call_line call why) (call_lines call (drop (at + 1) whys)) (change in_memory old new) (handed_on r fault c.from_residual.ensures) c.in_err-put_reason.ensures))

pub returns : goal.returns
returns g c =
    let call = c.args.call.now in
    let in_memory = g.E.Device.is_in_memory in
    let old = g.E.Device.seen c.loop-why.errors in
    let e : drop c.loop-why.why-index c.args.whys.now ≡ [] = grind (arith, common_steps) in
    c.loop-why.invariant (Ok tt) old (subst (λ (ws : List (List ℕ)). Puts (Ok tt) (call_lines call ws) (change in_memory old old)) (sym e) (Appends-nil _, refl))
