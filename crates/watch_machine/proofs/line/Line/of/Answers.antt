-- What is found of the entries is a line.
use Rattle.std.proofs.Common.{◌∙◌, ℕ, ap, arith, refl}
use Rattle.watch_machine.specs.{declared.lull.TheConstants.NEVER, Lines.is_due, State.track_in, code.View.need_at}
use Rattle.watch_machine.specs.code.Line.{calm, first_left, left_by}
use Rattle.watch_machine.proofs.LineMade.{line_by}
use Rattle.watch_machine.proofs.line.Line.of.Goals as goal

pub returns : goal.returns
returns c = λ has order known.
    let g = c.args.forest.now in
    let xs = c.args.tracks.now in
    let p = calm c.args.presence in
    let at = c.args.clocks.at in
    let count = c.len.ensures.value in
    let needs = c.args.needs.now in
    let two = c.is_kept-known.ensures known in
    let least = c.min-lasting.ensures in
    let found : ℕ → ℕ = λ i. (need_at needs i) in
    line_by g xs c.args.clocks p needs
    (record { known = c.is_kept-known.result; places = c.args.places; from = c.args.from; clocks = c.args.clocks; next = c.first_left-next.result; beyond = c.first_beyond-beyond.result; lasting = c.min-lasting.result })
    refl c.second.result c.second.ensures.value has order (c.first_left-next.ensures ∙ ap (λ q. first_left NEVER g xs found q at) c.calm-calm.ensures)
    (λ i within due.
    let low = c.first_beyond-beyond.ensures i within (ap (λ q. is_due q at (track_in xs i)) c.calm-calm.ensures ∙ due) in
    let e = ap (λ q. left_by g xs found q at i) c.calm-calm.ensures in
    omega (arith, low, e))
    (λ i within some. let low = c.first_past-past.ensures.need i (omega (arith, within, count)) some in omega (arith, least, low))
    (λ i within living. let low = c.first_past-past.ensures.end i (omega (arith, within, count)) living in omega (arith, least, low))
    (λ i within due yet. let low = c.first_coming-coming.ensures i within (ap (λ q. is_due q at (track_in xs i)) c.calm-calm.ensures ∙ due) yet in omega (arith, least, low))
    two.0 two.1
