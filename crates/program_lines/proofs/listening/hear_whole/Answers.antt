-- Each line goes on from what was heard before it.
use Rattle.std.proofs.Common.{◌≡◌, ℕ, ◌+◌, ◌<◌, ◌≤◌, Result, Ok, Err, length, refl, subst, sym, arith, ◌∙◌}
use Rattle.std.specs.Result.{IfErr}
use Rattle.base_device.specs.Seen.{Change, change}
use Rattle.program_report.specs.declared.stop.Stop.{Stop}
use Rattle.base_words.specs.Pieces.{pieces}
use Rattle.program_lines.specs.code.LineByLine.{HaltsWithin, HearsUpTo}
use Rattle.program_lines.specs.Hearing.{EndsBetweenLines, HearsLine, counted_line, joined_changes}
use Rattle.program_lines.proofs.LineByLine.{behind_line, handed_on, heard_on, stopped_on}
use Rattle.program_lines.proofs.listening.hear_whole.Goals as goal

pub returns-in_err-hear-clause-halts : goal.returns-in_err-hear-clause-halts
returns-in_err-hear-clause-halts g c =
    let t = g.H.Hearer in
    let first = t.key c.args.hearer.now c.args.neighbours.now in
    let old = t.state c.args.hearer.now c.args.neighbours.now in
    let mid = t.state c.loop-line.hearer c.loop-line.neighbours in
    let new = t.state c.hear.new.self c.hear.new.neighbours in
    let a : Change = change g.W.Device.is_in_memory (g.W.Device.seen c.args.out.now) (g.W.Device.seen c.loop-line.out) in
    let b : Change = change g.W.Device.is_in_memory (g.W.Device.seen c.loop-line.out) (g.W.Device.seen c.hear.new.out) in
    let number : c.saturating_add.result ≡ counted_line (c.loop-line.count + 1) = (let n = c.saturating_add.ensures in omega (arith, n)) in
    let stop = c.in_err-hear.field-0.0 in
    let one : HearsLine t.State (t.hearing first) (counted_line (c.loop-line.count + 1)) mid c.in-Some.line.now (Err stop) new b =
    subst (λ k. HearsLine t.State (t.hearing k) (counted_line (c.loop-line.count + 1)) mid c.in-Some.line.now (Err stop) new b) c.loop-line.invariant.same
    (subst (λ n. HearsLine t.State (t.hearing (t.key c.loop-line.hearer c.loop-line.neighbours)) n mid c.in-Some.line.now (Err stop) new b) number c.in_err-hear.ensures.hears) in
    handed_on c.from_residual.result stop (λ (r : Result ℕ Stop). IfErr r (λ (s : Stop). HaltsWithin t.State (t.hearing first) c.args.count.now old c.args.bytes.now s new (joined_changes a b))) c.from_residual.ensures
    (stopped_on t.State (t.hearing first) (g.met.H.Hearer.stops_after first) c.args.count.now old c.args.bytes.now c.loop-line.rest.now c.in-Some.line.now c.in-Some.behind.now mid c.loop-line.count a b stop new refl c.loop-line.invariant.up_to c.in-Some.ensures one)

pub loop-line-preserved : goal.loop-line-preserved
loop-line-preserved g c =
    let t = g.H.Hearer in
    let first = t.key c.args.hearer.now c.args.neighbours.now in
    let old = t.state c.args.hearer.now c.args.neighbours.now in
    let mid = t.state c.loop-line.hearer c.loop-line.neighbours in
    let new = t.state c.hear.new.self c.hear.new.neighbours in
    let a : Change = change g.W.Device.is_in_memory (g.W.Device.seen c.args.out.now) (g.W.Device.seen c.loop-line.out) in
    let b : Change = change g.W.Device.is_in_memory (g.W.Device.seen c.loop-line.out) (g.W.Device.seen c.hear.new.out) in
    let number : c.saturating_add.result ≡ counted_line (c.loop-line.count + 1) = (let n = c.saturating_add.ensures in omega (arith, n)) in
    let bytes = c.args.bytes.now in
    let rest = c.loop-line.rest.now in
    let behind = c.in-Some.behind.now in
    let one : HearsLine t.State (t.hearing first) (counted_line (c.loop-line.count + 1)) mid c.in-Some.line.now (Ok tt) new b =
    subst (λ k. HearsLine t.State (t.hearing k) (counted_line (c.loop-line.count + 1)) mid c.in-Some.line.now (Ok tt) new b) c.loop-line.invariant.same
    (subst (λ n. HearsLine t.State (t.hearing (t.key c.loop-line.hearer c.loop-line.neighbours)) n mid c.in-Some.line.now (Ok tt) new b) number c.in_ok-hear.ensures.hears) in
    let cut' = behind_line bytes rest c.in-Some.line.now behind c.in-Some.ensures c.loop-line.invariant.rest c.loop-line.invariant.within in
    let shorter : length behind < length rest = cut'.1 in
    let within : length rest ≤ length bytes = c.loop-line.invariant.within in
    record {
      up_to = subst (λ n. HearsUpTo t.State (t.hearing first) c.args.count.now old bytes (pieces 10 behind) new n (joined_changes a b)) (sym number)
          (heard_on t.State (t.hearing first) c.args.count.now old bytes rest c.in-Some.line.now behind mid c.loop-line.count a b new refl c.loop-line.invariant.up_to c.in-Some.ensures one);
      rest = cut'.0;
      within = omega (arith, shorter, within);
      numbered = omega (arith, number);
      ready = c.in_ok-hear.ensures.ready tt;
      same = c.in_ok-hear.ensures.same ∙ c.loop-line.invariant.same;
    }

pub returns-in_err-hear-clause-ready : goal.returns-in_err-hear-clause-ready
returns-in_err-hear-clause-ready g c =
    handed_on c.from_residual.result c.in_err-hear.field-0.0 (λ (r : Result ℕ Stop). EndsBetweenLines r → g.H.Hearer.is_ready c.hear.new.self c.hear.new.neighbours (g.W.Device.seen c.hear.new.out)) c.from_residual.ensures
    c.in_err-hear.ensures.ready
