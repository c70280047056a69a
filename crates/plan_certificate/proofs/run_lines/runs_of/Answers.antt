-- One line more adds its run, ends the runs, or has the fault that the whole text has.
use Rattle.std.proofs.Common.{◌≡◌, ◌+◌, ◌++◌, ◌∷◌, ◌<◌, ◌≤◌, [], true, false, bytes_eq, ap, arith, length, length-append, sym, ◌∙◌}
use Rattle.std.proofs.lemmas.Result.{err_from_is_err_and}
use Rattle.plan_certificate.specs.{declared.cert.TheConstants.MAX_LINES, Lines.line_at, Lines.lines}
use Rattle.plan_certificate.specs.Reading.{ending, run_in_line, run_keyword, runs_of}
use Rattle.plan_rule.specs.Runs.{wake_count}
use Rattle.base_words.specs.Pieces.{keyword}
use Rattle.plan_certificate.proofs.Answering.{fails_along}
use Rattle.plan_certificate.proofs.Turns.{Behind, counted_push, full_done, full_fault, no_turn, other_done, other_fault, run_fault, run_more}
use Rattle.plan_certificate.proofs.run_lines.runs_of.Goals as goal

pub returns-in_err-line : goal.returns-in_err-line
returns-in_err-line c =
    let v = c.args.version in
    let es = c.args.forest.now.entries in
    let found = c.loop-read.runs.items in
    let n = c.loop-read.read + 3 in
    let ls = lines c.loop-read.rest.now in
    let all = runs_of v es [] (lines c.args.text.now) in
    let b : Behind v es found n c.loop-read.total ls all =
    record { place = ap (λ k. k + 3) c.loop-read.invariant.found; counts = c.loop-read.invariant.total; same = c.loop-read.invariant.whole } in
    let p = err_from_is_err_and c.from_residual.result c.from_residual.ensures.1 in
    rw (p.1, p.2) (fails_along c.in_err-line.field-0.0 (line_at n ls) all (no_turn v es found n c.loop-read.total ls all b) c.in_err-line.ensures)

pub returns-in_err-ending : goal.returns-in_err-ending
returns-in_err-ending c =
    let v = c.args.version in
    let es = c.args.forest.now.entries in
    let found = c.loop-read.runs.items in
    let n = c.loop-read.read + 3 in
    let ls = lines c.loop-read.rest.now in
    let all = runs_of v es [] (lines c.args.text.now) in
    let line = c.in_ok-line.line.now in
    let rest = lines c.in_ok-line.behind.now in
    let b : Behind v es found n c.loop-read.total ls all =
    record { place = ap (λ k. k + 3) c.loop-read.invariant.found; counts = c.loop-read.invariant.total; same = c.loop-read.invariant.whole } in
    let key : bytes_eq (keyword line) (run_keyword v) ≡ false = sym (c.begins.ensures ∙ ap (bytes_eq (keyword line)) c.run_keyword.ensures) ∙ c.if-not-begins.true in
    let p = err_from_is_err_and c.from_residual-in_err-ending.result c.from_residual-in_err-ending.ensures.1 in
    rw (p.1, p.2) (fails_along c.in_err-ending.field-0.0 (ending n c.loop-read.total line rest) all (other_fault v es found n c.loop-read.total ls all b line rest c.in_ok-line.ensures key) c.in_err-ending.ensures)

pub returns-then-not-begins : goal.returns-then-not-begins
returns-then-not-begins c =
    let v = c.args.version in
    let es = c.args.forest.now.entries in
    let found = c.loop-read.runs.items in
    let n = c.loop-read.read + 3 in
    let ls = lines c.loop-read.rest.now in
    let all = runs_of v es [] (lines c.args.text.now) in
    let line = c.in_ok-line.line.now in
    let rest = lines c.in_ok-line.behind.now in
    let b : Behind v es found n c.loop-read.total ls all =
    record { place = ap (λ k. k + 3) c.loop-read.invariant.found; counts = c.loop-read.invariant.total; same = c.loop-read.invariant.whole } in
    let key : bytes_eq (keyword line) (run_keyword v) ≡ false = sym (c.begins.ensures ∙ ap (bytes_eq (keyword line)) c.run_keyword.ensures) ∙ c.if-not-begins.true in
    other_done v es found n c.loop-read.total ls all b line rest c.in_ok-line.ensures key _ c.in_ok-ending.ensures

pub returns-in_err-run : goal.returns-in_err-run
returns-in_err-run c =
    let v = c.args.version in
    let es = c.args.forest.now.entries in
    let found = c.loop-read.runs.items in
    let n = c.loop-read.read + 3 in
    let ls = lines c.loop-read.rest.now in
    let all = runs_of v es [] (lines c.args.text.now) in
    let line = c.in_ok-line.line.now in
    let rest = lines c.in_ok-line.behind.now in
    let b : Behind v es found n c.loop-read.total ls all =
    record { place = ap (λ k. k + 3) c.loop-read.invariant.found; counts = c.loop-read.invariant.total; same = c.loop-read.invariant.whole } in
    let key : bytes_eq (keyword line) (run_keyword v) ≡ true = sym (c.begins.ensures ∙ ap (bytes_eq (keyword line)) c.run_keyword.ensures) ∙ c.if-not-begins.false in
    let few : length found < MAX_LINES = omega (arith, c.loop-read.invariant.found, c.loop-read-test.true) in
    let p = err_from_is_err_and c.from_residual-in_err-run.result c.from_residual-in_err-run.ensures.1 in
    rw (p.1, p.2) (fails_along c.in_err-run.field-0.0 (run_in_line v n es c.loop-read.total line) all (run_fault v es found n c.loop-read.total ls all b line rest c.in_ok-line.ensures key few) c.in_err-run.ensures.value)

pub loop-read-preserved : goal.loop-read-preserved
loop-read-preserved c =
    let v = c.args.version in
    let es = c.args.forest.now.entries in
    let found = c.loop-read.runs.items in
    let n = c.loop-read.read + 3 in
    let ls = lines c.loop-read.rest.now in
    let all = runs_of v es [] (lines c.args.text.now) in
    let line = c.in_ok-line.line.now in
    let rest = lines c.in_ok-line.behind.now in
    let run = c.in_ok-run.run' in
    let b : Behind v es found n c.loop-read.total ls all =
    record { place = ap (λ k. k + 3) c.loop-read.invariant.found; counts = c.loop-read.invariant.total; same = c.loop-read.invariant.whole } in
    let key : bytes_eq (keyword line) (run_keyword v) ≡ true = sym (c.begins.ensures ∙ ap (bytes_eq (keyword line)) c.run_keyword.ensures) ∙ c.if-not-begins.false in
    let few : length found < MAX_LINES = omega (arith, c.loop-read.invariant.found, c.loop-read-test.true) in
    let more = run_more v es found n c.loop-read.total ls all b line rest c.in_ok-line.ensures key few run c.in_ok-run.ensures.value in
    let pushed : c.push.new.self.items ≡ found ++ run ∷ [] = c.in_ok-push.ensures.items in
    record {
      whole = ap (λ rs. runs_of v es rs rest) pushed ∙ more;
      found = ap length pushed ∙ omega (arith, length-append found (run ∷ []), c.loop-read.invariant.found);
      total = ap (λ t. t + run.count) c.loop-read.invariant.total ∙ sym (ap wake_count pushed ∙ counted_push found run);
      within = omega (arith, c.loop-read.invariant.within, c.in_ok-run.ensures.within);
    }

pub returns-in_err-line-2 : goal.returns-in_err-line-2
returns-in_err-line-2 c =
    let v = c.args.version in
    let es = c.args.forest.now.entries in
    let found = c.loop-read.runs.items in
    let n = MAX_LINES + 3 in
    let ls = lines c.loop-read.rest.now in
    let all = runs_of v es [] (lines c.args.text.now) in
    let b : Behind v es found n c.loop-read.total ls all =
    record { place = omega (arith, c.loop-read.invariant.found, c.loop-read-test.false, c.loop-read.auto.read-end); counts = c.loop-read.invariant.total; same = c.loop-read.invariant.whole } in
    let p = err_from_is_err_and c.from_residual-in_err-line-2.result c.from_residual-in_err-line-2.ensures.1 in
    rw (p.1, p.2) (fails_along c.in_err-line-2.field-0.0 (line_at n ls) all (no_turn v es found n c.loop-read.total ls all b) c.in_err-line-2.ensures)

pub returns-in_err-ending-2 : goal.returns-in_err-ending-2
returns-in_err-ending-2 c =
    let v = c.args.version in
    let es = c.args.forest.now.entries in
    let found = c.loop-read.runs.items in
    let n = MAX_LINES + 3 in
    let ls = lines c.loop-read.rest.now in
    let all = runs_of v es [] (lines c.args.text.now) in
    let line = c.in_ok-line-2.line.now in
    let rest = lines c.in_ok-line-2.behind.now in
    let b : Behind v es found n c.loop-read.total ls all =
    record { place = omega (arith, c.loop-read.invariant.found, c.loop-read-test.false, c.loop-read.auto.read-end); counts = c.loop-read.invariant.total; same = c.loop-read.invariant.whole } in
    let many : MAX_LINES ≤ length found = omega (arith, c.loop-read.invariant.found, c.loop-read-test.false) in
    let p = err_from_is_err_and c.from_residual-in_err-ending-2.result c.from_residual-in_err-ending-2.ensures.1 in
    rw (p.1, p.2) (fails_along c.in_err-ending-2.field-0.0 (ending n c.loop-read.total line rest) all (full_fault v es found n c.loop-read.total ls all b line rest c.in_ok-line-2.ensures many) c.in_err-ending-2.ensures)

pub returns : goal.returns
returns c =
    let v = c.args.version in
    let es = c.args.forest.now.entries in
    let found = c.loop-read.runs.items in
    let n = MAX_LINES + 3 in
    let ls = lines c.loop-read.rest.now in
    let all = runs_of v es [] (lines c.args.text.now) in
    let line = c.in_ok-line-2.line.now in
    let rest = lines c.in_ok-line-2.behind.now in
    let b : Behind v es found n c.loop-read.total ls all =
    record { place = omega (arith, c.loop-read.invariant.found, c.loop-read-test.false, c.loop-read.auto.read-end); counts = c.loop-read.invariant.total; same = c.loop-read.invariant.whole } in
    let many : MAX_LINES ≤ length found = omega (arith, c.loop-read.invariant.found, c.loop-read-test.false) in
    full_done v es found n c.loop-read.total ls all b line rest c.in_ok-line-2.ensures many _ c.in_ok-ending-2.ensures
