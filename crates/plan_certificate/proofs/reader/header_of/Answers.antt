-- The first line gives the version or its fault, and a text without a line has no header.
use Rattle.std.proofs.Common.{ap, sym, ◌∙◌}
use Rattle.std.proofs.lemmas.Result.{err_from_is_err_and}
use Rattle.plan_certificate.specs.Reading.{header_of, version_of}
use Rattle.plan_certificate.proofs.Answering.{fails_with}
use Rattle.plan_certificate.proofs.Turns.{fault_on, header_line, no_header, value_on}
use Rattle.plan_certificate.proofs.reader.header_of.Goals as goal

pub returns-in-None : goal.returns-in-None
returns-in-None c = ap header_of c.in-None.ensures ∙ no_header c.args.text.now

pub returns-in_err-version_of-in-Some : goal.returns-in_err-version_of-in-Some
returns-in_err-version_of-in-Some c =
    let p = err_from_is_err_and c.from_residual.result c.from_residual.ensures.1 in
    rw (p.1, p.2) (fails_with c.in_err-version_of-in-Some.field-0.0 _ (ap header_of c.in-Some.ensures ∙ header_line c.in-Some.line.now c.in-Some.rest.now
    ∙ fault_on (version_of c.in-Some.line.now) _ c.in_err-version_of-in-Some.field-0.0 (sym c.in_err-version_of-in-Some.ensures)))

pub returns-in_ok-version_of-in-Some : goal.returns-in_ok-version_of-in-Some
returns-in_ok-version_of-in-Some c =
    ap header_of c.in-Some.ensures ∙ header_line c.in-Some.line.now c.in-Some.rest.now
    ∙ value_on (version_of c.in-Some.line.now) _ c.in_ok-version_of-in-Some.field-0 (sym c.in_ok-version_of-in-Some.ensures)
