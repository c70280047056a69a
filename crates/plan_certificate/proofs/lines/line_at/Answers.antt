-- A line with its line feed is found; without one the text ends before the line or within it.
use Rattle.std.proofs.Common.{ap, ◌∙◌, sym, Err, eqb-true}
use Rattle.std.proofs.lemmas.Bool.{eqb-false}
use Rattle.plan_certificate.specs.Lines.{line_at}
use Rattle.plan_certificate.proofs.Cutting.{whole_line, no_line, cut_off_empty, cut_off_line}
use Rattle.plan_certificate.proofs.lines.line_at.Goals as goal

pub returns-in-Some : goal.returns-in-Some
returns-in-Some c = ap (line_at c.args.n) c.in-Some.ensures ∙ whole_line c.args.n c.in-Some.line.now c.in-Some.rest.now

pub returns-in-None : goal.returns-in-None
returns-in-None c =
    ap (line_at c.args.n) c.in-None.ensures ∙ no_line c.args.n c.args.text.now
    ∙ ap Err (cut_off_empty c.args.n c.args.text.now (eqb-true _ _ (sym c.if-is_empty.ensures)))

pub returns-in-None-2 : goal.returns-in-None-2
returns-in-None-2 c =
    ap (line_at c.args.n) c.in-None-2.ensures ∙ no_line c.args.n c.args.text.now
    ∙ ap Err (cut_off_line c.args.n c.args.text.now (eqb-false _ _ (sym c.if-is_empty.ensures)))
