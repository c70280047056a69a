-- What is read is the moment that the text writes; `BadTime` means that it writes none, and no memory is asked for.
use Rattle.std.proofs.Common.{sym, ◌∙◌}
use Rattle.base_moment.proofs.Moments.{moment_reads, moment_if_found, moment_bad, moment_none, moment_takes_none}
use Rattle.base_moment.proofs.date.read_rfc3339.Goals as goal

pub returns-clause-moment : goal.returns-clause-moment
returns-clause-moment c = moment_if_found c.args.text.now _ c.read_exactly.ensures

pub returns-clause-only : goal.returns-clause-only
returns-clause-only c = λ s h w. c.read_exactly.ensures ∙ moment_reads c.args.text.now s h w

pub returns-clause-bad : goal.returns-clause-bad
returns-clause-bad c =
    (λ e. moment_bad c.args.text.now (sym c.read_exactly.ensures ∙ e), λ none. c.read_exactly.ensures ∙ moment_none c.args.text.now none)

pub returns-clause-never_memory : goal.returns-clause-never_memory
returns-clause-never_memory c = λ e. moment_takes_none c.args.text.now (sym c.read_exactly.ensures ∙ e)
