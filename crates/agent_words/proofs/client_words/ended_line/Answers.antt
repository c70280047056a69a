-- The date stands after the words.
use Rattle.std.proofs.Common.{◌∙◌, ◌++◌, ap}
use Rattle.std.specs.Prelude.{codes}
use Rattle.agent_words.proofs.client_words.ended_line.Goals as goal

pub returns : goal.returns
returns c = (c.in_ok-date.date, (c.in_ok-date.ensures, c.in_ok-line.ensures ∙ ap (λ date. c.args.name.now ++ (codes " is no longer kept, and ends at " ++ date)) c.list.ensures))
