-- What is needed stands after the words.
use Rattle.std.proofs.Common.{◌∙◌, ◌++◌, ap}
use Rattle.std.specs.Prelude.{codes}
use Rattle.agent_words.proofs.client_words.add_line.Goals as goal

pub returns : goal.returns
returns c = (c.in_ok-needed.needed.items, (c.in_ok-needed.ensures, c.in_ok-line.ensures ∙ ap (λ needed. c.args.name.now ++ (codes " is kept from now on: it " ++ needed)) c.deref.ensures.value))
