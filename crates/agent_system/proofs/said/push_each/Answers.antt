-- One line more is added; at the end all are.
use Rattle.std.proofs.Common.{◌++◌, ◌∙◌, ap, append-nil, map, map-id, rules, sym}
use Rattle.std.proofs.lemmas.{Iterator.Adapters.YieldsList-from_vec, Iterator.Consumers.YieldsList-end}
use Rattle.agent_system.specs.Saying.{said_as}
use Rattle.agent_system.proofs.Saying.{adds_on}
use Rattle.agent_system.proofs.said.push_each.Goals as goal

pub loop-text-init : goal.loop-text-init
loop-text-init c = sym (append-nil _)

pub loop-text-preserved : goal.loop-text-preserved
loop-text-preserved c = adds_on (said_as c.args.level c.args.about) c.args.said.now.items c.loop-text.said.items c.push.new.said.items c.loop-text.yielded _ c.loop-text.invariant c.in_ok-push.ensures

pub returns : goal.returns
returns c =
    let end = YieldsList-end (YieldsList-from_vec {s = c.into_iter-text-iterator.result} c.args.texts.items (search rules) (search rules)) c.loop-text.yielded c.loop-text.text-iterator c.loop-text.yielded_by c.next.result c.next.new.self c.in-None.is c.next.ensures.steps in
    c.loop-text.invariant ∙ ap (λ ts. c.args.said.now.items ++ map (said_as c.args.level c.args.about) ts) (sym (map-id c.loop-text.yielded) ∙ end.0)
