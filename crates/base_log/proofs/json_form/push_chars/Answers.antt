-- At the end all characters came.
use Rattle.std.proofs.Common.{◌++◌, flat_map, sym, ap, ◌∙◌, map-id}
use Rattle.std.proofs.lemmas.{Iterator.YieldsList-from_chars, Iterator.Consumers.YieldsList-end}
use Rattle.base_log.specs.Forms.{json_char}
use Rattle.base_log.proofs.json_form.push_chars.Goals as goal

pub returns : goal.returns
returns c =
    let end = YieldsList-end (YieldsList-from_chars c.args.read.now c.utf8.read cc) c.loop-c.yielded _ c.loop-c.yielded_by _ _ c.in-None.is c.next.ensures.steps in
    c.loop-c.invariant ∙ ap (λ cs. c.args.text.now.items ++ flat_map json_char cs) (sym (map-id c.loop-c.yielded) ∙ end.0)
