-- The level stands before the event.
use Rattle.std.proofs.Common.{arith}
use Rattle.std.proofs.lemmas.Grind.{common_steps}
use Rattle.std.specs.Prelude.{codes}
use Rattle.base_log.proofs.Pieces.{three_pushed}
use Rattle.base_log.specs.{Forms.json_event, Lines.level_name}
use Rattle.base_log.proofs.json_form.push_level.Goals as goal

pub returns : goal.returns
returns c =
    three_pushed c.args.text.now.items c.extend_from_slice.new.self.items c.extend_from_slice-2.new.self.items c.push_event.new.text.items
    (codes "\", \"level\": \"") (level_name c.args.line.now.level) (json_event c.args.line.now.event.now)
    c.in_ok-extend_from_slice.ensures.items (grind (arith, common_steps)) (grind (arith, common_steps))
