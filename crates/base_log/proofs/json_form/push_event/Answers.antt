-- The event stands between two pieces.
use Rattle.std.proofs.Common.{◌++◌, ◌∙◌, ap}
use Rattle.std.specs.Prelude.{codes}
use Rattle.base_log.proofs.Pieces.{three_pushed}
use Rattle.base_log.specs.Forms.{json_text}
use Rattle.base_log.proofs.json_form.push_event.Goals as goal

pub returns : goal.returns
returns c =
    three_pushed c.args.text.now.items c.extend_from_slice.new.self.items c.push_text.new.text.items c.extend_from_slice-2.new.self.items
    (codes "\", \"event\": \"") (json_text c.args.event.now) (codes "\"")
    c.in_ok-extend_from_slice.ensures.items (c.in_ok-push_text.ensures ∙ ap (λ bytes. c.extend_from_slice.new.self.items ++ json_text bytes) c.as_bytes.ensures.value) c.in_ok-extend_from_slice-2.ensures.items
