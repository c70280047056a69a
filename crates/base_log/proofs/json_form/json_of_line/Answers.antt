-- The pieces of the line, of which the words stand in a list of their own.
use Rattle.std.proofs.Common.{◌++◌, ◌∙◌, ap, subst}
use Rattle.std.specs.Prelude.{codes}
use Rattle.base_log.proofs.Members.{line_said}
use Rattle.base_log.specs.Forms.{SaysEvent}
use Rattle.base_log.proofs.json_form.json_of_line.Goals as goal

pub returns : goal.returns
returns c =
    let date = c.in_ok-push_date.ensures in
    let said = c.in_ok-push_said.ensures in
    line_said c.args.line.now.moment c.args.line.now.level c.args.line.now.event.now c.args.line.now.words.items
    c.extend_from_slice.new.self.items c.push_date.new.text.items c.push_level.new.text.items c.push_said.new.text.items c.extend_from_slice-2.new.self.items
    date.0 said.0
    (c.in_ok-extend_from_slice.ensures.items ∙ ap (λ text. text ++ codes "{\"moment\": \"") c.new-text.ensures.items)
    date.1 date.2 c.in_ok-push_level.ensures
    (subst (λ ws. SaysEvent c.args.line.now.event.now ws said.0) c.deref.ensures.value said.1) said.2 c.in_ok-extend_from_slice-2.ensures.items
