-- The seven pieces are appended one after another.
use Rattle.std.proofs.Common.{◌∙◌, ap, codes, decimal, ◌++◌}
use Rattle.agent_words.specs.{Refusing.remedy_where, Starts.least_margin}
use Rattle.agent_words.proofs.Pieces.{seven_pieces}
use Rattle.agent_words.proofs.fault_line.push_small.Goals as goal

pub returns : goal.returns
returns c =
    seven_pieces c.extend_from_slice-5.new.self.items c.push_number-2.new.text.items c.extend_from_slice-4.new.self.items c.extend_from_slice-3.new.self.items c.extend_from_slice-2.new.self.items c.push_number.new.text.items
    c.extend_from_slice.new.self.items c.args.text.now.items
    (codes "margin: is ") (decimal c.args.margin) (codes " seconds; ") (remedy_where c.args.demands.behind) (codes ", ") (decimal (least_margin c.args.demands)) (codes " seconds")
    c.in_ok-extend_from_slice.ensures.items c.in_ok-push_number.ensures.appended c.in_ok-extend_from_slice-2.ensures.items
    (c.in_ok-extend_from_slice-3.ensures.items ∙ ap (λ l. c.extend_from_slice-2.new.self.items ++ l) c.remedy.ensures)
    c.in_ok-extend_from_slice-4.ensures.items (c.in_ok-push_number-2.ensures.appended ∙ ap (λ n. c.extend_from_slice-4.new.self.items ++ decimal n) c.least_margin.ensures) c.in_ok-extend_from_slice-5.ensures.items
