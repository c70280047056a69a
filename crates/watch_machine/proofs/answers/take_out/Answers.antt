-- What is kept are the requests of others.
use Rattle.std.proofs.Common.{◌≡◌, ◌==◌, not, rules, subst, sym}
use Rattle.std.proofs.lemmas.{Fn.filter_same, List.Elements.All-filter}
use Rattle.std.specs.List.{All}
use Rattle.watch_machine.specs.{Answers.without_request, code.Bounds.WentOutAtReading}
use Rattle.watch_machine.proofs.answers.take_out.Goals as goal

pub returns-clause-value : goal.returns-clause-value
unfolding without_request
returns-clause-value c = filter_same _ _ _ (λ x b f' k. search rules) _ _ c.retain.ensures.filtered

pub returns-clause-bounds : goal.returns-clause-bounds
unfolding without_request
returns-clause-bounds c =
    let is : c.retain.new.self.items ≡ without_request c.args.entry c.args.out.now.items = filter_same _ _ _ (λ x b f' k. search rules) _ _ c.retain.ensures.filtered in
    subst (All WentOutAtReading) (sym is) (All-filter (λ r. not (r.entry == c.args.entry)) WentOutAtReading c.args.out.now.items c.requires)
