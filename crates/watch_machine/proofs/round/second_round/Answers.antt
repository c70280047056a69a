-- The moment of the next round is that of the first bound that falls short.
use Rattle.std.proofs.Common.{◌∙◌, ◌-◌, min, ap}
use Rattle.base_moment.specs.declared.moment.TheConstants.{LAST}
use Rattle.watch_machine.proofs.Shorting.{is_second, no_second}
use Rattle.watch_machine.proofs.round.second_round.Goals as goal

pub returns-in-None : goal.returns-in-None
returns-in-None c = λ is. no_second c.args.view.now c.args.now c.args.needs.now c.first_short.ensures.sound is c.in-None.ensures.first

pub returns-in-Some : goal.returns-in-Some
returns-in-Some c = λ is.
    let b = c.in-Some.bound in
    is_second c.args.view.now c.args.now c.moment_at.result b c.args.needs.now c.first_short.ensures.sound is c.in-Some.ensures.first
    (c.moment_at.ensures ∙ c.min.ensures ∙ ap (λ n. min n LAST) (c.saturating_sub.ensures ∙ ap (λ m. b - m) c.margin-margin.ensures))
