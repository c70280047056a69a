-- An event that is refused makes the turn of a refusal: its fault, and the state as it was.
use Rattle.std.proofs.Common.{◌∙◌, sym}
use Rattle.tick_keeper.proofs.Stepping.{refused}
use Rattle.tick_keeper.proofs.keeper.Keeper.step.Goals as goal

pub returns-in-Some : goal.returns-in-Some
returns-in-Some c = refused c.args.self.now c.args.event c.in-Some.fault (sym c.refusal.ensures ∙ c.in-Some.is)
