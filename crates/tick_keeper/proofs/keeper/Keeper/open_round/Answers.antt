-- What a keeper shows is a state, whether a round is open or not.
use Rattle.std.proofs.Common.{subst}
use Rattle.tick_keeper.specs.States.{IsState}
use Rattle.tick_keeper.proofs.Made.{keeper_state}
use Rattle.tick_keeper.proofs.keeper.Keeper.open_round.Goals as goal

pub returns-in-None-clause-state : goal.returns-in-None-clause-state
returns-in-None-clause-state c =
    let k = c.self.inside in
    subst IsState c.self.view_is (keeper_state k.forest k.last k.plan k.round k.shortened.items c.self.invariant)

pub returns-in-Some-clause-state : goal.returns-in-Some-clause-state
returns-in-Some-clause-state c =
    let k = c.self.inside in
    subst IsState c.self.view_is (keeper_state k.forest k.last k.plan k.round k.shortened.items c.self.invariant)
