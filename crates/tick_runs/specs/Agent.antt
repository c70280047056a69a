-- Agent: who asks: the keeper of a run, and what its requests are made of.
-- Source: this project's own.
use Rattle.std.specs.Prelude.{◌≡◌, ℕ, List, length}
use Rattle.tick_keeper.specs.State.{CoreState}

-- the keeper, and for each of its entries the credential
pub record RunAgent : Type 0 where
  pub keeper : CoreState
  pub credentials : List (List ℕ)

-- there is a credential for each entry
abbrev pub AgentIsFit : RunAgent → Type 0
AgentIsFit agent = length agent.credentials ≡ length agent.keeper.forest.entries
