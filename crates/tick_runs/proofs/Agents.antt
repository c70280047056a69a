-- Agents: whatever the keeper of an agent does, there is a credential for each of its entries.
use Rattle.std.proofs.Common.{◌≡◌, ℕ, List, Result, ◌∙◌, subst, sym}
use Rattle.tick_keeper.specs.{declared.event.Event.Event, declared.event.Output.Output, declared.fault.StepFault.StepFault, History.CoreTurn, State.CoreState}
use Rattle.tick_keeper.proofs.Shaped.{shape}
use Rattle.tick_runs.specs.Agent.{AgentIsFit, RunAgent}

pub fit_turned : (a : RunAgent) (event : Event) (result : Result Output StepFault) (new : CoreState) → AgentIsFit a → CoreTurn a.keeper event result new → AgentIsFit (record a { keeper = new })
fit_turned a event result new fit turn = fit ∙ sym (shape a.keeper new event result turn).count

-- what is so of the port and the credentials after some requests is so of those in front of them
pub as_begun : {port now : ℕ} {cs ds : List (List ℕ)} → now ≡ port → ds ≡ cs → (P : ℕ → List (List ℕ) → Type 0) → P now ds → P port cs
as_begun {port} {now} {cs} {ds} ports credentials P h = subst (λ p. P p cs) ports (subst (λ ks. P now ks) credentials h)
