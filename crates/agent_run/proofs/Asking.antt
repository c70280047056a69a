-- Asking: who looks up what a file holds, over a lane of its own. For `askers_by` and its parts.
use Rattle.std.proofs.Common.{◌≡◌, ◌∙◌, ℕ, ◌<◌, List, [], None, ap, arith, refl, subst, sym}
use Rattle.agent_ledger.specs.declared.asker.Asker.{Asker}
use Rattle.vault_lanes.specs.Out.{Out}
use Rattle.vault_proving.specs.declared.proving.Proving.{Proving}
use Rattle.program_commands.specs.declared.job.ServeWords.{ServeWords}
use Rattle.agent_run.specs.Run.{IsAskerFor, IsOwnLane}

module _ {L : Type 0} (out : L → List Out) (seconds width : L → ℕ) (served : ServeWords) (lane : L) (own : IsOwnLane out seconds width served lane) where
  pub own_free : out lane ≡ []
  own_free = own.free

  pub own_wide : 0 < width lane
  own_wide = let one = own.one in omega (arith, one)

  pub is_asker : (proving : Proving L) (asker : Asker L) → proving ≡ record { lanes = lane; asked = None } → asker ≡ record { proving = proving; asked = None } → IsAskerFor out seconds width served asker
  is_asker proving asker nothing is =
      let by : asker ≡ record { proving = record { lanes = lane; asked = None }; asked = None } = is ∙ ap (λ (p : Proving L). record { proving = p; asked = None }) nothing in
      subst (IsAskerFor out seconds width served) (sym by) (record { lane = own; free = refl })
