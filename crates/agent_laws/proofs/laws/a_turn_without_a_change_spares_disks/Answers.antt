-- A turn asks for one look, and for no change.
use Rattle.agent_laws.proofs.Stamped.{spares_law}
use Rattle.agent_laws.proofs.Spared.{asked_at, asked_behind, asked_day, asks_law}
use Rattle.agent_laws.proofs.laws.a_turn_without_a_change_spares_disks.Goals as goal

pub returns : goal.returns
returns g c = (
  spares_law _ _ _ _ _ _ _ (asks_law _ _ _ (asked_at _ _ _ _ _ _ _ _ _ _ _ _ _ _ _ _)),
  (
    spares_law _ _ _ _ _ _ _ (asks_law _ _ _ (asked_day _ _ _ _ _ _ _ _ _ _ _ _ _ _ _ _)),
    spares_law _ _ _ _ _ _ _ (asks_law _ _ _ (asked_behind _ _ _ _ _ _ _ _ _ _ _ _ _ _ _ _ _)),
  ),
)
