-- What is asked for is done where the ledger has taken it.
use Rattle.agent_laws.proofs.{Reaching.reaches_behind, Reaching.reaches_day, Recorded.are_done, Truths.reaches_house, Truths.turns_tell}
use Rattle.agent_laws.proofs.laws.whoever_is_told_ok_has_it.Goals as goal

pub returns : goal.returns
returns g c = (
  turns_tell _ _ _ _ _ _ _ _ _ _ _ _ _ _ _ _ _ (are_done _ _ g.met.D.Disk.counts_now _ _ _ _) _ _ (reaches_house _ _ _ _ _ _ _ _ _ _ _ _ _ _ _ _),
  (
    turns_tell _ _ _ _ _ _ _ _ _ _ _ _ _ _ _ _ _ (are_done _ _ g.met.D.Disk.counts_now _ _ _ _) _ _ (reaches_day _ _ _ (reaches_house _ _ _ _ _ _ _ _ _ _ _ _ _ _ _ _)),
    turns_tell _ _ _ _ _ _ _ _ _ _ _ _ _ _ _ _ _ (are_done _ _ g.met.D.Disk.counts_now _ _ _ _) _ _ (reaches_day _ _ _ (reaches_behind _ _ _ (reaches_house _ _ _ _ _ _ _ _ _ _ _ _ _ _ _ _) _)),
  ),
)
